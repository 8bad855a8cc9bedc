-- A tree is filled row by row: each row is put behind the last child of its parent, which stands on the path from the root to the last row.
use Rattle.std.specs.Prelude.{◌≡◌, ◌+◌, ◌-◌, ◌≤◌, ℕ, true, false, List, [], ◌∷◌, ◌++◌, length, take, map, Option, Some, None, slice_get}
use Rattle.ac_model.specs.Letters.{mark_at}
use Rattle.ac_syntax.specs.declared.type_def.TypeDef.{TypeDef}
use Rattle.ac_calls.specs.Holdings.{new_held, reply_of}
use Rattle.ac_calls.specs.Replies.{placed}
use Rattle.ac_calls.specs.declared.plains.PlainRow.{PlainRow}
use Rattle.ac_snapshot.specs.Filled.{filled, fill_operation, child_arguments}
use Rattle.ac_snapshot.specs.RowValidity.{is_tree}
use Rattle.ac_snapshot.specs.Validity.{is_valid_object}

-- the names of the nodes on the path to the last row, the root's (0) first: the node at place k has depth k + 1
abbrev pub path_from : (path : List ℕ) → (next : ℕ) → (depths : List ℕ) → List ℕ
path_from path next [] = path
path_from path next (d ∷ ds) = path_from (take (d - 1) path ++ next ∷ []) (next + 1) ds

abbrev pub path_of : List PlainRow → List ℕ
path_of rows = path_from (0 ∷ []) 1 (map (λ r. r.depth) rows)

pub record FillsTrees : Type 0 where
  pub begins : path_of [] ≡ 0 ∷ []
  -- the parent of a next row is on the path, and the call with it isn't refused, and leaves the tree filled with one row more
  pub puts : (def : TypeDef) (number : ℕ) (limit capacity peak : Option ℕ) (rows : List PlainRow) (before : List PlainRow) (r : PlainRow) (later : List PlainRow) →
      is_valid_object def limit capacity peak rows ≡ true → rows ≡ before ++ r ∷ later → is_tree def.kind ≡ true →
      let h = new_held def number limit in
      let path = path_of before in
      (2 ≤ r.depth) × (r.depth ≤ length path + 1) ×
      ((parent : ℕ) → slice_get path (r.depth - 2) ≡ Some parent →
      let reply = reply_of (filled h capacity (Some (length before)) before) None (fill_operation h) (child_arguments (mark_at number parent) r.value) in
      (reply.stalls ≡ false) × (reply.reason ≡ None) × (reply.after ≡ filled h capacity (Some (length before + 1)) (before ++ r ∷ []))
      × (reply.variable ≡ placed 3 (mark_at number (length before + 1))))
  -- the path then goes on from the parent to the new row
  pub goes_on : (before : List PlainRow) (r : PlainRow) → path_of (before ++ r ∷ []) ≡ take (r.depth - 1) (path_of before) ++ (length before + 1) ∷ []
  -- each name on the path is the root's or one of the rows'
  pub known : (before : List PlainRow) (k name : ℕ) → slice_get (path_of before) k ≡ Some name → name ≤ length before
