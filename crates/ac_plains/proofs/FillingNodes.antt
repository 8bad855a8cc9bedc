-- A tree that gets its nodes in preorder, each under the parent on the path to the node before.
use Rattle.std.proofs.Common.{◌≡◌, ◌+◌, ◌-◌, ◌<◌, ◌≤◌, arith, ℕ, zero, suc, Bool, true, false, List, [], ◌∷◌, ◌++◌, length, map, take, drop, get_or, slice_get, refl, sym, ap, subst, ◌∙◌, option_map, Option, Some, None}
use Rattle.std.proofs.lemmas.Bool.{false≢true}
use Rattle.std.proofs.lemmas.List.{length-take-le, length-map, map-append}
use Rattle.ac_model.specs.Letters.{Mark, mark_at}
use Rattle.ac_model.specs.Objects.{Object}
use Rattle.ac_syntax.specs.declared.kind.ElemKind.{ElemKind}
use Rattle.ac_syntax.specs.declared.kind.Kind.{Kind}
use Rattle.ac_syntax.specs.declared.kind.Kind.TheVariants as kinds
use Rattle.ac_syntax.specs.declared.operation.Operation.{Operation}
use Rattle.ac_syntax.specs.declared.type_def.TypeDef.{TypeDef}
use Rattle.ac_calls.specs.Holdings.{Held, of_rows, a_tree, RowOf, new_held, number_of, reply_of}
use Rattle.ac_calls.specs.Replies.{Reply, placed}
use Rattle.ac_calls.specs.declared.plains.PlainRow.{PlainRow}
use Rattle.ac_meaning.specs.Environment.{State, binds_object, object_at, with_bound}
use Rattle.ac_meaning.proofs.CallsStay.{none_some}
use Rattle.ac_meaning.proofs.Places.{same_some, get_read, map_get}
use Rattle.ac_snapshot.specs.Filled.{filled, fill_operation, child_arguments}
use Rattle.ac_snapshot.specs.FillTrees.{path_of}
use Rattle.ac_snapshot.specs.RowValidity.{is_tree}
use Rattle.ac_snapshot.proofs.FillingTrees.{trees_filled}
use Rattle.ac_plains.specs.Filling.{IsToFill, kind_operation, with_rows}
use Rattle.ac_plains.specs.Nodes.{HasTree, IsNextNode, put_child}
use Rattle.ac_plains.proofs.FillingRows.{split_at, more_rows, operation_of, held_with, stands, put_over}

-- The tree

record IsTreeOf (first : ElemKind) (number : ℕ) (h : Held) : Type 0 where
  tree : Object ℕ (RowOf (a_tree first))
  is : h ≡ of_rows (a_tree first) tree
  numbered : number_of h ≡ number

tree_by : (bounded : Bool) (kind : Kind) (first : ElemKind) (second : Option ElemKind) (keyed : Bool) (number : ℕ) (limit capacity count : Option ℕ) (rows : List PlainRow) → is_tree kind ≡ true →
    let def : TypeDef = record { bounded = bounded; kind = kind; first = first; second = second; keyed = keyed } in
    IsTreeOf first number (filled (new_held def number limit) capacity count rows)
tree_by bounded kinds.Tree first second keyed number limit capacity count rows t = record { tree = _; is = refl; numbered = refl }
tree_by bounded _ first second keyed number limit capacity count rows t = absurd (false≢true t)

tree_of : (def : TypeDef) (number : ℕ) (limit capacity count : Option ℕ) (rows : List PlainRow) → is_tree def.kind ≡ true →
    IsTreeOf def.first number (filled (new_held def number limit) capacity count rows)
tree_of def number limit capacity count rows t = tree_by def.bounded def.kind def.first def.second def.keyed number limit capacity count rows t

-- A path of names as one of cursors

parent_named : (number : ℕ) (names : List ℕ) (k : ℕ) (parent : Mark) → slice_get (map (mark_at number) names) k ≡ Some parent →
    (name : ℕ) × (slice_get names k ≡ Some name) × (parent ≡ mark_at number name)
parent_named number [] k parent e = none_some parent e
parent_named number (name ∷ names) zero parent e = (name, refl, sym (same_some (mark_at number name) parent e))
parent_named number (name ∷ names) (suc k) parent e = parent_named number names k parent e

pub mapped_take : {A B : Type 0} (g : A → B) (n : ℕ) (xs : List A) → take n (map g xs) ≡ map g (take n xs)
mapped_take g zero xs = refl
mapped_take g (suc n) [] = refl
mapped_take g (suc n) (x ∷ xs) = ap (λ ys. g x ∷ ys) (mapped_take g n xs)

module _ {rows : List PlainRow} {e : State} {place : ℕ} (f : IsToFill kinds.Tree rows e place) where
  is_a_tree : is_tree f.def.kind ≡ true
  is_a_tree = ap is_tree f.kind_is

  pub has_tree : HasTree e place
  has_tree =
      let t = tree_of f.def f.number f.limit f.capacity (Some 0) [] is_a_tree in
      record { elements = f.def.first; tree = t.tree; there = f.there ∙ ap (λ h. Some h) t.is }

  pub numbered : (h : Held) → object_at e place ≡ Some h → number_of h ≡ f.number
  numbered h there =
      let t = tree_of f.def f.number f.limit f.capacity (Some 0) [] is_a_tree in
      ap number_of (same_some h (held_with f 0 []) (sym there ∙ f.there)) ∙ t.numbered

  -- the path to the last of so many nodes
  abbrev pub marks : ℕ → List Mark
  marks n = map (mark_at f.number) (path_of (take n rows))

  module _ (n : ℕ) (r : PlainRow) (at : r ≡ get_or rows n r) (within : n < length rows) where
    abbrev names : List ℕ
    names = path_of (take n rows)

    abbrev pub next : Mark
    next = mark_at f.number (n + 1)

    counted : length (take n rows) ≡ n
    counted = length-take-le n rows (omega (arith, within))

    -- what the call that puts the node comes to
    abbrev child_reply : ℕ → Reply Held
    child_reply name = reply_of (held_with f n (take n rows)) None put_child (child_arguments (mark_at f.number name) r.value)

    abbrev Puts : Reply Held → (count : ℕ) → List PlainRow → Type 0
    Puts reply count more =
        (reply.stalls ≡ false) × (reply.reason ≡ None) × (reply.after ≡ held_with f (count + 1) more) × (reply.variable ≡ placed 3 (mark_at f.number (count + 1)))

    puts_behind : (name : ℕ) (op : Operation) → op ≡ put_child → (count : ℕ) → count ≡ n → (more : List PlainRow) → more ≡ take (n + 1) rows →
        Puts (reply_of (held_with f count (take n rows)) None op (child_arguments (mark_at f.number name) r.value)) count more →
        Puts (child_reply name) n (take (n + 1) rows)
    puts_behind name op is count same more longer h =
        subst (λ o. Puts (reply_of (held_with f n (take n rows)) None o (child_arguments (mark_at f.number name) r.value)) n (take (n + 1) rows)) is
        (subst (λ c. Puts (reply_of (held_with f c (take n rows)) None op (child_arguments (mark_at f.number name) r.value)) c (take (n + 1) rows)) same
        (subst (λ m. Puts (reply_of (held_with f count (take n rows)) None op (child_arguments (mark_at f.number name) r.value)) count m) longer h))

    put_by_law : (2 ≤ r.depth) × (r.depth ≤ length names + 1) × ((name : ℕ) → slice_get names (r.depth - 2) ≡ Some name → Puts (child_reply name) n (take (n + 1) rows))
    put_by_law =
        let law = trees_filled.puts f.def f.number f.limit f.capacity f.peak rows (take n rows) r (drop (n + 1) rows) f.valid (split_at rows n r at within) is_a_tree in (
          law.0,
          law.1,
          λ name found. puts_behind name (fill_operation (new_held f.def f.number f.limit)) (operation_of f.def f.number f.limit ∙ ap kind_operation f.kind_is)
              (length (take n rows)) counted (take n rows ++ r ∷ []) (more_rows rows n r at within) (law.2 name found),
        )

    node_puts : (path : List Mark) → path ≡ marks n → (parent : Mark) → slice_get path (r.depth - 2) ≡ Some parent →
        Puts (reply_of (held_with f n (take n rows)) None put_child (child_arguments parent r.value)) n (take (n + 1) rows)
    node_puts path along parent found =
        let p = parent_named f.number names (r.depth - 2) parent (ap (λ l. slice_get l (r.depth - 2)) (sym along) ∙ found) in
        subst (λ m. Puts (reply_of (held_with f n (take n rows)) None put_child (child_arguments m r.value)) n (take (n + 1) rows)) (sym p.2)
        (put_by_law.2 p.0 p.1)

    pub node_next : (s : State) → s ≡ with_rows f n (take n rows) → (path : List Mark) → path ≡ marks n → IsNextNode r path next s place
    node_next s is path along = record {
      held = held_with f n (take n rows);
      there = stands f s n (take n rows) is;
      deep = put_by_law.0;
      below = subst (λ l. r.depth ≤ l + 1) (sym (ap length along ∙ length-map names (mark_at f.number))) put_by_law.1;
      goes = λ parent found. let p = node_puts path along parent found in record { goes = p.0; allowed = p.1; position = p.3 };
    }

    pub parent_there : (path : List Mark) → path ≡ marks n → (parent : Mark) × (slice_get path (r.depth - 2) ≡ Some parent)
    parent_there path along =
        let long : r.depth - 2 < length names = let deep = put_by_law.0 in let below = put_by_law.1 in omega arith in
        let name : ℕ = get_or names (r.depth - 2) 0 in (
          mark_at f.number name,
          ap (λ l. slice_get l (r.depth - 2)) along ∙ map_get (mark_at f.number) names (r.depth - 2) ∙ ap (option_map (mark_at f.number)) (get_read names (r.depth - 2) 0 long),
        )

    pub node_put : (s t : State) → s ≡ with_rows f n (take n rows) → (path : List Mark) → path ≡ marks n →
        ((h : Held) (parent : Mark) → object_at s place ≡ Some h → slice_get path (r.depth - 2) ≡ Some parent →
        t ≡ with_bound s place (binds_object (reply_of h None put_child (child_arguments parent r.value)).after)) →
        t ≡ with_rows f (n + 1) (take (n + 1) rows)
    node_put s t is path along put =
        let parent = parent_there path along in
        put_over f s t n (take n rows) (n + 1) (take (n + 1) rows) is
        (put (held_with f n (take n rows)) parent.0 (stands f s n (take n rows) is) parent.1
        ∙ ap (λ h. with_bound s place (binds_object h)) (node_puts path along parent.0 parent.1).2)

    pub path_put : (path : List Mark) → path ≡ marks n → take (r.depth - 1) path ++ next ∷ [] ≡ marks (n + 1)
    path_put path along =
        let m = mark_at f.number in
        ap (λ l. take (r.depth - 1) l ++ next ∷ []) along
        ∙ (ap (λ l. l ++ next ∷ []) (mapped_take m (r.depth - 1) names)
        ∙ (ap (λ c. map m (take (r.depth - 1) names) ++ m (c + 1) ∷ []) (sym counted)
        ∙ (sym (map-append m (take (r.depth - 1) names) ((length (take n rows) + 1) ∷ []))
        ∙ (ap (map m) (sym (trees_filled.goes_on (take n rows) r))
        ∙ ap (λ l. map m (path_of l)) (more_rows rows n r at within)))))
