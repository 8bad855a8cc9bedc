-- An object outside trees that gets its rows, one behind another.
use Rattle.std.proofs.Common.{◌≡◌, ◌+◌, ◌<◌, arith, ℕ, Bool, true, false, List, [], ◌∷◌, ◌++◌, length, take, drop, get_or, refl, sym, ap, subst, ◌∙◌, Option, Some, None, Result}
use Rattle.std.specs.Prelude.{OnOk}
use Rattle.std.proofs.lemmas.List.{take-append-drop, take_more, drop_more, length-take-le}
use Rattle.ac_syntax.specs.declared.kind.ElemKind.{ElemKind}
use Rattle.ac_syntax.specs.declared.kind.Kind.{Kind}
use Rattle.ac_syntax.specs.declared.kind.Kind.TheVariants as kinds
use Rattle.ac_syntax.specs.declared.operation.Operation.{Operation}
use Rattle.ac_syntax.specs.declared.type_def.TypeDef.{TypeDef}
use Rattle.ac_calls.specs.Holdings.{Held, new_held, reply_of}
use Rattle.ac_calls.specs.Replies.{Reply}
use Rattle.ac_calls.specs.declared.plains.PlainRow.{PlainRow}
use Rattle.ac_meaning.specs.Environment.{State, binds_object, object_at, with_bound}
use Rattle.ac_snapshot.specs.Filled.{filled, fill_operation, row_arguments}
use Rattle.ac_snapshot.specs.FillLaws.{Leaves}
use Rattle.ac_snapshot.specs.RowValidity.{is_tree}
use Rattle.ac_snapshot.proofs.Filling.{fill_puts}
use Rattle.ac_plains.specs.Filling.{GoesThrough, IsToFill, kind_operation, with_rows}
use Rattle.ac_plains.proofs.FillingPlaces.{put_twice, put_same, put_there}

-- The rows before a place, and behind it

pub split_at : (rows : List PlainRow) (n : ℕ) (r : PlainRow) → r ≡ get_or rows n r → n < length rows → rows ≡ take n rows ++ r ∷ drop (n + 1) rows
split_at rows n r is l =
    sym (take-append-drop n rows)
    ∙ (ap (λ behind. take n rows ++ behind) (drop_more rows n r l) ∙ ap (λ x. take n rows ++ x ∷ drop (n + 1) rows) (sym is))

pub more_rows : (rows : List PlainRow) (n : ℕ) (r : PlainRow) → r ≡ get_or rows n r → n < length rows → take n rows ++ r ∷ [] ≡ take (n + 1) rows
more_rows rows n r is l = ap (λ x. take n rows ++ x ∷ []) is ∙ sym (take_more rows n r l)

-- The call that puts a row

operation_by : (bounded : Bool) (kind : Kind) (first : ElemKind) (second : Option ElemKind) (keyed : Bool) (number : ℕ) (limit : Option ℕ) →
    let def : TypeDef = record { bounded = bounded; kind = kind; first = first; second = second; keyed = keyed } in
    fill_operation (new_held def number limit) ≡ kind_operation kind
operation_by bounded kinds.Vector first second keyed number limit = refl
operation_by bounded kinds.List first second keyed number limit = refl
operation_by bounded kinds.HashedMap first second keyed number limit = refl
operation_by bounded kinds.OrderedMap first second keyed number limit = refl
operation_by bounded kinds.HashedSet first second true number limit = refl
operation_by bounded kinds.HashedSet first second false number limit = refl
operation_by bounded kinds.OrderedSet first second true number limit = refl
operation_by bounded kinds.OrderedSet first second false number limit = refl
operation_by bounded kinds.Tree first second keyed number limit = refl
operation_by bounded kinds.Holder first second keyed number limit = refl
operation_by bounded kinds.Queue first second keyed number limit = refl
operation_by bounded kinds.PriorityQueue first second keyed number limit = refl

pub operation_of : (def : TypeDef) (number : ℕ) (limit : Option ℕ) → fill_operation (new_held def number limit) ≡ kind_operation def.kind
operation_of def number limit = operation_by def.bounded def.kind def.first def.second def.keyed number limit

-- What stands at the place while rows are put

module _ {kind : Kind} {rows : List PlainRow} {e : State} {place : ℕ} (f : IsToFill kind rows e place) where
  abbrev pub held_with : (count : ℕ) → List PlainRow → Held
  held_with count now = filled (new_held f.def f.number f.limit) f.capacity (Some count) now

  pub begins : e ≡ with_rows f 0 []
  begins = sym (put_same e place (held_with 0 []) f.there)

  pub stands : (s : State) (count : ℕ) (now : List PlainRow) → s ≡ with_rows f count now → object_at s place ≡ Some (held_with count now)
  stands s count now is = ap (λ x. object_at x place) is ∙ put_there e place (held_with 0 []) f.there (held_with count now)

  -- over what stood there
  pub put_over : (s t : State) (count : ℕ) (now : List PlainRow) (next : ℕ) (more : List PlainRow) → s ≡ with_rows f count now →
      t ≡ with_bound s place (binds_object (held_with next more)) → t ≡ with_rows f next more
  put_over s t count now next more is put =
      put
      ∙ (ap (λ x. with_bound x place (binds_object (held_with next more))) is
      ∙ put_twice e place (binds_object (held_with count now)) (binds_object (held_with next more)))

-- in a tree
pub of_tree : {T E : Type 0} (kind : Kind) (rows : List PlainRow) (e : State) (place : ℕ) (result : Result T E) (t : State) → kind ≡ kinds.Tree →
    OnOk result ((f : IsToFill kinds.Tree rows e place) → t ≡ with_rows f (length rows) rows) →
    OnOk result ((f : IsToFill kind rows e place) → t ≡ with_rows f (length rows) rows)
of_tree kind rows e place result t is h =
    subst (λ k. OnOk result ((f : IsToFill k rows e place) → t ≡ with_rows f (length rows) rows)) (sym is) h

-- Outside trees

module _ {kind : Kind} {rows : List PlainRow} {e : State} {place : ℕ} (flat : is_tree kind ≡ false) (f : IsToFill kind rows e place) (n : ℕ) (r : PlainRow) (at : r ≡ get_or rows n r) (within : n < length rows) where
  abbrev row_reply : Reply Held
  row_reply = reply_of (held_with f n (take n rows)) None (kind_operation kind) (row_arguments r)

  counted : length (take n rows) ≡ n
  counted = length-take-le n rows (omega (arith, within))

  leaves_behind : (op : Operation) → op ≡ kind_operation kind → (count : ℕ) → count ≡ n → (more : List PlainRow) → more ≡ take (n + 1) rows →
      Leaves (reply_of (held_with f count (take n rows)) None op (row_arguments r)) (held_with f (count + 1) more) →
      Leaves row_reply (held_with f (n + 1) (take (n + 1) rows))
  leaves_behind op is count same more longer h =
      subst (λ o. Leaves (reply_of (held_with f n (take n rows)) None o (row_arguments r)) (held_with f (n + 1) (take (n + 1) rows))) is
      (subst (λ c. Leaves (reply_of (held_with f c (take n rows)) None op (row_arguments r)) (held_with f (c + 1) (take (n + 1) rows))) same
      (subst (λ m. Leaves (reply_of (held_with f count (take n rows)) None op (row_arguments r)) (held_with f (count + 1) m)) longer h))

  row_leaves : Leaves row_reply (held_with f (n + 1) (take (n + 1) rows))
  row_leaves =
      leaves_behind (fill_operation (new_held f.def f.number f.limit)) (operation_of f.def f.number f.limit ∙ ap kind_operation f.kind_is)
      (length (take n rows)) counted (take n rows ++ r ∷ []) (more_rows rows n r at within)
      (fill_puts f.def f.number f.limit f.capacity f.peak rows (take n rows) r (drop (n + 1) rows) f.valid (split_at rows n r at within)
      (ap is_tree f.kind_is ∙ flat))

  pub row_goes : (s : State) → s ≡ with_rows f n (take n rows) → GoesThrough (kind_operation kind) (row_arguments r) s place
  row_goes s is = (held_with f n (take n rows), stands f s n (take n rows) is, row_leaves.0, row_leaves.1)

  pub row_put : (s t : State) → s ≡ with_rows f n (take n rows) →
      ((h : Held) → object_at s place ≡ Some h → t ≡ with_bound s place (binds_object (reply_of h None (kind_operation kind) (row_arguments r)).after)) →
      t ≡ with_rows f (n + 1) (take (n + 1) rows)
  row_put s t is put =
      put_over f s t n (take n rows) (n + 1) (take (n + 1) rows) is
      (put (held_with f n (take n rows)) (stands f s n (take n rows) is) ∙ ap (λ h. with_bound s place (binds_object h)) row_leaves.2)
