-- A walk by Next or Previous, and the names that a loop goes over.
use Rattle.std.specs.Prelude.{◌≡◌, ℕ, Bool, true, false, List, [], ◌∷◌, ◌++◌, None}
use Rattle.ac_base.specs.Rows.{names}
use Rattle.ac_model.specs.Objects.{Object, IsValid}
use Rattle.ac_model.specs.Letters.{Mark, no_mark, mark_at}
use Rattle.ac_model.specs.Calls.{Look, look}
use Rattle.ac_model.specs.Sequences.{next_call, previous_call}
use Rattle.ac_meaning.specs.Execution.{in_order}

-- the call that goes on in a loop's direction
abbrev pub step_call : {V : Type 0} → (backward : Bool) → Object ℕ V → Mark → Look Mark
step_call false o c = next_call o c
step_call true o c = previous_call o c

-- a cursor at the first of these names, and No_Element where there is none
abbrev pub first_mark : (number : ℕ) → List ℕ → Mark
first_mark number [] = no_mark
first_mark number (name ∷ names) = mark_at number name

-- it meets each of the names that the loop goes over, in the loop's order
abbrev pub WalksInOrder : Type 0 → Type 0
WalksInOrder V = (o : Object ℕ V) (backward : Bool) (before : List ℕ) (name : ℕ) (after : List ℕ) → IsValid o →
    in_order backward (names o.rows) ≡ before ++ name ∷ after →
    step_call backward o (mark_at o.number name) ≡ look None (first_mark o.number after)
