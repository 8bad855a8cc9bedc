-- Reverse_Elements and Sort of lists and vectors, by what differs between the two: whether an element's name moves with it, as in a list, or stays in place.
use Rattle.std.specs.Prelude.{ℕ, Bool, true, false}
use Rattle.ac_model.specs.Calls.{Call, Done}
use Rattle.ac_model.specs.Lists as lists
use Rattle.ac_model.specs.Objects.{Object}
use Rattle.ac_model.specs.Vectors as vectors

abbrev pub reversing : {T : Type 0} → (names_move : Bool) → Object ℕ T → Call (Object ℕ T) Done
reversing true o = lists.reverse_elements_call o
reversing false o = vectors.reverse_elements_call o

abbrev pub sorting : {T : Type 0} → (names_move : Bool) → (T → T → Bool) → Object ℕ T → Call (Object ℕ T) Done
sorting true less o = lists.sort_call less o
sorting false less o = vectors.sort_call less o
