-- What texts of valid states are read as, and those that end within a line; that a text is read in one way.
use Rattle.std.specs.Prelude.{◌≡◌, ◌+◌, ℕ, true, List, [], ◌++◌, length, Result, Ok, Err}
use Rattle.std.specs.List.{Contains}
use Rattle.ac_calls.specs.declared.plains.Plain.{Plain}
use Rattle.ac_snapshot.specs.declared.fault.StateFault.{StateFault}
use Rattle.ac_snapshot.specs.declared.fault.StateFault.TheVariants.{Refused}
use Rattle.ac_snapshot.specs.Validity.{is_valid_entry, is_valid}
use Rattle.ac_snapshot.specs.StateReading.{IsReading}
use Rattle.ac_snapshot.specs.StateTexts.{entry_text, state_text}

abbrev pub ReadsWritten : Type 0
ReadsWritten = (s : List Plain) → is_valid s ≡ true → IsReading (state_text s) (Ok s)

-- a last line without LF is refused
abbrev pub RefusesUnended : Type 0
RefusesUnended =
    (s : List Plain) (rest : List ℕ) → is_valid s ≡ true → (rest ≡ [] → ⊥) → (Contains rest 10 → ⊥) →
    IsReading (state_text s ++ rest) (Err (Refused (length s + 1)))

-- a text begins with the line of one valid entry at most
abbrev pub BeginsWithOne : Type 0
BeginsWithOne =
    (e f : Plain) (x y : List ℕ) → is_valid_entry e ≡ true → is_valid_entry f ≡ true → entry_text e ++ x ≡ entry_text f ++ y → (e ≡ f) × (x ≡ y)

-- it has a reading
abbrev pub HasReading : Type 0
HasReading = (text : List ℕ) → (r : Result (List Plain) StateFault) × IsReading text r

-- and one alone
abbrev pub HasOneReading : Type 0
HasOneReading = (text : List ℕ) (r s : Result (List Plain) StateFault) → IsReading text r → IsReading text s → r ≡ s
