-- What a text is read as: the state whose text it is, or refused on the first line that isn't the line of an entry that is valid with those before it. An entry's line ends with its only LF, so a last line without LF is none.
use Rattle.std.specs.Prelude.{◌≡◌, ◌+◌, ℕ, true, List, [], ◌++◌, length, Result, Ok, Err}
use Rattle.ac_calls.specs.declared.plains.Plain.{Plain}
use Rattle.ac_snapshot.specs.declared.fault.StateFault.{StateFault}
use Rattle.ac_snapshot.specs.declared.fault.StateFault.TheVariants.{Refused}
use Rattle.ac_snapshot.specs.Validity.{is_valid, is_valid_behind}
use Rattle.ac_snapshot.specs.StateTexts.{entry_text, state_text}

-- a text begins with the line of an entry that is valid behind a state
pub record GoesOn (s : List Plain) (text : List ℕ) : Type 0 where
  pub next : Plain
  pub valid : is_valid_behind s next ≡ true
  pub later : List ℕ
  pub is : text ≡ entry_text next ++ later

pub data IsReading (text : List ℕ) : Result (List Plain) StateFault → Type 0 where
  whole : (s : List Plain) → is_valid s ≡ true → text ≡ state_text s → IsReading text (Ok s)
  refused : (s : List Plain) (rest : List ℕ) → is_valid s ≡ true → text ≡ state_text s ++ rest → (rest ≡ [] → ⊥)
      → (GoesOn s rest → ⊥) → IsReading text (Err (Refused (length s + 1)))
