-- What a reader is to the texts that it reads.
use Rattle.std.specs.Prelude.{◌≡◌, ◌<◌, ◌^◌, ◌&&◌, not, ℕ, decimal, Bool, true, List, [], ◌∷◌, ◌++◌, Option}
use Rattle.std.specs.List.{prefix_len}
use Rattle.std.specs.Fmt.{signed_decimal}
use Rattle.ac_syntax.specs.declared.kind.ElemKind.{ElemKind}
use Rattle.ac_syntax.specs.declared.type_def.TypeDef.{TypeDef}
use Rattle.ac_syntax.specs.Characters.{is_word_byte, is_quote}
use Rattle.ac_syntax.specs.Canonical.{quoted, literal_text}
use Rattle.ac_calls.specs.declared.plains.Plain.{Plain}
use Rattle.ac_calls.specs.declared.plains.PlainRow.{PlainRow}
use Rattle.ac_snapshot.specs.RowValidity.{is_integer, is_text, is_value_of, are_valid_rows}
use Rattle.ac_snapshot.specs.Validity.{is_valid_entry}
use Rattle.ac_snapshot.specs.StateTexts.{rows_text, entry_text}
use Rattle.ac_snapshot.specs.Outcomes.{Reader, got}
use Rattle.ac_snapshot.specs.ValueReaders.{number, integer, quoted_bytes, literal}
use Rattle.ac_snapshot.specs.RowReaders.{is_bracket, listed}
use Rattle.ac_snapshot.specs.EntryReaders.{entry}

-- no word and no string goes on here
abbrev pub ends : List ℕ → Bool
ends [] = true
ends (b ∷ _) = not (is_word_byte b) && not (is_quote b)

-- what is read has its text in front, and the text of what fits is read as that where it doesn't go on
pub record Reads {I : Type 0} (text : I → List ℕ) (Fits : I → Type 0) (reader : Reader I) : Type 0 where
  pub found : (t : List ℕ) (i : I) (rest : List ℕ) → reader t ≡ got i rest → t ≡ text i ++ rest
  pub only : (i : I) (rest : List ℕ) → Fits i → ends rest ≡ true → reader (text i ++ rest) ≡ got i rest

abbrev pub ReadsNumbers : Type 0
ReadsNumbers = Reads decimal (λ n. n < 2 ^ 64) number

abbrev pub ReadsIntegers : Type 0
ReadsIntegers = Reads signed_decimal (λ z. is_integer z ≡ true) integer

abbrev pub ReadsTexts : Type 0
ReadsTexts = Reads quoted (λ bytes. is_text bytes ≡ true) quoted_bytes

abbrev pub ReadsValues : Type 0
ReadsValues = (e : ElemKind) → Reads literal_text (λ v. is_value_of e v ≡ true) (literal e)

-- the rows that are read have their list in front, and the list of valid rows is read as them where no bracket follows
abbrev pub ReadsRows : Type 0
ReadsRows =
    (def : TypeDef) (limit : Option ℕ) (rows : List PlainRow) → are_valid_rows def limit rows ≡ true
    → ((t rest : List ℕ) → listed def t ≡ got rows rest → t ≡ rows_text def.kind rows ++ rest)
    × ((rest : List ℕ) → prefix_len is_bracket rest ≡ 0 → listed def (rows_text def.kind rows ++ rest) ≡ got rows rest)

-- the valid entry that is read has its line in front, and the line of a valid entry is read as that
abbrev pub ReadsEntries : Type 0
ReadsEntries =
    ((t : List ℕ) (e : Plain) (rest : List ℕ) → is_valid_entry e ≡ true → entry t ≡ got e rest → t ≡ entry_text e ++ rest)
    × ((e : Plain) (rest : List ℕ) → is_valid_entry e ≡ true → entry (entry_text e ++ rest) ≡ got e rest)
