-- What is read of a state, line by line.
use Rattle.std.proofs.Common.{◌≡◌, ◌+◌, ℕ, true, false, List, [], ◌∷◌, ◌++◌, length, refl, sym, ap, ◌∙◌, append_assoc, append-nil, Ok, Err}
use Rattle.ac_calls.specs.declared.plains.Plain.{Plain}
use Rattle.ac_snapshot.specs.declared.fault.StateFault.TheVariants.{Refused}
use Rattle.ac_snapshot.specs.Validity.{is_valid, is_valid_behind}
use Rattle.ac_snapshot.specs.StateTexts.{entry_text, state_text}
use Rattle.ac_snapshot.specs.StateReading.{GoesOn, IsReading, whole, refused}
use Rattle.ac_snapshot.specs.Outcomes.{got, stuck}
use Rattle.ac_snapshot.specs.EntryReaders.{entry}
use Rattle.ac_snapshot.proofs.LineLaws.{entries_read}
use Rattle.ac_snapshot.proofs.BehindStates.{valid_last, text_more}

-- the entries read so far, and the text behind them
pub record HasRead (text : List ℕ) (s : List Plain) (rest : List ℕ) : Type 0 where
  pub valid : is_valid s ≡ true
  pub is : text ≡ state_text s ++ rest

pub none_read : (text : List ℕ) → HasRead text [] text
none_read text = record { valid = refl; is = refl }

pub one_more : (text : List ℕ) (s : List Plain) (rest : List ℕ) (e : Plain) (left : List ℕ) → HasRead text s rest → entry rest ≡ got e left → is_valid_behind s e ≡ true
    → HasRead text (s ++ e ∷ []) left
one_more text s rest e left h found valid =
    record {
      valid = valid;
      is =
          h.is ∙ ap (λ t. state_text s ++ t) (entries_read.0 rest e left (valid_last s e valid) found)
          ∙ sym (append_assoc (state_text s) (entry_text e) left) ∙ ap (λ t. t ++ left) (sym (text_more s e));
    }

pub all_read : (text : List ℕ) (s : List Plain) → HasRead text s [] → IsReading text (Ok s)
all_read text s h = whole s h.valid (h.is ∙ append-nil (state_text s))

no_entry : (s : List Plain) (rest : List ℕ) → entry rest ≡ stuck → GoesOn s rest → ⊥
no_entry s rest found g =
    let same : stuck ≡ got g.next g.later = sym found ∙ ap entry g.is ∙ entries_read.1 g.next g.later (valid_last s g.next g.valid) in
    absurd (cc same)

bad_entry : (s : List Plain) (rest : List ℕ) (e : Plain) (left : List ℕ) → entry rest ≡ got e left → is_valid_behind s e ≡ false → GoesOn s rest → ⊥
bad_entry s rest e left found bad g =
    let same : got e left ≡ got g.next g.later = sym found ∙ ap entry g.is ∙ entries_read.1 g.next g.later (valid_last s g.next g.valid) in
    let own : e ≡ g.next = cc same in
    let both : false ≡ true = sym bad ∙ ap (is_valid_behind s) own ∙ g.valid in
    absurd (cc both)

pub unread : (text : List ℕ) (s : List Plain) (rest : List ℕ) → HasRead text s rest → (rest ≡ [] → ⊥) → entry rest ≡ stuck → IsReading text (Err (Refused (length s + 1)))
unread text s rest h some found = refused s rest h.valid h.is some (no_entry s rest found)

pub unfit : (text : List ℕ) (s : List Plain) (rest : List ℕ) (e : Plain) (left : List ℕ) → HasRead text s rest → (rest ≡ [] → ⊥) → entry rest ≡ got e left
    → is_valid_behind s e ≡ false → IsReading text (Err (Refused (length s + 1)))
unfit text s rest e left h some found bad = refused s rest h.valid h.is some (bad_entry s rest e left found bad)
