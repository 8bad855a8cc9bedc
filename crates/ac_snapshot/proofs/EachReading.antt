-- Each text has a reading: as a state, or up to its first line that doesn't go on.
use Rattle.std.proofs.Common.{◌≡◌, ◌≤◌, ◌+◌, ℕ, zero, suc, Bool, true, false, List, [], ◌∷◌, ◌++◌, length, refl, sym, ap, subst, ◌∙◌, arith, append_assoc, append-nil, Result, Ok, Err}
use Rattle.std.specs.List.{flat_map}
use Rattle.std.proofs.lemmas.Bool.{false≢true}
use Rattle.std.proofs.lemmas.List.{length-append}
use Rattle.ac_calls.specs.declared.plains.Plain.{Plain}
use Rattle.ac_calls.specs.declared.plains.Plain.TheVariants as plain
use Rattle.ac_snapshot.specs.declared.fault.StateFault.{StateFault}
use Rattle.ac_snapshot.specs.declared.fault.StateFault.TheVariants.{Refused}
use Rattle.ac_snapshot.specs.Validity.{is_valid, is_valid_behind, is_valid_entry}
use Rattle.ac_snapshot.specs.StateTexts.{entry_text, state_text}
use Rattle.ac_snapshot.specs.StateReading.{GoesOn, IsReading, whole, refused}
use Rattle.ac_snapshot.specs.Outcomes.{Outcome, got, stuck}
use Rattle.ac_snapshot.specs.EntryReaders.{entry}
use Rattle.ac_snapshot.proofs.LineLaws.{entries_read}
use Rattle.ac_snapshot.proofs.BehindStates.{text_more, valid_last}

-- an entry's line is never empty
some_bytes : (e : Plain) → 1 ≤ length (entry_text e)
some_bytes (plain.Int name z) = omega arith
some_bytes (plain.Str name bytes) = omega arith
some_bytes (plain.Object name def limit capacity peak rows) = omega arith

-- what would go on is what the reader finds
none_stuck : (s : List Plain) (rest : List ℕ) → entry rest ≡ stuck → GoesOn s rest → ⊥
none_stuck s rest none g =
    let found : entry rest ≡ got g.next g.later = ap entry g.is ∙ entries_read.1 g.next g.later (valid_last s g.next g.valid) in
    let both : stuck ≡ got g.next g.later = sym none ∙ found in
    cc both

none_other : (s : List Plain) (rest : List ℕ) (e : Plain) (later : List ℕ) → entry rest ≡ got e later → is_valid_behind s e ≡ false → GoesOn s rest → ⊥
none_other s rest e later read unlike g =
    let both : got e later ≡ got g.next g.later = sym read ∙ ap entry g.is ∙ entries_read.1 g.next g.later (valid_last s g.next g.valid) in
    let same : e ≡ g.next = cc both in
    false≢true (sym unlike ∙ ap (is_valid_behind s) same ∙ g.valid)

module _ (text : List ℕ) where
  abbrev HasSome : Type 0
  HasSome = (r : Result (List Plain) StateFault) × IsReading text r

  -- behind a state, where this much is left at most
  abbrev Behind : ℕ → Type 0
  Behind steps = (s : List Plain) (rest : List ℕ) → length rest ≤ steps → is_valid s ≡ true → text ≡ state_text s ++ rest → HasSome

  module _ (steps : ℕ) (on : Behind steps) (s : List Plain) (b : ℕ) (rest : List ℕ) (fits : length (b ∷ rest) ≤ suc steps) (valid : is_valid s ≡ true)
      (is : text ≡ state_text s ++ b ∷ rest) where
    read_entry : (e : Plain) (later : List ℕ) → entry (b ∷ rest) ≡ got e later → (v : Bool) → is_valid_behind s e ≡ v → HasSome
    read_entry e later read false unlike =
        (Err (Refused (length s + 1)), refused s (b ∷ rest) valid is (λ e. cc e) (none_other s (b ∷ rest) e later read unlike))
    read_entry e later read true sound =
        let front : b ∷ rest ≡ entry_text e ++ later = entries_read.0 (b ∷ rest) e later (valid_last s e sound) read in
        on (s ++ e ∷ []) later
        (omega (arith, fits, ap length front, length-append (entry_text e) later, some_bytes e)) sound
        (is ∙ (ap (λ t. state_text s ++ t) front ∙ (sym (append_assoc (state_text s) (entry_text e) later) ∙ ap (λ t. t ++ later) (sym (text_more s e)))))

    read_line : (o : Outcome Plain) → entry (b ∷ rest) ≡ o → HasSome
    read_line stuck read = (Err (Refused (length s + 1)), refused s (b ∷ rest) valid is (λ e. cc e) (none_stuck s (b ∷ rest) read))
    read_line (got e later) read = read_entry e later read (is_valid_behind s e) refl

  read_on : (steps : ℕ) → Behind steps
  read_on steps s [] fits valid is = (Ok s, whole s valid (is ∙ append-nil (state_text s)))
  read_on zero s (b ∷ rest) fits valid is = absurd (omega (arith, fits))
  read_on (suc steps) s (b ∷ rest) fits valid is = read_line steps (read_on steps) s b rest fits valid is (entry (b ∷ rest)) refl

pub each_reading : (text : List ℕ) → (r : Result (List Plain) StateFault) × IsReading text r
each_reading text = read_on text (length text) [] text (omega arith) refl refl
