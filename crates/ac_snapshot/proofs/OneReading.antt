-- A text is read in one way.
use Rattle.std.proofs.Common.{◌≡◌, ◌+◌, ℕ, true, List, [], ◌∷◌, ◌++◌, length, refl, sym, ap, subst, ◌∙◌, append_assoc, append-nil, Ok, Err}
use Rattle.std.specs.List.{list_all}
use Rattle.std.proofs.lemmas.Bool.{and_parts}
use Rattle.ac_calls.specs.declared.plains.Plain.{Plain}
use Rattle.ac_calls.specs.declared.plains.Plain.TheVariants as plain
use Rattle.ac_snapshot.specs.declared.fault.StateFault.TheVariants.{Refused}
use Rattle.ac_snapshot.specs.Validity.{is_valid_entry, is_valid}
use Rattle.ac_snapshot.specs.StateTexts.{entry_text, state_text}
use Rattle.ac_snapshot.specs.StateReading.{GoesOn, whole, refused}
use Rattle.ac_snapshot.specs.Outcomes.{got}
use Rattle.ac_snapshot.specs.EntryReaders.{entry}
use Rattle.ac_snapshot.specs.ReadingLaws.{BeginsWithOne, HasOneReading}
use Rattle.ac_snapshot.proofs.LineLaws.{entries_read}
use Rattle.ac_snapshot.proofs.BehindStates.{front_valid, state_parts}

pub begins_with_one : BeginsWithOne
begins_with_one e f x y valid_e valid_f h =
    let both : got e x ≡ got f y = sym (entries_read.1 e x valid_e) ∙ ap entry h ∙ entries_read.1 f y valid_f in
    let same : e ≡ f = cc both in
    let left : x ≡ y = cc both in
    (same, left)

some_text : (e : Plain) (x : List ℕ) → entry_text e ++ x ≡ [] → ⊥
some_text (plain.Int own z) x h = absurd (cc h)
some_text (plain.Str own bytes) x h = absurd (cc h)
some_text (plain.Object own def limit capacity peak rows) x h = absurd (cc h)

-- of two states in front of one text, one goes on with the entries of the other
data Compared (s t : List Plain) (x y : List ℕ) : Type 0 where
  longer : (more : List Plain) → t ≡ s ++ more → x ≡ state_text more ++ y → Compared s t x y
  shorter : (more : List Plain) → s ≡ t ++ more → y ≡ state_text more ++ x → Compared s t x y

compared_more : (e : Plain) (s t : List Plain) (x y : List ℕ) → Compared s t x y → Compared (e ∷ s) (e ∷ t) x y
compared_more e s t x y (longer more is text) = longer more (ap (λ t. e ∷ t) is) text
compared_more e s t x y (shorter more is text) = shorter more (ap (λ s. e ∷ s) is) text

compared : (s t : List Plain) (x y : List ℕ) → list_all is_valid_entry s ≡ true → list_all is_valid_entry t ≡ true → state_text s ++ x ≡ state_text t ++ y → Compared s t x y
compared [] t x y valid_s valid_t h = longer t refl h
compared (e ∷ s) [] x y valid_s valid_t h = shorter (e ∷ s) refl (sym h)
compared (e ∷ s) (f ∷ t) x y valid_s valid_t h =
    let one = and_parts (is_valid_entry e) (list_all is_valid_entry s) valid_s in
    let two = and_parts (is_valid_entry f) (list_all is_valid_entry t) valid_t in
    let both = begins_with_one e f (state_text s ++ x) (state_text t ++ y) one.0 two.0
    (sym (append_assoc (entry_text e) (state_text s) x) ∙ h ∙ append_assoc (entry_text f) (state_text t) y) in
    subst (λ f. Compared (e ∷ s) (f ∷ t) x y) both.0 (compared_more e s t x y (compared s t x y one.1 two.1 both.1))

-- what goes on behind a state in a longer one
goes_on : (s : List Plain) (n : Plain) (more : List Plain) (x y : List ℕ) → is_valid (s ++ n ∷ more) ≡ true → x ≡ state_text (n ∷ more) ++ y → GoesOn s x
goes_on s n more x y valid text =
    record {
      next = n;
      valid = front_valid (s ++ n ∷ []) more (ap is_valid (append_assoc s (n ∷ []) more) ∙ valid);
      later = state_text more ++ y;
      is = text ∙ append_assoc (entry_text n) (state_text more) y;
    }

-- a refusal beside a state that goes on further
no_further : (s t more : List Plain) (x y : List ℕ) → is_valid t ≡ true → t ≡ s ++ more → x ≡ state_text more ++ y → (GoesOn s x → ⊥) → more ≡ []
no_further s t [] x y valid is text none = refl
no_further s t (n ∷ more) x y valid is text none = absurd (none (goes_on s n more x y (ap is_valid (sym is) ∙ valid) text))

refused_whole : (text : List ℕ) (s t : List Plain) (rest : List ℕ) → is_valid s ≡ true → is_valid t ≡ true → text ≡ state_text s → text ≡ state_text t ++ rest
    → (rest ≡ [] → ⊥) → (GoesOn t rest → ⊥) → ⊥
refused_whole text s t rest valid_s valid_t is_s is_t some none =
    by_length (compared s t [] rest (state_parts s valid_s).entries (state_parts t valid_t).entries (append-nil (state_text s) ∙ sym is_s ∙ is_t))
  where
    by_length : Compared s t [] rest → ⊥
    by_length (longer [] is left) = absurd (some (sym left))
    by_length (longer (e ∷ more) is left) = absurd (some_text e (state_text more ++ rest) (sym (left ∙ append_assoc (entry_text e) (state_text more) rest)))
    by_length (shorter [] is left) = absurd (some left)
    by_length (shorter (e ∷ more) is left) = absurd (none (goes_on t e more rest [] (ap is_valid (sym is) ∙ valid_s) left))

same_line : (s t more : List Plain) → t ≡ s ++ more → more ≡ [] → length s + 1 ≡ length t + 1
same_line s t more is none = ap (λ (l : List Plain). length l + 1) (sym (append-nil s) ∙ sym (ap (λ m. s ++ m) none) ∙ sym is)

both_refused : (s t : List Plain) (x y : List ℕ) → is_valid s ≡ true → is_valid t ≡ true → state_text s ++ x ≡ state_text t ++ y
    → (GoesOn s x → ⊥) → (GoesOn t y → ⊥) → length s + 1 ≡ length t + 1
both_refused s t x y valid_s valid_t same none_s none_t =
    by_length (compared s t x y (state_parts s valid_s).entries (state_parts t valid_t).entries same)
  where
    by_length : Compared s t x y → length s + 1 ≡ length t + 1
    by_length (longer more is text) = same_line s t more is (no_further s t more x y valid_t is text none_s)
    by_length (shorter more is text) = sym (same_line t s more is (no_further t s more y x valid_s is text none_t))

both_whole : (s t : List Plain) → is_valid s ≡ true → is_valid t ≡ true → state_text s ≡ state_text t → s ≡ t
both_whole s t valid_s valid_t same =
    by_length (compared s t [] [] (state_parts s valid_s).entries (state_parts t valid_t).entries (append-nil (state_text s) ∙ same ∙ sym (append-nil (state_text t))))
  where
    by_length : Compared s t [] [] → s ≡ t
    by_length (longer [] is text) = sym (append-nil s) ∙ sym is
    by_length (longer (e ∷ more) is text) = absurd (some_text e (state_text more ++ []) (sym (text ∙ append_assoc (entry_text e) (state_text more) [])))
    by_length (shorter [] is text) = is ∙ append-nil t
    by_length (shorter (e ∷ more) is text) = absurd (some_text e (state_text more ++ []) (sym (text ∙ append_assoc (entry_text e) (state_text more) [])))

pub has_one_reading : HasOneReading
has_one_reading text r t (whole s valid_s is_s) (whole u valid_u is_u) = ap (λ (s : List Plain). Ok s) (both_whole s u valid_s valid_u (sym is_s ∙ is_u))
has_one_reading text r t (whole s valid_s is_s) (refused u rest valid_u is_u some none) = absurd (refused_whole text s u rest valid_s valid_u is_s is_u some none)
has_one_reading text r t (refused s rest valid_s is_s some none) (whole u valid_u is_u) = absurd (refused_whole text u s rest valid_u valid_s is_u is_s some none)
has_one_reading text r t (refused s x valid_s is_s some_s none_s) (refused u y valid_u is_u some_u none_u) =
    ap (λ line. Err (Refused line)) (both_refused s u x y valid_s valid_u (sym is_s ∙ is_u) none_s none_u)
