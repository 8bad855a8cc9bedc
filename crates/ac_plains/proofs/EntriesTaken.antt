-- Entries of a state that are taken one after another.
use Rattle.std.proofs.Common.{◌≡◌, ◌+◌, ◌<◌, ◌≤◌, ℕ, zero, suc, true, List, [], ◌∷◌, ◌++◌, length, get_or, slice_get, All, Some, refl, sym, ap, subst, ◌∙◌, arith, append_assoc, append-nil}
use Rattle.std.proofs.lemmas.List.{length_push, length-append}
use Rattle.std.proofs.lemmas.List.Elements.{All-nil, All-push}
use Rattle.std.proofs.lemmas.Option.{none-some, same_Some, slice_get_read}
use Rattle.ac_syntax.specs.declared.script.Script.{Script}
use Rattle.ac_calls.specs.declared.plains.Plain.{Plain}
use Rattle.ac_meaning.specs.Environment.{State, bound_at}
use Rattle.ac_plains.specs.Resumed.{entry_place, with_entry, resumed, IsFresh, HasNoElements, AreFresh, HasNoMore, IsMatched, Matches, IsMismatch}
use Rattle.ac_plains.proofs.EntryPlaces.{as_found, resumed_last, fresh_at, no_elements_resumed, differ_of, entry_of}
use Rattle.ac_snapshot.specs.Validity.{is_valid, is_valid_entry}

-- so many were taken, and all of them are matched
pub record AreTaken (script : Script) (e : State) (s : List Plain) (count : ℕ) (now : State) : Type 0 where
  pub before : List Plain
  pub left : List Plain
  pub is : s ≡ before ++ left
  pub counted : length before ≡ count
  pub state : now ≡ resumed script e before
  pub matched : All (IsMatched script e) before

pub none_taken : (script : Script) (e : State) (s : List Plain) → AreTaken script e s 0 e
none_taken script e s = record { before = []; left = s; is = refl; counted = refl; state = refl; matched = All-nil (IsMatched script e) }

first_left : (before left : List Plain) (x : Plain) → slice_get (before ++ left) (length before) ≡ Some x → (later : List Plain) × (left ≡ x ∷ later)
first_left [] [] x h = absurd (none-some x h)
first_left [] (y ∷ left) x h = (left, ap (λ z. z ∷ left) (same_Some y x h))
first_left (y ∷ before) left x h = first_left before left x h

none_left : (left : List Plain) → length left ≤ 0 → left ≡ []
none_left [] h = refl
none_left (x ∷ left) h = absurd (omega (arith, h))

-- the next entry finds what was there at first, which was just declared
pub record IsNext (script : Script) (e : State) (s : List Plain) (count : ℕ) (now : State) (x : Plain) : Type 0 where
  pub taken : AreTaken script e s count now
  pub later : List Plain
  pub is : s ≡ taken.before ++ x ∷ later
  pub found : bound_at now (entry_place script x) ≡ bound_at e (entry_place script x)
  pub valid : is_valid_entry x ≡ true
  pub fresh : IsFresh (bound_at now (entry_place script x))
  pub elements : HasNoElements now

module _ (script : Script) (e : State) (items s : List Plain) (same : items ≡ s) (count : ℕ) (now : State) where
  pub next_entry : (x : Plain) → is_valid s ≡ true → HasNoElements e → AreFresh e → HasNoMore script e → x ≡ get_or items count x → count < length items →
      AreTaken script e s count now → IsNext script e s count now x
  next_entry x valid none fresh few at within taken =
      let place = entry_place script x in
      let read : slice_get s count ≡ Some x = ap (λ xs. slice_get xs count) (sym same) ∙ slice_get_read items (length items) count x refl within at in
      let there : slice_get (taken.before ++ taken.left) (length taken.before) ≡ Some x =
      ap (λ n. slice_get (taken.before ++ taken.left) n) taken.counted ∙ (ap (λ xs. slice_get xs count) (sym taken.is) ∙ read) in
      let first = first_left taken.before taken.left x there in
      let is : s ≡ taken.before ++ x ∷ first.0 = taken.is ∙ ap (λ l. taken.before ++ l) first.1 in
      let found : bound_at now place ≡ bound_at e place =
      ap (λ (n : State). bound_at n place) taken.state ∙ as_found script e s taken.before x first.0 few (differ_of s valid) is in
      record {
        taken = taken;
        later = first.0;
        is = is;
        found = found;
        valid = entry_of s taken.before x first.0 valid is;
        fresh = subst IsFresh (sym found) (fresh_at e place fresh);
        elements = subst HasNoElements (sym taken.state) (no_elements_resumed script taken.before e none);
      }

  pub all_taken : length items ≤ count → AreTaken script e s count now → (now ≡ resumed script e s) × All (IsMatched script e) s
  all_taken past taken =
      let none : taken.left ≡ [] =
      none_left taken.left (omega (arith, past, taken.counted, ap length same, ap length taken.is, length-append taken.before taken.left)) in
      let whole : taken.before ≡ s = sym (append-nil taken.before) ∙ (ap (λ l. taken.before ++ l) (sym none) ∙ sym taken.is) in
      (taken.state ∙ ap (resumed script e) whole, subst (All (IsMatched script e)) whole taken.matched)

module _ (script : Script) (e : State) (s : List Plain) (count : ℕ) (now : State) (x : Plain) (next : IsNext script e s count now x) where
  pub one_taken : (after : State) → IsMatched script now x → after ≡ with_entry script now x → AreTaken script e s (count + 1) after
  one_taken after matched put =
      let before = next.taken.before in
      record {
        before = before ++ x ∷ [];
        left = next.later;
        is = next.is ∙ sym (append_assoc before (x ∷ []) next.later);
        counted = length_push before x ∙ ap (λ n. n + 1) next.taken.counted;
        state = put ∙ (ap (λ (n : State). with_entry script n x) next.taken.state ∙ sym (resumed_last script before e x));
        matched = All-push (IsMatched script e) before x next.taken.matched (subst (Matches x) next.found matched);
      }

  pub not_taken : (line : ℕ) → (IsMatched script now x → ⊥) → line ≡ count + 1 → IsMismatch script e s line
  not_taken line unmatched at = record {
    before = next.taken.before;
    entry = x;
    later = next.later;
    is = next.is;
    matched = next.taken.matched;
    unmatched = λ matched. unmatched (subst (Matches x) (sym next.found) matched);
    counted = at ∙ ap (λ n. n + 1) (sym next.taken.counted);
  }
