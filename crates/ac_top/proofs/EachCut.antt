-- Each text has a first line that is just a given one, or none.
use Rattle.std.proofs.Common.{◌≡◌, ◌⊎◌, ◌<◌, ◌≤◌, ◌+◌, inl, inr, ℕ, zero, suc, List, [], ◌∷◌, ◌++◌, length, drop, Option, Some, None, refl, sym, ap, subst, ◌∙◌, arith}
use Rattle.std.specs.List.{slice_get}
use Rattle.std.proofs.lemmas.Bool.{cases_lt}
use Rattle.std.proofs.lemmas.Option.{none-some, same_Some}
use Rattle.ac_plains.proofs.Matching.{Either, numbers}
use Rattle.ac_top.specs.LineCuts.{BeginsWithLine, HasNoLine, IsFirstLine, IsLineAt, IsLineStart}

both : {P Q : Type 0} → Either P → Either Q → Either (P × Q)
both (inl p) (inl q) = inl (p, q)
both (inl p) (inr never) = inr (λ r. never r.1)
both (inr never) q = inr (λ r. never r.0)

-- whether a text begins with a line

with_feed : (b : ℕ) (text : List ℕ) → Either (b ≡ 10) → Either (BeginsWithLine [] (b ∷ text))
with_feed b text (inl same) = inl (text, ap (λ c. c ∷ text) same)
with_feed b text (inr never) = inr (λ h. never (cc h.1))

with_byte : (c : ℕ) (line : List ℕ) (b : ℕ) (text : List ℕ) → Either (b ≡ c) → Either (BeginsWithLine line text) → Either (BeginsWithLine (c ∷ line) (b ∷ text))
with_byte c line b text (inl same) (inl (behind, is)) = inl (behind, λ i. same i ∷ is i)
with_byte c line b text (inl same) (inr never) = inr (λ h. never (h.0, cc h.1))
with_byte c line b text (inr never) rest = inr (λ h. never (cc h.1))

begins : (line text : List ℕ) → Either (BeginsWithLine line text)
begins [] [] = inr (λ h. cc h.1)
begins [] (b ∷ text) = with_feed b text (numbers b 10)
begins (c ∷ line) [] = inr (λ h. cc h.1)
begins (c ∷ line) (b ∷ text) = with_byte c line b text (numbers b c) (begins line text)

-- whether a line begins at a place

same_feed : (b : ℕ) → Either (b ≡ 10) → Either (Some b ≡ Some 10)
same_feed b (inl same) = inl (ap Some same)
same_feed b (inr never) = inr (λ h. never (same_Some b 10 h))

is_feed : (o : Option ℕ) → Either (o ≡ Some 10)
is_feed None = inr (none-some 10)
is_feed (Some b) = same_feed b (numbers b 10)

no_feed : (text : List ℕ) (before : ℕ) → (slice_get text before ≡ Some 10 → ⊥) → IsLineStart text (suc before) → ⊥
no_feed text before never (inl front) = absurd (omega (arith, front))
no_feed text before never (inr (place, next, feed)) =
    let same : place ≡ before = omega (arith, next) in
    never (subst (λ n. slice_get text n ≡ Some 10) same feed)

behind_feed : (text : List ℕ) (before : ℕ) → Either (slice_get text before ≡ Some 10) → Either (IsLineStart text (suc before))
behind_feed text before (inl feed) = inl (inr (before, omega arith, feed))
behind_feed text before (inr never) = inr (no_feed text before never)

starts : (text : List ℕ) (at : ℕ) → Either (IsLineStart text at)
starts text zero = inl (inl refl)
starts text (suc before) = behind_feed text before (is_feed (slice_get text before))

module _ (line text : List ℕ) where
  line_there : (at : ℕ) → at ≤ length text → Either (IsLineStart text at × BeginsWithLine line (drop at text)) → Either (IsLineAt line text at)
  line_there at within (inl (s, b)) = inl (record { starts = s; behind = b.0; is = b.1; within = within })
  line_there at within (inr never) = inr (λ h. never (h.starts, (h.behind, h.is)))

  at_place : (at : ℕ) → (length text < at) ⊎ (at ≤ length text) → Either (IsLineAt line text at)
  at_place at (inl past) = inr (λ h. absurd (omega (arith, past, h.within)))
  at_place at (inr within) = line_there at within (both (starts text at) (begins line (drop at text)))

  abbrev NoneBefore : ℕ → Type 0
  NoneBefore n = (at : ℕ) → at < n → IsLineAt line text at → ⊥

  first_here : (n : ℕ) → NoneBefore n → IsLineAt line text n → (other : ℕ) → (other < n) ⊎ (n ≤ other) → IsLineAt line text other → n ≤ other
  first_here n none here other (inl less) h = absurd (none other less h)
  first_here n none here other (inr past) h = past

  not_here : (n : ℕ) → NoneBefore n → (IsLineAt line text n → ⊥) → (at : ℕ) → at < suc n → (at < n) ⊎ (n ≤ at) → IsLineAt line text at → ⊥
  not_here n none never at within (inl less) h = none at less h
  not_here n none never at within (inr past) h = let same : at ≡ n = omega (arith, within, past) in never (subst (IsLineAt line text) same h)

  here_or_on : (n : ℕ) → NoneBefore n → Either (IsLineAt line text n) → ((at : ℕ) × IsFirstLine line text at) ⊎ NoneBefore (suc n)
  here_or_on n none (inl here) = inl (n, record { here = here; first = λ other h. first_here n none here other (cases_lt other n) h })
  here_or_on n none (inr never) = inr (λ at within h. not_here n none never at within (cases_lt at n) h)

  go_on : (n : ℕ) → ((at : ℕ) × IsFirstLine line text at) ⊎ NoneBefore n → ((at : ℕ) × IsFirstLine line text at) ⊎ NoneBefore (suc n)
  go_on n (inl found) = inl found
  go_on n (inr none) = here_or_on n none (at_place n (cases_lt (length text) n))

  up_to : (n : ℕ) → ((at : ℕ) × IsFirstLine line text at) ⊎ NoneBefore n
  up_to zero = inr (λ at less h. absurd (omega (arith, less)))
  up_to (suc n) = go_on n (up_to n)

  all_seen : ((at : ℕ) × IsFirstLine line text at) ⊎ NoneBefore (suc (length text)) → ((at : ℕ) × IsFirstLine line text at) ⊎ HasNoLine line text
  all_seen (inl found) = inl found
  all_seen (inr none) = inr (λ at h. none at (omega (arith, h.within)) h)

  pub each_cut : ((at : ℕ) × IsFirstLine line text at) ⊎ HasNoLine line text
  each_cut = all_seen (up_to (suc (length text)))

  pub one_cut : (at other : ℕ) → IsFirstLine line text at → IsFirstLine line text other → at ≡ other
  one_cut at other h k = omega (arith, h.first other k.here, k.first at h.here)
