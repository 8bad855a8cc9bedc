-- A test that finds a line, for texts written out.
use Rattle.std.proofs.Common.{ℕ, ◌<◌, ◌≤◌, ◌≡◌, ◌==◌, ◌∙◌, Bool, true, false, List, [], ◌∷◌, ◌++◌, Some, None, Option, zero, suc, length, drop, refl, sym, ap, subst, inl, inr, arith}
use Rattle.std.specs.Prelude.{◌&&◌, ◌⊎◌}
use Rattle.std.specs.List.{slice_get}
use Rattle.std.proofs.lemmas.Bool.{agree_below, agree_below_at, false≢true, and_from, cases_lt}
use Rattle.ac_top.specs.LineCuts.{IsLineStart, IsLineAt, IsFirstLine, HasNoLine}

abbrev is_lf : Option ℕ → Bool
is_lf None = false
is_lf (Some byte) = byte == 10

abbrev starts_line : List ℕ → ℕ → Bool
starts_line text zero = true
starts_line text (suc before) = is_lf (slice_get text before)

abbrev begins : (line text : List ℕ) → Bool
begins [] [] = false
begins [] (first ∷ text) = first == 10
begins (byte ∷ line) [] = false
begins (byte ∷ line) (first ∷ text) = (byte == first) && begins line text

abbrev pub finds : (line text : List ℕ) → ℕ → Bool
finds line text at = starts_line text at && begins line (drop at text)

same_byte : (byte : ℕ) → (byte == byte) ≡ true
same_byte byte = grind arith

begins_same : (line behind : List ℕ) → begins line (line ++ (10 ∷ behind)) ≡ true
begins_same [] behind = refl
begins_same (byte ∷ line) behind = and_from _ _ (same_byte byte) (begins_same line behind)

starts_same : (text : List ℕ) (at : ℕ) → IsLineStart text at → starts_line text at ≡ true
starts_same text at (inl front) = subst (λ place. starts_line text place ≡ true) (sym front) refl
starts_same text at (inr (before, follows, lf)) =
    let place : at ≡ suc before = omega (arith, follows) in
    subst (λ place. starts_line text place ≡ true) (sym place) (ap is_lf lf)

found : (line text : List ℕ) (at : ℕ) → IsLineAt line text at → finds line text at ≡ true
found line text at here =
    and_from _ _ (starts_same text at here.starts) (subst (λ rest. begins line rest ≡ true) (sym here.is) (begins_same line here.behind))

none_below : (line text : List ℕ) (end : ℕ) → agree_below (finds line text) (λ at. false) end ≡ true →
    (at : ℕ) → at < end → IsLineAt line text at → ⊥
none_below line text end agree at below here =
    false≢true (sym (agree_below_at (finds line text) (λ at. false) end at agree below) ∙ found line text at here)

pub has_none : (line text : List ℕ) (end : ℕ) → length text < end → agree_below (finds line text) (λ at. false) end ≡ true → HasNoLine line text
has_none line text end long agree at here = none_below line text end agree at (omega (arith, here.within, long)) here

pub is_first : (line text : List ℕ) (at : ℕ) → IsLineAt line text at → agree_below (finds line text) (λ at. false) at ≡ true → IsFirstLine line text at
is_first line text at here agree = record { here = here; first = λ other found. in_order other found (cases_lt other at) } where
  in_order : (other : ℕ) → IsLineAt line text other → (other < at) ⊎ (at ≤ other) → at ≤ other
  in_order other found (inl below) = absurd (none_below line text at agree other below found)
  in_order other found (inr above) = above
