-- Where lines begin in a text.
use Rattle.std.proofs.Common.{ℕ, ◌+◌, ◌-◌, ◌<◌, ◌≤◌, ◌≡◌, ◌==◌, ◌∙◌, Bool, true, not, List, ◌∷◌, Some, length, drop, get_or, [], refl, sym, ap, subst, inl, inr, arith}
use Rattle.std.specs.Prelude.{◌⊎◌}
use Rattle.std.specs.List.{prefix_len}
use Rattle.std.proofs.lemmas.Bool.{false≢true, not-false, eqb-true, cases_order, cases_lt}
use Rattle.std.proofs.lemmas.List.{get_or-drop, length-append, length-drop}
use Rattle.std.proofs.lemmas.List.Sums.{prefix_len_passes, prefix_len_stops, prefix_len-le-length}
use Rattle.std.proofs.lemmas.Option.{slice_get-get_or, get_or_from_slice_get}
use Rattle.ac_top.specs.LineCuts.{IsLineStart, BeginsWithLine, IsLineAt}

abbrev pub not_lf : ℕ → Bool
not_lf byte = not (byte == 10)

-- where the first LF stands from a place on, or the text's end
abbrev pub line_end : List ℕ → ℕ → ℕ
line_end text at = at + prefix_len not_lf (drop at text)

pub line_end_within : (text : List ℕ) (at : ℕ) → at ≤ length text → line_end text at ≤ length text
line_end_within text at within = omega (arith, prefix_len-le-length not_lf (drop at text), length-drop at text, within)

byte_at : (text : List ℕ) (at k place : ℕ) → at + k ≡ place → get_or (drop at text) k 0 ≡ get_or text place 0
byte_at text at k place sum = get_or-drop at text k 0 ∙ ap (λ i. get_or text i 0) sum

-- behind the first LF a line begins
pub starts_behind : (text : List ℕ) (at : ℕ) → at ≤ length text → line_end text at < length text → IsLineStart text (line_end text at + 1)
starts_behind text at within before_end =
    let here = line_end text at in
    let stops = prefix_len_stops not_lf (drop at text) 0 (omega (arith, length-drop at text, before_end, within)) in
    let is_lf = eqb-true _ 10 (not-false _ stops) in
    let byte = sym (byte_at text at (prefix_len not_lf (drop at text)) here refl) ∙ is_lf in
    inr (here, refl, slice_get-get_or text here 0 before_end ∙ ap Some byte)

not_at_lf : (byte : ℕ) → byte ≡ 10 → not_lf byte ≡ true → ⊥
not_at_lf byte is passes = false≢true (subst (λ b. not_lf b ≡ true) is passes)

-- and none before
pub no_start_between : (text : List ℕ) (at place : ℕ) → at < place → place < line_end text at + 1 → IsLineStart text place → ⊥
no_start_between text at place later within (inl front) = absurd (omega (arith, later, front))
no_start_between text at place later within (inr (before, follows, lf)) =
    let k = before - at in
    let passes = prefix_len_passes not_lf (drop at text) k 0 (omega (arith, later, within, follows)) in
    let same = byte_at text at k before (omega (arith, later, follows)) in
    not_at_lf _ (same ∙ get_or_from_slice_get text before 10 0 lf) passes

-- the lines before the next aren't the one either
pub none_before_next : (line text : List ℕ) (at next : ℕ) → ((other : ℕ) → other < at → IsLineAt line text other → ⊥) →
    (BeginsWithLine line (drop at text) → ⊥) → ((place : ℕ) → at < place → place < next → IsLineStart text place → ⊥) →
    (other : ℕ) → other < next → IsLineAt line text other → ⊥
none_before_next line text at next before here between other below found = in_order (cases_order other at) where
  in_order : (other ≡ at) ⊎ ((other < at) ⊎ (at < other)) → ⊥
  in_order (inl same) = here (subst (λ place. BeginsWithLine line (drop place text)) same (found.behind, found.is))
  in_order (inr (inl earlier)) = before other earlier found
  in_order (inr (inr later)) = between other later below found.starts

-- no line with an LF begins at a text's end
pub none_at_end : (line text : List ℕ) (at : ℕ) → length text ≤ at → IsLineAt line text at → ⊥
none_at_end line text at past here =
    let empty : length (drop at text) ≡ 0 = omega (arith, length-drop at text, past) in
    let long = length-append line (10 ∷ here.behind) in
    omega (arith, empty, long, ap length here.is)

pub none_up_to_end : (line text : List ℕ) (at : ℕ) → length text ≤ at → ((other : ℕ) → other < at → IsLineAt line text other → ⊥) →
    (other : ℕ) → IsLineAt line text other → ⊥
none_up_to_end line text at past before other found = in_order (cases_lt other at) where
  in_order : (other < at) ⊎ (at ≤ other) → ⊥
  in_order (inl below) = before other below found
  in_order (inr above) = none_at_end line text other (omega (arith, past, above)) found

-- what is left behind a line, if an LF begins it
pub behind_lf : (rest : List ℕ) → 1 ≤ length rest → (get_or rest 0 0 == 10) ≡ true → rest ≡ 10 ∷ drop 1 rest
behind_lf (first ∷ later) long lf = ap (λ byte. byte ∷ later) (eqb-true first 10 lf)
behind_lf [] long lf = absurd (omega (arith, long))

-- what stands behind a line is within the text
pub line_within : (line text : List ℕ) (at : ℕ) → IsLineAt line text at → at + length line + 1 ≤ length text
line_within line text at here =
    omega (arith, length-drop at text, here.within, length-append line (10 ∷ here.behind), ap length here.is)
