-- Walking past the lines of a text.
use Rattle.std.proofs.Common.{◌≡◌, ◌<◌, ◌-◌, ℕ, zero, suc, Bool, true, false, List, [], ◌∷◌, ◌==◌, length, refl, ap, arith, cond}
use mir.Val.{bool_byte}
use Rattle.ac_top.specs.Summary.{past_lines}

pub past_none : (text : List ℕ) → past_lines text 0 ≡ text
unfolding past_lines
past_none [] = refl
past_none (b ∷ text) = refl

pub past_all : (text : List ℕ) (lines : ℕ) → length text ≡ 0 → past_lines text lines ≡ text
unfolding past_lines
past_all [] lines none = refl
past_all (b ∷ text) lines none = absurd (omega (arith, none))

pub past_one : (b : ℕ) (text : List ℕ) (lines : ℕ) → 0 < lines → past_lines text (lines - bool_byte (b == 10)) ≡ past_lines (b ∷ text) lines
unfolding past_lines
past_one b text zero some = absurd (omega (arith, some))
past_one b text (suc lines) some = go (b == 10)
  where
    go : (ends : Bool) → past_lines text (suc lines - bool_byte ends) ≡ past_lines text (cond ends lines (suc lines))
    go true = ap (past_lines text) (omega arith)
    go false = ap (past_lines text) (omega arith)
