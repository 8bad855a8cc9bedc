-- Lines that never fall.
use Rattle.std.proofs.Common.{◌≤◌, ℕ, List, [], ◌∷◌, ◌++◌, map, arith}
use Rattle.ac_syntax.specs.declared.token.Placed.{Placed}
use Rattle.ac_syntax.specs.Canonical.{RisesFrom}

abbrev pub lines_of : List Placed → List ℕ
lines_of placed = map (λ p. p.line) placed

pub rises_less : (line later : ℕ) (lines : List ℕ) → line ≤ later → RisesFrom later lines → RisesFrom line lines
rises_less line later [] le h = tt
rises_less line later (next ∷ lines) le h = (omega (arith, h.0), h.1)

pub rises_behind : (line : ℕ) (front lines : List ℕ) → RisesFrom line (front ++ lines) → RisesFrom line lines
rises_behind line [] lines h = h
rises_behind line (next ∷ front) lines h = rises_less line next lines h.0 (rises_behind next front lines h.1)
