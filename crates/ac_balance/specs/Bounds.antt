-- A bound on the steps of a search among so many rows.
use Rattle.std.specs.Prelude.{◌+◌, ◌≤◌, ℕ}
use Rattle.ac_balance.specs.Indexed.{FewSteps}

abbrev pub TakesAtMost : ℕ → ℕ → Type 0
TakesAtMost n most = (before after : ℕ) → FewSteps n before after → after ≤ before + most
