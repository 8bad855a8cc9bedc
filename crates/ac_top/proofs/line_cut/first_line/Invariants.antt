use Rattle.std.proofs.Common.{ℕ, length, ◌-◌, ◌<◌, ◌≤◌}
use Rattle.ac_top.specs.LineCuts.{IsLineStart, IsLineAt}
use Rattle.ac_top.proofs.line_cut.first_line.Given as goal

abbrev pub invariant-loop-at : goal.invariant-loop-at
invariant-loop-at l = record {
  within : l.at ≤ length l.text;
  starts : l.at < length l.text → IsLineStart l.text l.at;
  none_before : (other : ℕ) → other < l.at → IsLineAt l.line l.text other → ⊥;
}

abbrev pub decreases-loop-at : goal.decreases-loop-at
decreases-loop-at l = length l.text - l.at
