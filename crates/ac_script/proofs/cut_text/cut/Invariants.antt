use Rattle.std.proofs.Common.{◌+◌, ◌≤◌, length}
use Rattle.ac_script.proofs.Cutting.{IsCutting}
use Rattle.ac_script.proofs.cut_text.cut.Given as goal

abbrev pub invariant-loop-rest : goal.invariant-loop-rest
invariant-loop-rest l = record {
  told : IsCutting l.placed.items l.line l.rest l.fn.text;
  line_small : l.line + length l.rest ≤ length l.fn.text + 1;
}

abbrev pub decreases-loop-rest : goal.decreases-loop-rest
decreases-loop-rest l = length l.rest
