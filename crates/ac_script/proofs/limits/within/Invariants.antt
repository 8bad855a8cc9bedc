use Rattle.std.proofs.Common.{◌≡◌, ◌≤◌, take}
use Rattle.ac_syntax.specs.Tokens.{tokens}
use Rattle.ac_syntax.specs.Limits.{seen_of, AreWithinLimits}
use Rattle.ac_script.specs.Behind.{seen_view}
use Rattle.ac_script.proofs.limits.within.Given as goal

abbrev pub invariant-loop-count : goal.invariant-loop-count
invariant-loop-count l = record {
  seen : seen_view l.behind ≡ seen_of (tokens (take l.count l.placed));
  shallow : l.behind.depth ≤ l.count;
  few_tasks : l.behind.tasks ≤ l.count;
  few_commands : l.behind.commands ≤ l.count;
  within : AreWithinLimits (tokens (take l.count l.placed));
}
