use Rattle.std.proofs.Common.{◌≡◌, drop}
use Rattle.ac_rules.specs.UsedNames.{args_names}
use Rattle.ac_rules.specs.Rules.{are_local}
use Rattle.ac_check.proofs.rules.are_local_args.Given as goal

abbrev pub invariant-loop-arg : goal.invariant-loop-arg
invariant-loop-arg l = are_local l.scope l.first (args_names (drop l.arg-index l.args)) ≡ are_local l.scope l.first (args_names l.args)
