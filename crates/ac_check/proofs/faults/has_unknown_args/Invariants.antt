use Rattle.std.proofs.Common.{◌≡◌, drop}
use Rattle.ac_rules.specs.UsedNames.{args_names}
use Rattle.ac_rules.specs.Walks.{has_unknown}
use Rattle.ac_check.proofs.faults.has_unknown_args.Given as goal

abbrev pub invariant-loop-arg : goal.invariant-loop-arg
invariant-loop-arg l = has_unknown l.scope (args_names (drop l.arg-index l.args)) ≡ has_unknown l.scope (args_names l.args)
