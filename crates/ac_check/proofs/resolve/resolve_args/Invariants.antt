use Rattle.std.proofs.Common.{◌≡◌, ◌++◌, map, drop}
use Rattle.ac_rules.specs.Resolved as resolved
use Rattle.ac_check.proofs.resolve.resolve_args.Given as goal

abbrev pub invariant-loop-arg : goal.invariant-loop-arg
invariant-loop-arg l =
    l.made.items ++ map (resolved.resolve_arg l.scope) (drop l.arg-index l.args) ≡ map (resolved.resolve_arg l.scope) l.args
