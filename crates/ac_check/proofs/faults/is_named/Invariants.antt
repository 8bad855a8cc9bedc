use Rattle.std.proofs.Common.{◌≡◌, drop}
use Rattle.ac_rules.specs.Faults as faults
use Rattle.ac_check.specs.NamedHandlers.{named_by}
use Rattle.ac_check.proofs.faults.is_named.Given as goal

abbrev pub invariant-loop-handler : goal.invariant-loop-handler
invariant-loop-handler l = faults.is_named (named_by (drop l.handler-index l.handlers)) l.own ≡ faults.is_named (named_by l.handlers) l.own
