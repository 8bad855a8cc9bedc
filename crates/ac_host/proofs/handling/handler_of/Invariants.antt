use Rattle.std.proofs.Common.{◌≡◌, drop}
use Rattle.ac_rules.specs.ResolvedStatements.{resolved_handlers_of}
use Rattle.ac_host.specs.Handling.{handler_in}
use Rattle.ac_host.proofs.handling.handler_of.Given as goal

abbrev pub invariant-loop-handler : goal.invariant-loop-handler
invariant-loop-handler l = handler_in (resolved_handlers_of (drop l.handler-index l.handlers)) l.raised ≡ handler_in (resolved_handlers_of l.handlers) l.raised
