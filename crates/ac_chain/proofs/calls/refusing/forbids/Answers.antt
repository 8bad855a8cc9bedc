use Rattle.std.proofs.Common.{ap, ◌∙◌}
use Rattle.ac_base.specs.Guards.{GuardCounts}
use Rattle.ac_base.specs.Tampering as tampering
use Rattle.ac_chain.proofs.calls.refusing.forbids.Goals as goal

pub returns : goal.returns
returns g c = c.forbids.ensures ∙ ap (λ (x : GuardCounts). tampering.forbids c.args.class x.cursor_guards x.element_guards) c.guards.ensures
