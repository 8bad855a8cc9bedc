use Rattle.std.proofs.Common.{ap, ◌∙◌}
use Rattle.ac_base.specs.Guards.{GuardCounts}
use Rattle.ac_model.specs.Cursors.{cursor_at}
use Rattle.ac_chain.proofs.calls.looking.named.Goals as goal

pub returns : goal.returns
returns g c = c.cursor_at.ensures ∙ ap (λ n. cursor_at n c.args.name) (c.number.ensures ∙ ap (λ (x : GuardCounts). x.number) c.guards.ensures)
