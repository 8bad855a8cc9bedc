use Rattle.std.proofs.Common.{ap, ◌∙◌}
use Rattle.std.specs.Prelude.{is_some}
use Rattle.ac_model.specs.Containers.{Container}
use Rattle.ac_model.specs.Keyed as keyed
use Rattle.ac_model.specs.Objects.{plain}
use Rattle.ac_setwork.proofs.Found.{any_found}
use Rattle.ac_setwork.proofs.table.Table.contains_counted.Goals as goal

pub returns-clause-found : goal.returns-clause-found
returns-clause-found g c =
    let test = g.I.Index.matches c.args.key.now in
    c.is_some.ensures ∙ ap is_some c.seek.ensures.name ∙ any_found test (g.I.Index.seen c.self.inside.index).rows ∙ ap (λ (x : Container _). keyed.contains_call test (plain x.object)) c.self.view_is
