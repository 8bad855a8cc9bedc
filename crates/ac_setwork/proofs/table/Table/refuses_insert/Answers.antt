use Rattle.std.proofs.Common.{ap, ◌∙◌}
use Rattle.ac_base.specs.declared.reason.Reason.TheVariants.{KeyPresent}
use Rattle.ac_model.specs.Containers.{Container}
use Rattle.ac_model.specs.Keyed as keyed
use Rattle.ac_model.specs.Letters.{reason_if}
use Rattle.ac_model.specs.Objects.{plain}
use Rattle.ac_setwork.proofs.Tables.{insertion_refused}
use Rattle.ac_setwork.proofs.table.Table.refuses_insert.Goals as goal

pub returns : goal.returns
returns g c =
    let i = c.self.inside in let order = g.I.Index.order in
    insertion_refused order i.guards i.limit (g.I.Index.seen i.index) c.args.row.now c.len.result c.next_serial.result c.look_like.result c.forbids.result c.reason_if.result c.room.result c.first_reason.result
    c.len.ensures c.next_serial.ensures c.look_like.ensures c.forbids.ensures (c.reason_if.ensures ∙ ap (λ b. reason_if b KeyPresent) c.is_some.ensures) c.room.ensures c.first_reason.ensures
    ∙ ap (λ (x : Container _). (keyed.insert_call order (plain x.object) c.args.row.now).reason) c.self.view_is
