use Rattle.std.proofs.Common.{sym, ap, ◌∙◌}
use Rattle.ac_base.specs.declared.cursor.Cursor.TheVariants.{At}
use Rattle.ac_model.specs.Containers.{Container}
use Rattle.ac_model.specs.Cursors.{needs_cursor}
use Rattle.ac_model.specs.Letters.{judged_in}
use Rattle.ac_setwork.specs.TableFields.{object_of}
use Rattle.ac_setwork.proofs.Found.{judged_by_name}
use Rattle.ac_setwork.proofs.table.Table.judges.Goals as goal

pub returns : goal.returns
returns g c =
    let i = c.self.inside in
    c.judge.ensures ∙ ap (λ n. judged_in n c.args.object c.is_there.result) c.number.ensures ∙ ap (judged_in i.guards.number c.args.object) c.is_there.ensures
    ∙ sym (judged_by_name (object_of i.guards i.limit (g.I.Index.seen i.index)) c.args.object c.args.name)
    ∙ ap (λ (x : Container _). needs_cursor x.object (At c.args.object c.args.name)) c.self.view_is
