use Rattle.std.proofs.Common.{sym, ap, ◌∙◌, refl}
use Rattle.ac_model.specs.Objects.{plain}
use Rattle.ac_model.specs.Letters.{tampers_cursors}
use Rattle.ac_model.specs.Containers.{Container}
use Rattle.ac_setwork.proofs.Tables.{pos_found, pos_refused, pos_absent, pos_wants}
use Rattle.ac_setwork.proofs.table.Table.insert_pos.Goals as goal

pub returns-in-Some-clause-changed : goal.returns-in-Some-clause-changed
returns-in-Some-clause-changed g c =
    let o = c.args.self.now.object in
    pos_found g.I.Index.order o o c.args.row c.in-Some.name c.cursor_at.result (sym c.name_like.ensures ∙ c.in-Some.is)
    (ap (λ (x : Container _). tampers_cursors (plain x.object)) (sym c.self.view_is) ∙ sym c.forbids.ensures ∙ c.in-None-forbids.is) c.cursor_at.ensures

pub returns-in-Some-refuses_new-clause-changed : goal.returns-in-Some-refuses_new-clause-changed
returns-in-Some-refuses_new-clause-changed g c =
    let o = c.args.self.now.object in (pos_refused g.I.Index.order o o c.args.row (sym c.name_like.ensures ∙ c.in-None.is) ∙ sym c.refuses_new.ensures ∙ c.in-Some-refuses_new.is, refl)

pub returns-in-Ok-clause-changed : goal.returns-in-Ok-clause-changed
returns-in-Ok-clause-changed g c =
    let o = c.args.self.now.object in let new = c.add.new.self.object in
    pos_absent g.I.Index.order o new c.args.row c.in-Ok.name c.cursor_at-in-Ok.result (sym c.name_like.ensures ∙ c.in-None.is) (sym c.refuses_new.ensures ∙ c.in-None-refuses_new.is) c.cursor_at-in-Ok.ensures c.in-Ok.ensures.changed

pub returns-clause-changed : goal.returns-clause-changed
returns-clause-changed g c =
    let o = c.args.self.now.object in let new = c.add.new.self.object in
    pos_wants g.I.Index.order o new c.args.row c.in-Err.fault (sym c.name_like.ensures ∙ c.in-None.is) (sym c.refuses_new.ensures ∙ c.in-None-refuses_new.is) c.in-Err.ensures.changed c.args.p.now
