use Rattle.std.proofs.Common.{ap, ◌∙◌, subst}
use Rattle.ac_base.specs.declared.name.Name.{Name}
use Rattle.ac_base.specs.declared.reason.Reason.TheVariants.{Duplicate}
use Rattle.ac_model.specs.Containers.{Container}
use Rattle.ac_model.specs.Keyed.{IsValidKeyed}
use Rattle.ac_model.specs.Letters.{tampers_cursors, reason_if}
use Rattle.ac_model.specs.Objects.{plain}
use Rattle.ac_setwork.specs.Indexed.{found_in}
use Rattle.ac_setwork.specs.TableFields.{is_another}
use Rattle.ac_setwork.proofs.Replacing.{replacement_refused}
use Rattle.ac_setwork.proofs.table.Table.refuses_replacement.Goals as goal

pub returns : goal.returns
returns g c =
    let o = c.args.self.now.object in let v = c.args.row.now in let order = g.I.Index.order in
    replacement_refused order o c.args.c v c.look_like.result c.forbids.result c.needs.result c.reason_if.result c.first_reason.result
    (subst (λ (x : Container _). IsValidKeyed order (plain x.object)) c.self.view_is c.self.invariant.valid)
    (c.look_like.ensures ∙ ap (λ (x : Container _). found_in (λ w. order.alike w v) x.object.rows) c.self.view_is)
    (c.forbids.ensures ∙ ap (λ (x : Container _). tampers_cursors (plain x.object)) c.self.view_is) c.needs.ensures
    (c.reason_if.ensures ∙ ap (λ b. reason_if b Duplicate) (c.is_another.ensures ∙ ap (λ (n : Name). is_another c.look_like.result n.serial) c.name_in.ensures)) c.first_reason.ensures
