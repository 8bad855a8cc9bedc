use Rattle.std.proofs.Common.{Ok, sym, ap, ◌∙◌, subst}
use Rattle.ac_model.specs.Containers.{Container}
use Rattle.ac_model.specs.Objects.{plain}
use Rattle.ac_model.specs.Calls.{Looking, Lends}
use Rattle.ac_model.specs.Sequences as sequences
use Rattle.ac_setwork.specs.TableFields.{object_of}
use Rattle.ac_setwork.proofs.Ends.{is_at, end_looks, end_empty, none_first}
use Rattle.ac_setwork.proofs.table.Table.first_row.Goals as goal

pub at-requires : goal.at-requires
at-requires g c =
    let s = g.I.Index.seen c.self.inside.index in (is_at s.rows 0 c.in-Some.name c.self.invariant.valid.as_object.names_differ (sym c.first.ensures ∙ c.in-Some.is)).there

pub returns-in-Some : goal.returns-in-Some
returns-in-Some g c =
    let i = c.self.inside in let s = g.I.Index.seen i.index in
    subst (λ (x : Container _). Looking Lends (sequences.first_element_call (plain x.object)) (Ok c.at.result)) c.self.view_is
    (end_looks (object_of i.guards i.limit s) 0 c.in-Some.name c.at.result c.self.invariant.valid.as_object.names_differ (sym c.first.ensures ∙ c.in-Some.is) c.at.ensures)

pub returns-in-None : goal.returns-in-None
returns-in-None g c =
    let i = c.self.inside in let s = g.I.Index.seen i.index in
    ap (λ (x : Container _). (sequences.first_element_call (plain x.object)).reason) (sym c.self.view_is) ∙ end_empty (object_of i.guards i.limit s) (none_first s.rows (sym c.first.ensures ∙ c.in-None.is))
