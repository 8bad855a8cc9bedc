use Rattle.std.proofs.Common.{◌≡◌, Ok, Some, sym, ◌∙◌, subst}
use Rattle.ac_base.specs.declared.reason.Reason.TheVariants.{KeyAbsent}
use Rattle.ac_model.specs.Calls.{Lends, Looking}
use Rattle.ac_model.specs.Containers.{Container}
use Rattle.ac_model.specs.Objects.{plain}
use Rattle.ac_setwork.specs.TableCalls.{key_row_call}
use Rattle.ac_setwork.proofs.Elements.{row_absent, row_lent}
use Rattle.ac_setwork.proofs.Found.{among_found}
use Rattle.ac_setwork.proofs.table.Table.row_by.Goals as goal

pub at-requires : goal.at-requires
at-requires g c = let s = g.I.Index.seen c.self.inside.index in among_found (g.I.Index.matches c.args.key.now) s.rows c.in-Some.name (sym c.look.ensures ∙ c.in-Some.is)

pub returns-in-None : goal.returns-in-None
returns-in-None g c =
    let i = c.self.inside in let matches = g.I.Index.matches c.args.key.now in
    subst (λ (x : Container _). (key_row_call matches (plain x.object)).reason ≡ Some KeyAbsent) c.self.view_is (row_absent i.guards i.limit (g.I.Index.seen i.index) matches (sym c.look.ensures ∙ c.in-None.is))

pub returns-in-Some : goal.returns-in-Some
returns-in-Some g c =
    let i = c.self.inside in let matches = g.I.Index.matches c.args.key.now in
    subst (λ (x : Container _). Looking Lends (key_row_call matches (plain x.object)) (Ok c.at.result)) c.self.view_is
    (row_lent i.guards i.limit (g.I.Index.seen i.index) c.self.invariant.valid.as_object.names_differ matches c.in-Some.name c.at.result (sym c.look.ensures ∙ c.in-Some.is) c.at.ensures)
