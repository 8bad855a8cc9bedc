use Rattle.std.proofs.Common.{Ok, sym, ap, ◌∙◌, subst}
use Rattle.ac_model.specs.Calls.{Changing, Same}
use Rattle.ac_model.specs.Containers.{Container, slots_of}
use Rattle.ac_model.specs.Keyed as keyed
use Rattle.ac_model.specs.Objects.{plain}
use Rattle.ac_model.proofs.Reasons.{passed}
use Rattle.ac_setwork.specs.TableFields.{object_of}
use Rattle.ac_setwork.proofs.Found.{among_found}
use Rattle.ac_setwork.proofs.Tables.{taken_table, taken_slots, exclude_found, exclude_absent}
use Rattle.ac_setwork.proofs.table.Table.exclude.Goals as goal

pub remove-row-requires : goal.remove-row-requires
remove-row-requires g c = among_found (g.I.Index.matches c.args.key.now) (g.I.Index.seen c.self.inside.index).rows c.in-Some.name (sym c.look.ensures ∙ c.in-Some.is)

pub invariant_of-self : goal.invariant_of-self
invariant_of-self g c =
    let i = c.self.inside in let s = g.I.Index.seen i.index in
    taken_table g.I.Index.order i.guards i.limit g.met.I.Index.closed s (g.I.Index.seen c.remove-row.new.self) c.in-Some.name c.self.invariant
    (among_found (g.I.Index.matches c.args.key.now) s.rows c.in-Some.name (sym c.look.ensures ∙ c.in-Some.is)) c.remove-row.ensures.removed

pub returns-in-None-clause-changed : goal.returns-in-None-clause-changed
returns-in-None-clause-changed g c =
    let i = c.self.inside in let m = g.I.Index.matches c.args.key.now in
    subst (λ (x : Container _). Changing Same (keyed.exclude_call m (plain x.object)) x.object x.object (Ok tt)) c.self.view_is
    (exclude_absent g.I.Index.order i.guards i.limit m (g.I.Index.seen i.index) (sym c.look.ensures ∙ c.in-None.is) (sym (passed _ _ c.in_ok-allowed.ensures c.forbids.ensures)))

pub returns-in-Some-clause-changed : goal.returns-in-Some-clause-changed
returns-in-Some-clause-changed g c =
    let i = c.self.inside in let m = g.I.Index.matches c.args.key.now in let s2 = g.I.Index.seen c.remove-row.new.self in
    subst (λ (x : Container _). Changing Same (keyed.exclude_call m (plain x.object)) x.object (object_of i.guards i.limit s2) (Ok tt)) c.self.view_is
    (exclude_found g.I.Index.order i.guards i.limit m (g.I.Index.seen i.index) s2 c.in-Some.name (sym c.look.ensures ∙ c.in-Some.is) (sym (passed _ _ c.in_ok-allowed.ensures c.forbids.ensures)) c.remove-row.ensures.removed)

pub returns-in-Some-clause-slots : goal.returns-in-Some-clause-slots
returns-in-Some-clause-slots g c =
    let i = c.self.inside in let s = g.I.Index.seen i.index in
    taken_slots g.I.Index.order i.guards i.limit s (g.I.Index.seen c.remove-row.new.self) c.in-Some.name (among_found (g.I.Index.matches c.args.key.now) s.rows c.in-Some.name (sym c.look.ensures ∙ c.in-Some.is)) c.remove-row.ensures.removed
    ∙ ap (λ (x : Container _). slots_of x) c.self.view_is
