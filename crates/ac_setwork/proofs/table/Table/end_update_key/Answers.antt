use Rattle.std.proofs.Common.{◌<◌, sym, ap, ◌∙◌, subst}
use Rattle.ac_base.specs.Guards.{HeldGuard, count_of}
use Rattle.ac_base.specs.declared.name.Name.{Name}
use Rattle.ac_model.specs.Containers.{Container, guards_of, slots_of}
use Rattle.ac_model.specs.Cursors.{IsNamed}
use Rattle.ac_setwork.proofs.Found.{stands}
use Rattle.ac_setwork.proofs.Updates.{ended, released_is}
use Rattle.ac_setwork.proofs.table.Table.end_update_key.Goals as goal

pub release-requires-clause-own : goal.release-requires-clause-own
release-requires-clause-own g c = ap (λ (k : HeldGuard). k.object) c.requires.own

pub release-requires-clause-held : goal.release-requires-clause-held
release-requires-clause-held g c = subst (λ (k : HeldGuard). 0 < count_of k.kind (guards_of c.args.self.now)) (sym c.requires.own) c.requires.held

pub settle-requires : goal.settle-requires
settle-requires g c =
    let old = c.args.self.now in
    subst (λ (x : Container _). IsNamed x.object c.name_in.result) (sym (released_is old c.release.new.self c.args.key c.requires.own c.release.ensures))
    (subst (λ (n : Name). IsNamed old.object n) (sym c.name_in.ensures) (stands old.object c.args.c c.requires.there).there)

pub returns-clause-changed : goal.returns-clause-changed
returns-clause-changed g c =
    let old = c.args.self.now in
    ended g.I.Keyed.key_of g.I.Keyed.keys old c.release.new.self c.settle.new.self c.args.c c.name_in.result c.args.copy c.settle.result
    (released_is old c.release.new.self c.args.key c.requires.own c.release.ensures) c.requires.there c.name_in.ensures c.settle.ensures.changed

pub returns-clause-slots : goal.returns-clause-slots
returns-clause-slots g c =
    c.settle.ensures.slots ∙ ap (λ (x : Container _). slots_of x) (released_is c.args.self.now c.release.new.self c.args.key c.requires.own c.release.ensures)
