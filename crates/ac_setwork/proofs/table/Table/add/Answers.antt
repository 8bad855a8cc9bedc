use Rattle.std.proofs.Common.{◌≡◌, None, sym, subst}
use Rattle.ac_model.specs.Containers.{Container}
use Rattle.ac_model.specs.Keyed as keyed
use Rattle.ac_model.specs.Objects.{plain}
use Rattle.ac_setwork.proofs.Tables.{added_table, insertion_allowed}
use Rattle.ac_setwork.proofs.table.Table.add.Goals as goal

pub invariant_of-self-in-Ok : goal.invariant_of-self-in-Ok
invariant_of-self-in-Ok g c =
    let i = c.self.inside in let order = g.I.Index.order in
    added_table order i.guards i.limit g.met.I.Index.closed (g.I.Index.seen i.index) (g.I.Index.seen c.make_room.new.self) (g.I.Index.seen c.add_new.new.self) c.args.row c.self.invariant
    (subst (λ (p : Container _). (keyed.insert_call order (plain p.object) c.args.row).reason ≡ None) (sym c.self.view_is) (insertion_allowed order c.args.self.now.object c.args.row c.requires.absent c.requires.allowed))
    c.in-Ok.ensures.ok c.add_new.ensures.added
