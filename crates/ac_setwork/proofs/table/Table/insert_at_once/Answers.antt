use Rattle.std.proofs.Common.{sym, subst}
use Rattle.ac_model.specs.Calls.{Changing, Same}
use Rattle.ac_model.specs.Containers.{Container}
use Rattle.ac_model.specs.Keyed as keyed
use Rattle.ac_model.specs.Objects.{plain}
use Rattle.ac_setwork.specs.TableFields.{TakesOne, object_of}
use Rattle.ac_setwork.proofs.Insertions.{at_once_done, at_once_present, at_once_table}
use Rattle.ac_setwork.proofs.table.Table.insert_at_once.Goals.{in-Ok, in-Err}
use Rattle.ac_setwork.proofs.table.Table.insert_at_once.Goals as goal

pub invariant_of-self : goal.invariant_of-self
invariant_of-self g c =
    let i = c.self.inside in
    at_once_table g.I.Index.order i.guards i.limit (g.I.Index.seen i.index) (g.I.Index.seen c.add.new.self) c.args.row c.self.invariant (subst (λ x. TakesOne x) (sym c.self.view_is) c.requires)
    g.met.I.Index.closed c.add.result c.add.ensures.absent c.add.ensures.added c.add.ensures.err

pub returns-clause-changed : goal.returns-clause-changed
returns-clause-changed g c =
    let i = c.self.inside in let order = g.I.Index.order in let old = g.I.Index.seen i.index in let new = g.I.Index.seen c.add.new.self in
    let one = subst (λ x. TakesOne x) (sym c.self.view_is) c.requires in
    subst (λ (x : Container _). Changing Same (keyed.insert_call order (plain x.object) c.args.row) x.object (object_of i.guards i.limit new) c.match-add.result) c.self.view_is
    (elim c.match-add.branch [
      | in-Ok w ↦ subst (λ r. Changing Same (keyed.insert_call order (plain (object_of i.guards i.limit old)) c.args.row) (object_of i.guards i.limit old) (object_of i.guards i.limit new) r) (sym w.result-is)
          (at_once_done order i.guards i.limit old new c.args.row c.self.invariant one w.in-Ok.ensures.absent w.in-Ok.ensures.added)
      | in-Err w ↦ subst (λ r. Changing Same (keyed.insert_call order (plain (object_of i.guards i.limit old)) c.args.row) (object_of i.guards i.limit old) (object_of i.guards i.limit new) r) (sym w.result-is)
          (at_once_present order i.guards i.limit old new c.args.row c.self.invariant one w.in-Err.field-0 w.in-Err.ensures.present w.in-Err.ensures.err)
    ])
