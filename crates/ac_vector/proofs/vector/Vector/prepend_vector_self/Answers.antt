use Rattle.std.proofs.Common.{None, Some, ap}
use Rattle.ac_chain.specs.Rows.{slots_in}
use Rattle.ac_chain.proofs.SequenceGrows.{first_spot}
use Rattle.ac_model.specs.Containers.{Container}
use Rattle.ac_model.specs.Objects.{plain}
use Rattle.ac_model.proofs.Changes.{done_slots}
use Rattle.ac_vector.proofs.Inserts.{source_done}
use Rattle.ac_vector.proofs.vector.Vector.prepend_vector_self.Goals as goal

pub insert_itself-requires : goal.insert_itself-requires
insert_itself-requires g c = λ _.
    let i = c.self.inside in (first_spot i.guards i.limit (Some (slots_in i.rows)) i.rows c.args.self.now.object (ap (λ (x : Container _). x.object) c.self.view_is) c.self.invariant.sound c.first-first.result c.first-first.ensures.name).0

pub returns-clause-changed : goal.returns-clause-changed
returns-clause-changed g c =
    let i = c.self.inside in let o = c.args.self.now.object in
    source_done o c.insert_itself.new.self.object (plain o) None c.first-first.result 0 c.insert_itself.result c.done.result
    (λ _. (first_spot i.guards i.limit (Some (slots_in i.rows)) i.rows o (ap (λ (x : Container _). x.object) c.self.view_is) c.self.invariant.sound c.first-first.result c.first-first.ensures.name).1) c.insert_itself.ensures.changed c.done.ensures

pub returns-clause-slots : goal.returns-clause-slots
returns-clause-slots g c = done_slots c.insert_itself.result c.done.result c.args.self.now c.insert_itself.new.self c.done.ensures c.insert_itself.ensures.slots
