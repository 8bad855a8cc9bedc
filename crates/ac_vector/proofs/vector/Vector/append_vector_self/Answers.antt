use Rattle.std.proofs.Common.{None, refl}
use Rattle.ac_model.specs.Objects.{length_of, plain}
use Rattle.ac_model.proofs.Changes.{done_slots}
use Rattle.ac_vector.proofs.Inserts.{source_done}
use Rattle.ac_vector.proofs.vector.Vector.append_vector_self.Goals as goal

pub returns-clause-changed : goal.returns-clause-changed
returns-clause-changed g c =
    let o = c.args.self.now.object in source_done o c.insert_itself.new.self.object (plain o) None None (length_of (plain o)) c.insert_itself.result c.done.result (λ _. refl) c.insert_itself.ensures.changed c.done.ensures

pub returns-clause-slots : goal.returns-clause-slots
returns-clause-slots g c = done_slots c.insert_itself.result c.done.result c.args.self.now c.insert_itself.new.self c.done.ensures c.insert_itself.ensures.slots
