use Rattle.ac_model.proofs.Changes.{done_slots}
use Rattle.ac_vector.proofs.Reserves.{blanks_done}
use Rattle.ac_vector.proofs.vector.Vector.lengthen.Goals as goal

pub returns-clause-changed : goal.returns-clause-changed
returns-clause-changed g c =
    blanks_done c.args.self.now.object c.put.new.self.object c.in_ok-blank.blank g.T.Elem.blank_element c.args.more c.put.result c.done.result c.in_ok-blank.ensures c.put.ensures.changed c.done.ensures

pub returns-clause-slots : goal.returns-clause-slots
returns-clause-slots g c = done_slots c.put.result c.done.result c.args.self.now c.put.new.self c.done.ensures c.put.ensures.slots
