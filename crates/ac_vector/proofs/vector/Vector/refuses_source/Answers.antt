use Rattle.std.proofs.Common.{Some, ap}
use Rattle.ac_chain.specs.Rows.{slots_in}
use Rattle.ac_model.specs.Containers.{Container}
use Rattle.ac_vector.proofs.Inserts.{source_refused}
use Rattle.ac_vector.proofs.vector.Vector.refuses_source.Goals as goal

pub returns : goal.returns
returns g c =
    let i = c.self.inside in
    source_refused i.guards i.limit (Some (slots_in i.rows)) i.rows c.args.self.now.object (ap (λ (x : Container _). x.object) c.self.view_is) c.args.more c.len.result c.next_serial.result c.args.place c.first_reason.result
    c.forbids.result c.room.result c.len.ensures.count c.next_serial.ensures.serial c.forbids.ensures c.room.ensures c.first_reason.ensures
