use Rattle.std.proofs.Common.{Some, ap, ◌∙◌, to_z-of_z, w64}
use Rattle.ac_chain.specs.Rows.{slots_in}
use Rattle.ac_model.specs.Containers.{Container}
use Rattle.ac_model.specs.Letters.{count_of, in_range}
use Rattle.ac_vector.proofs.Reserves.{length_refused}
use Rattle.ac_vector.proofs.vector.Vector.refuses_length.Goals as goal

pub returns : goal.returns
returns g c =
    let i = c.self.inside in let same = to_z-of_z {w = w64} {z = c.args.n} c.ranges.n in
    length_refused i.guards i.limit (Some (slots_in i.rows)) i.rows c.args.self.now.object (ap (λ (x : Container _). x.object) c.self.view_is) g.T.Elem.blank_element c.args.n c.count_of-count.result c.saturating_sub-more.result c.len.result c.next_serial.result c.first_reason.result
    c.forbids.result c.in_range.result c.room.result (c.count_of-count.ensures ∙ ap count_of same) c.saturating_sub-more.ensures c.len.ensures.count c.next_serial.ensures.serial c.forbids.ensures
    (c.in_range.ensures ∙ ap in_range same) c.room.ensures c.first_reason.ensures
