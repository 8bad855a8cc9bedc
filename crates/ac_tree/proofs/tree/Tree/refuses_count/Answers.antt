use Rattle.std.proofs.Common.{◌≡◌, ◌+◌, length, ap, sym, ◌∙◌, to_z-of_z, w64}
use Rattle.ac_base.specs.FirstReason.{first_reason, earlier}
use Rattle.ac_base.proofs.Earlier.{with_none_later}
use Rattle.ac_model.specs.Containers.{Container}
use Rattle.ac_model.specs.Letters.{count_of, in_range, room_in}
use Rattle.ac_model.specs.Objects.{plain}
use Rattle.ac_model.proofs.Plains.{length-plains}
use Rattle.ac_tree.proofs.tree.Tree.refuses_count.Goals as goal

pub returns : goal.returns
returns g c =
    let o = plain c.args.self.now.object in
    let same = to_z-of_z {w = w64} {z = c.args.n} c.ranges.n in
    let more = c.count_of-more.ensures ∙ ap count_of same in
    let limit = ap (λ (x : Container _). x.object.limit) c.self.view_is in
    let next = c.next_serial.ensures.serial ∙ ap (λ (x : Container _). x.object.next) c.self.view_is in
    let all : c.live_nodes.result + c.count_of-more.result ≡ length o.rows + count_of c.args.n = (λ i. (c.live_nodes.ensures.count ∙ sym (length-plains c.args.self.now.object.rows)) i + more i) in
    c.first_reason.ensures ∙ (λ i. earlier ((c.in_range.ensures ∙ ap in_range same) i)
    ((with_none_later c.room.result ∙ c.room.ensures ∙ (λ j. first_reason (room_in (limit j) (next j) (all j) (more j)))) i))
