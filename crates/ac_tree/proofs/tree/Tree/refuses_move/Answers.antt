use Rattle.std.proofs.Common.{ap, ◌∙◌, sym}
use Rattle.ac_base.specs.declared.guard.Class.TheVariants as class
use Rattle.ac_base.specs.FirstReason.{first_reason, earlier}
use Rattle.ac_base.specs.Tampering.{forbids}
use Rattle.ac_base.proofs.Earlier.{with_none_later}
use Rattle.ac_model.specs.Containers.{Container}
use Rattle.ac_model.specs.Letters.{room_in}
use Rattle.ac_model.proofs.Plains.{length-plains}
use Rattle.ac_tree.proofs.tree.Tree.refuses_move.Goals as goal

pub returns : goal.returns
returns g c =
    let guards = c.forbids.ensures ∙ ap (λ (x : Container _). forbids class.Cursors x.object.cursor_guards x.object.element_guards) c.self.view_is in
    let others = c.forbids-2.ensures ∙ ap (λ (x : Container _). forbids class.Cursors x.object.cursor_guards x.object.element_guards) c.source.view_is in
    let limit = ap (λ (x : Container _). x.object.limit) c.self.view_is in
    let next = c.next_serial.ensures.serial ∙ ap (λ (x : Container _). x.object.next) c.self.view_is in
    let count = c.live_nodes-length.ensures.count ∙ sym (length-plains c.args.source.now.object.rows) in
    c.first_reason.ensures ∙ (λ i. earlier (guards i) (earlier (others i) ((with_none_later c.room.result ∙ c.room.ensures ∙ (λ j. first_reason (room_in (limit j) (next j) (count j) (count j)))) i)))
