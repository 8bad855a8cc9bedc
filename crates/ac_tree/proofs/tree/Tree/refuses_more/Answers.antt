use Rattle.std.proofs.Common.{ap, ◌∙◌, to_z-of_z, w64}
use Rattle.ac_base.specs.FirstReason.{first_reason, earlier}
use Rattle.ac_base.specs.Tampering.{forbids}
use Rattle.ac_base.specs.declared.guard.Class.TheVariants as class
use Rattle.ac_base.proofs.Earlier.{with_none_later}
use Rattle.ac_model.specs.Containers.{Container}
use Rattle.ac_model.specs.Objects.{plain}
use Rattle.ac_model.specs.Sequences.{room_for_copies}
use Rattle.ac_tree.proofs.tree.Tree.refuses_more.Goals as goal

pub returns : goal.returns
returns g c =
    let o = plain c.args.self.now.object in
    let same = to_z-of_z {w = w64} {z = c.args.n} c.ranges.n in
    let guards = c.forbids.ensures ∙ ap (λ (x : Container _). forbids class.Cursors x.object.cursor_guards x.object.element_guards) c.self.view_is in
    c.first_reason.ensures ∙ (λ j. earlier (guards j) (earlier (c.needs_node.ensures j) ((with_none_later c.refuses_count.result ∙ c.refuses_count.ensures ∙ ap (λ m. first_reason (room_for_copies o m)) same) j)))
