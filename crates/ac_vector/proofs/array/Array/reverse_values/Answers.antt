use Rattle.std.proofs.Common.{ap, ◌∙◌, reverse}
use Rattle.std.proofs.lemmas.List.{length-reverse, length-map}
use Rattle.ac_base.specs.Rows.{Row, values}
use Rattle.ac_vector.proofs.Arrays.{old_stands}
use Rattle.ac_vector.proofs.Rewrites.{over_array}
use Rattle.ac_vector.proofs.Slots.{slotted}
use Rattle.ac_vector.proofs.array.Array.reverse_values.Goals as goal

pub invariant_of-self : goal.invariant_of-self
invariant_of-self g c =
    let rows = c.args.self.now.rows in
    (slotted (over_array c.self.invariant.array c.self.view_is c.reverse.new.self.items (reverse (values rows)) _ (c.reverse.ensures.items ∙ ap reverse (old_stands c.self.invariant.array c.self.view_is).valued)
    (length-reverse (values rows) ∙ length-map rows (λ (r : Row _ _). r.value)) c.reverse.ensures.capacity) _ c.self.invariant.slots).invariant

pub returns-clause-reversed : goal.returns-clause-reversed
returns-clause-reversed g c =
    let rows = c.args.self.now.rows in
    (slotted (over_array c.self.invariant.array c.self.view_is c.reverse.new.self.items (reverse (values rows)) _ (c.reverse.ensures.items ∙ ap reverse (old_stands c.self.invariant.array c.self.view_is).valued)
    (length-reverse (values rows) ∙ length-map rows (λ (r : Row _ _). r.value)) c.reverse.ensures.capacity) _ c.self.invariant.slots).view

pub returns-clause-sound : goal.returns-clause-sound
returns-clause-sound g c =
    let rows = c.args.self.now.rows in
    (slotted (over_array c.self.invariant.array c.self.view_is c.reverse.new.self.items (reverse (values rows)) _ (c.reverse.ensures.items ∙ ap reverse (old_stands c.self.invariant.array c.self.view_is).valued)
    (length-reverse (values rows) ∙ length-map rows (λ (r : Row _ _). r.value)) c.reverse.ensures.capacity) _ c.self.invariant.slots).sound
