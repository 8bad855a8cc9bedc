use Rattle.std.proofs.Common.{◌-◌, List, ap, ◌∙◌}
use Rattle.ac_vector.specs.ArrayFields.{renumbered_in}
use Rattle.ac_vector.proofs.Interleaves.{interleaved}
use Rattle.ac_vector.proofs.array.Array.interleave.Goals as goal

pub invariant_of-self : goal.invariant_of-self
invariant_of-self g c =
    let t = c.stack_last in let s = c.stack_last-2 in let w = c.weave in let a = c.args in
    (interleaved c.self.invariant c.self.view_is g.T.Rank.is_less a.seam (c.len.result - a.seam) c.requires.seam (ap (λ n. n - a.seam) c.len.ensures.count)
    t.new.slots.items s.new.slots.items w.new.slots.items t.new.values.items s.new.values.items w.new.values.items a.mine.items s.new.stack.items a.theirs.items t.new.stack.items c.requires.mine.0 c.requires.theirs.0
    t.ensures.names t.ensures.values t.ensures.count s.ensures.names s.ensures.values s.ensures.count c.renumber.new.places _ _ w.ensures.woven
    (c.renumber.ensures ∙ ap (λ (us : List _). renumbered_in us 0 c.self.inside.places) c.as_slice.ensures.value)
    (w.ensures.slot_room ∙ s.ensures.slot_room ∙ t.ensures.slot_room) (w.ensures.value_room ∙ s.ensures.value_room ∙ t.ensures.value_room)).invariant

pub returns-clause-woven : goal.returns-clause-woven
returns-clause-woven g c =
    let t = c.stack_last in let s = c.stack_last-2 in let w = c.weave in let a = c.args in
    (interleaved c.self.invariant c.self.view_is g.T.Rank.is_less a.seam (c.len.result - a.seam) c.requires.seam (ap (λ n. n - a.seam) c.len.ensures.count)
    t.new.slots.items s.new.slots.items w.new.slots.items t.new.values.items s.new.values.items w.new.values.items a.mine.items s.new.stack.items a.theirs.items t.new.stack.items c.requires.mine.0 c.requires.theirs.0
    t.ensures.names t.ensures.values t.ensures.count s.ensures.names s.ensures.values s.ensures.count c.renumber.new.places _ _ w.ensures.woven
    (c.renumber.ensures ∙ ap (λ (us : List _). renumbered_in us 0 c.self.inside.places) c.as_slice.ensures.value)
    (w.ensures.slot_room ∙ s.ensures.slot_room ∙ t.ensures.slot_room) (w.ensures.value_room ∙ s.ensures.value_room ∙ t.ensures.value_room)).woven

pub returns-clause-rest : goal.returns-clause-rest
returns-clause-rest g c =
    let t = c.stack_last in let s = c.stack_last-2 in let w = c.weave in let a = c.args in
    (interleaved c.self.invariant c.self.view_is g.T.Rank.is_less a.seam (c.len.result - a.seam) c.requires.seam (ap (λ n. n - a.seam) c.len.ensures.count)
    t.new.slots.items s.new.slots.items w.new.slots.items t.new.values.items s.new.values.items w.new.values.items a.mine.items s.new.stack.items a.theirs.items t.new.stack.items c.requires.mine.0 c.requires.theirs.0
    t.ensures.names t.ensures.values t.ensures.count s.ensures.names s.ensures.values s.ensures.count c.renumber.new.places _ _ w.ensures.woven
    (c.renumber.ensures ∙ ap (λ (us : List _). renumbered_in us 0 c.self.inside.places) c.as_slice.ensures.value)
    (w.ensures.slot_room ∙ s.ensures.slot_room ∙ t.ensures.slot_room) (w.ensures.value_room ∙ s.ensures.value_room ∙ t.ensures.value_room)).rest

pub returns-clause-sound : goal.returns-clause-sound
returns-clause-sound g c =
    let t = c.stack_last in let s = c.stack_last-2 in let w = c.weave in let a = c.args in
    (interleaved c.self.invariant c.self.view_is g.T.Rank.is_less a.seam (c.len.result - a.seam) c.requires.seam (ap (λ n. n - a.seam) c.len.ensures.count)
    t.new.slots.items s.new.slots.items w.new.slots.items t.new.values.items s.new.values.items w.new.values.items a.mine.items s.new.stack.items a.theirs.items t.new.stack.items c.requires.mine.0 c.requires.theirs.0
    t.ensures.names t.ensures.values t.ensures.count s.ensures.names s.ensures.values s.ensures.count c.renumber.new.places _ _ w.ensures.woven
    (c.renumber.ensures ∙ ap (λ (us : List _). renumbered_in us 0 c.self.inside.places) c.as_slice.ensures.value)
    (w.ensures.slot_room ∙ s.ensures.slot_room ∙ t.ensures.slot_room) (w.ensures.value_room ∙ s.ensures.value_room ∙ t.ensures.value_room)).sound
