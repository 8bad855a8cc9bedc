use Rattle.std.proofs.Common.{List, drop, ap, ◌∙◌}
use Rattle.ac_vector.specs.ArrayFields.{renumbered_in}
use Rattle.ac_vector.proofs.Slots.{turned_slots}
use Rattle.ac_vector.proofs.array.Array.turn.Goals as goal

pub invariant_of-self : goal.invariant_of-self
invariant_of-self g c =
    let ns = c.turn_vector-2 in let vs = c.turn_vector in
    (turned_slots c.self.invariant c.self.view_is c.args.place c.args.count c.requires ns.new.items.items vs.new.items.items c.renumber.new.places _ _ ns.ensures.items vs.ensures.items
    (c.renumber.ensures ∙ ap (λ (us : List _). renumbered_in (drop c.args.place us) c.args.place c.self.inside.places) c.as_slice.ensures.value) ns.ensures.capacity vs.ensures.capacity).invariant

pub returns-clause-turned : goal.returns-clause-turned
returns-clause-turned g c =
    let ns = c.turn_vector-2 in let vs = c.turn_vector in
    (turned_slots c.self.invariant c.self.view_is c.args.place c.args.count c.requires ns.new.items.items vs.new.items.items c.renumber.new.places _ _ ns.ensures.items vs.ensures.items
    (c.renumber.ensures ∙ ap (λ (us : List _). renumbered_in (drop c.args.place us) c.args.place c.self.inside.places) c.as_slice.ensures.value) ns.ensures.capacity vs.ensures.capacity).view

pub returns-clause-sound : goal.returns-clause-sound
returns-clause-sound g c =
    let ns = c.turn_vector-2 in let vs = c.turn_vector in
    (turned_slots c.self.invariant c.self.view_is c.args.place c.args.count c.requires ns.new.items.items vs.new.items.items c.renumber.new.places _ _ ns.ensures.items vs.ensures.items
    (c.renumber.ensures ∙ ap (λ (us : List _). renumbered_in (drop c.args.place us) c.args.place c.self.inside.places) c.as_slice.ensures.value) ns.ensures.capacity vs.ensures.capacity).sound
