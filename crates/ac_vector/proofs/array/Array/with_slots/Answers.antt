use Rattle.std.proofs.Common.{arith}
use Rattle.ac_vector.proofs.Slots.{emptied_slots}
use Rattle.ac_vector.proofs.array.Array.with_slots.Goals as goal

pub invariant_of-result : goal.invariant_of-result
invariant_of-result g c =
    let ns = c.in_ok-with_capacity-2 in let vs = c.in_ok-with_capacity in let q = c.in_ok-with_slots in
    (emptied_slots ns.field-0.items vs.field-0.items q.field-0 _ _ 1 c.args.n ns.ensures.items vs.ensures.items q.ensures.empty q.ensures.sound (omega (arith, ns.ensures.exact)) (omega (arith, vs.ensures.exact))).invariant

pub returns-clause-empty : goal.returns-clause-empty
returns-clause-empty g c =
    let ns = c.in_ok-with_capacity-2 in let vs = c.in_ok-with_capacity in let q = c.in_ok-with_slots in
    (emptied_slots ns.field-0.items vs.field-0.items q.field-0 c.args.n c.args.n 1 c.args.n ns.ensures.items vs.ensures.items q.ensures.empty q.ensures.sound (omega arith) (omega arith)).view

pub returns-clause-sound : goal.returns-clause-sound
returns-clause-sound g c =
    let ns = c.in_ok-with_capacity-2 in let vs = c.in_ok-with_capacity in let q = c.in_ok-with_slots in
    (emptied_slots ns.field-0.items vs.field-0.items q.field-0 c.args.n c.args.n 1 c.args.n ns.ensures.items vs.ensures.items q.ensures.empty q.ensures.sound (omega arith) (omega arith)).sound
