use Rattle.ac_vector.proofs.Arrays.{fresh_name}
use Rattle.ac_vector.proofs.Slots.{appended_slots}
use Rattle.ac_vector.proofs.array.Array.append.Goals as goal

pub invariant_of-self : goal.invariant_of-self
invariant_of-self g c =
    let put = c.put_reserved-name in
    (appended_slots c.self.invariant c.self.view_is put.result c.args.v c.len-place.result put.new.self c.push_reserved.new.self.items c.push_reserved-2.new.self.items _ _
    put.ensures.fresh c.len-place.ensures.count put.ensures.added put.ensures.sound c.requires.spare c.push_reserved.ensures.items c.push_reserved-2.ensures.items c.push_reserved.ensures.capacity c.push_reserved-2.ensures.capacity).invariant

pub returns-clause-fresh : goal.returns-clause-fresh
returns-clause-fresh g c = fresh_name c.self.invariant.array c.self.view_is c.put_reserved-name.result c.put_reserved-name.ensures.fresh

pub returns-clause-inserted : goal.returns-clause-inserted
returns-clause-inserted g c =
    let put = c.put_reserved-name in
    (appended_slots c.self.invariant c.self.view_is put.result c.args.v c.len-place.result put.new.self c.push_reserved.new.self.items c.push_reserved-2.new.self.items _ _
    put.ensures.fresh c.len-place.ensures.count put.ensures.added put.ensures.sound c.requires.spare c.push_reserved.ensures.items c.push_reserved-2.ensures.items c.push_reserved.ensures.capacity c.push_reserved-2.ensures.capacity).view

pub returns-clause-sound : goal.returns-clause-sound
returns-clause-sound g c =
    let put = c.put_reserved-name in
    (appended_slots c.self.invariant c.self.view_is put.result c.args.v c.len-place.result put.new.self c.push_reserved.new.self.items c.push_reserved-2.new.self.items _ _
    put.ensures.fresh c.len-place.ensures.count put.ensures.added put.ensures.sound c.requires.spare c.push_reserved.ensures.items c.push_reserved-2.ensures.items c.push_reserved.ensures.capacity c.push_reserved-2.ensures.capacity).sound
