use Rattle.std.proofs.Common.{◌≡◌, ◌≤◌, length, ◌∙◌, arith, rules, vec_capacity}
use Rattle.ac_pool.specs.Contents.{slot_count}
use Rattle.ac_vector.proofs.Slots.{grown_fits, grown_ok, grown_slots, slots_long}
use Rattle.ac_vector.proofs.array.Array.grow.Goals as goal

pub invariant_of-self-2 : goal.invariant_of-self-2
invariant_of-self-2 g c =
    let i = c.self.inside in let q = c.reserve.new.self in let ks = c.reserve_exact-2.new.self in let vs = c.reserve_exact.new.self in let len = c.len-len.result in let least = c.least_slots.result in
    let long : len ≡ length i.values.items = c.len-len.ensures ∙ i.values.ok.0 in
    let same : length i.slots.items ≡ length i.values.items = slots_long c.self.invariant c.self.view_is in
    let values_fit : least ≤ vec_capacity vs = search rules in
    let count = i.slots.ok.0 in let counted = c.reserve_exact-2.ensures.len in let room = c.in_ok-reserve_exact-2.ensures.ok in let enough = c.least_slots.ensures.bounds.0 in
    let slots_fit : least ≤ vec_capacity ks = omega (arith, same, long, count, counted, room, enough) in
    let values_had : slot_count i.places ≤ vec_capacity vs = search rules in
    let slots_had : slot_count i.places ≤ vec_capacity ks = search rules in
    (grown_slots c.self.invariant c.self.view_is c.reserve.result q c.args.n ks.items vs.items _ _ c.reserve.ensures.ok c.reserve.ensures.err c.reserve.ensures.sound c.reserve_exact-2.ensures.items c.reserve_exact.ensures.items
    (grown_fits c.self.invariant c.self.view_is c.reserve.result q c.args.n c.requires.short c.reserve.ensures.ok c.reserve.ensures.err len least _ long c.least_slots.ensures.slots slots_fit slots_had)
    (grown_fits c.self.invariant c.self.view_is c.reserve.result q c.args.n c.requires.short c.reserve.ensures.ok c.reserve.ensures.err len least _ long c.least_slots.ensures.slots values_fit values_had)).invariant

pub returns-clause-ok : goal.returns-clause-ok
returns-clause-ok g c =
    let i = c.self.inside in let q = c.reserve.new.self in let ks = c.reserve_exact-2.new.self in let vs = c.reserve_exact.new.self in
    grown_ok c.self.invariant c.self.view_is c.reserve.result q c.args.n c.requires.short c.reserve.ensures.ok _
    (grown_slots c.self.invariant c.self.view_is c.reserve.result q c.args.n ks.items vs.items (slot_count q) (slot_count q) c.reserve.ensures.ok c.reserve.ensures.err c.reserve.ensures.sound c.reserve_exact-2.ensures.items c.reserve_exact.ensures.items (omega arith) (omega arith)).view

pub returns-clause-sound : goal.returns-clause-sound
returns-clause-sound g c =
    let i = c.self.inside in let q = c.reserve.new.self in let ks = c.reserve_exact-2.new.self in let vs = c.reserve_exact.new.self in
    (grown_slots c.self.invariant c.self.view_is c.reserve.result q c.args.n ks.items vs.items (slot_count q) (slot_count q) c.reserve.ensures.ok c.reserve.ensures.err c.reserve.ensures.sound c.reserve_exact-2.ensures.items c.reserve_exact.ensures.items (omega arith) (omega arith)).sound
