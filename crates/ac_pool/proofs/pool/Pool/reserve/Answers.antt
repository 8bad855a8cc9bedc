use Rattle.std.proofs.Common.{◌≡◌, ◌≤◌, ◌^◌, ◌+◌, ◌-◌, length, sym, ap, ◌∙◌, subst, arith, vec_capacity}
use Rattle.std.specs.Result.{OnOk}
use Rattle.ac_base.specs.Growth.{pow8}
use Rattle.ac_pool.specs.Contents.{contents, live_count, slot_count, reserved, IsSound}
use Rattle.ac_pool.specs.PoolFields.{entries_in}
use Rattle.ac_pool.proofs.ContentsLaws.{reserved_grown}
use Rattle.ac_pool.proofs.Pooled.{sound, slot_count-cells, live_count-cells, empty_count_within}
use Rattle.ac_pool.proofs.pool.Pool.reserve.Goals as goal

pub returns-then-wanted-self-clause-sound : goal.returns-then-wanted-self-clause-sound
returns-then-wanted-self-clause-sound g c =
    let a = c.self.inside in let h = c.self.invariant in subst (λ x. IsSound x) c.self.view_is (sound a.slots a.free.items (vec_capacity a.free) a.spare a.next_serial h)

pub overflow_sub-len : goal.overflow_sub-len
overflow_sub-len g c =
    let a = c.self.inside in let h = c.self.invariant in omega (arith, c.len-len.ensures.count, h.count, empty_count_within a.slots)

pub least_slots-slots-requires : goal.least_slots-slots-requires
least_slots-slots-requires g c =
    let a = c.self.inside in let h = c.self.invariant in let fits : live_count (contents (entries_in a.slots) a.next_serial a.spare) + c.args.n ≤ 2 ^ 30 = subst (λ x. live_count x + c.args.n ≤ 2 ^ 30) (sym c.self.view_is) c.requires in let live = live_count-cells a.slots a.free.items (vec_capacity a.free) a.spare a.next_serial h in let len = c.len-len.ensures.count in omega arith

pub grow-requires : goal.grow-requires
grow-requires g c =
    let a = c.self.inside in let h = c.self.invariant in let fits : live_count (contents (entries_in a.slots) a.next_serial a.spare) + c.args.n ≤ 2 ^ 30 = subst (λ x. live_count x + c.args.n ≤ 2 ^ 30) (sym c.self.view_is) c.requires in let live = live_count-cells a.slots a.free.items (vec_capacity a.free) a.spare a.next_serial h in let len = c.len-len.ensures.count in let b = c.least_slots-slots.ensures.bounds in let all : slot_count c.args.self.now ≡ length a.slots = subst (λ x. slot_count x ≡ length a.slots) c.self.view_is (slot_count-cells a.slots a.free.items (vec_capacity a.free) a.spare a.next_serial h) in
    omega (arith, b.1, b.0, c.if-wanted-self.false)

pub returns-clause-ok : goal.returns-clause-ok
returns-clause-ok g c =
    let a = c.self.inside in let h = c.self.invariant in let fits : live_count (contents (entries_in a.slots) a.next_serial a.spare) + c.args.n ≤ 2 ^ 30 = subst (λ x. live_count x + c.args.n ≤ 2 ^ 30) (sym c.self.view_is) c.requires in let live = live_count-cells a.slots a.free.items (vec_capacity a.free) a.spare a.next_serial h in let len = c.len-len.ensures.count in let n = c.args.n in let s = c.least_slots-slots.result in
    let live_is : c.len-len.result - a.spare ≡ live_count (contents (entries_in a.slots) a.next_serial a.spare) = omega arith in
    let s_is : s ≡ pow8 (live_count (contents (entries_in a.slots) a.next_serial a.spare) + n) = c.least_slots-slots.ensures.slots ∙ ap (λ m. pow8 (m + n)) live_is in
    let b = c.least_slots-slots.ensures.bounds in
    let spare : a.spare + (s - c.len-len.result) ≡ pow8 (live_count (contents (entries_in a.slots) a.next_serial a.spare) + n) - live_count (contents (entries_in a.slots) a.next_serial a.spare) = omega (arith, c.if-wanted-self.false, b.0) in
    let is : contents (entries_in a.slots) a.next_serial (a.spare + (s - c.len-len.result)) ≡ reserved (contents (entries_in a.slots) a.next_serial a.spare) n = ap (contents (entries_in a.slots) a.next_serial) spare ∙ sym (reserved_grown (contents (entries_in a.slots) a.next_serial a.spare) n c.if-wanted-self.false) in
    subst (λ x. OnOk c.grow.result (c.grow.new.self ≡ x)) (subst (λ x. contents x.entries x.next_serial (x.spare + (s - c.len-len.result)) ≡ reserved x n) c.self.view_is is) c.grow.ensures.ok
