use Rattle.std.proofs.Common.{◌≡◌, ◌≤◌, ◌^◌, ◌+◌, vec_capacity, sym, ap, ◌∙◌, subst, arith}
use Rattle.ac_pool.specs.Contents.{contents, slot_count, IsSound}
use Rattle.ac_pool.specs.PoolFields.{entries_in}
use Rattle.ac_pool.proofs.Entries.{entries_in-grown}
use Rattle.ac_pool.proofs.Pooled.{sound, slot_count-cells, empty_count_within, IsPool-grow}
use Rattle.ac_pool.proofs.pool.Pool.grow.Goals as goal

pub grow-requires : goal.grow-requires
grow-requires g c =
    let a = c.self.inside in let h = c.self.invariant in let fits : slot_count (contents (entries_in a.slots) a.next_serial a.spare) + c.args.by ≤ 2 ^ 30 = subst (λ x. slot_count x + c.args.by ≤ 2 ^ 30) (sym c.self.view_is) c.requires in omega (arith, slot_count-cells a.slots a.free.items (vec_capacity a.free) a.spare a.next_serial h)

pub returns-clause-ok : goal.returns-clause-ok
returns-clause-ok g c =
    let a = c.self.inside in let h = c.self.invariant in let at = a.spare + c.args.by in
    subst (λ x. contents (entries_in c.grow.new.self) a.next_serial at ≡ contents x.entries x.next_serial (x.spare + c.args.by)) c.self.view_is
    (ap (λ m. contents m a.next_serial at) (ap entries_in c.in_ok-grow.ensures.ok ∙ entries_in-grown a.slots c.args.by))

pub overflow_sub-len : goal.overflow_sub-len
overflow_sub-len g c =
    let a = c.self.inside in let h = c.self.invariant in omega (arith, c.len-len.ensures.count, c.len.ensures, a.free.ok, h.listed, h.count, empty_count_within a.slots)

pub invariant_of-self-2 : goal.invariant_of-self-2
invariant_of-self-2 g c =
    let a = c.self.inside in let h = c.self.invariant in let room = vec_capacity a.free in let more = vec_capacity c.reserve_exact.new.self in
    let fits : slot_count (contents (entries_in a.slots) a.next_serial a.spare) + c.args.by ≤ 2 ^ 30 = subst (λ x. slot_count x + c.args.by ≤ 2 ^ 30) (sym c.self.view_is) c.requires in
    let given = empty_count_within a.slots in
    let grown = IsPool-grow a.slots a.free.items room a.spare a.next_serial h more c.args.by (omega (arith, slot_count-cells a.slots a.free.items room a.spare a.next_serial h))
    (omega (arith, c.in_ok-reserve_exact.ensures.ok, c.len-len.ensures.count, c.len.ensures, a.free.ok, h.listed, h.count, given)) in
    rw (c.in_ok-grow.ensures.ok, c.in_ok-reserve_exact.ensures.items) grown

pub returns-in_err-reserve_exact-clause-sound : goal.returns-in_err-reserve_exact-clause-sound
returns-in_err-reserve_exact-clause-sound g c = let a = c.self.inside in sound a.slots a.free.items (vec_capacity a.free) a.spare a.next_serial c.self.invariant

pub returns-in_err-grow-clause-sound : goal.returns-in_err-grow-clause-sound
returns-in_err-grow-clause-sound g c =
    let a = c.self.inside in
    subst (λ cells. IsSound (contents (entries_in cells) a.next_serial a.spare)) (sym c.in_err-grow.ensures.err) (sound a.slots a.free.items (vec_capacity a.free) a.spare a.next_serial c.self.invariant)

pub returns-clause-sound : goal.returns-clause-sound
returns-clause-sound g c =
    let a = c.self.inside in let h = c.self.invariant in let room = vec_capacity a.free in let more = vec_capacity c.reserve_exact.new.self in
    let fits : slot_count (contents (entries_in a.slots) a.next_serial a.spare) + c.args.by ≤ 2 ^ 30 = subst (λ x. slot_count x + c.args.by ≤ 2 ^ 30) (sym c.self.view_is) c.requires in
    let given = empty_count_within a.slots in
    let grown = IsPool-grow a.slots a.free.items room a.spare a.next_serial h more c.args.by (omega (arith, slot_count-cells a.slots a.free.items room a.spare a.next_serial h))
    (omega (arith, c.in_ok-reserve_exact.ensures.ok, c.len-len.ensures.count, c.len.ensures, a.free.ok, h.listed, h.count, given)) in
    subst (λ cells. IsSound (contents (entries_in cells) a.next_serial (a.spare + c.args.by))) (sym c.in_ok-grow.ensures.ok) (sound _ a.free.items more (a.spare + c.args.by) a.next_serial grown)
