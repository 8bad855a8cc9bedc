use Rattle.std.proofs.Common.{◌≡◌, ◌<◌, ◌^◌, ◌+◌, ◌-◌, vec_capacity, sym, ap, ◌∙◌, subst, arith}
use Rattle.ac_pool.specs.Contents.{contents, added, IsFresh, IsSound}
use Rattle.ac_pool.specs.PoolFields.{name_at, entries_in, GivesSlot}
use Rattle.ac_pool.proofs.Pooled.{sound, fresh, empty_count_within, is_next, IsPool-put, entries_in-put}
use Rattle.ac_pool.proofs.pool.Pool.put_reserved.Goals as goal

pub overflow_sub-unreached : goal.overflow_sub-unreached
overflow_sub-unreached g c = let a = c.self.inside in omega (arith, c.len.ensures.count, c.self.invariant.count, empty_count_within a.slots)

pub put-requires-clause-empty : goal.put-requires-clause-empty
put-requires-clause-empty g c =
    let a = c.self.inside in let h = c.self.invariant in let room = vec_capacity a.free in let some : 0 < a.spare = subst (λ x. 0 < x.spare) (sym c.self.view_is) c.requires.spare in
    let i = c.next_slot-slot.result in let left = c.next_slot-slot.new.given.items in
    let is = is_next a.slots a.free.items room a.spare a.next_serial h some i left (subst (λ n. GivesSlot a.free.items (n - a.spare) i left) c.len.ensures.count c.next_slot-slot.ensures.slot) in
    is.empty.1

pub invariant_of-self : goal.invariant_of-self
invariant_of-self g c =
    let a = c.self.inside in let h = c.self.invariant in let room = vec_capacity a.free in let some : 0 < a.spare = subst (λ x. 0 < x.spare) (sym c.self.view_is) c.requires.spare in
    let i = c.next_slot-slot.result in let left = c.next_slot-slot.new.given.items in
    let is = is_next a.slots a.free.items room a.spare a.next_serial h some i left (subst (λ n. GivesSlot a.free.items (n - a.spare) i left) c.len.ensures.count c.next_slot-slot.ensures.slot) in
    let unspent : a.next_serial < 2 ^ 64 - 1 = subst (λ x. x.next_serial < 2 ^ 64 - 1) (sym c.self.view_is) c.requires.unspent in
    let put = IsPool-put a.slots a.free.items room a.spare a.next_serial h some i left is c.args.value (omega arith) in
    rw (c.put.ensures, c.next_slot-slot.ensures.capacity) put

pub returns-clause-fresh : goal.returns-clause-fresh
returns-clause-fresh g c =
    let a = c.self.inside in let h = c.self.invariant in let room = vec_capacity a.free in let some : 0 < a.spare = subst (λ x. 0 < x.spare) (sym c.self.view_is) c.requires.spare in
    let i = c.next_slot-slot.result in let left = c.next_slot-slot.new.given.items in
    let is = is_next a.slots a.free.items room a.spare a.next_serial h some i left (subst (λ n. GivesSlot a.free.items (n - a.spare) i left) c.len.ensures.count c.next_slot-slot.ensures.slot) in
    subst (λ x. IsFresh x (name_at i a.next_serial)) c.self.view_is (fresh a.slots a.free.items room a.spare a.next_serial h i is.empty.1)

pub returns-clause-added : goal.returns-clause-added
returns-clause-added g c =
    let a = c.self.inside in let h = c.self.invariant in let room = vec_capacity a.free in let some : 0 < a.spare = subst (λ x. 0 < x.spare) (sym c.self.view_is) c.requires.spare in
    let i = c.next_slot-slot.result in let left = c.next_slot-slot.new.given.items in
    let is = is_next a.slots a.free.items room a.spare a.next_serial h some i left (subst (λ n. GivesSlot a.free.items (n - a.spare) i left) c.len.ensures.count c.next_slot-slot.ensures.slot) in
    subst (λ x. contents (entries_in c.put.new.self) (a.next_serial + 1) (a.spare - 1) ≡ added x (name_at i a.next_serial) c.args.value) c.self.view_is
    (ap (λ m. contents m (a.next_serial + 1) (a.spare - 1)) (ap entries_in c.put.ensures ∙ entries_in-put a.slots a.free.items room a.spare a.next_serial h i left is c.args.value))

pub returns-clause-sound : goal.returns-clause-sound
returns-clause-sound g c =
    let a = c.self.inside in let h = c.self.invariant in let room = vec_capacity a.free in let some : 0 < a.spare = subst (λ x. 0 < x.spare) (sym c.self.view_is) c.requires.spare in
    let i = c.next_slot-slot.result in let left = c.next_slot-slot.new.given.items in
    let is = is_next a.slots a.free.items room a.spare a.next_serial h some i left (subst (λ n. GivesSlot a.free.items (n - a.spare) i left) c.len.ensures.count c.next_slot-slot.ensures.slot) in
    let unspent : a.next_serial < 2 ^ 64 - 1 = subst (λ x. x.next_serial < 2 ^ 64 - 1) (sym c.self.view_is) c.requires.unspent in
    let put = IsPool-put a.slots a.free.items room a.spare a.next_serial h some i left is c.args.value (omega arith) in
    subst (λ cells. IsSound (contents (entries_in cells) (a.next_serial + 1) (a.spare - 1))) (sym c.put.ensures)
    (sound _ left room (a.spare - 1) (a.next_serial + 1) put)

pub put-requires-clause-serial : goal.put-requires-clause-serial
put-requires-clause-serial g c = c.self.invariant.next.0
