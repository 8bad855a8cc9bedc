use Rattle.std.proofs.Common.{◌≡◌, ℕ, ◌+◌, [], ◌∷◌, ◌++◌, Some, sym, ap, ◌∙◌, subst, arith, vec_capacity}
use Rattle.ac_pool.specs.Cell.{serial_in, serial_at}
use Rattle.ac_pool.specs.Contents.{contents, value_of, IsLive, taken, IsSound}
use Rattle.ac_pool.specs.PoolFields.{entries_in}
use Rattle.ac_pool.proofs.ContentsLaws.{taken_live}
use Rattle.ac_pool.proofs.Entries.{value_in, value_in_same, get-entries_in, entries_in-none}
use Rattle.ac_pool.proofs.Pooled.{sound, live_cell, room_for_slot, empty_count_within, IsPool-take}
use Rattle.ac_pool.proofs.pool.Pool.take.Goals as goal

pub take-value-requires : goal.take-value-requires
take-value-requires g c =
    let a = c.self.inside in let h = c.self.invariant in let live : IsLive (contents (entries_in a.slots) a.next_serial a.spare) c.args.name = subst (λ x. IsLive x c.args.name) (sym c.self.view_is) (c.is_live.ensures.live.0 (c.if-not-is_live.false)) in let k = live_cell a.slots a.free.items (vec_capacity a.free) a.spare a.next_serial h c.args.name live in let i = c.args.name.slot in let e : ℕ × g.row.T.Denot = (c.args.name.serial, k.0) in (e, k.1)

pub push_reserved-requires : goal.push_reserved-requires
push_reserved-requires g c =
    let a = c.self.inside in let h = c.self.invariant in let live : IsLive (contents (entries_in a.slots) a.next_serial a.spare) c.args.name = subst (λ x. IsLive x c.args.name) (sym c.self.view_is) (c.is_live.ensures.live.0 (c.if-not-is_live.false)) in let k = live_cell a.slots a.free.items (vec_capacity a.free) a.spare a.next_serial h c.args.name live in let i = c.args.name.slot in let e : ℕ × g.row.T.Denot = (c.args.name.serial, k.0) in omega (arith, (room_for_slot a.slots a.free.items (vec_capacity a.free) a.spare a.next_serial h i e k.1).0, a.free.ok)

pub overflow_add-self : goal.overflow_add-self
overflow_add-self g c =
    let a = c.self.inside in let h = c.self.invariant in record { fits = omega (arith, h.count, h.few, empty_count_within a.slots) }

pub invariant_of-self : goal.invariant_of-self
invariant_of-self g c =
    let a = c.self.inside in let h = c.self.invariant in let live : IsLive (contents (entries_in a.slots) a.next_serial a.spare) c.args.name = subst (λ x. IsLive x c.args.name) (sym c.self.view_is) (c.is_live.ensures.live.0 (c.if-not-is_live.false)) in let k = live_cell a.slots a.free.items (vec_capacity a.free) a.spare a.next_serial h c.args.name live in let i = c.args.name.slot in let e : ℕ × g.row.T.Denot = (c.args.name.serial, k.0) in rw (c.take-value.ensures.cells, c.push_reserved.ensures.items, c.push_reserved.ensures.capacity) (IsPool-take a.slots a.free.items (vec_capacity a.free) a.spare a.next_serial h i e k.1)

pub returns-clause-value : goal.returns-clause-value
returns-clause-value g c =
    let a = c.self.inside in let h = c.self.invariant in let live : IsLive (contents (entries_in a.slots) a.next_serial a.spare) c.args.name = subst (λ x. IsLive x c.args.name) (sym c.self.view_is) (c.is_live.ensures.live.0 (c.if-not-is_live.false)) in let k = live_cell a.slots a.free.items (vec_capacity a.free) a.spare a.next_serial h c.args.name live in let i = c.args.name.slot in let e : ℕ × g.row.T.Denot = (c.args.name.serial, k.0) in let v = c.take-value.result in
    subst (λ x. Some v ≡ value_of x c.args.name) c.self.view_is (sym (get-entries_in a.slots c.args.name ∙ ap (λ o. value_in o c.args.name.serial) c.take-value.ensures.value ∙ value_in_same (serial_at a.slots i, v) c.args.name.serial (ap serial_in k.1)))

pub returns-clause-taken : goal.returns-clause-taken
returns-clause-taken g c =
    let a = c.self.inside in let h = c.self.invariant in let live : IsLive (contents (entries_in a.slots) a.next_serial a.spare) c.args.name = subst (λ x. IsLive x c.args.name) (sym c.self.view_is) (c.is_live.ensures.live.0 (c.if-not-is_live.false)) in let k = live_cell a.slots a.free.items (vec_capacity a.free) a.spare a.next_serial h c.args.name live in let i = c.args.name.slot in let e : ℕ × g.row.T.Denot = (c.args.name.serial, k.0) in subst (λ x. contents (entries_in c.take-value.new.self) a.next_serial (a.spare + 1) ≡ taken x c.args.name) c.self.view_is
    (ap (λ m. contents m a.next_serial (a.spare + 1)) (ap entries_in c.take-value.ensures.cells ∙ entries_in-none a.slots i e k.1) ∙ sym (taken_live (contents (entries_in a.slots) a.next_serial a.spare) c.args.name live))

pub returns-clause-sound : goal.returns-clause-sound
returns-clause-sound g c =
    let a = c.self.inside in let h = c.self.invariant in let live : IsLive (contents (entries_in a.slots) a.next_serial a.spare) c.args.name = subst (λ x. IsLive x c.args.name) (sym c.self.view_is) (c.is_live.ensures.live.0 (c.if-not-is_live.false)) in let k = live_cell a.slots a.free.items (vec_capacity a.free) a.spare a.next_serial h c.args.name live in let i = c.args.name.slot in let e : ℕ × g.row.T.Denot = (c.args.name.serial, k.0) in subst (λ cells. IsSound (contents (entries_in cells) a.next_serial (a.spare + 1))) (sym c.take-value.ensures.cells)
    (sound _ (a.free.items ++ i ∷ []) (vec_capacity a.free) (a.spare + 1) a.next_serial (IsPool-take a.slots a.free.items (vec_capacity a.free) a.spare a.next_serial h i e k.1))
