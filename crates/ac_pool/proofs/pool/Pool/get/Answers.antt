use Rattle.std.proofs.Common.{◌≡◌, ℕ, Some, sym, ap, ◌∙◌, subst, vec_capacity}
use Rattle.ac_pool.specs.Cell.{serial_in, serial_at}
use Rattle.ac_pool.specs.Contents.{contents, value_of, IsLive}
use Rattle.ac_pool.specs.PoolFields.{entries_in}
use Rattle.ac_pool.proofs.Entries.{value_in, value_in_same, get-entries_in}
use Rattle.ac_pool.proofs.Pooled.{live_cell}
use Rattle.ac_pool.proofs.pool.Pool.get.Goals as goal

pub get-requires : goal.get-requires
get-requires g c =
    let a = c.self.inside in let h = c.self.invariant in let live : IsLive (contents (entries_in a.slots) a.next_serial a.spare) c.args.name = subst (λ x. IsLive x c.args.name) (sym c.self.view_is) (c.is_live.ensures.live.0 (c.if-is_live.true)) in let k = live_cell a.slots a.free.items (vec_capacity a.free) a.spare a.next_serial h c.args.name live in let i = c.args.name.slot in let e : ℕ × g.row.T.Denot = (c.args.name.serial, k.0) in (e, k.1)

pub returns-then-is_live : goal.returns-then-is_live
returns-then-is_live g c =
    let a = c.self.inside in let h = c.self.invariant in let live : IsLive (contents (entries_in a.slots) a.next_serial a.spare) c.args.name = subst (λ x. IsLive x c.args.name) (sym c.self.view_is) (c.is_live.ensures.live.0 (c.if-is_live.true)) in let k = live_cell a.slots a.free.items (vec_capacity a.free) a.spare a.next_serial h c.args.name live in let i = c.args.name.slot in let e : ℕ × g.row.T.Denot = (c.args.name.serial, k.0) in let v = c.get.result.now in
    subst (λ x. Some v ≡ value_of x c.args.name) c.self.view_is (sym (get-entries_in a.slots c.args.name ∙ ap (λ o. value_in o c.args.name.serial) c.get.ensures ∙ value_in_same (serial_at a.slots i, v) c.args.name.serial (ap serial_in k.1)))
