use Rattle.std.proofs.Common.{◌≡◌, ℕ, set, Some, sym, ap, ◌∙◌, subst, inl, vec_capacity}
use Rattle.std.proofs.lemmas.Option.{same_Some}
use Rattle.ac_pool.specs.Cell.{serial_in, serial_at}
use Rattle.ac_pool.specs.Contents.{contents, value_of, IsLive, with_value}
use Rattle.ac_pool.specs.PoolFields.{entries_in}
use Rattle.ac_pool.proofs.Cells.{within}
use Rattle.ac_pool.proofs.Entries.{value_in, value_in_same, get-entries_in, entries_in-some}
use Rattle.ac_pool.proofs.Pooled.{live_cell, IsPool-write}
use Rattle.ac_pool.proofs.pool.Pool.get_mut.Goals as goal

pub get_mut-requires : goal.get_mut-requires
get_mut-requires g c =
    let a = c.self.inside in let h = c.self.invariant in let live : IsLive (contents (entries_in a.slots) a.next_serial a.spare) c.args.name = c.is_live.ensures.live.0 c.if-is_live.true in let k = live_cell a.slots a.free.items (vec_capacity a.free) a.spare a.next_serial h c.args.name live in let i = c.args.name.slot in let e : ℕ × g.row.T.Denot = (c.args.name.serial, k.0) in (e, k.1)

pub invariant_of-self-lent : goal.invariant_of-self-lent
invariant_of-self-lent g c =
    λ w. let a = c.self.inside in let h = c.self.invariant in IsPool-write a.slots a.free.items (vec_capacity a.free) a.spare a.next_serial h c.args.name.slot (serial_at a.slots c.args.name.slot) c.get_mut.result.now w c.get_mut.ensures.value

pub returns-then-is_live : goal.returns-then-is_live
returns-then-is_live g c =
    let a = c.self.inside in let h = c.self.invariant in let live : IsLive (contents (entries_in a.slots) a.next_serial a.spare) c.args.name = c.is_live.ensures.live.0 c.if-is_live.true in let k = live_cell a.slots a.free.items (vec_capacity a.free) a.spare a.next_serial h c.args.name live in let i = c.args.name.slot in let e : ℕ × g.row.T.Denot = (c.args.name.serial, k.0) in let name = c.args.name in let v = c.get_mut.result.now in let is : serial_at a.slots i ≡ name.serial = ap serial_in k.1 in
    let written : (w : g.row.T.Denot) → contents (entries_in (set a.slots i (Some (serial_at a.slots i, w)))) a.next_serial a.spare ≡ with_value c.args.self.now name w = λ w.
    subst (λ x. contents (entries_in (set a.slots i (Some (serial_at a.slots i, w)))) a.next_serial a.spare ≡ with_value x name w) c.self.view_is
    (ap (λ m. contents m a.next_serial a.spare) (ap (λ s. entries_in (set a.slots i (Some (s, w)))) is
    ∙ entries_in-some a.slots i name.serial w (within a.slots i e k.1) (λ d full. ap (λ (p : ℕ × g.row.T.Denot). p.0) (same_Some d e (sym full ∙ k.1))))) in (
      (λ j. inl (c.get_mut.result.ghost_name, λ w. written w j)),
      record {
        writes_back = tt;
        value = subst (λ x. Some v ≡ value_of x name) c.self.view_is (sym (get-entries_in a.slots name ∙ ap (λ o. value_in o name.serial) c.get_mut.ensures.value ∙ value_in_same (serial_at a.slots i, v) name.serial is));
      },
    )
