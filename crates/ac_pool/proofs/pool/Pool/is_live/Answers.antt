use Rattle.std.proofs.Common.{◌≡◌, get_or, None, Some, refl, sym, ap, ◌∙◌, subst, vec_capacity}
use Rattle.std.proofs.lemmas.Bool.{eqb-true, eq-eqb, false≢true}
use Rattle.std.proofs.lemmas.Option.{same_Some}
use Rattle.ac_pool.specs.Cell.{serial_of}
use Rattle.ac_pool.specs.Contents.{contents, IsLive, IsSound}
use Rattle.ac_pool.specs.PoolFields.{entries_in}
use Rattle.ac_pool.proofs.Pooled.{sound, live_serial, live_from, none_live}
use Rattle.ac_pool.proofs.pool.Pool.is_live.Goals as goal

pub returns-in-Some-clause-live : goal.returns-in-Some-clause-live
returns-in-Some-clause-live g c =
    let a = c.self.inside in let h = c.self.invariant in let name = c.args.name in let n = c.in-Some.serial in
    let is : serial_of (get_or a.slots name.slot None) ≡ Some n = sym c.serial.ensures ∙ c.in-Some.is in (
      λ t. subst (λ x. IsLive x name) c.self.view_is (live_from a.slots a.free.items (vec_capacity a.free) a.spare a.next_serial h name (is ∙ ap Some (eqb-true n name.serial t))),
      λ live. let old : IsLive (contents (entries_in a.slots) a.next_serial a.spare) name = subst (λ x. IsLive x name) (sym c.self.view_is) live in
          eq-eqb n name.serial (same_Some n name.serial (sym is ∙ live_serial a.slots a.free.items (vec_capacity a.free) a.spare a.next_serial h name old)),
    )

pub returns-in-None-clause-live : goal.returns-in-None-clause-live
returns-in-None-clause-live g c =
    let a = c.self.inside in let h = c.self.invariant in let name = c.args.name in (
      λ t. absurd (false≢true t),
      λ live. let old : IsLive (contents (entries_in a.slots) a.next_serial a.spare) name = subst (λ x. IsLive x name) (sym c.self.view_is) live in
          absurd (none_live a.slots a.free.items (vec_capacity a.free) a.spare a.next_serial h name.slot (sym c.serial.ensures ∙ c.in-None.is) name old refl),
    )

pub returns-in-Some-clause-sound : goal.returns-in-Some-clause-sound
returns-in-Some-clause-sound g c =
    let a = c.self.inside in let h = c.self.invariant in subst (λ x. IsSound x) c.self.view_is (sound a.slots a.free.items (vec_capacity a.free) a.spare a.next_serial h)

pub returns-in-None-clause-sound : goal.returns-in-None-clause-sound
returns-in-None-clause-sound g c =
    let a = c.self.inside in let h = c.self.invariant in subst (λ x. IsSound x) c.self.view_is (sound a.slots a.free.items (vec_capacity a.free) a.spare a.next_serial h)
