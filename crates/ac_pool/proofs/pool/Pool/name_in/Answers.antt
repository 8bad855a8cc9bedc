use Rattle.std.proofs.Common.{◌≡◌, Some, None, sym, ◌∙◌, subst, vec_capacity}
use Rattle.ac_pool.specs.Contents.{IsSound}
use Rattle.ac_pool.specs.Link.{name_in}
use Rattle.ac_pool.specs.PoolFields.{name_at}
use Rattle.ac_pool.proofs.Pooled.{sound, name_found, no_name}
use Rattle.ac_pool.proofs.pool.Pool.name_in.Goals as goal

pub returns-in-Some-clause-name : goal.returns-in-Some-clause-name
returns-in-Some-clause-name g c =
    let a = c.self.inside in let h = c.self.invariant in let name = name_at c.args.slot c.in-Some.serial in
    subst (λ x. Some name ≡ name_in x c.args.slot) c.self.view_is (name_found a.slots a.free.items (vec_capacity a.free) a.spare a.next_serial h c.in-Some.serial c.args.slot (sym c.serial.ensures ∙ c.in-Some.is))

pub returns-in-Some-clause-sound : goal.returns-in-Some-clause-sound
returns-in-Some-clause-sound g c =
    let a = c.self.inside in let h = c.self.invariant in subst (λ x. IsSound x) c.self.view_is (sound a.slots a.free.items (vec_capacity a.free) a.spare a.next_serial h)

pub returns-in-None-clause-name : goal.returns-in-None-clause-name
returns-in-None-clause-name g c =
    let a = c.self.inside in let h = c.self.invariant in
    subst (λ x. None ≡ name_in x c.args.slot) c.self.view_is (no_name a.slots a.free.items (vec_capacity a.free) a.spare a.next_serial h c.args.slot (sym c.serial.ensures ∙ c.in-None.is))

pub returns-in-None-clause-sound : goal.returns-in-None-clause-sound
returns-in-None-clause-sound g c =
    let a = c.self.inside in let h = c.self.invariant in subst (λ x. IsSound x) c.self.view_is (sound a.slots a.free.items (vec_capacity a.free) a.spare a.next_serial h)
