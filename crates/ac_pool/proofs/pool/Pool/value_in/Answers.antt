use Rattle.std.proofs.Common.{◌≡◌, get_or, None, option_copied, refl, sym, ◌∙◌, subst, vec_capacity}
use Rattle.ac_pool.specs.Link.{value_in}
use Rattle.ac_pool.proofs.Pooled.{value_kept}
use Rattle.ac_pool.proofs.pool.Pool.value_in.Goals as goal

pub returns : goal.returns
returns g c =
    let a = c.self.inside in let h = c.self.invariant in let o = c.value.result in
    subst (λ x. option_copied o ≡ value_in x c.args.slot) c.self.view_is (c.value.ensures ∙ sym (value_kept a.slots a.free.items (vec_capacity a.free) a.spare a.next_serial h c.args.slot (get_or a.slots c.args.slot None) refl))
