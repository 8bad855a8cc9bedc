use Rattle.std.proofs.Common.{◌≡◌, sym, ap, ◌∙◌, subst, is_some}
use Rattle.ac_pool.specs.Contents.{value_of}
use Rattle.ac_chain.specs.Rows.{IsSound, IsLive}
use Rattle.ac_chain.proofs.Chains.{copied_some, chain_sound, live_in, live_from}
use Rattle.ac_chain.proofs.chain.Chain.is_live.Goals as goal

pub returns-clause-live : goal.returns-clause-live
returns-clause-live g c =
    let l = c.self.inside.links in let a = c.args.name in let s = c.self.invariant in
    let same = copied_some c.get.result in
    let is : c.is_some.result ≡ is_some (value_of l.nodes a) = c.is_some.ensures ∙ sym same ∙ ap is_some c.get.ensures in (
      λ h. subst (λ x. IsLive x a) c.self.view_is (live_from l s a (sym is ∙ h)),
      λ h. is ∙ live_in l s a (subst (λ x. IsLive x a) (sym c.self.view_is) h),
    )

pub returns-clause-sound : goal.returns-clause-sound
returns-clause-sound g c = subst (λ x. IsSound x) c.self.view_is (chain_sound c.self.inside.links c.self.invariant)
