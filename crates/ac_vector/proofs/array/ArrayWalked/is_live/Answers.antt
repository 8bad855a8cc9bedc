use Rattle.std.proofs.Common.{◌≡◌, sym, ap, ◌∙◌, is_some}
use Rattle.ac_pool.specs.Contents.{value_of}
use Rattle.ac_chain.proofs.Chains.{copied_some}
use Rattle.ac_vector.proofs.Arrays.{old_stands, live_in, live_from}
use Rattle.ac_vector.proofs.array.ArrayWalked.is_live.Goals as goal

pub returns : goal.returns
returns g c =
    let s = old_stands c.self.invariant.array c.self.view_is in let a = c.args.name in
    let is : c.is_some.result ≡ is_some (value_of c.self.inside.places a) = c.is_some.ensures ∙ sym (copied_some c.get.result) ∙ ap is_some c.get.ensures in
    record { live = (λ h. live_from s a (sym is ∙ h), λ h. is ∙ live_in s a h) }
