use Rattle.std.proofs.Common.{◌≡◌, ◌↔◌, is_some, sym, ap, ◌∙◌, subst}
use Rattle.std.specs.Prelude.{IsTrue}
use Rattle.ac_pool.specs.Contents.{value_of}
use Rattle.ac_balance.specs.Indexed.{IsThere, IsSound}
use Rattle.ac_balance.specs.IndexFields.{rows_in}
use Rattle.ac_pool.proofs.Cuts.{has_live}
use Rattle.ac_balance.proofs.Indexes.{live_in, sound_of}
use Rattle.ac_balance.proofs.Taking.{copied_some}
use Rattle.ac_balance.proofs.index.OrderIndex.is_there.Goals as goal

pub returns-clause-there : goal.returns-clause-there
returns-clause-there g c =
    let l = c.self.inside.links in let a = c.args.name in let s = c.self.invariant in
    let live : c.is_some.result ≡ is_some (value_of l.nodes a) = c.is_some.ensures ∙ sym (copied_some c.get.result) ∙ ap is_some c.get.ensures in
    subst (λ x. IsTrue c.is_some.result ↔ IsThere x a) c.self.view_is (λ h. has_live a (rows_in l) (s.all a (sym live ∙ h)), λ h. live ∙ live_in g.K.Rank.is_less l s a h)

pub returns-clause-sound : goal.returns-clause-sound
returns-clause-sound g c = subst (λ x. IsSound g.K.Rank.is_less x) c.self.view_is (sound_of g.K.Rank.is_less c.self.inside.links c.self.invariant)
