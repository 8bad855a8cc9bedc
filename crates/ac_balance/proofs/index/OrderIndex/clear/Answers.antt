use Rattle.std.proofs.Common.{◌≡◌, None, subst}
use Rattle.ac_balance.specs.Indexed.{cleared}
use Rattle.ac_balance.specs.TreeFields.{links}
use Rattle.ac_balance.proofs.Indexes.{view_of, cleared_index, sound_of}
use Rattle.ac_balance.proofs.index.OrderIndex.clear.Goals as goal

pub invariant_of-self : goal.invariant_of-self
invariant_of-self g c = (cleared_index g.K.Rank.is_less c.self.inside.links c.self.invariant c.clear.new.self c.clear.ensures.cleared c.clear.ensures.sound).0

pub returns-clause-cleared : goal.returns-clause-cleared
returns-clause-cleared g c =
    subst (λ x. view_of (links c.clear.new.self None) ≡ cleared x) c.self.view_is (cleared_index g.K.Rank.is_less c.self.inside.links c.self.invariant c.clear.new.self c.clear.ensures.cleared c.clear.ensures.sound).1

pub returns-clause-sound : goal.returns-clause-sound
returns-clause-sound g c = sound_of g.K.Rank.is_less (links c.clear.new.self None) (cleared_index g.K.Rank.is_less c.self.inside.links c.self.invariant c.clear.new.self c.clear.ensures.cleared c.clear.ensures.sound).0
