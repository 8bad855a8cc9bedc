use Rattle.std.proofs.Common.{sym, ◌∙◌}
use Rattle.ac_ordered.proofs.sorted.SortedRank.less.Goals as goal

pub returns-clause-answer : goal.returns-clause-answer
returns-clause-answer g c = c.less.ensures.answer ∙ (λ i. g.S.Key.Rank.is_less (c.key.ensures i) (c.key-2.ensures i)) ∙ sym (g.met.S.Ranked.less_by_key c.self.inside.row c.other.inside.row) ∙ (λ i. g.S.Ranked.is_less (c.self.view_is i) (c.other.view_is i))
