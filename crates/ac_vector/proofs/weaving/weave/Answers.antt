use Rattle.std.proofs.Common.{◌∙◌}
use Rattle.ac_vector.specs.Stacks.{stacked}
use Rattle.ac_vector.proofs.Weaves.{weaving_more, weaving_end}
use Rattle.ac_vector.proofs.weaving.weave.Goals as goal

pub loop-line-preserved : goal.loop-line-preserved
loop-line-preserved g c =
    let l = c.loop-line in let ks = c.push_reserved in let vs = c.push_reserved-in-Some in let next = c.next_line.new in (
      weaving_more g.T.Rank.is_less (stacked c.args.mine.items) (stacked c.args.theirs.items) l.slots.items ks.new.self.items l.values.items vs.new.self.items c.in-Some.line ks.ensures.items vs.ensures.items
          (stacked l.mine.items) (stacked l.theirs.items) (stacked next.mine.items) (stacked next.theirs.items) l.invariant.0 c.in-Some.ensures,
      ks.ensures.capacity ∙ l.invariant.1,
      vs.ensures.capacity ∙ l.invariant.2,
    )

pub returns-clause-woven : goal.returns-clause-woven
returns-clause-woven g c =
    let l = c.loop-line in let next = c.next_line.new in
    weaving_end g.T.Rank.is_less (stacked c.args.mine.items) (stacked c.args.theirs.items) l.slots.items l.values.items (stacked l.mine.items) (stacked l.theirs.items) (stacked next.mine.items) (stacked next.theirs.items) l.invariant.0 c.in_default.ensures
