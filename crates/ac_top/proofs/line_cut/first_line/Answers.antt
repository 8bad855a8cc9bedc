use Rattle.std.proofs.Common.{sym, subst}
use Rattle.std.proofs.lemmas.Bool.{both_ways}
use Rattle.ac_top.proofs.LinePlaces.{none_before_next, none_up_to_end}
use Rattle.ac_top.specs.LineCuts.{BeginsWithLine}
use Rattle.ac_top.proofs.line_cut.first_line.Goals as goal

pub loop-at-preserved : goal.loop-at-preserved
loop-at-preserved c = record {
  within = c.next_line-at.ensures.within;
  starts = c.next_line-at.ensures.starts;
  none_before = none_before_next c.args.line.now c.args.text.now c.loop-at.at _ c.loop-at.invariant.none_before
      (λ here. both_ways _ c.if-begins_with_line.false (c.begins_with_line.ensures.no (subst (BeginsWithLine c.args.line.now) (sym c.split_at.ensures.back) here)))
      c.next_line-at.ensures.between;
}

pub returns-clause-absent : goal.returns-clause-absent
returns-clause-absent c none = none_up_to_end c.args.line.now c.args.text.now c.loop-at.at c.loop-at-test.false c.loop-at.invariant.none_before
