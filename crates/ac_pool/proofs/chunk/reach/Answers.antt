use Rattle.std.proofs.Common.{◌<◌, length, get_or, Some, None, refl, ap, ◌∙◌, inl, inr, arith}
use Rattle.std.proofs.lemmas.List.{get_or-set_same}
use Rattle.ac_pool.specs.Places.{value_of_place}
use Rattle.ac_pool.proofs.Written.{reaches_none, reaches_step, reaches_end, value_back}
use Rattle.ac_pool.proofs.chunk.reach.Goals as goal

pub loop-at-init : goal.loop-at-init
loop-at-init g c = record { same = refl; from = omega arith; ends = inr refl; reaches = reaches_none c.args.block.now.cells c.args.reached }

pub put-requires-clause-within : goal.put-requires-clause-within
put-requires-clause-within g c = omega (arith, c.loop-at-test.true, c.requires.within)

pub put-requires-clause-bare : goal.put-requires-clause-bare
put-requires-clause-bare g c = let h = c.loop-at.invariant in ap value_of_place (h.reaches.outside c.loop-at.at (inr (omega arith)) ∙ c.requires.fresh c.loop-at.at h.from)

pub take-value-requires : goal.take-value-requires
take-value-requires g c =
    let h = c.loop-at.invariant in let now = c.loop-at.block.cells in let there : c.loop-at.at < length now = omega (arith, h.reaches.long, c.requires.long, c.loop-at-test.true, c.requires.within) in
    ((1, c.loop-at.value), ap (λ l. get_or l c.loop-at.at None) c.put.ensures ∙ get_or-set_same now c.loop-at.at (Some (1, Some c.loop-at.value)) None there)

pub loop-at-preserved : goal.loop-at-preserved
loop-at-preserved g c =
    let h = c.loop-at.invariant in let now = c.loop-at.block.cells in let there : c.loop-at.at < length now = omega (arith, h.reaches.long, c.requires.long, c.loop-at-test.true, c.requires.within) in
    let full = ap (λ l. get_or l c.loop-at.at None) c.put.ensures ∙ get_or-set_same now c.loop-at.at (Some (1, Some c.loop-at.value)) None there in record {
      same = value_back _ _ _ _ full c.take-value.ensures.value ∙ h.same;
      from = omega (arith, h.from);
      ends = inl (omega (arith, c.loop-at-test.true));
      reaches = reaches_step c.args.block.now.cells now c.put.new.self.cells c.take-value.new.self.cells c.args.reached c.loop-at.at (Some (1, Some c.loop-at.value)) h.from there c.put.ensures c.take-value.ensures.freed h.reaches;
    }

pub returns-clause-value : goal.returns-clause-value
returns-clause-value g c = c.loop-at.invariant.same

pub returns-clause-cells : goal.returns-clause-cells
returns-clause-cells g c =
    let h = c.loop-at.invariant in reaches_end c.args.block.now.cells c.loop-at.block.cells c.args.reached c.loop-at.at c.args.index h.reaches (omega (arith, c.loop-at-test.false)) h.ends
