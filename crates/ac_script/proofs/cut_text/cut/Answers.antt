use Rattle.std.proofs.Common.{◌∙◌, sym, arith, get_or, length-drop}
use Rattle.ac_script.proofs.Cutting.{more_tokens, line_small, all_cut, stopped, front_some}
use Rattle.ac_script.proofs.cut_text.cut.Goals as goal

pub returns-in_default-2-clause-placed : goal.returns-in_default-2-clause-placed
returns-in_default-2-clause-placed c = (stopped c.loop-rest.placed.items c.loop-rest.line c.loop-rest.rest.now c.args.text.now c.in-len1-up.len_at_least (sym c.in_default-2.is ∙ c.in_ok-len.ensures.piece) c.loop-rest.invariant.told).0

pub returns-in_default-2-clause-malformed : goal.returns-in_default-2-clause-malformed
returns-in_default-2-clause-malformed c = (stopped c.loop-rest.placed.items c.loop-rest.line c.loop-rest.rest.now c.args.text.now c.in-len1-up.len_at_least (sym c.in_default-2.is ∙ c.in_ok-len.ensures.piece) c.loop-rest.invariant.told).1

pub loop-rest-preserved : goal.loop-rest-preserved
loop-rest-preserved c = record {
  told = rw (c.split_at.ensures.back, c.line_after-line.ensures) (more_tokens c.loop-rest.placed.items c.note.new.placed.items c.loop-rest.line c.loop-rest.rest.now c.args.text.now c.in-Some.field-0 (sym c.in_ok-len.ensures.piece ∙ c.in-Some.is) c.in_ok-note.ensures c.loop-rest.invariant.told);
  line_small = let front = front_some c.loop-rest.rest.now c.in-Some.field-0 (sym c.in_ok-len.ensures.piece ∙ c.in-Some.is) in
      rw (c.split_at.ensures.back, c.line_after-line.ensures)
      (omega (arith, length-drop c.in-Some.field-0.len c.loop-rest.rest.now, line_small c.loop-rest.line (get_or c.loop-rest.rest.now 0 0), front.0, front.1, c.loop-rest.invariant.line_small));
}

pub returns-clause-placed : goal.returns-clause-placed
returns-clause-placed c = (all_cut c.loop-rest.placed.items c.loop-rest.line c.loop-rest.rest.now c.args.text.now (omega (arith, c.in_default.len_below)) c.loop-rest.invariant.told).0

pub returns-clause-malformed : goal.returns-clause-malformed
returns-clause-malformed c = (all_cut c.loop-rest.placed.items c.loop-rest.line c.loop-rest.rest.now c.args.text.now (omega (arith, c.in_default.len_below)) c.loop-rest.invariant.told).1
