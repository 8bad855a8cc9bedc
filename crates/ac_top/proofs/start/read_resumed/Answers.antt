use Rattle.std.proofs.Common.{◌+◌, ap, Err, length, drop, sym, subst, inr, refl, true, arith}
use Rattle.std.specs.Prelude.{IfErr, IfOk}
use Rattle.ac_top.specs.Beginnings.{parts, script_line}
use Rattle.ac_top.specs.Inputs.{is_without_script}
use Rattle.ac_top.proofs.LinePlaces.{line_within}
use Rattle.ac_top.proofs.Parts.{resumed_read, resumed_refused, state_refused}
use Rattle.ac_top.proofs.start.read_resumed.Goals as goal

pub returns-in_default-clause-refused : goal.returns-in_default-clause-refused
returns-in_default-clause-refused c = inr (is_without_script refl (c.first_line.ensures.absent c.in_default.is))

pub split_at-requires : goal.split_at-requires
split_at-requires c = omega (arith, line_within script_line c.args.input.now c.in-Some.at c.in-Some.ensures.found.here)

pub returns-in-Ok-clause-read : goal.returns-in-Ok-clause-read
returns-in-Ok-clause-read c =
    resumed_read c.args.input.now _ c.in-Some.at c.in-Ok.state c.in-Some.ensures.found c.in-Ok.ensures.read c.split_at.ensures.back c.start_on.result c.start_on.ensures.read

pub returns-in-Ok-clause-refused : goal.returns-in-Ok-clause-refused
returns-in-Ok-clause-refused c =
    resumed_refused c.args.input.now _ c.in-Some.at c.in-Ok.state c.in-Some.ensures.found c.in-Ok.ensures.read c.split_at.ensures.back c.start_on.result c.start_on.ensures.refused

pub returns-in-Err-clause-refused : goal.returns-in-Err-clause-refused
returns-in-Err-clause-refused c =
    state_refused c.args.input.now c.in-Some.at _ c.in-Some.ensures.found c.in-Err.ensures.refused c.in-Err.fault c.state_fault.result refl c.state_fault.ensures
