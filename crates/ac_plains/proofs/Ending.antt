-- A script's outermost names at its end, whatever state it began on.
use Rattle.std.proofs.Common.{None, [], true}
use Rattle.ac_syntax.specs.Canonical.{propagates_in}
use Rattle.ac_rules.specs.Resolved.{resolve_decls}
use Rattle.ac_rules.specs.Scopes.{with_decls}
use Rattle.ac_meaning.specs.Environment.{at_rest}
use Rattle.ac_meaning.specs.Execution.{run_from}
use Rattle.ac_meaning.proofs.AsDeclared.{stays_declared}
use Rattle.ac_meaning.proofs.ExecGoesOn.{states_go_on}
use Rattle.ac_plains.specs.Resumed.{outermost, resumed}
use Rattle.ac_plains.specs.ValidStates.{EndsDeclared}
use Rattle.ac_plains.proofs.ResumedStates.{declares_fresh, resumes_from}

pub ends_declared : EndsDeclared
ends_declared = record {
  ends = λ orders script s checked spent valid matched.
      let decls = resolve_decls [] script.decls in
      let e = outermost script in
      let start = resumed script e s in
      let now = (run_from orders script start).after in
      let fresh = declares_fresh script checked in
      let begun = stays_declared.goes_on decls e start (resumes_from script e s fresh.fresh fresh.no_more valid matched).goes_on (stays_declared.decls decls spent) in
      let ran = stays_declared.goes_on decls start now (states_go_on.statements (propagates_in script) orders script.stmts (with_decls [] script.decls) [] None start) begun in
      stays_declared.goes_on decls now (at_rest now) (states_go_on.rested now) ran;
}
