-- How statements end.
use Rattle.std.proofs.Common.{false, None, refl}
use Rattle.ac_syntax.specs.Code.{stop, one, block, handled}
use Rattle.ac_rules.specs.Scopes.{behind_block}
use Rattle.ac_rules.specs.Resolved.{no_statement, a_command, a_block}
use Rattle.ac_meaning.specs.Execution.{commanded, block_on, resolved_behind}
use Rattle.ac_meaning.specs.Laws.{EndsStayNormal, NoneRunsBehind}

pub ends_stay_normal : EndsStayNormal
ends_stay_normal orders no_statement guards e = refl
ends_stay_normal orders (a_command simple rest) guards e = ends_stay_normal orders rest guards (commanded guards e simple).after
ends_stay_normal orders (a_block head body rest) guards e =
    ends_stay_normal orders rest guards (block_on (λ held. resolved_behind false orders body held None) guards orders body e head).after

pub none_runs_behind : NoneRunsBehind
none_runs_behind propagates orders stop scope guards raised e = refl
none_runs_behind propagates orders (one simple rest) scope guards raised e = none_runs_behind propagates orders rest scope guards raised e
none_runs_behind propagates orders (block head body rest) scope guards raised e =
    none_runs_behind propagates orders rest (behind_block scope head) guards raised e
none_runs_behind propagates orders (handled line body handlers rest) scope guards raised e = none_runs_behind propagates orders rest scope guards raised e
