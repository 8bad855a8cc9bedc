use Rattle.std.proofs.Common.{ap, sym, ◌∙◌}
use Rattle.ac_rules.specs.Scopes.{first_task}
use Rattle.ac_rules.proofs.Outcomes.{passed_on}
use Rattle.ac_rules.proofs.FirstFaults.{decls_stopped, behind_decls, faultless, first_fault}
use Rattle.ac_check.proofs.TaskScopes.{decls_first}
use Rattle.ac_check.proofs.walk.walk_script.Goals as goal

pub walk_statements-requires : goal.walk_statements-requires
walk_statements-requires c =
    sym (ap first_task c.in_ok-decls.ensures.scope ∙ decls_first c.new-walk.result.scope c.items.result.now ∙ ap first_task c.new-walk.ensures.scope)

pub returns-in_err-decls-clause-refused : goal.returns-in_err-decls-clause-refused
returns-in_err-decls-clause-refused c line kind e =
    let walk = c.new-walk.result in
    decls_stopped c.args.script.now walk.room walk.scope c.items.result.now c.new-walk.ensures.room c.new-walk.ensures.scope c.items.ensures line kind
    (passed_on c.from_residual.result c.walk_decls.result c.in_err-decls.field-0.0 _ c.from_residual.ensures.1 c.in_err-decls.was c.walk_decls.ensures.refused line kind e)

pub returns-in_err-stmts-clause-refused : goal.returns-in_err-stmts-clause-refused
returns-in_err-stmts-clause-refused c line kind e =
    let walk = c.new-walk.result in
    let behind = c.in_ok-decls.ensures in
    let exit = c.from_residual-in_err-stmts in
    first_fault c.args.script.now line kind
    (behind_decls c.args.script.now walk.room walk.scope c.items.result.now c.new-walk.ensures.room c.new-walk.ensures.scope c.items.ensures _ _ behind.ok behind.scope
    ∙ passed_on exit.result c.walk_statements.result c.in_err-stmts.field-0.0 _ exit.ensures.1 c.in_err-stmts.was c.walk_statements.ensures.refused line kind e)

pub returns-clause-ok : goal.returns-clause-ok
returns-clause-ok c =
    let walk = c.new-walk.result in
    let behind = c.in_ok-decls.ensures in
    faultless _ _
    (behind_decls c.args.script.now walk.room walk.scope c.items.result.now c.new-walk.ensures.room c.new-walk.ensures.scope c.items.ensures _ _ behind.ok behind.scope
    ∙ c.in_ok-stmts.ensures.ok)
