use Rattle.std.proofs.Common.{◌≡◌, ap, arith, get_or}
use Rattle.ac_rules.specs.Resolved.{no_statement, resolved_size}
use Rattle.ac_rules.specs.ResolvedStatements.{resolved_before}
use Rattle.ac_rules.specs.declared.resolved.ResolvedHandler.{ResolvedHandler}
use Rattle.ac_rules.specs.declared.resolved.ResolvedStmt.{ResolvedStmt}
use Rattle.ac_rules.proofs.SizesAmong.{size_among, handler_among}
use Rattle.ac_check.proofs.having.+having.Goals as goal

pub has_tasks-one_has_tasks-requires : goal.has_tasks-one_has_tasks-requires
has_tasks-one_has_tasks-requires t c =
    let stmts = c.items-stmt-items.result.now in
    let stmt = c.stmt-item.result in
    let same : resolved_size (resolved_before stmt no_statement) ≡ resolved_size (resolved_before (get_or stmts c.loop-stmt.stmt-index stmt) no_statement) =
    ap (λ (s : ResolvedStmt). resolved_size (resolved_before s no_statement)) c.stmt-item.is in
    (omega (arith, same, size_among stmts c.loop-stmt.stmt-index stmt c.loop-stmt-test.true, ap resolved_size c.items-stmt-items.ensures), tt)

pub some_has_tasks-has_tasks-requires : goal.some_has_tasks-has_tasks-requires
some_has_tasks-has_tasks-requires t c =
    let handlers = c.items-handler-items.result.now in
    let handler = c.handler-item.result in
    let same : resolved_size handler.body ≡ resolved_size (get_or handlers c.loop-handler.handler-index handler).body =
    ap (λ (h : ResolvedHandler). resolved_size h.body) c.handler-item.is in
    (omega (arith, same, handler_among handlers c.loop-handler.handler-index handler c.loop-handler-test.true, ap resolved_size c.items-handler-items.ensures), tt)
