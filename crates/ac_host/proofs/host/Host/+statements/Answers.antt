use Rattle.std.proofs.Common.{◌≡◌, ◌+◌, ◌++◌, List, [], take, drop, length, get_or, refl, sym, ap, subst, ◌∙◌, arith, Some, None, Ok, Err}
use Rattle.ac_rules.specs.Resolved.{resolved_size, no_statement, calls_at, sets_at, sums_at}
use Rattle.ac_rules.specs.ResolvedStatements.{resolved_before, resolved_of, resolved_handlers_of}
use Rattle.ac_rules.specs.declared.resolved.ResolvedDecl.{ResolvedDecl}
use Rattle.ac_rules.specs.declared.resolved.ResolvedStmt.{ResolvedStmt}
use Rattle.ac_rules.specs.declared.resolved.ResolvedStmt.TheVariants.{Call, Declare, Handled}
use Rattle.ac_meaning.specs.Environment.{leaving, guarded_at, after_decls}
use Rattle.ac_meaning.specs.Execution.{End, ending, passed_on, followed, resolved_behind, exec_resolved}
use Rattle.ac_base.specs.declared.reason.Reason.TheVariants.{NamesSpent}
use Rattle.ac_host.specs.Ready.{IsUnder}
use Rattle.ac_objects.specs.Blocks.{holding, releasing, names_of_key, guards_of_view_key}
use Rattle.ac_objects.specs.Standing.{counts_of}
use Rattle.ac_objects.specs.ViewHeads.{viewed_object, guards_of_head, with_viewed}
use Rattle.ac_objects.specs.World.{state_of}
use Rattle.ac_host.proofs.ByOrders.{on_ok_always, told_by_some, tells_none, tells_as, tells_behind, tells_on, tells_off, tells_before, tells_then, tells_more, tells_stopped}
use Rattle.ac_host.proofs.Counting.{same_blocks, same_count, holding_count, releasing_count, decls_count, commanded_blocks, ending_blocks}
use Rattle.ac_host.proofs.Blocks.{ran_inside, ran_as, ran_broke, ran_all, ran_line, many_under, counts_before, decls_begin, declare_comes, declare_spent, declare_back}
use Rattle.ac_host.specs.Running.{handled_of, statement_outcome, key_ending}
use Rattle.ac_host.specs.Writing.{Ran, WroteSoFar}
use Rattle.ac_host.proofs.Holding.{counts_back, leaving_counts}
use Rattle.ac_rules.proofs.SizesAmong.{size_among}
use Rattle.ac_host.proofs.Steps.{statement_told, statements_next, statements_none, statements_behind, ready_statement, no_handler_taken, handler_taken, handler_smaller, exec_passed, handled_unasked, end_passed, normal_end}
use Rattle.ac_host.proofs.Standing.{ready_exec}
use Rattle.ac_host.proofs.Telling.{wrote_nothing, broke_nothing, so_far_none, so_far_more, so_far_broke}
use Rattle.ac_host.proofs.Turns.{held}
use Rattle.ac_host.proofs.Updating.{ran_then, ran_stopped, ran_dropped}
use Rattle.ac_host.proofs.Viewing.{block_taken, block_under, block_left, block_viewing, viewed_count, block_comes, block_refused, block_nowhere, block_still, block_goes_on}
use Rattle.ac_host.proofs.host.Host.+statements.Goals as goal
use Rattle.ac_host.proofs.host.Host.+statements.Answers.Loops as loops
mod Loops

-- Statements

pub run_statements-run_statement-requires : goal.run_statements-run_statement-requires
run_statements-run_statement-requires g t c κs within =
    let stmts = c.items-stmt-items.result.now in
    let stmt = c.stmt-item.result in
    let same : resolved_size (resolved_before stmt no_statement) ≡ resolved_size (resolved_before (get_or stmts c.loop-stmt.stmt-index stmt) no_statement) =
    ap (λ (s : ResolvedStmt). resolved_size (resolved_before s no_statement)) c.stmt-item.is in
    let r = c.requires.ready in
    let now = (told_by_some c.loop-stmt.invariant.told).1 r.guards r.env r.stands in (
      omega (arith, same, size_among stmts c.loop-stmt.stmt-index stmt c.loop-stmt-test.true, ap resolved_size c.items-stmt-items.ensures),
      (
        within.0,
        (
          within.1,
          (
            c.requires.sound,
            record { guards = r.guards; env = now.env; stands = now.under_guards },
          ),
        ),
      ),
    )

pub run_statements-loop-stmt-init : goal.run_statements-loop-stmt-init
run_statements-loop-stmt-init g t c =
    let sink = g.K.Sink in
    let p = c.args.propagates in
    record {
      told = tells_none refl (λ orders guards e u. record {
        env = e;
        under_guards = u;
        so_far =
            subst (λ code. WroteSoFar sink.held sink.faults sink.room sink.counts_failures c.args.sink.now c.args.sink.now (exec_resolved p orders code guards e)
            (exec_resolved p orders c.args.stmts.now guards e)) (sym c.items-stmt-items.ensures)
            (so_far_none sink.held sink.faults sink.room sink.counts_failures c.args.sink.now (exec_resolved p orders c.args.stmts.now guards e));
      });
      leaves = record { persists = λ x known. known; counts = refl };
    }

pub run_statements-loop-stmt-preserved : goal.run_statements-loop-stmt-preserved
run_statements-loop-stmt-preserved g t c =
    let sink = g.K.Sink in
    let p = c.args.propagates in
    let stmts = c.items-stmt-items.result.now in
    let i = c.loop-stmt.stmt-index in
    let stmt = c.stmt-item.result in
    let before = c.loop-stmt.invariant in
    let ok = c.in_ok-ended.ensures in
    let ended = c.in_ok-ended.ended in
    let none = normal_end c.passed_on-passed.result (sym c.is_some.ensures ∙ c.if-is_some.false) in
    record {
      told = tells_more before.told ok.runs (λ orders so_far runs guards e u.
          let now = so_far guards e u in
          let ran = runs guards now.env now.under_guards in
          let r = statement_outcome stmt p orders guards now.env in
          record {
            env = r.after;
            under_guards = record { is = ran.after; ready = ready_statement p orders stmt guards now.env now.under_guards.ready };
            so_far =
                so_far_more sink.held sink.faults sink.room sink.counts_failures c.args.sink.now c.loop-stmt.sink c.run_statement.new.sink
                (exec_resolved p orders (resolved_of (drop i stmts)) guards now.env) (exec_resolved p orders c.args.stmts.now guards e)
                (passed_on p r) (resolved_behind p orders (resolved_of (drop (i + 1) stmts)) guards) None
                (statements_next p orders stmts i stmt c.loop-stmt-test.true c.stmt-item.is guards now.env)
                (end_passed p r ended c.passed_on-passed.result ran.ended c.passed_on-passed.ensures ∙ none) now.so_far ran.writes;
          });
      leaves = record {
        persists = λ x known. ok.leaves.persists x (before.leaves.persists x known);
        counts = ok.leaves.counts ∙ before.leaves.counts;
      };
    }

pub run_statements-returns-in_err-ended-clause-runs : goal.run_statements-returns-in_err-ended-clause-runs
run_statements-returns-in_err-ended-clause-runs g t c =
    let sink = g.K.Sink in
    let p = c.args.propagates in
    let stmts = c.items-stmt-items.result.now in
    let i = c.loop-stmt.stmt-index in
    let stmt = c.stmt-item.result in
    tells_stopped _ _ c.loop-stmt.invariant.told c.in_err-ended.ensures.runs c.from_residual.ensures.1 (λ orders so_far runs guards e u.
    let now = so_far guards e u in
    let ran = runs guards now.env now.under_guards in
    ran_broke sink.held sink.faults sink.room sink.counts_failures c.args.sink.now c.run_statement.new.sink (state_of c.run_statement.new.self.objects) guards
    (exec_resolved p orders c.args.stmts.now guards e) c.in_err-ended.field-0.0 c.from_residual.result c.from_residual.ensures.1
    (so_far_broke sink.held sink.faults sink.room sink.counts_failures c.args.sink.now c.loop-stmt.sink c.run_statement.new.sink
    (exec_resolved p orders (resolved_of (drop i stmts)) guards now.env) (exec_resolved p orders c.args.stmts.now guards e)
    (passed_on p (statement_outcome stmt p orders guards now.env)) (resolved_behind p orders (resolved_of (drop (i + 1) stmts)) guards) _
    (statements_next p orders stmts i stmt c.loop-stmt-test.true c.stmt-item.is guards now.env) now.so_far ran.writes))

-- a statement that raised, where that goes on
pub run_statements-returns-then-is_some-clause-runs : goal.run_statements-returns-then-is_some-clause-runs
run_statements-returns-then-is_some-clause-runs g t c =
    let sink = g.K.Sink in
    let p = c.args.propagates in
    let stmts = c.items-stmt-items.result.now in
    let i = c.loop-stmt.stmt-index in
    let stmt = c.stmt-item.result in
    let ended = c.in_ok-ended.ended in
    let passed = c.passed_on-passed.result in
    let some = sym c.is_some.ensures ∙ c.if-is_some.true in
    tells_on (tells_then c.loop-stmt.invariant.told c.in_ok-ended.ensures.runs (λ orders so_far runs guards e u.
    let now = so_far guards e u in
    let ran = runs guards now.env now.under_guards in
    let r = statement_outcome stmt p orders guards now.env in
    let whole = exec_resolved p orders c.args.stmts.now guards e in
    ran_all sink.held sink.faults sink.room sink.counts_failures c.args.sink.now c.run_statement.new.sink (state_of c.run_statement.new.self.objects) guards
    passed r.after whole ran.after
    (subst (λ left. WroteSoFar sink.held sink.faults sink.room sink.counts_failures c.args.sink.now c.run_statement.new.sink left whole)
    (statements_behind p orders (drop (i + 1) stmts) guards passed r.after some)
    (so_far_more sink.held sink.faults sink.room sink.counts_failures c.args.sink.now c.loop-stmt.sink c.run_statement.new.sink
    (exec_resolved p orders (resolved_of (drop i stmts)) guards now.env) whole
    (passed_on p r) (resolved_behind p orders (resolved_of (drop (i + 1) stmts)) guards) passed
    (statements_next p orders stmts i stmt c.loop-stmt-test.true c.stmt-item.is guards now.env)
    (end_passed p r ended passed ran.ended c.passed_on-passed.ensures) now.so_far ran.writes))))
    refl (λ orders runs. runs)

pub run_statements-returns-clause-runs : goal.run_statements-returns-clause-runs
run_statements-returns-clause-runs g t c =
    let sink = g.K.Sink in
    let p = c.args.propagates in
    let stmts = c.items-stmt-items.result.now in
    let i = c.loop-stmt.stmt-index in
    tells_on c.loop-stmt.invariant.told refl (λ orders so_far guards e u.
    let now = so_far guards e u in
    let none = statements_none p orders stmts i c.loop-stmt-test.false guards now.env in
    let all = subst (λ left. WroteSoFar sink.held sink.faults sink.room sink.counts_failures c.args.sink.now c.loop-stmt.sink left
    (exec_resolved p orders c.args.stmts.now guards e)) none now.so_far in
    ran_all sink.held sink.faults sink.room sink.counts_failures c.args.sink.now c.loop-stmt.sink (state_of c.loop-stmt.self.objects) guards None now.env
    (exec_resolved p orders c.args.stmts.now guards e) now.under_guards.is all)

-- Handlers

pub run_handled-run_handler-requires : goal.run_handled-run_handler-requires
run_handled-run_handler-requires g t c κs within =
    let r = c.requires.ready in
    let code = c.args.body.now in
    let some = told_by_some c.in_ok-ended.ensures.runs in
    let ran = some.1 r.guards r.env r.stands in (
      omega arith,
      (
        within.0,
        (
          within.1,
          (
            c.requires.sound,
            record {
              guards = r.guards;
              env = (exec_resolved c.args.propagates some.0 code r.guards r.env).after;
              stands = record { is = ran.after; ready = ready_exec c.args.propagates some.0 code r.guards r.env r.stands.ready };
            },
          ),
        ),
      ),
    )

pub run_handled-returns-in_err-ended-clause-runs : goal.run_handled-returns-in_err-ended-clause-runs
run_handled-returns-in_err-ended-clause-runs g t c =
    let sink = g.K.Sink in
    let p = c.args.propagates in
    let handlers = resolved_handlers_of c.args.handlers.now in
    let exit = c.from_residual.ensures.1 in
    tells_off c.from_residual.result _ c.in_err-ended.ensures.runs exit (λ orders runs guards e u.
    let ran = runs guards e u in
    let stopped = ran_stopped sink.held sink.faults sink.room sink.counts_failures c.args.sink.now c.run_statements.new.sink c.run_statements.new.self.objects guards
    (passed_on p (exec_resolved p orders c.args.body.now guards e)) (resolved_behind p orders handlers guards) c.in_err-ended.field-0.0 ran.writes in
    ran_broke sink.held sink.faults sink.room sink.counts_failures c.args.sink.now c.run_statements.new.sink (state_of c.run_statements.new.self.objects) guards
    (handled_of p orders c.args.body.now handlers guards e) c.in_err-ended.field-0.0 c.from_residual.result exit stopped.writes)

pub run_handled-returns-in-None-clause-runs : goal.run_handled-returns-in-None-clause-runs
run_handled-returns-in-None-clause-runs g t c =
    let sink = g.K.Sink in
    let p = c.args.propagates in
    tells_on c.in_ok-ended.ensures.runs refl (λ orders runs guards e u.
    let ran = runs guards e u in
    let r = exec_resolved p orders c.args.body.now guards e in
    ran_as sink.held sink.faults sink.room sink.counts_failures c.args.sink.now c.run_statements.new.sink c.run_statements.new.self.objects guards r _ (Ok None)
    (handled_unasked p orders c.args.body.now c.args.handlers.now guards e (sym ran.ended ∙ c.in-None.is))
    (record { writes = ran.writes; after = ran.after; ended = sym c.in-None.is ∙ ran.ended }))

pub run_handled-returns-in-Some-clause-runs : goal.run_handled-returns-in-Some-clause-runs
run_handled-returns-in-Some-clause-runs g t c =
    let sink = g.K.Sink in
    let p = c.args.propagates in
    let handlers = resolved_handlers_of c.args.handlers.now in
    tells_then c.in_ok-ended.ensures.runs c.run_handler.ensures.runs (λ orders runs then guards e u.
    let ran = runs guards e u in
    let r = exec_resolved p orders c.args.body.now guards e in
    let next = resolved_behind p orders handlers guards in
    let stands : IsUnder c.run_statements.new.self.objects guards r.after = record { is = ran.after; ready = ready_exec p orders c.args.body.now guards e u.ready } in
    ran_as sink.held sink.faults sink.room sink.counts_failures c.args.sink.now c.run_handler.new.sink c.run_handler.new.self.objects guards (followed r next) _ c.run_handler.result
    (ap (λ first. followed first next) (sym (exec_passed p orders c.args.body.now guards e)))
    (ran_then sink.held sink.faults sink.room sink.counts_failures c.args.sink.now c.run_statements.new.sink c.run_handler.new.sink c.run_handler.new.self.objects guards
    r next (Some c.in-Some.raised) c.run_handler.result (sym c.in-Some.is ∙ ran.ended) ran.writes (then guards r.after stands)))

pub run_handler-run_statements-requires : goal.run_handler-run_statements-requires
run_handler-run_statements-requires g t c κs within =
    let smaller = handler_smaller (resolved_handlers_of c.args.handlers.now) c.in-Some.body.now c.args.raised (sym c.in-Some.ensures) in
    (omega (arith, smaller), (within.0, (within.1, (c.requires.sound, c.requires.ready))))

pub run_handler-returns-in-Some-clause-runs : goal.run_handler-returns-in-Some-clause-runs
run_handler-returns-in-Some-clause-runs g t c =
    let sink = g.K.Sink in
    tells_behind c.run_statements.ensures.runs refl (λ orders runs guards e u.
    ran_as sink.held sink.faults sink.room sink.counts_failures c.args.sink.now c.run_statements.new.sink c.run_statements.new.self.objects guards _ _ c.run_statements.result
    (handler_taken c.args.propagates orders (resolved_handlers_of c.args.handlers.now) c.in-Some.body.now guards c.args.raised e (sym c.in-Some.ensures))
    (runs guards e u))

pub run_handler-returns-in-None-clause-runs : goal.run_handler-returns-in-None-clause-runs
run_handler-returns-in-None-clause-runs g t c =
    let sink = g.K.Sink in
    tells_none refl (λ orders guards e u.
    ran_as sink.held sink.faults sink.room sink.counts_failures c.args.sink.now c.args.sink.now c.args.self.now.objects guards (ending (Some c.args.raised) [] e) _
    (Ok (Some c.args.raised))
    (sym (no_handler_taken c.args.propagates orders (resolved_handlers_of c.args.handlers.now) guards c.args.raised e (sym c.in-None.ensures)))
    (record { writes = wrote_nothing sink.held sink.faults sink.room sink.counts_failures c.args.sink.now; after = u.is; ended = refl }))

-- Commands begin no block of tasks

pub run_statement-returns-in-Call-clause-runs : goal.run_statement-returns-in-Call-clause-runs
run_statement-returns-in-Call-clause-runs g t c =
    let sink = g.K.Sink in
    let r = c.requires.ready in
    let here = c.in-Call in
    let runs = c.run_call.ensures.runs in
    statement_told sink.held sink.faults sink.room sink.counts_failures c.args.propagates (ap (Call here.line here.target here.object here.operation) c.items.ensures ∙ sym here.is)
    (tells_none
    (commanded_blocks sink.held sink.faults sink.room sink.counts_failures c.run_call.new.self.objects (calls_at here.line here.target here.object here.operation c.items.result.now)
    r.guards r.env r.stands (runs r.guards r.env r.stands)) (λ orders. runs))

pub run_statement-returns-in-Set-clause-runs : goal.run_statement-returns-in-Set-clause-runs
run_statement-returns-in-Set-clause-runs g t c =
    let sink = g.K.Sink in
    let r = c.requires.ready in
    let here = c.in-Set in
    let runs = c.run_set.ensures.runs in
    statement_told sink.held sink.faults sink.room sink.counts_failures c.args.propagates (sym here.is)
    (tells_none
    (commanded_blocks sink.held sink.faults sink.room sink.counts_failures c.run_set.new.self.objects (sets_at here.line here.target here.from) r.guards r.env r.stands
    (runs r.guards r.env r.stands)) (λ orders. runs))

pub run_statement-returns-in-Sum-clause-runs : goal.run_statement-returns-in-Sum-clause-runs
run_statement-returns-in-Sum-clause-runs g t c =
    let sink = g.K.Sink in
    let r = c.requires.ready in
    let here = c.in-Sum in
    let runs = c.run_sum.ensures.runs in
    statement_told sink.held sink.faults sink.room sink.counts_failures c.args.propagates (sym here.is)
    (tells_none
    (commanded_blocks sink.held sink.faults sink.room sink.counts_failures c.run_sum.new.self.objects (sums_at here.line here.target here.from here.minus here.number) r.guards r.env
    r.stands (runs r.guards r.env r.stands)) (λ orders. runs))

pub run_statement-returns-in-Declare-clause-runs : goal.run_statement-returns-in-Declare-clause-runs
run_statement-returns-in-Declare-clause-runs g t c =
    let sink = g.K.Sink in
    let here = c.in-Declare in
    statement_told sink.held sink.faults sink.room sink.counts_failures c.args.propagates
    (ap (λ (decls : List ResolvedDecl). Declare here.line decls here.body) c.items-in-Declare.ensures ∙ sym here.is) c.run_declare.ensures.runs

pub run_statement-returns-in-Handled-clause-runs : goal.run_statement-returns-in-Handled-clause-runs
run_statement-returns-in-Handled-clause-runs g t c =
    let sink = g.K.Sink in
    let here = c.in-Handled in
    statement_told sink.held sink.faults sink.room sink.counts_failures c.args.propagates (ap (Handled here.body) c.items-in-Handled.ensures ∙ sym here.is) c.run_handled.ensures.runs

pub run_statement-returns-in-Tasks-clause-runs : goal.run_statement-returns-in-Tasks-clause-runs
run_statement-returns-in-Tasks-clause-runs g t c =
    let sink = g.K.Sink in
    statement_told sink.held sink.faults sink.room sink.counts_failures c.args.propagates (sym c.in-Tasks.is) c.run_tasks.ensures.runs

-- Behind the body of a scope

pub run_scope-returns-clause-runs : goal.run_scope-returns-clause-runs
run_scope-returns-clause-runs g t c =
    let sink = g.K.Sink in
    let now = c.run_statements-ended.new.self.objects in
    tells_behind c.run_statements-ended.ensures.runs (same_count c.leave_scope.ensures.left) (λ orders runs guards e u.
    ran_inside sink.held sink.faults sink.room sink.counts_failures [] guards c.args.names c.args.sink.now c.run_statements-ended.new.sink
    now c.leave_scope.new.self (exec_resolved c.args.propagates orders c.args.body.now guards e) c.run_statements-ended.result
    c.leave_scope.ensures.left (runs guards e u))

pub run_scope-returns-clause-counts : goal.run_scope-returns-clause-counts
run_scope-returns-clause-counts g t c =
    ap counts_of c.leave_scope.ensures.left
    ∙ (leaving_counts c.args.names (state_of c.run_statements-ended.new.self.objects) ∙ ap (take c.args.names) c.run_statements-ended.ensures.leaves.counts)

-- Blocks that view an object

pub run_viewed-end_view-requires : goal.run_viewed-end_view-requires
run_viewed-end_view-requires g t c =
    let k = c.requires.viewing in
    let some = told_by_some c.in-Ok-None.ensures.runs in
    let ran = some.1 (guards_of_view_key c.args.key ++ k.guards) k.env k.stands in
    let leaves = c.in-Ok-None.ensures.leaves in
    record {
      viewing =
          block_goes_on c.args.propagates some.0 c.args.body.now c.args.self.now.objects c.run_statements.new.self.objects c.args.key k ran.after leaves.counts
          leaves.persists;
    }

pub run_viewed-drop_view-requires : goal.run_viewed-drop_view-requires
run_viewed-drop_view-requires g t c =
    let k = c.requires.viewing in
    record {
      inner = k.inner;
      guard = block_still c.args.self.now.objects c.run_statements.new.self.objects c.args.key k c.in-Ok-Some.ensures.leaves.counts;
    }

pub run_viewed-drop_view-requires-in-Err : goal.run_viewed-drop_view-requires-in-Err
run_viewed-drop_view-requires-in-Err g t c =
    let k = c.requires.viewing in
    record {
      inner = k.inner;
      guard = block_still c.args.self.now.objects c.run_statements.new.self.objects c.args.key k c.in-Err.ensures.leaves.counts;
    }

pub run_viewed-returns-in-Ok-None-clause-runs : goal.run_viewed-returns-in-Ok-None-clause-runs
run_viewed-returns-in-Ok-None-clause-runs g t c =
    let sink = g.K.Sink in
    let p = c.args.propagates in
    let k = c.requires.viewing in
    let here = c.in-Ok-None in
    let all = guards_of_view_key c.args.key ++ k.guards in
    let some = told_by_some here.ensures.runs in
    let left = (exec_resolved p some.0 c.args.body.now all k.env).after in
    let so_far = some.1 all k.env k.stands in
    let stands : IsUnder c.run_statements.new.self.objects all left = record { is = so_far.after; ready = ready_exec p some.0 c.args.body.now all k.env k.stands.ready } in
    tells_on here.ensures.runs
    (ending_blocks sink.held sink.faults sink.room sink.counts_failures c.end_view.new.self.objects c.args.line c.args.key k.guards left stands
    (c.end_view.ensures.runs k.guards left stands)) (λ orders runs guards e u.
    let held = guards_of_view_key c.args.key ++ guards in
    let first = exec_resolved p orders c.args.body.now held e in
    let ran = runs held e u in
    ran_then sink.held sink.faults sink.room sink.counts_failures c.args.sink.now c.run_statements.new.sink c.end_view.new.sink
    c.end_view.new.self.objects guards first (key_ending c.args.line c.args.key guards) None c.end_view.result (sym here.field-0-is ∙ ran.ended) ran.writes
    (c.end_view.ensures.runs guards first.after (record { is = ran.after; ready = ready_exec p orders c.args.body.now held e u.ready })))

pub run_viewed-returns-in-Ok-None-clause-counts : goal.run_viewed-returns-in-Ok-None-clause-counts
run_viewed-returns-in-Ok-None-clause-counts g t c =
    let names = names_of_key c.args.key in
    c.end_view.ensures.counts
    ∙ counts_back (guards_of_view_key c.args.key) names (state_of c.run_statements.new.self.objects) (state_of c.args.self.now.objects)
    (ap (take names) c.in-Ok-None.ensures.leaves.counts)

-- where the body was left
pub run_viewed-returns-in-Ok-Some-clause-runs : goal.run_viewed-returns-in-Ok-Some-clause-runs
run_viewed-returns-in-Ok-Some-clause-runs g t c =
    let sink = g.K.Sink in
    let here = c.in-Ok-Some in
    let key = c.args.key in
    let now = c.run_statements.new.self.objects in
    tells_on here.ensures.runs (same_count c.drop_view.ensures.left ∙ releasing_count (guards_of_view_key key) (leaving (names_of_key key) (state_of now)))
    (λ orders runs guards e u.
    let held = guards_of_view_key key ++ guards in
    let first = exec_resolved c.args.propagates orders c.args.body.now held e in
    ran_dropped sink.held sink.faults sink.room sink.counts_failures c.args.sink.now c.run_statements.new.sink now c.drop_view.new.self c.args.line key guards
    first here.raised c.drop_view.ensures.left
    (subst (λ (end : End). Ran sink.held sink.faults sink.room sink.counts_failures c.args.sink.now c.run_statements.new.sink now held first (Ok end))
    here.field-0-is (runs held e u)))

pub run_viewed-returns-in-Ok-Some-clause-counts : goal.run_viewed-returns-in-Ok-Some-clause-counts
run_viewed-returns-in-Ok-Some-clause-counts g t c =
    let names = names_of_key c.args.key in
    ap counts_of c.drop_view.ensures.left
    ∙ counts_back (guards_of_view_key c.args.key) names (state_of c.run_statements.new.self.objects) (state_of c.args.self.now.objects)
    (ap (take names) c.in-Ok-Some.ensures.leaves.counts)

pub run_viewed-returns-in-Err-clause-runs : goal.run_viewed-returns-in-Err-clause-runs
run_viewed-returns-in-Err-clause-runs g t c =
    let sink = g.K.Sink in
    tells_as c.in-Err.ensures.runs tt (λ orders runs guards e u.
    let held = guards_of_view_key c.args.key ++ guards in
    let ran = runs held e u in
    ran_stopped sink.held sink.faults sink.room sink.counts_failures c.args.sink.now c.run_statements.new.sink c.drop_view-in-Err.new.self guards
    (exec_resolved c.args.propagates orders c.args.body.now held e) (key_ending c.args.line c.args.key guards) c.in-Err.end ran.writes)

pub run_viewed-returns-in-Err-clause-counts : goal.run_viewed-returns-in-Err-clause-counts
run_viewed-returns-in-Err-clause-counts g t c =
    let names = names_of_key c.args.key in
    ap counts_of c.drop_view-in-Err.ensures.left
    ∙ counts_back (guards_of_view_key c.args.key) names (state_of c.run_statements.new.self.objects) (state_of c.args.self.now.objects)
    (ap (take names) c.in-Err.ensures.leaves.counts)

pub run_view-run_viewed-requires : goal.run_view-run_viewed-requires
run_view-run_viewed-requires g t c κs within =
    let old = c.args.self.now.objects in
    let r = c.requires.ready in
    let head = c.args.head in
    let o = block_taken (state_of old) head c.object.result c.object.ensures (c.takes_guards.ensures.yes c.if-not-takes_guards.false) in
    let is = c.in-Ok.ensures.opened o.held o.there in
    let key = c.in-Ok.ensures.key in (
      omega arith,
      (
        within.0,
        (
          within.1,
          (
            c.requires.sound,
            block_viewing old c.enter_view.new.self o.held r.guards r.env r.stands c.in-Ok.key head o.takes o.there key.0 key.1 c.in-Ok.ensures.sort is.0 is.1 is.2,
          ),
        ),
      ),
    )

pub run_view-returns-in-Ok-clause-runs : goal.run_view-returns-in-Ok-clause-runs
run_view-returns-in-Ok-clause-runs g t c =
    let sink = g.K.Sink in
    let old = c.args.self.now.objects in
    let now = c.enter_view.new.self in
    let head = c.args.head in
    let o = block_taken (state_of old) head c.object.result c.object.ensures (c.takes_guards.ensures.yes c.if-not-takes_guards.false) in
    let is = c.in-Ok.ensures.opened o.held o.there in
    let key = c.in-Ok.ensures.key in
    let guards_begun = guards_of_head head o.held in
    tells_before
    (same_count is.2
    ∙ (viewed_count head (state_of old) (holding guards_begun (state_of old)) o.held ∙ holding_count guards_begun (state_of old)))
    c.run_viewed.ensures.runs (λ orders runs guards e u.
    let begun = block_under old now o.held guards e u c.in-Ok.key head o.there is.0 is.1 is.2 in
    ran_as sink.held sink.faults sink.room sink.counts_failures c.args.sink.now c.run_viewed.new.sink c.run_viewed.new.self.objects guards _ _ c.run_viewed.result
    (block_comes c.args.propagates orders c.args.body.now guards e c.args.line old o.held u.is c.in-Ok.key head now
    (ap (λ s. guarded_at s (viewed_object head)) (sym u.is) ∙ o.guarded) c.in-Ok.ensures.sort is.0 is.1 key.0 (key.1 ∙ many_under old guards e u))
    (runs guards (with_viewed head (state_of old) o.held e) begun))

pub run_view-returns-in-Ok-clause-leaves : goal.run_view-returns-in-Ok-clause-leaves
run_view-returns-in-Ok-clause-leaves g t c =
    let old = c.args.self.now.objects in
    let now = c.enter_view.new.self in
    let head = c.args.head in
    let o = block_taken (state_of old) head c.object.result c.object.ensures (c.takes_guards.ensures.yes c.if-not-takes_guards.false) in
    let is = c.in-Ok.ensures.opened o.held o.there in
    let names = names_of_key c.in-Ok.key in
    record {
      persists = λ x known. c.run_viewed.ensures.persists x (c.enter_view.ensures.persists x known);
      counts =
          c.run_viewed.ensures.counts
          ∙ (ap (λ m. counts_of (releasing m (leaving names (state_of now)))) is.1
          ∙ counts_before (guards_of_head head o.held) names (state_of old) (state_of now)
          (block_left old now o.held head names c.in-Ok.ensures.key.1 is.2));
    }

pub run_view-returns-in-Err-Raised-clause-runs : goal.run_view-returns-in-Err-Raised-clause-runs
run_view-returns-in-Err-Raised-clause-runs g t c =
    let sink = g.K.Sink in
    let old = c.args.self.now.objects in
    let now = c.enter_view.new.self in
    let here = c.in-Err-Raised in
    let head = c.args.head in
    let o = block_taken (state_of old) head c.object.result c.object.ensures (c.takes_guards.ensures.yes c.if-not-takes_guards.false) in
    let some = here.ensures.refused o.held here.reason o.there (ap Err here.field-0-is) in
    tells_none (on_ok_always c.write_refusal.result (same_blocks here.ensures.fault)) (λ orders guards e u.
    ran_line sink.held sink.faults sink.room sink.counts_failures c.args.sink.now c.write_refusal.new.sink now guards c.args.line here.reason e _ c.write_refusal.result
    (block_refused c.args.propagates orders c.args.body.now guards e c.args.line old o.held u.is head here.reason
    (ap (λ s. guarded_at s (viewed_object head)) (sym u.is) ∙ o.guarded) some)
    (ap state_of here.ensures.fault ∙ u.is)
    c.write_refusal.ensures.writes c.write_refusal.ensures.ended)

pub run_view-returns-in-Err-NoMemory-clause-runs : goal.run_view-returns-in-Err-NoMemory-clause-runs
run_view-returns-in-Err-NoMemory-clause-runs g t c =
    let sink = g.K.Sink in
    tells_none tt (λ orders guards e u. record {
      writes = broke_nothing sink.held sink.faults sink.room sink.counts_failures c.args.sink.now _;
      after = tt;
      ended = tt;
    })

pub run_view-returns-then-not-takes_guards-clause-runs : goal.run_view-returns-then-not-takes_guards-clause-runs
run_view-returns-then-not-takes_guards-clause-runs g t c =
    let sink = g.K.Sink in
    let old = c.args.self.now.objects in
    let none = ap (guarded_at (state_of old)) (sym c.object.ensures) ∙ c.takes_guards.ensures.no c.if-not-takes_guards.true in
    tells_none refl (λ orders guards e u.
    block_nowhere c.args.propagates orders c.args.body.now guards e c.args.line sink.held sink.faults sink.room sink.counts_failures c.args.sink.now old u c.args.head none)

-- Declarations

pub run_declare-run_scope-requires : goal.run_declare-run_scope-requires
run_declare-run_scope-requires g t c κs within =
    let r = c.requires.ready in
    let is = c.in-Ok.ensures.declared in (
      omega arith,
      (
        within.0,
        (
          within.1,
          (
            c.requires.sound,
            record {
              guards = r.guards;
              env = (after_decls c.args.decls.now r.env).after;
              stands = decls_begin c.args.self.now.objects c.enter_scope.new.self r.guards r.env c.args.decls.now r.stands is.2;
            },
          ),
        ),
      ),
    )

pub run_declare-returns-in-Ok-clause-runs : goal.run_declare-returns-in-Ok-clause-runs
run_declare-returns-in-Ok-clause-runs g t c =
    let sink = g.K.Sink in
    let old = c.args.self.now.objects in
    let is = c.in-Ok.ensures.declared in
    tells_before (same_count is.2 ∙ decls_count c.args.decls.now (state_of c.args.self.now.objects)) c.run_scope.ensures.runs (λ orders runs guards e u.
    ran_as sink.held sink.faults sink.room sink.counts_failures c.args.sink.now c.run_scope.new.sink c.run_scope.new.self.objects guards _ _ c.run_scope.result
    (declare_comes (exec_resolved c.args.propagates orders c.args.body.now) old guards e c.args.decls.now c.in-Ok.names u is.1 is.0)
    (runs guards (after_decls c.args.decls.now e).after (decls_begin old c.enter_scope.new.self guards e c.args.decls.now u is.2)))

pub run_declare-returns-in-Err-Spent-clause-runs : goal.run_declare-returns-in-Err-Spent-clause-runs
run_declare-returns-in-Err-Spent-clause-runs g t c =
    let sink = g.K.Sink in
    let old = c.args.self.now.objects in
    let now = c.enter_scope.new.self in
    let here = c.in-Err-Spent in
    let is = here.ensures.spent here.line (ap Err here.field-0-is) in
    tells_none (on_ok_always c.write_refusal.result (same_count is.1 ∙ decls_count c.args.decls.now (state_of c.args.self.now.objects))) (λ orders guards e u.
    ran_line sink.held sink.faults sink.room sink.counts_failures c.args.sink.now c.write_refusal.new.sink now guards here.line NamesSpent
    (leaving (length e.bounds) (after_decls c.args.decls.now e).after) _ c.write_refusal.result
    (declare_spent (exec_resolved c.args.propagates orders c.args.body.now) old guards e c.args.decls.now here.line u is.0)
    (declare_back old now guards e c.args.decls.now u is.1)
    c.write_refusal.ensures.writes c.write_refusal.ensures.ended)

pub run_declare-returns-in-Err-NoMemory-clause-runs : goal.run_declare-returns-in-Err-NoMemory-clause-runs
run_declare-returns-in-Err-NoMemory-clause-runs g t c =
    let sink = g.K.Sink in
    tells_none tt (λ orders guards e u. record {
      writes = broke_nothing sink.held sink.faults sink.room sink.counts_failures c.args.sink.now _;
      after = tt;
      ended = tt;
    })

-- Loops, and their turns

pub run_loop-run_turns-ended-requires : goal.run_loop-run_turns-ended-requires
run_loop-run_turns-ended-requires = loops.run_loop-run_turns-ended-requires

pub run_loop-leave_loop-requires-clause-inner : goal.run_loop-leave_loop-requires-clause-inner
run_loop-leave_loop-requires-clause-inner = loops.run_loop-leave_loop-requires-clause-inner

pub run_loop-leave_loop-requires-clause-cursors : goal.run_loop-leave_loop-requires-clause-cursors
run_loop-leave_loop-requires-clause-cursors = loops.run_loop-leave_loop-requires-clause-cursors

pub run_loop-leave_loop-requires-clause-elements : goal.run_loop-leave_loop-requires-clause-elements
run_loop-leave_loop-requires-clause-elements = loops.run_loop-leave_loop-requires-clause-elements

pub run_loop-returns-clause-runs : goal.run_loop-returns-clause-runs
run_loop-returns-clause-runs = loops.run_loop-returns-clause-runs

pub run_loop-returns-then-not-takes_guards-clause-runs : goal.run_loop-returns-then-not-takes_guards-clause-runs
run_loop-returns-then-not-takes_guards-clause-runs = loops.run_loop-returns-then-not-takes_guards-clause-runs

pub run_loop-returns-in_err-key-clause-runs : goal.run_loop-returns-in_err-key-clause-runs
run_loop-returns-in_err-key-clause-runs = loops.run_loop-returns-in_err-key-clause-runs

pub run_loop-returns-clause-leaves : goal.run_loop-returns-clause-leaves
run_loop-returns-clause-leaves = loops.run_loop-returns-clause-leaves

pub run_turns-loop-init : goal.run_turns-loop-init
run_turns-loop-init = loops.run_turns-loop-init

pub run_turns-step_loop-requires-clause-object : goal.run_turns-step_loop-requires-clause-object
run_turns-step_loop-requires-clause-object = loops.run_turns-step_loop-requires-clause-object

pub run_turns-step_loop-requires-clause-inner : goal.run_turns-step_loop-requires-clause-inner
run_turns-step_loop-requires-clause-inner = loops.run_turns-step_loop-requires-clause-inner

pub run_turns-step_loop-requires-clause-coming : goal.run_turns-step_loop-requires-clause-coming
run_turns-step_loop-requires-clause-coming = loops.run_turns-step_loop-requires-clause-coming

pub run_turns-returns-then-not-step_loop-clause-runs : goal.run_turns-returns-then-not-step_loop-clause-runs
run_turns-returns-then-not-step_loop-clause-runs = loops.run_turns-returns-then-not-step_loop-clause-runs

pub run_turns-returns-clause-runs : goal.run_turns-returns-clause-runs
run_turns-returns-clause-runs = loops.run_turns-returns-clause-runs

pub run_turns-run_statements-requires : goal.run_turns-run_statements-requires
run_turns-run_statements-requires = loops.run_turns-run_statements-requires

pub run_turns-returns-in_err-ended-clause-runs : goal.run_turns-returns-in_err-ended-clause-runs
run_turns-returns-in_err-ended-clause-runs = loops.run_turns-returns-in_err-ended-clause-runs

pub run_turns-returns-then-is_some-clause-runs : goal.run_turns-returns-then-is_some-clause-runs
run_turns-returns-then-is_some-clause-runs = loops.run_turns-returns-then-is_some-clause-runs

pub run_turns-loop-preserved : goal.run_turns-loop-preserved
run_turns-loop-preserved = loops.run_turns-loop-preserved
