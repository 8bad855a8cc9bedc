use Rattle.std.proofs.Common.{◌≡◌, ◌+◌, ◌*◌, ◌++◌, ℕ, List, drop, length, take}
use Rattle.ac_model.specs.Cursors.{plain_mark}
use Rattle.ac_rules.specs.Resolved.{resolved_size, no_statement}
use Rattle.ac_rules.specs.ResolvedStatements.{resolved_before, resolved_of, resolved_handlers_of}
use Rattle.ac_calls.specs.Holdings.{Guards, Held, number_of, names_of}
use Rattle.ac_meaning.specs.Environment.{State}
use Rattle.ac_meaning.specs.Execution.{exec_resolved, turns, guards_of_loop}
use Rattle.ac_objects.specs.Blocks.{guards_of_loop_key}
use Rattle.ac_objects.specs.Standing.{counts_of}
use Rattle.ac_objects.specs.World.{state_of, IsKnown, Persists}
use Rattle.ac_host.specs.Ready.{IsUnder}
use Rattle.ac_host.specs.Running.{Leaves, Turning, GoesOn, TurnsOn}
use Rattle.ac_host.specs.Told.{Tells}
use Rattle.ac_host.proofs.ByOrders.{going_on}
use Rattle.ac_host.proofs.host.Host.+statements.Given as goal

abbrev pub decreases-run_statement : goal.decreases-run_statement
decreases-run_statement g l = 5 * resolved_size (resolved_before l.stmt.now no_statement)

abbrev pub decreases-run_statements : goal.decreases-run_statements
decreases-run_statements g l = 5 * resolved_size l.stmts.now + 1

abbrev pub decreases-run_turns : goal.decreases-run_turns
decreases-run_turns g l = 5 * resolved_size l.body.now + 2

abbrev pub decreases-run_viewed : goal.decreases-run_viewed
decreases-run_viewed g l = 5 * resolved_size l.body.now + 2

abbrev pub decreases-run_scope : goal.decreases-run_scope
decreases-run_scope g l = 5 * resolved_size l.body.now + 2

abbrev pub decreases-run_loop : goal.decreases-run_loop
decreases-run_loop g l = 5 * resolved_size l.body.now + 3

abbrev pub decreases-run_view : goal.decreases-run_view
decreases-run_view g l = 5 * resolved_size l.body.now + 3

abbrev pub decreases-run_declare : goal.decreases-run_declare
decreases-run_declare g l = 5 * resolved_size l.body.now + 3

abbrev pub decreases-run_handled : goal.decreases-run_handled
decreases-run_handled g l = 5 * (resolved_size l.body.now + resolved_size (resolved_handlers_of l.handlers.now)) + 9

abbrev pub decreases-run_handler : goal.decreases-run_handler
decreases-run_handler g l = 5 * resolved_size (resolved_handlers_of l.handlers.now) + 2

abbrev pub invariant-run_statements-loop-stmt : goal.invariant-run_statements-loop-stmt
invariant-run_statements-loop-stmt g l =
    let sink = g.K.Sink in
    record {
      told : Tells g.B.BlockRunner.allows l.fn.self.objects l.self.objects going_on (λ orders. (guards : Guards) (e : State) → IsUnder l.fn.self.objects guards e →
          GoesOn sink.held sink.faults sink.room sink.counts_failures l.fn.sink l.sink l.self.objects guards
          (exec_resolved l.propagates orders (resolved_of (drop l.stmt-index l.stmt-items)) guards) (exec_resolved l.propagates orders l.stmts guards e));
      leaves : Leaves l.fn.self.objects l.self.objects;
    }

abbrev pub invariant-run_turns-loop : goal.invariant-run_turns-loop
invariant-run_turns-loop g l =
    let sink = g.K.Sink in
    record {
      told : Tells g.B.BlockRunner.allows l.fn.self.objects l.self.objects going_on (λ orders. (guards : Guards) (h : Held) (e : State) (names : List ℕ) →
          Turning l.fn.self.objects l.fn.key.names l.fn.key.object l.fn.key.backward (plain_mark l.fn.key.coming) (guards_of_loop l.elements h ++ guards) e
          (number_of h) (names_of h) names →
          TurnsOn sink.held sink.faults sink.room sink.counts_failures l.fn.sink l.sink l.self.objects l.key.names l.key.object l.key.backward
          (plain_mark l.key.coming) (guards_of_loop l.elements h ++ guards) (number_of h) (names_of h)
          (turns (exec_resolved l.propagates orders l.body) guards l.elements l.fn.key.object h)
          (turns (exec_resolved l.propagates orders l.body) guards l.elements l.fn.key.object h names e));
      key : (l.key.object ≡ l.fn.key.object) × (l.key.names ≡ l.fn.key.names) × (l.key.backward ≡ l.fn.key.backward)
          × (guards_of_loop_key l.key ≡ guards_of_loop_key l.fn.key);
      known : IsKnown l.self.objects l.key.coming;
      last : length l.self.objects.bounds ≡ l.key.names + 1;
      persists : Persists l.fn.self.objects l.self.objects;
      counts : take l.fn.key.names (counts_of (state_of l.self.objects)) ≡ take l.fn.key.names (counts_of (state_of l.fn.self.objects));
    }
