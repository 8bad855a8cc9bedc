-- What the goals of loops want, and of their turns.
use Rattle.std.proofs.Common.{◌++◌, ◌∷◌, ◌+◌, take, length, refl, sym, ap, subst, ◌∙◌, arith, None}
use Rattle.ac_rules.specs.Resolved.{loops_at}
use Rattle.ac_calls.specs.Holdings.{number_of, names_of}
use Rattle.ac_meaning.specs.Environment.{binds_cursor, leaving, guarded_at, objects_by, with_name}
use Rattle.ac_meaning.specs.Execution.{exec_resolved, guards_of_loop, in_order, turns, turns_behind, turn_bound, scoped}
use Rattle.ac_host.specs.declared.end.HostEnd.TheVariants.{NoMemory}
use Rattle.ac_objects.specs.Blocks.{guard_if, guards_of_loop_key, IsHeldAt}
use Rattle.ac_objects.specs.Standing.{counts_of}
use Rattle.ac_objects.specs.World.{state_of}
use Rattle.ac_model.specs.Cursors.{plain_mark}
use Rattle.ac_model.specs.Letters.{no_mark, mark_at as mark_of_name}
use Rattle.ac_host.proofs.ByOrders.{on_exit, told_by_some, tells_none, tells_as, tells_behind, tells_on, tells_before, tells_then, tells_more, tells_stopped}
use Rattle.ac_host.proofs.Counting.{same_count, holding_count, releasing_count}
use Rattle.ac_host.proofs.Blocks.{taken, ran_released, ran_as, ran_broke, ran_nowhere, ran_all, there_within, many_names, many_named, same_many, leaving_named, counts_before, held_named, held_beside, loop_cursors_held, loop_elements_held, loop_comes, turns_behind_none, inner_by, loop_left}
use Rattle.ac_host.specs.Running.{block_of}
use Rattle.ac_host.specs.Writing.{WroteSoFar}
use Rattle.ac_meaning.specs.UnderGuards.{held_without}
use Rattle.ac_host.proofs.Holding.{counts_back, held_still, held_behind}
use Rattle.ac_host.proofs.Opening.{loop_begins}
use Rattle.ac_host.proofs.Telling.{broke_nothing, so_far_none, so_far_more, so_far_broke, so_far_stopped}
use Rattle.ac_host.proofs.Turns.{held, turning_inner, turning_there, turning_stands, turning_none, turning_next, turn_begins, turn_ends, turn_left, turns_left, turn_goes, turning_at}
use Rattle.ac_host.proofs.Steps.{normal_end}
use Rattle.ac_host.proofs.host.Host.+statements.Goals as goal

pub run_loop-run_turns-ended-requires : goal.run_loop-run_turns-ended-requires
run_loop-run_turns-ended-requires g t c κs within =
    let old = c.args.self.now.objects in
    let now = c.enter_loop.new.self in
    let r = c.requires.ready in
    let o = taken (state_of old) c.args.object (c.takes_guards.ensures.yes c.if-not-takes_guards.false) in
    let is = c.in_ok-key.ensures.opened o.held o.there in
    let key = c.in_ok-key.ensures.key in
    let k = c.in_ok-key.key in (
      omega arith,
      (
        within.0,
        (
          within.1,
          (
            c.requires.sound,
            (
              record {
                guards = r.guards;
                held = o.held;
                env = r.env;
                names = in_order c.args.backward (names_of o.held);
                turning =
                    turning_at refl key.0 key.2
                    (loop_begins old r.guards r.env r.stands c.args.object o.held o.there c.args.elements c.args.backward (plain_mark k.coming) now k.names
                    (key.1 ∙ sym (many_names old)) is.0 (c.in_ok-key.ensures.named o.held o.there)
                    (ap (leaving k.names) is.2
                    ∙ leaving_named (guards_of_loop c.args.elements o.held) (state_of old) (binds_cursor no_mark) k.names (key.1 ∙ sym (many_names old))));
              },
              (key.3, many_named (guards_of_loop c.args.elements o.held) old now (binds_cursor no_mark) k.names key.1 is.2),
            ),
          ),
        ),
      ),
    )

pub run_loop-leave_loop-requires-clause-inner : goal.run_loop-leave_loop-requires-clause-inner
run_loop-leave_loop-requires-clause-inner g t c =
    let old = c.args.self.now.objects in
    let o = taken (state_of old) c.args.object (c.takes_guards.ensures.yes c.if-not-takes_guards.false) in
    let key = c.in_ok-key.ensures.key in
    let ended = c.run_turns-ended.ensures.key in
    inner_by (ended.0 ∙ key.0) (ended.1 ∙ (key.1 ∙ sym (many_names old))) (there_within (state_of old) c.args.object o.held o.there)

pub run_loop-leave_loop-requires-clause-cursors : goal.run_loop-leave_loop-requires-clause-cursors
run_loop-leave_loop-requires-clause-cursors g t c =
    let old = c.args.self.now.objects in
    let mid = state_of c.enter_loop.new.self in
    let o = taken (state_of old) c.args.object (c.takes_guards.ensures.yes c.if-not-takes_guards.false) in
    let is = c.in_ok-key.ensures.opened o.held o.there in
    let key = c.in_ok-key.ensures.key in
    let ended = c.run_turns-ended.ensures.key in
    let k = c.run_turns-ended.new.key in
    let within = inner_by refl (key.1 ∙ sym (many_names old)) (there_within (state_of old) c.args.object o.held o.there) in
    subst (λ p. IsHeldAt (state_of c.run_turns-ended.new.self.objects) p k.cursors) (sym (ended.0 ∙ key.0))
    (held_still mid (state_of c.run_turns-ended.new.self.objects) c.args.object c.in_ok-key.key.names k.cursors within c.run_turns-ended.ensures.counts
    (subst (λ s. IsHeldAt s c.args.object k.cursors) (sym is.2)
    (held_named _ (binds_cursor no_mark) c.args.object k.cursors
    (loop_cursors_held (state_of old) c.args.object c.args.elements o.held o.takes k.cursors (guard_if k.elements) o.there (ended.2 ∙ is.1)))))

pub run_loop-leave_loop-requires-clause-elements : goal.run_loop-leave_loop-requires-clause-elements
run_loop-leave_loop-requires-clause-elements g t c x some =
    let old = c.args.self.now.objects in
    let mid = state_of c.enter_loop.new.self in
    let o = taken (state_of old) c.args.object (c.takes_guards.ensures.yes c.if-not-takes_guards.false) in
    let is = c.in_ok-key.ensures.opened o.held o.there in
    let key = c.in_ok-key.ensures.key in
    let ended = c.run_turns-ended.ensures.key in
    let k = c.run_turns-ended.new.key in
    let within = inner_by refl (key.1 ∙ sym (many_names old)) (there_within (state_of old) c.args.object o.held o.there) in
    let now = state_of c.run_turns-ended.new.self.objects in
    subst (λ p. IsHeldAt (objects_by (held_without k.cursors) now) p x) (sym (ended.0 ∙ key.0))
    (held_behind mid now c.args.object c.in_ok-key.key.names k.cursors x within c.run_turns-ended.ensures.counts
    (subst (λ s. IsHeldAt (objects_by (held_without k.cursors) s) c.args.object x) (sym is.2)
    (held_beside (held_without k.cursors) _ no_mark c.args.object x
    (loop_elements_held (state_of old) c.args.object c.args.elements o.held o.takes k.cursors x o.there
    (sym (ap (λ l. k.cursors ∷ guard_if l) some) ∙ (ended.2 ∙ is.1))))))

pub run_loop-returns-clause-runs : goal.run_loop-returns-clause-runs
run_loop-returns-clause-runs g t c =
    let sink = g.K.Sink in
    let old = c.args.self.now.objects in
    let now = c.enter_loop.new.self in
    let then = c.run_turns-ended.new.self.objects in
    let o = taken (state_of old) c.args.object (c.takes_guards.ensures.yes c.if-not-takes_guards.false) in
    let is = c.in_ok-key.ensures.opened o.held o.there in
    let key = c.in_ok-key.ensures.key in
    let k = c.in_ok-key.key in
    let ended = c.run_turns-ended.ensures.key in
    let more = guards_of_loop c.args.elements o.held in
    let names = in_order c.args.backward (names_of o.held) in
    let left = loop_left (state_of then) (state_of c.leave_loop.new.self) (guards_of_loop_key c.run_turns-ended.new.key) more c.run_turns-ended.new.key.names k.names c.leave_loop.ensures.left (ended.2 ∙ is.1) ended.1 in
    tells_before (same_count is.2 ∙ holding_count more (state_of old)) (tells_behind c.run_turns-ended.ensures.runs (same_count left ∙ releasing_count more (leaving k.names (state_of then))) (λ orders runs. runs)) (λ orders runs guards e u.
    let begun =
    turning_at refl key.0 key.2
    (loop_begins old guards e u c.args.object o.held o.there c.args.elements c.args.backward (plain_mark k.coming) now k.names
    (key.1 ∙ sym (many_names old)) is.0 (c.in_ok-key.ensures.named o.held o.there)
    (ap (leaving k.names) is.2 ∙ leaving_named more (state_of old) (binds_cursor no_mark) k.names (key.1 ∙ sym (many_names old)))) in
    ran_as sink.held sink.faults sink.room sink.counts_failures c.args.sink.now c.run_turns-ended.new.sink c.leave_loop.new.self guards _ _ c.run_turns-ended.result
    (loop_comes c.args.propagates orders c.args.body.now guards e c.args.line c.args.elements c.args.backward c.args.object k.object o.held
    (ap (λ s. guarded_at s c.args.object) (sym u.is) ∙ o.guarded) key.0)
    (ran_released sink.held sink.faults sink.room sink.counts_failures more guards c.args.sink.now c.run_turns-ended.new.sink (leaving k.names (state_of then)) c.leave_loop.new.self _
    c.run_turns-ended.result left (runs guards o.held e names begun)))

pub run_loop-returns-then-not-takes_guards-clause-runs : goal.run_loop-returns-then-not-takes_guards-clause-runs
run_loop-returns-then-not-takes_guards-clause-runs g t c =
    let sink = g.K.Sink in
    let none = c.takes_guards.ensures.no c.if-not-takes_guards.true in
    tells_none refl (λ orders guards e u.
    ran_nowhere sink.held sink.faults sink.room sink.counts_failures c.args.sink.now c.args.self.now.objects guards e u (exec_resolved c.args.propagates orders c.args.body.now)
    (loops_at c.args.line c.args.elements c.args.backward c.args.object) c.args.object none)

pub run_loop-returns-in_err-key-clause-runs : goal.run_loop-returns-in_err-key-clause-runs
run_loop-returns-in_err-key-clause-runs g t c =
    let sink = g.K.Sink in
    tells_none (on_exit _ _ c.from_residual.result c.from_residual.ensures.1) (λ orders guards e u.
    ran_broke sink.held sink.faults sink.room sink.counts_failures c.args.sink.now c.args.sink.now _ guards
    (block_of c.args.propagates orders c.args.body.now guards e (loops_at c.args.line c.args.elements c.args.backward c.args.object)) NoMemory c.from_residual.result c.from_residual.ensures.1
    (broke_nothing sink.held sink.faults sink.room sink.counts_failures c.args.sink.now _))

pub run_loop-returns-clause-leaves : goal.run_loop-returns-clause-leaves
run_loop-returns-clause-leaves g t c =
    let old = c.args.self.now.objects in
    let now = c.enter_loop.new.self in
    let then = c.run_turns-ended.new.self.objects in
    let o = taken (state_of old) c.args.object (c.takes_guards.ensures.yes c.if-not-takes_guards.false) in
    let is = c.in_ok-key.ensures.opened o.held o.there in
    let key = c.in_ok-key.ensures.key in
    let k = c.in_ok-key.key in
    let ended = c.run_turns-ended.ensures.key in
    let more = guards_of_loop c.args.elements o.held in
    record {
      persists = λ x known. c.leave_loop.ensures.persists x (c.run_turns-ended.ensures.persists x (c.enter_loop.ensures.persists x known));
      counts =
          ap counts_of (loop_left (state_of then) (state_of c.leave_loop.new.self) (guards_of_loop_key c.run_turns-ended.new.key) more c.run_turns-ended.new.key.names k.names c.leave_loop.ensures.left (ended.2 ∙ is.1) ended.1)
          ∙ (counts_back more k.names (state_of then) (state_of now) c.run_turns-ended.ensures.counts
          ∙ counts_before more k.names (state_of old) (state_of now)
          (ap (leaving k.names) is.2 ∙ leaving_named more (state_of old) (binds_cursor no_mark) k.names (key.1 ∙ sym (many_names old))));
    }

-- The turns of a loop

pub run_turns-loop-init : goal.run_turns-loop-init
run_turns-loop-init g t c =
    let sink = g.K.Sink in
    record {
      told = tells_none refl (λ orders guards h e names begun. record {
        env = e;
        names = names;
        turning = begun;
        so_far =
            so_far_none sink.held sink.faults sink.room sink.counts_failures c.args.sink.now
            (turns (exec_resolved c.args.propagates orders c.args.body.now) guards c.args.elements c.args.key.now.object h names e);
      });
      key = (refl, refl, refl, refl);
      known = c.requires.known;
      last = c.requires.last;
      persists = λ x known. known;
      counts = refl;
    }

pub run_turns-step_loop-requires-clause-object : goal.run_turns-step_loop-requires-clause-object
run_turns-step_loop-requires-clause-object g t c =
    let r = c.requires.turning in
    let now = ((told_by_some c.loop.invariant.told).1 r.guards r.held r.env r.names r.turning).turning in
    record { held = held now; there = turning_there now }

pub run_turns-step_loop-requires-clause-inner : goal.run_turns-step_loop-requires-clause-inner
run_turns-step_loop-requires-clause-inner g t c =
    let r = c.requires.turning in turning_inner ((told_by_some c.loop.invariant.told).1 r.guards r.held r.env r.names r.turning).turning

pub run_turns-step_loop-requires-clause-coming : goal.run_turns-step_loop-requires-clause-coming
run_turns-step_loop-requires-clause-coming g t c =
    let r = c.requires.turning in turning_stands ((told_by_some c.loop.invariant.told).1 r.guards r.held r.env r.names r.turning).turning

pub run_turns-returns-then-not-step_loop-clause-runs : goal.run_turns-returns-then-not-step_loop-clause-runs
run_turns-returns-then-not-step_loop-clause-runs g t c =
    let sink = g.K.Sink in
    let end = c.step_loop.ensures.end c.if-not-step_loop.true in
    tells_on c.loop.invariant.told (same_count end.1) (λ orders so_far guards h e names begun.
    let now = so_far guards h e names begun in
    let none = turning_none now.turning end.0 in
    let whole = turns (exec_resolved c.args.propagates orders c.args.body.now) guards c.args.elements c.args.key.now.object h names e in
    ran_all sink.held sink.faults sink.room sink.counts_failures c.args.sink.now c.loop.sink (leaving c.args.key.now.names (state_of c.step_loop.new.self))
    (guards_of_loop c.args.elements h ++ guards) None now.env whole
    (ap (λ n. leaving n (state_of c.step_loop.new.self)) (sym c.loop.invariant.key.1) ∙ turns_left now.turning c.step_loop.new.self end.1)
    (subst (λ l. WroteSoFar sink.held sink.faults sink.room sink.counts_failures c.args.sink.now c.loop.sink
    (turns (exec_resolved c.args.propagates orders c.args.body.now) guards c.args.elements c.args.key.now.object h l now.env) whole) none now.so_far))

pub run_turns-returns-clause-runs : goal.run_turns-returns-clause-runs
run_turns-returns-clause-runs g t c =
    let sink = g.K.Sink in
    tells_as c.loop.invariant.told tt (λ orders so_far guards h e names begun.
    let now = so_far guards h e names begun in
    record {
      writes =
          so_far_stopped sink.held sink.faults sink.room sink.counts_failures c.args.sink.now c.loop.sink _
          (turns (exec_resolved c.args.propagates orders c.args.body.now) guards c.args.elements c.args.key.now.object h names e) now.so_far;
      after = tt;
      ended = tt;
    })

pub run_turns-run_statements-requires : goal.run_turns-run_statements-requires
run_turns-run_statements-requires g t c κs within =
    let r = c.requires.turning in
    let now = ((told_by_some c.loop.invariant.told).1 r.guards r.held r.env r.names r.turning).turning in
    let next = turning_next now (c.step_loop.ensures.more c.if-not-step_loop.false) in (
      omega arith,
      (
        within.0,
        (
          within.1,
          (
            c.requires.sound,
            record {
              guards = guards_of_loop c.args.elements r.held ++ r.guards;
              env = _;
              stands = turn_begins now c.args.elements next.name next.rest c.step_loop.new.self next.is (c.step_loop.ensures.turn c.if-not-step_loop.false);
            },
          ),
        ),
      ),
    )

pub run_turns-returns-in_err-ended-clause-runs : goal.run_turns-returns-in_err-ended-clause-runs
run_turns-returns-in_err-ended-clause-runs g t c =
    let sink = g.K.Sink in
    let object = c.args.key.now.object in
    let turned_on = c.step_loop.ensures.turn c.if-not-step_loop.false in
    tells_stopped _ _ c.loop.invariant.told (tells_before (same_count turned_on) c.in_err-ended.ensures.runs (λ orders runs. runs))
    c.from_residual.ensures.1 (λ orders so_far runs guards h e names begun.
    let body = exec_resolved c.args.propagates orders c.args.body.now in
    let held_guards = guards_of_loop c.args.elements h ++ guards in
    let now = so_far guards h e names begun in
    let at = turning_at refl (sym c.loop.invariant.key.0) refl now.turning in
    let next = turning_next at (c.step_loop.ensures.more c.if-not-step_loop.false) in
    let start = with_name now.env (turn_bound c.args.elements object (mark_of_name (number_of h) next.name)) in
    let turned = turn_begins at c.args.elements next.name next.rest c.step_loop.new.self next.is
    (c.step_loop.ensures.turn c.if-not-step_loop.false
    ∙ ap (λ p. with_name (leaving c.loop.key.names (state_of c.loop.self.objects)) (turn_bound c.args.elements p (plain_mark c.loop.key.coming))) c.loop.invariant.key.0) in
    ran_broke sink.held sink.faults sink.room sink.counts_failures c.args.sink.now c.run_statements.new.sink
    (leaving c.args.key.now.names (state_of c.run_statements.new.self.objects)) held_guards
    (turns body guards c.args.elements object h names e) c.in_err-ended.field-0.0 c.from_residual.result
    c.from_residual.ensures.1
    (so_far_broke sink.held sink.faults sink.room sink.counts_failures c.args.sink.now c.loop.sink c.run_statements.new.sink
    (turns body guards c.args.elements object h now.names now.env) (turns body guards c.args.elements object h names e)
    (scoped now.env (body held_guards) start) (turns_behind body guards c.args.elements object h next.rest) _
    (ap (λ l. turns body guards c.args.elements object h l now.env) next.is) now.so_far
    (runs held_guards start turned).writes))

-- a turn that raised
pub run_turns-returns-then-is_some-clause-runs : goal.run_turns-returns-then-is_some-clause-runs
run_turns-returns-then-is_some-clause-runs g t c =
    let sink = g.K.Sink in
    let object = c.args.key.now.object in
    let turned_on = c.step_loop.ensures.turn c.if-not-step_loop.false in
    let ended = c.in_ok-ended.ended in
    let some = sym c.is_some.ensures ∙ c.if-is_some.true in
    tells_then c.loop.invariant.told (tells_before (same_count turned_on) c.in_ok-ended.ensures.runs (λ orders runs. runs))
    (λ orders so_far runs guards h e names begun.
    let body = exec_resolved c.args.propagates orders c.args.body.now in
    let held_guards = guards_of_loop c.args.elements h ++ guards in
    let now = so_far guards h e names begun in
    let at = turning_at refl (sym c.loop.invariant.key.0) refl now.turning in
    let next = turning_next at (c.step_loop.ensures.more c.if-not-step_loop.false) in
    let b = turn_bound c.args.elements object (mark_of_name (number_of h) next.name) in
    let start = with_name now.env b in
    let turned = turn_begins at c.args.elements next.name next.rest c.step_loop.new.self next.is
    (c.step_loop.ensures.turn c.if-not-step_loop.false
    ∙ ap (λ p. with_name (leaving c.loop.key.names (state_of c.loop.self.objects)) (turn_bound c.args.elements p (plain_mark c.loop.key.coming))) c.loop.invariant.key.0) in
    let ran = runs held_guards start turned in
    let turn = scoped now.env (body held_guards) start in
    let whole = turns body guards c.args.elements object h names e in
    let left = turns_behind body guards c.args.elements object h next.rest in
    ran_all sink.held sink.faults sink.room sink.counts_failures c.args.sink.now c.run_statements.new.sink
    (leaving c.args.key.now.names (state_of c.run_statements.new.self.objects)) held_guards ended turn.after whole
    (ap (λ n. leaving n (state_of c.run_statements.new.self.objects)) (sym c.loop.invariant.key.1)
    ∙ turn_left at c.args.propagates orders c.args.body.now b c.run_statements.new.self.objects ran.after)
    (subst (λ r. WroteSoFar sink.held sink.faults sink.room sink.counts_failures c.args.sink.now c.run_statements.new.sink r whole)
    (turns_behind_none body guards c.args.elements object h next.rest ended turn.after some)
    (so_far_more sink.held sink.faults sink.room sink.counts_failures c.args.sink.now c.loop.sink c.run_statements.new.sink
    (turns body guards c.args.elements object h now.names now.env) whole turn left ended
    (ap (λ l. turns body guards c.args.elements object h l now.env) next.is) (sym ran.ended) now.so_far ran.writes)))

pub run_turns-loop-preserved : goal.run_turns-loop-preserved
run_turns-loop-preserved g t c =
    let sink = g.K.Sink in
    let object = c.args.key.now.object in
    let before = c.loop.invariant in
    let step = c.step_loop.ensures in
    let ok = c.in_ok-ended.ensures in
    let key = step.key in
    let turned_on = step.turn c.if-not-step_loop.false in
    record {
      told = tells_more before.told (tells_before (same_count turned_on) ok.runs (λ orders runs. runs)) (λ orders so_far runs guards h e names begun.
          let body = exec_resolved c.args.propagates orders c.args.body.now in
          let held_guards = guards_of_loop c.args.elements h ++ guards in
          let now = so_far guards h e names begun in
          let at = turning_at refl (sym before.key.0) refl now.turning in
          let next = turning_next at (step.more c.if-not-step_loop.false) in
          let b = turn_bound c.args.elements object (mark_of_name (number_of h) next.name) in
          let start = with_name now.env b in
          let turned = turn_begins at c.args.elements next.name next.rest c.step_loop.new.self next.is
          (step.turn c.if-not-step_loop.false
          ∙ ap (λ p. with_name (leaving c.loop.key.names (state_of c.loop.self.objects)) (turn_bound c.args.elements p (plain_mark c.loop.key.coming))) before.key.0) in
          let ran = runs held_guards start turned in
          let none = normal_end c.in_ok-ended.ended (sym c.is_some.ensures ∙ c.if-is_some.false) in
          record {
            env = leaving (length now.env.bounds) (body held_guards start).after;
            names = next.rest;
            turning =
                turning_at key.1 (key.0 ∙ before.key.0) key.2
                (turn_ends at c.args.propagates orders c.args.body.now b next.name next.rest c.run_statements.new.self.objects (plain_mark c.step_loop.new.key.coming) next.is turned.ready ran.after
                (turn_goes now.turning next.name next.rest (plain_mark c.step_loop.new.key.coming) next.is (step.goes c.if-not-step_loop.false)));
            so_far =
                so_far_more sink.held sink.faults sink.room sink.counts_failures c.args.sink.now c.loop.sink c.run_statements.new.sink
                (turns body guards c.args.elements object h now.names now.env) (turns body guards c.args.elements object h names e)
                (scoped now.env (body held_guards) start) (turns_behind body guards c.args.elements object h next.rest) None
                (ap (λ l. turns body guards c.args.elements object h l now.env) next.is) (sym ran.ended ∙ none) now.so_far ran.writes;
          });
      key = (key.0 ∙ before.key.0, key.1 ∙ before.key.1, key.2 ∙ before.key.2, key.3 ∙ before.key.3);
      known = ok.leaves.persists c.step_loop.new.key.coming step.known;
      last = same_many c.step_loop.new.self c.run_statements.new.self.objects ok.leaves.counts ∙ (step.last c.if-not-step_loop.false ∙ ap (λ n. n + 1) (sym key.1));
      persists = λ x known. ok.leaves.persists x (step.persists x (before.persists x known));
      counts =
          ap (take c.args.key.now.names) ok.leaves.counts
          ∙ (ap (λ n. take n (counts_of (state_of c.step_loop.new.self))) (sym before.key.1)
          ∙ (step.counts
          ∙ (ap (λ n. take n (counts_of (state_of c.loop.self.objects))) before.key.1 ∙ before.counts)));
    }
