use Rattle.std.proofs.Common.{◌+◌, ap, length, map, subst, sym, refl, ◌∙◌}
use Rattle.ac_queue.specs.Shared.{shared}
use Rattle.ac_history.specs.Blocks.{new_block}
use Rattle.ac_history.specs.Orders.{run_of}
use Rattle.ac_calls.specs.Answers.{lines_text}
use Rattle.ac_meaning.specs.Execution.{gathered}
use Rattle.ac_meaning.specs.TaskBlocks.{block_fits, block_lines, is_ranked, queues_at, queues_left, tasks_from}
use Rattle.ac_objects.proofs.Lent.{places_stand_once}
use Rattle.ac_objects.specs.Lent.{StandOnce, QueuesLent}
use Rattle.ac_objects.specs.World.{state_of}
use Rattle.ac_host.specs.Gathered.{code_of}
use Rattle.ac_host.specs.Writing.{Broke, Wrote}
use Rattle.ac_host.proofs.Blocks.{ran_broke}
use Rattle.ac_host.proofs.ByOrders.{on_exit}
use Rattle.ac_host.proofs.LentQueues.{all_fit, nothing_gathered, new_fits, as_many_tasks, gathered_lines, one_more_counted, gathered_after}
use Rattle.ac_host.proofs.TasksRun.{nothing_run, none_run, told_one, tasks_end}
use Rattle.ac_host.proofs.host.Host.run_tasks.Goals as goal

pub lend_queues-requires : goal.lend_queues-requires
lend_queues-requires g c = subst StandOnce (sym (c.deref-5.ensures.value ∙ c.in_ok-places.ensures)) (places_stand_once c.args.tasks.now)

pub returns-in_err-places-clause-runs : goal.returns-in_err-places-clause-runs
returns-in_err-places-clause-runs g c =
    let sink = g.K.Sink in
    nothing_run sink.held sink.faults sink.room sink.counts_failures c.args.tasks.now c.args.sink.now c.from_residual.result c.from_residual.ensures.1

pub returns-in_err-first-clause-runs : goal.returns-in_err-first-clause-runs
returns-in_err-first-clause-runs g c =
    let sink = g.K.Sink in
    nothing_run sink.held sink.faults sink.room sink.counts_failures c.args.tasks.now c.args.sink.now c.from_residual-in_err-first.result
    c.from_residual-in_err-first.ensures.1

pub returns-in_err-gathered-clause-runs : goal.returns-in_err-gathered-clause-runs
returns-in_err-gathered-clause-runs g c =
    let sink = g.K.Sink in
    nothing_run sink.held sink.faults sink.room sink.counts_failures c.args.tasks.now c.args.sink.now c.from_residual-in_err-gathered.result
    c.from_residual-in_err-gathered.ensures.1

pub returns-in_err-ranked-clause-runs : goal.returns-in_err-ranked-clause-runs
returns-in_err-ranked-clause-runs g c =
    let sink = g.K.Sink in
    nothing_run sink.held sink.faults sink.room sink.counts_failures c.args.tasks.now c.args.sink.now c.from_residual-in_err-ranked.result
    c.from_residual-in_err-ranked.ensures.1

pub returns-in_err-queues-clause-runs : goal.returns-in_err-queues-clause-runs
returns-in_err-queues-clause-runs g c =
    let sink = g.K.Sink in
    nothing_run sink.held sink.faults sink.room sink.counts_failures c.args.tasks.now c.args.sink.now c.from_residual-in_err-queues.result
    c.from_residual-in_err-queues.ensures.1

pub returns-in_err-done-clause-runs : goal.returns-in_err-done-clause-runs
returns-in_err-done-clause-runs g c =
    let sink = g.K.Sink in
    nothing_run sink.held sink.faults sink.room sink.counts_failures c.args.tasks.now c.args.sink.now c.from_residual-in_err-done.result
    c.from_residual-in_err-done.ensures.1

-- one whose numbers don't fit
pub returns-then-not-all_fit-clause-runs : goal.returns-then-not-all_fit-clause-runs
returns-then-not-all_fit-clause-runs g c =
    let sink = g.K.Sink in
    let old = c.args.self.now.objects in
    let tasks = c.args.tasks.now in
    let places = c.in_ok-places.places.items in
    let first = c.in_ok-first.first in
    let made = c.in_ok-gathered.gathered.items in
    let ranked = c.in_ok-ranked.ranked.items in
    let first_is = c.in_ok-first.ensures ∙ ap (λ n. n + 1) c.names.ensures in
    let made_is = c.in_ok-gathered.ensures ∙ ap (λ p. tasks_from tasks p first) c.deref.ensures.value in
    let ranked_is = c.in_ok-ranked.ensures ∙ ap (λ p. map is_ranked (queues_at (state_of old) p)) c.deref-2.ensures.value in
    let test = (λ i. all_fit (sym c.deref-3.ensures.value i) (sym c.deref-4.ensures.value i)) ∙ sym c.all_fit.ensures in
    none_run sink.held sink.faults sink.room sink.counts_failures tasks c.args.sink.now
    (nothing_gathered old tasks places first made (queues_at (state_of old) places) c.in_ok-places.ensures first_is made_is refl ranked ranked_is
    (test ∙ c.if-not-all_fit.true))

pub run_over-requires : goal.run_over-requires
run_over-requires g c =
    let old = c.args.self.now.objects in
    let tasks = c.args.tasks.now in
    let places = c.in_ok-places.places.items in
    let first = c.in_ok-first.first in
    let made = c.in_ok-gathered.gathered.items in
    let ranked = c.in_ok-ranked.ranked.items in
    let first_is = c.in_ok-first.ensures ∙ ap (λ n. n + 1) c.names.ensures in
    let made_is = c.in_ok-gathered.ensures ∙ ap (λ p. tasks_from tasks p first) c.deref.ensures.value in
    let ranked_is = c.in_ok-ranked.ensures ∙ ap (λ p. map is_ranked (queues_at (state_of old) p)) c.deref-2.ensures.value in
    let test = (λ i. all_fit (sym c.deref-3.ensures.value i) (sym c.deref-4.ensures.value i)) ∙ sym c.all_fit.ensures in
    let lent = map shared c.in_ok-queues.queues.items in
    let lent_is = c.in_ok-queues.ensures.queues ∙ ap (queues_at (state_of old)) c.deref-5.ensures.value in
    let fits = test ∙ c.if-not-all_fit.false in
    record {
      sound = c.requires.sound;
      fits =
          ap (λ m. block_fits (new_block lent (code_of m))) c.deref-6.ensures.value
          ∙ new_fits old tasks places first made lent c.in_ok-places.ensures first_is made_is lent_is ranked ranked_is fits;
    }

pub write_block-requires : goal.write_block-requires
write_block-requires g c =
    let old = c.args.self.now.objects in
    let tasks = c.args.tasks.now in
    let places = c.in_ok-places.places.items in
    let first = c.in_ok-first.first in
    let made = c.in_ok-gathered.gathered.items in
    let ranked = c.in_ok-ranked.ranked.items in
    let first_is = c.in_ok-first.ensures ∙ ap (λ n. n + 1) c.names.ensures in
    let made_is = c.in_ok-gathered.ensures ∙ ap (λ p. tasks_from tasks p first) c.deref.ensures.value in
    let ranked_is = c.in_ok-ranked.ensures ∙ ap (λ p. map is_ranked (queues_at (state_of old) p)) c.deref-2.ensures.value in
    let test = (λ i. all_fit (sym c.deref-3.ensures.value i) (sym c.deref-4.ensures.value i)) ∙ sym c.all_fit.ensures in
    let lent = map shared c.in_ok-queues.queues.items in
    let lent_is = c.in_ok-queues.ensures.queues ∙ ap (queues_at (state_of old)) c.deref-5.ensures.value in
    let fits = test ∙ c.if-not-all_fit.false in
    let ran = c.in_ok-done.ensures in
    let done = c.in_ok-done.done in
    let done_is = ran.is ∙ ap (λ m. run_of (new_block lent (code_of m)) ran.order) c.deref-6.ensures.value in
    ap length c.deref-7.ensures.value
    ∙ as_many_tasks old tasks places first made lent c.in_ok-places.ensures first_is made_is lent_is ranked ranked_is fits ran.order done done_is

pub returns-in_err-write_block-clause-runs : goal.returns-in_err-write_block-clause-runs
returns-in_err-write_block-clause-runs g c =
    let sink = g.K.Sink in
    let old = c.args.self.now.objects in
    let tasks = c.args.tasks.now in
    let places = c.in_ok-places.places.items in
    let first = c.in_ok-first.first in
    let made = c.in_ok-gathered.gathered.items in
    let ranked = c.in_ok-ranked.ranked.items in
    let first_is = c.in_ok-first.ensures ∙ ap (λ n. n + 1) c.names.ensures in
    let made_is = c.in_ok-gathered.ensures ∙ ap (λ p. tasks_from tasks p first) c.deref.ensures.value in
    let ranked_is = c.in_ok-ranked.ensures ∙ ap (λ p. map is_ranked (queues_at (state_of old) p)) c.deref-2.ensures.value in
    let test = (λ i. all_fit (sym c.deref-3.ensures.value i) (sym c.deref-4.ensures.value i)) ∙ sym c.all_fit.ensures in
    let lent = map shared c.in_ok-queues.queues.items in
    let lent_is = c.in_ok-queues.ensures.queues ∙ ap (queues_at (state_of old)) c.deref-5.ensures.value in
    let fits = test ∙ c.if-not-all_fit.false in
    let ran = c.in_ok-done.ensures in
    let done = c.in_ok-done.done in
    let done_is = ran.is ∙ ap (λ m. run_of (new_block lent (code_of m)) ran.order) c.deref-6.ensures.value in
    let exit = c.from_residual-in_err-write_block.ensures.1 in
    let result = c.from_residual-in_err-write_block.result in
    let end = c.in_err-write_block.field-0.0 in
    let lines = gathered_lines old tasks places first made lent c.in_ok-places.ensures first_is made_is lent_is ranked ranked_is fits ran.order done done_is in
    told_one sink.held sink.faults sink.room sink.counts_failures tasks ran.order ran.allowed (on_exit _ _ result exit) (λ orders go guards e u.
    ran_broke sink.held sink.faults sink.room sink.counts_failures c.args.sink.now c.write_block.new.sink (state_of c.lend_queues.new.self) guards
    (gathered (orders e.blocks) tasks e) end result exit
    (subst (λ t. Broke sink.held sink.faults sink.room sink.counts_failures c.args.sink.now c.write_block.new.sink t end)
    (ap (λ m. lines_text (block_lines m done)) c.deref-7.ensures.value ∙ lines orders go guards e u) c.in_err-write_block.ensures))

pub returns-clause-runs : goal.returns-clause-runs
returns-clause-runs g c =
    let sink = g.K.Sink in
    let old = c.args.self.now.objects in
    let tasks = c.args.tasks.now in
    let places = c.in_ok-places.places.items in
    let first = c.in_ok-first.first in
    let made = c.in_ok-gathered.gathered.items in
    let ranked = c.in_ok-ranked.ranked.items in
    let first_is = c.in_ok-first.ensures ∙ ap (λ n. n + 1) c.names.ensures in
    let made_is = c.in_ok-gathered.ensures ∙ ap (λ p. tasks_from tasks p first) c.deref.ensures.value in
    let ranked_is = c.in_ok-ranked.ensures ∙ ap (λ p. map is_ranked (queues_at (state_of old) p)) c.deref-2.ensures.value in
    let test = (λ i. all_fit (sym c.deref-3.ensures.value i) (sym c.deref-4.ensures.value i)) ∙ sym c.all_fit.ensures in
    let lent = map shared c.in_ok-queues.queues.items in
    let lent_is = c.in_ok-queues.ensures.queues ∙ ap (queues_at (state_of old)) c.deref-5.ensures.value in
    let fits = test ∙ c.if-not-all_fit.false in
    let ran = c.in_ok-done.ensures in
    let done = c.in_ok-done.done in
    let done_is = ran.is ∙ ap (λ m. run_of (new_block lent (code_of m)) ran.order) c.deref-6.ensures.value in
    let mid = c.lend_queues.new.self in
    let now = c.return_queues.new.self in
    let back = map shared c.close.result.items in
    let given = subst (λ p. QueuesLent p (state_of old) (state_of mid)) c.deref-5.ensures.value c.in_ok-queues.ensures.lent in
    let now_is = c.return_queues.ensures.returned ∙ ap (λ p. queues_left p back (state_of mid)) c.deref-8.ensures.value in
    let lines = gathered_lines old tasks places first made lent c.in_ok-places.ensures first_is made_is lent_is ranked ranked_is fits ran.order done done_is in
    let counted = one_more_counted old tasks places first made lent c.in_ok-places.ensures first_is made_is lent_is ranked ranked_is fits ran.order done done_is
    mid now back given c.close.ensures now_is in
    let after = gathered_after old tasks places first made lent c.in_ok-places.ensures first_is made_is lent_is ranked ranked_is fits ran.order done done_is
    mid now back given c.close.ensures now_is in
    told_one sink.held sink.faults sink.room sink.counts_failures tasks ran.order ran.allowed counted (λ orders go guards e u. record {
      writes =
          subst (Wrote sink.held sink.faults sink.room sink.counts_failures c.args.sink.now c.write_block.new.sink)
          (ap (λ m. lines_text (block_lines m done)) c.deref-7.ensures.value ∙ lines orders go guards e u) c.in_ok-write_block.ensures;
      after = after orders go guards e u;
      ended = tasks_end (orders e.blocks) tasks e;
    })
