use Rattle.std.proofs.Common.{◌+◌, ◌<◌, arith, drop, length, refl, Some, None}
use Rattle.ac_history.specs.Blocks.{present}
use Rattle.ac_calls.specs.Answers.{answers_stalled}
use Rattle.ac_meaning.specs.TaskBlocks.{lines_at, stalled_lines}
use Rattle.ac_host.proofs.LinesOfTasks.{told, stalled_next, many_tasks}
use Rattle.ac_host.proofs.OneLine.{leaves_broken}
use Rattle.ac_host.proofs.Telling.{so_far_more, so_far_broke}
use Rattle.ac_host.proofs.task_lines.write_stalled.Goals as goal

pub returns-in_err-write_step : goal.returns-in_err-write_step
returns-in_err-write_step g c =
    let sink = g.K.Sink in
    let tasks = c.args.tasks.now in
    let states = (present c.args.book.now).tasks in
    let i = c.loop-task.task in
    let t = c.index-tasks-task.result in
    let here : i < length tasks = omega (arith, c.loop-task-test.true, c.tasks-task-end.ensures, c.requires) in
    let there : i < length states = omega (arith, c.loop-task-test.true, c.tasks-task-end.ensures, many_tasks c.args.book.now) in
    leaves_broken sink.held sink.faults sink.room sink.counts_failures c.from_residual.result c.from_residual.ensures.1
    (so_far_broke sink.held sink.faults sink.room sink.counts_failures c.args.sink.now c.loop-task.sink c.write_step.new.sink
    (told (stalled_lines (drop i tasks) (drop i states))) (told (stalled_lines tasks states))
    (told (lines_at (Some t) c.next_place-place.result answers_stalled))
    (λ _ _. told (stalled_lines (drop (i + 1) tasks) (drop (i + 1) states))) c.in_err-write_step.field-0.0
    (stalled_next tasks states i t c.next_place-place.result here there c.index-tasks-task.is c.next_place-place.ensures)
    c.loop-task.invariant c.in_err-write_step.ensures)

pub loop-task-preserved : goal.loop-task-preserved
loop-task-preserved g c =
    let sink = g.K.Sink in
    let tasks = c.args.tasks.now in
    let states = (present c.args.book.now).tasks in
    let i = c.loop-task.task in
    let t = c.index-tasks-task.result in
    let here : i < length tasks = omega (arith, c.loop-task-test.true, c.tasks-task-end.ensures, c.requires) in
    let there : i < length states = omega (arith, c.loop-task-test.true, c.tasks-task-end.ensures, many_tasks c.args.book.now) in
    so_far_more sink.held sink.faults sink.room sink.counts_failures c.args.sink.now c.loop-task.sink c.write_step.new.sink
    (told (stalled_lines (drop i tasks) (drop i states))) (told (stalled_lines tasks states))
    (told (lines_at (Some t) c.next_place-place.result answers_stalled))
    (λ _ _. told (stalled_lines (drop (i + 1) tasks) (drop (i + 1) states))) None
    (stalled_next tasks states i t c.next_place-place.result here there c.index-tasks-task.is c.next_place-place.ensures)
    refl c.loop-task.invariant c.in_ok-write_step.ensures
