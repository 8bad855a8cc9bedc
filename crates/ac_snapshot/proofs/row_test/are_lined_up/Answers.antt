use Rattle.std.proofs.Common.{map, sym, ap, ◌∙◌}
use Rattle.ac_model.specs.Queues.{are_in_line_by}
use Rattle.ac_calls.specs.Elements.{integer_in}
use Rattle.ac_calls.specs.Holdings.{discipline_by}
use Rattle.ac_snapshot.proofs.RowsTogether.{lined_rows}
use Rattle.ac_snapshot.proofs.row_test.are_lined_up.Goals as goal

pub returns-in-PriorityQueue : goal.returns-in-PriorityQueue
returns-in-PriorityQueue c =
    let rows = c.args.rows.now in
    c.each_in_turn.ensures ∙ sym (lined_rows rows)
    ∙ ap (λ kind. are_in_line_by (discipline_by kind) (map (λ r. integer_in r.value) rows)) (sym c.in-PriorityQueue.is)
