use Rattle.std.proofs.Common.{ap, sym, ◌∙◌, option_map}
use Rattle.ac_check.specs.Rows.{row_view, row_operation}
use Rattle.ac_check.proofs.Groups.{first_here, first_later}
use Rattle.ac_check.proofs.call.operation_among.Goals as goal

pub returns-in-Some : goal.returns-in-Some
returns-in-Some c =
    let here = first_here _ c.args.groups.now c.loop-rows.rows-index _ c.loop-rows-test.true (row_view c.in-Some.row.now) c.in-Some.ensures in
    ap (option_map row_operation) (sym here ∙ c.loop-rows.invariant)

pub loop-rows-preserved : goal.loop-rows-preserved
loop-rows-preserved c =
    first_later _ c.args.groups.now c.loop-rows.rows-index _ c.loop-rows-test.true c.in_default.ensures ∙ c.loop-rows.invariant
