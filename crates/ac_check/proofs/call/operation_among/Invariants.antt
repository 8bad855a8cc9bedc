use Rattle.std.proofs.Common.{◌≡◌, drop}
use Rattle.ac_check.specs.Rows.{first_grouped}
use Rattle.ac_rules.specs.Rules as rules
use Rattle.ac_check.specs.Views.{typed_view}
use Rattle.ac_check.proofs.call.operation_among.Given as goal

abbrev pub invariant-loop-rows : goal.invariant-loop-rows
invariant-loop-rows l =
    first_grouped (rules.is_row l.scope (typed_view l.typed) l.target l.word l.args) (drop l.rows-index l.groups)
    ≡ first_grouped (rules.is_row l.scope (typed_view l.typed) l.target l.word l.args) l.groups
