use Rattle.std.proofs.Common.{◌+◌, map, drop, rules, sym, ap, ◌∙◌, to_z, to_z-of_z, w64}
use Rattle.ac_rules.proofs.Outcomes.{next_item}
use Rattle.ac_calls.specs.declared.plains.PlainRow.{PlainRow}
use Rattle.ac_aggregate.specs.Values.{folded}
use Rattle.ac_aggregate.proofs.Folds.{row_more}
use Rattle.ac_aggregate.proofs.valuing.fold_all.Goals as goal

pub loop-row-preserved : goal.loop-row-preserved
loop-row-preserved c =
    let by = c.args.fold.by in
    let rows = c.args.rows.now in
    let i = c.loop-row.row-index in
    let made = to_z w64 c.loop-row.made-bits in
    let rest = map (λ (r : PlainRow). r.value) (drop (i + 1) rows) in
    ap (λ z. folded by z rest) (to_z-of_z {w = w64} {z = c.in-Some.more} (search rules))
    ∙ sym (row_more by made c.in-Some.more c.row-item.result.value rest (search rules))
    ∙ ap (λ rs. folded by made (map (λ (r : PlainRow). r.value) rs)) (sym (next_item rows i c.row-item.result c.loop-row-test.true c.row-item.is))
    ∙ c.loop-row.invariant
