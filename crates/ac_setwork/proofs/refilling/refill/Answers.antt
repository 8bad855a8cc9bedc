use Rattle.std.proofs.Common.{sym, ◌∙◌, subst}
use Rattle.std.proofs.lemmas.List.{length-map}
use Rattle.ac_base.specs.declared.name.Name.{Name}
use Rattle.ac_base.specs.Rows.{Row, values}
use Rattle.ac_setwork.specs.Refilling.{IsFilled}
use Rattle.ac_setwork.proofs.Refills.{refilled}
use Rattle.ac_setwork.proofs.refilling.refill.Goals as goal

pub returns-clause-ok : goal.returns-clause-ok
returns-clause-ok g c =
    let s = g.I.Index.seen c.args.index.now in let from = g.I.Index.seen c.args.source.now in let wide = g.I.Index.seen c.widen.new.index in let clear = g.I.Index.seen c.clear.new.self in let new = g.I.Index.seen c.fill.new.index in
    refilled c.args.limit c.len.result (values from.rows) s wide clear new (length-map from.rows (λ (r : Row Name _). r.value) ∙ sym c.len.ensures) c.in_ok-widen.ensures.ok c.clear.ensures
    (subst (λ vs. IsFilled vs clear new) c.in_ok-rows.ensures c.fill.ensures)
