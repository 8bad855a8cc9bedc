use Rattle.std.proofs.Common.{sym, ◌∙◌}
use Rattle.std.proofs.lemmas.List.{length-map}
use Rattle.ac_base.specs.declared.name.Name.{Name}
use Rattle.ac_base.specs.Rows.{Row, values}
use Rattle.ac_setwork.proofs.Refills.{cleared_none, refilled}
use Rattle.ac_setwork.proofs.refilling.move_all.Goals as goal

pub drain-requires-clause-none : goal.drain-requires-clause-none
drain-requires-clause-none g c =
    let s = g.I.Index.seen c.args.index.now in let from = g.I.Index.seen c.args.source.now in let wide = g.I.Index.seen c.widen.new.index in let clear = g.I.Index.seen c.clear.new.self in
    cleared_none c.args.limit c.len.result (values from.rows) s wide clear clear c.clear.ensures

pub returns-clause-ok : goal.returns-clause-ok
returns-clause-ok g c =
    let s = g.I.Index.seen c.args.index.now in let from = g.I.Index.seen c.args.source.now in let wide = g.I.Index.seen c.widen.new.index in let clear = g.I.Index.seen c.clear.new.self in let new = g.I.Index.seen c.drain.new.index in
    refilled c.args.limit c.len.result (values from.rows) s wide clear new (length-map from.rows (λ (r : Row Name _). r.value) ∙ sym c.len.ensures) c.in_ok-widen.ensures.ok c.clear.ensures c.drain.ensures.filled
