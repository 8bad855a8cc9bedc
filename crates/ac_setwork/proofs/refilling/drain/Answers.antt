use Rattle.std.proofs.Common.{◌≤◌, sym, subst, ◌∙◌}
use Rattle.std.proofs.lemmas.List.{length-map}
use Rattle.ac_base.specs.declared.name.Name.{Name}
use Rattle.ac_base.specs.Rows.{Row, values}
use Rattle.ac_setwork.proofs.Refills.{Filling, draining_ends, draining_more, filling_absent, filling_ends, filling_more, first_there, none_there}
use Rattle.ac_setwork.proofs.refilling.drain.Goals as goal

pub remove-row-requires : goal.remove-row-requires
remove-row-requires g c = first_there (g.I.Index.seen c.loop-name.source) c.in-Some.name (sym c.first.ensures ∙ c.in-Some.is)

pub add_new-requires-clause-absent : goal.add_new-requires-clause-absent
add_new-requires-clause-absent g c =
    let old = g.I.Index.seen c.args.source.now in let start = g.I.Index.seen c.args.index.now in let s = g.I.Index.seen c.loop-name.source in let s2 = g.I.Index.seen c.remove-row.new.self in let now = g.I.Index.seen c.loop-name.index in
    let taken = draining_more old s s2 c.in-Some.name c.remove-row.result c.loop-name.invariant.draining (sym c.first.ensures ∙ c.in-Some.is) c.remove-row.ensures.value c.remove-row.ensures.removed in
    filling_absent (values old.rows) start g.I.Index.order g.met.I.Index.closed now c.remove-row.result (values s2.rows) c.requires.keyed (subst (Filling (values old.rows) start now) taken.are c.loop-name.invariant.filling)

pub loop-name-smaller : goal.loop-name-smaller
loop-name-smaller g c =
    let old = g.I.Index.seen c.args.source.now in let s = g.I.Index.seen c.loop-name.source in let s2 = g.I.Index.seen c.remove-row.new.self in
    (draining_more old s s2 c.in-Some.name c.remove-row.result c.loop-name.invariant.draining (sym c.first.ensures ∙ c.in-Some.is) c.remove-row.ensures.value c.remove-row.ensures.removed).fewer

pub loop-name-preserved : goal.loop-name-preserved
loop-name-preserved g c =
    let old = g.I.Index.seen c.args.source.now in let start = g.I.Index.seen c.args.index.now in let s = g.I.Index.seen c.loop-name.source in let s2 = g.I.Index.seen c.remove-row.new.self in let now = g.I.Index.seen c.loop-name.index in
    let taken = draining_more old s s2 c.in-Some.name c.remove-row.result c.loop-name.invariant.draining (sym c.first.ensures ∙ c.in-Some.is) c.remove-row.ensures.value c.remove-row.ensures.removed in
    record {
      filling = filling_more (values old.rows) start g.I.Index.order g.met.I.Index.closed now (g.I.Index.seen c.add_new.new.self) c.remove-row.result (values s2.rows) c.requires.keyed (subst (Filling (values old.rows) start now) taken.are c.loop-name.invariant.filling) (subst (λ n. n ≤ start.spare) (sym (length-map old.rows (λ (r : Row Name _). r.value))) c.requires.spare) c.add_new.ensures.added;
      draining = taken.draining;
    }

pub returns-clause-filled : goal.returns-clause-filled
returns-clause-filled g c =
    let old = g.I.Index.seen c.args.source.now in let start = g.I.Index.seen c.args.index.now in let s = g.I.Index.seen c.loop-name.source in let now = g.I.Index.seen c.loop-name.index in
    filling_ends (values old.rows) start now (subst (λ rows. Filling (values old.rows) start now (values rows)) (none_there s (sym c.first.ensures ∙ c.in_default.is)) c.loop-name.invariant.filling)

pub returns-clause-drained : goal.returns-clause-drained
returns-clause-drained g c = draining_ends (g.I.Index.seen c.args.source.now) (g.I.Index.seen c.loop-name.source) c.loop-name.invariant.draining (sym c.first.ensures ∙ c.in_default.is)
