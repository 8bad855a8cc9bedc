use Rattle.std.proofs.Common.{sym, subst}
use Rattle.ac_setwork.proofs.Walking.{Copying, copied_all, copied_more, smaller, stepped}
use Rattle.ac_setwork.proofs.refilling.copies.Goals as goal

pub at-requires : goal.at-requires
at-requires g c =
    let s = g.I.Index.seen c.args.index.now in let w = subst (Copying s c.loop-place.made.items) c.in-Some.is c.loop-place.invariant in
    (stepped s c.requires w.before w.left c.in-Some.name w.walk).there

pub next-place-requires : goal.next-place-requires
next-place-requires g c =
    let s = g.I.Index.seen c.args.index.now in let w = subst (Copying s c.loop-place.made.items) c.in-Some.is c.loop-place.invariant in
    (stepped s c.requires w.before w.left c.in-Some.name w.walk).there

pub loop-place-smaller : goal.loop-place-smaller
loop-place-smaller g c =
    let w = c.loop-place.invariant in
    smaller (g.I.Index.seen c.args.index.now) c.requires w.before w.left c.loop-place.place c.next-place.result c.in-Some.name w.walk c.in-Some.is c.next-place.ensures

pub loop-place-preserved : goal.loop-place-preserved
loop-place-preserved g c =
    let s = g.I.Index.seen c.args.index.now in
    subst (λ made. Copying s made c.next-place.result) (sym c.in_ok-push.ensures.items)
    (copied_more s c.requires c.loop-place.made.items c.in-Some.name c.next-place.result c.at.result.now c.in_ok-copied.field-0 (subst (Copying s c.loop-place.made.items) c.in-Some.is c.loop-place.invariant) c.at.ensures c.in_ok-copied.ensures c.next-place.ensures)

pub returns : goal.returns
returns g c =
    let s = g.I.Index.seen c.args.index.now in
    copied_all s c.loop-place.made.items (subst (Copying s c.loop-place.made.items) c.in_default.is c.loop-place.invariant)
