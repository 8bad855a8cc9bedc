use Rattle.std.proofs.Common.{[], refl, subst}
use Rattle.ac_setwork.specs.Indexed.{plain_rows}
use Rattle.ac_setwork.proofs.Walking.{Matching, all_matched, matched_more, smaller, started, stepped, unmatched}
use Rattle.ac_setwork.proofs.filling.are_matched.Goals as goal

pub loop-place-init : goal.loop-place-init
loop-place-init g c =
    let s = g.I.Index.seen c.args.left.now in
    record { before = []; left = s.rows; walk = started s c.first-place.result c.first-place.ensures; whole = refl }

pub at-requires : goal.at-requires
at-requires g c =
    let s = g.I.Index.seen c.args.left.now in let w = subst (Matching (g.I.Index.seen c.args.left.now) g.I.Index.order g.I.Index.is_equal (plain_rows (g.I.Index.seen c.args.right.now))) c.in-Some.is c.loop-place.invariant in
    (stepped s c.requires.left w.before w.left c.in-Some.name w.walk).there

pub returns-then-not-has_equal : goal.returns-then-not-has_equal
returns-then-not-has_equal g c =
    let s = g.I.Index.seen c.args.left.now in
    unmatched s g.I.Index.order g.I.Index.is_equal (plain_rows (g.I.Index.seen c.args.right.now)) c.requires.left c.in-Some.name c.at.result.now c.has_equal.result (subst (Matching (g.I.Index.seen c.args.left.now) g.I.Index.order g.I.Index.is_equal (plain_rows (g.I.Index.seen c.args.right.now))) c.in-Some.is c.loop-place.invariant) c.at.ensures c.has_equal.ensures c.if-not-has_equal.true

pub next-place-requires : goal.next-place-requires
next-place-requires g c =
    let s = g.I.Index.seen c.args.left.now in let w = subst (Matching (g.I.Index.seen c.args.left.now) g.I.Index.order g.I.Index.is_equal (plain_rows (g.I.Index.seen c.args.right.now))) c.in-Some.is c.loop-place.invariant in
    (stepped s c.requires.left w.before w.left c.in-Some.name w.walk).there

pub loop-place-smaller : goal.loop-place-smaller
loop-place-smaller g c =
    let i = c.loop-place.invariant in
    smaller (g.I.Index.seen c.args.left.now) c.requires.left i.before i.left c.loop-place.place c.next-place.result c.in-Some.name i.walk c.in-Some.is c.next-place.ensures

pub loop-place-preserved : goal.loop-place-preserved
loop-place-preserved g c =
    let s = g.I.Index.seen c.args.left.now in
    matched_more s g.I.Index.order g.I.Index.is_equal (plain_rows (g.I.Index.seen c.args.right.now)) c.requires.left c.in-Some.name c.next-place.result c.at.result.now c.has_equal.result (subst (Matching (g.I.Index.seen c.args.left.now) g.I.Index.order g.I.Index.is_equal (plain_rows (g.I.Index.seen c.args.right.now))) c.in-Some.is c.loop-place.invariant) c.at.ensures c.has_equal.ensures c.if-not-has_equal.false c.next-place.ensures

pub returns : goal.returns
returns g c = all_matched (g.I.Index.seen c.args.left.now) g.I.Index.order g.I.Index.is_equal (plain_rows (g.I.Index.seen c.args.right.now)) (subst (Matching (g.I.Index.seen c.args.left.now) g.I.Index.order g.I.Index.is_equal (plain_rows (g.I.Index.seen c.args.right.now))) c.in_default.is c.loop-place.invariant)
