use Rattle.std.proofs.Common.{◌-◌, ◌<◌, length, Some, sym, subst}
use Rattle.ac_chain.specs.Rows.{place_of}
use Rattle.ac_chain.proofs.Compares.{Comparing, comparing_start, left_live, right_live, compare_differs, compare_more, compare_less, compare_short, compare_end}
use Rattle.ac_chain.proofs.search.are_equal.Goals as goal

pub loop-here-init : goal.loop-here-init
loop-here-init g c = comparing_start g.T.Elem.is_same (g.C.Walked.seen c.args.left.now) (g.C.Walked.seen c.args.right.now) c.first-here.result c.first-there.result c.first-here.ensures.name c.first-there.ensures.name

pub returns-in_default-there : goal.returns-in_default-there
returns-in_default-there g c =
    let k = g.C.Walked.seen c.args.left.now in let d = g.C.Walked.seen c.args.right.now in
    compare_short g.T.Elem.is_same k d c.len.ensures.sound c.in-Some.a
    (subst (λ p. Comparing g.T.Elem.is_same k d (Some c.in-Some.a) p) c.in_default-there.is (subst (λ p. Comparing g.T.Elem.is_same k d p c.loop-here.there) c.in-Some.is c.loop-here.invariant))

pub at-requires : goal.at-requires
at-requires g c =
    let k = g.C.Walked.seen c.args.left.now in let d = g.C.Walked.seen c.args.right.now in
    left_live g.T.Elem.is_same k d c.len.ensures.sound c.len-2.ensures.sound c.in-Some.a c.in-Some-there.b
    (subst (λ p. Comparing g.T.Elem.is_same k d (Some c.in-Some.a) p) c.in-Some-there.is (subst (λ p. Comparing g.T.Elem.is_same k d p c.loop-here.there) c.in-Some.is c.loop-here.invariant))

pub at-requires-in-Some : goal.at-requires-in-Some
at-requires-in-Some g c =
    let k = g.C.Walked.seen c.args.left.now in let d = g.C.Walked.seen c.args.right.now in
    right_live g.T.Elem.is_same k d c.len.ensures.sound c.len-2.ensures.sound c.in-Some.a c.in-Some-there.b
    (subst (λ p. Comparing g.T.Elem.is_same k d (Some c.in-Some.a) p) c.in-Some-there.is (subst (λ p. Comparing g.T.Elem.is_same k d p c.loop-here.there) c.in-Some.is c.loop-here.invariant))

pub returns-then-not-same : goal.returns-then-not-same
returns-then-not-same g c =
    let k = g.C.Walked.seen c.args.left.now in let d = g.C.Walked.seen c.args.right.now in
    compare_differs g.T.Elem.is_same k d c.len.ensures.sound c.len-2.ensures.sound c.in-Some.a c.in-Some-there.b
    (subst (λ p. Comparing g.T.Elem.is_same k d (Some c.in-Some.a) p) c.in-Some-there.is (subst (λ p. Comparing g.T.Elem.is_same k d p c.loop-here.there) c.in-Some.is c.loop-here.invariant))
    c.at.result.now c.at-in-Some.result.now c.same.result c.at.ensures.value c.at-in-Some.ensures.value c.same.ensures c.if-not-same.true

pub next-here-requires : goal.next-here-requires
next-here-requires g c =
    let k = g.C.Walked.seen c.args.left.now in let d = g.C.Walked.seen c.args.right.now in
    left_live g.T.Elem.is_same k d c.len.ensures.sound c.len-2.ensures.sound c.in-Some.a c.in-Some-there.b
    (subst (λ p. Comparing g.T.Elem.is_same k d (Some c.in-Some.a) p) c.in-Some-there.is (subst (λ p. Comparing g.T.Elem.is_same k d p c.loop-here.there) c.in-Some.is c.loop-here.invariant))

pub next-there-requires : goal.next-there-requires
next-there-requires g c =
    let k = g.C.Walked.seen c.args.left.now in let d = g.C.Walked.seen c.args.right.now in
    right_live g.T.Elem.is_same k d c.len.ensures.sound c.len-2.ensures.sound c.in-Some.a c.in-Some-there.b
    (subst (λ p. Comparing g.T.Elem.is_same k d (Some c.in-Some.a) p) c.in-Some-there.is (subst (λ p. Comparing g.T.Elem.is_same k d p c.loop-here.there) c.in-Some.is c.loop-here.invariant))

pub loop-here-smaller : goal.loop-here-smaller
loop-here-smaller g c =
    let k = g.C.Walked.seen c.args.left.now in let d = g.C.Walked.seen c.args.right.now in
    subst (λ p. length k.rows - place_of c.next-here.result k.rows < length k.rows - place_of p k.rows) (sym c.in-Some.is)
    (compare_less g.T.Elem.is_same k d c.len.ensures.sound c.len-2.ensures.sound c.in-Some.a c.in-Some-there.b
    (subst (λ p. Comparing g.T.Elem.is_same k d (Some c.in-Some.a) p) c.in-Some-there.is (subst (λ p. Comparing g.T.Elem.is_same k d p c.loop-here.there) c.in-Some.is c.loop-here.invariant))
    c.next-here.result c.next-here.ensures.name)

pub loop-here-preserved : goal.loop-here-preserved
loop-here-preserved g c =
    let k = g.C.Walked.seen c.args.left.now in let d = g.C.Walked.seen c.args.right.now in
    compare_more g.T.Elem.is_same k d c.len.ensures.sound c.len-2.ensures.sound c.in-Some.a c.in-Some-there.b
    (subst (λ p. Comparing g.T.Elem.is_same k d (Some c.in-Some.a) p) c.in-Some-there.is (subst (λ p. Comparing g.T.Elem.is_same k d p c.loop-here.there) c.in-Some.is c.loop-here.invariant))
    c.at.result.now c.at-in-Some.result.now c.same.result c.at.ensures.value c.at-in-Some.ensures.value c.same.ensures c.if-not-same.false
    c.next-here.result c.next-there.result c.next-here.ensures.name c.next-there.ensures.name

pub returns : goal.returns
returns g c =
    let k = g.C.Walked.seen c.args.left.now in let d = g.C.Walked.seen c.args.right.now in
    compare_end g.T.Elem.is_same k d c.loop-here.there c.is_none.result (subst (λ p. Comparing g.T.Elem.is_same k d p c.loop-here.there) c.in_default.is c.loop-here.invariant) c.is_none.ensures
