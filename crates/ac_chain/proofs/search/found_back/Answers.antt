use Rattle.std.proofs.Common.{◌<◌, ◌∙◌, reverse, take, sym, subst}
use Rattle.ac_chain.specs.Search.{count_to}
use Rattle.ac_chain.proofs.Walks.{backward_start}
use Rattle.ac_chain.proofs.Searches.{SearchingBack, search_start, back_live, back_hit, back_miss, back_less, back_end}
use Rattle.ac_chain.proofs.search.found_back.Goals as goal

pub loop-place-init : goal.loop-place-init
loop-place-init g c =
    let k = g.C.Walked.seen c.args.rows.now in let whole = reverse (take (count_to c.args.from k.rows) k.rows) in
    record { left = whole; walk = backward_start k c.args.from c.requires.from; searching = search_start g.T.Elem.is_same c.args.e.now whole }

pub at-requires : goal.at-requires
at-requires g c =
    let k = g.C.Walked.seen c.args.rows.now in
    back_live k c.requires.sound g.T.Elem.is_same c.args.e.now (reverse (take (count_to c.args.from k.rows) k.rows)) c.in-Some.name (subst (λ p. SearchingBack k g.T.Elem.is_same c.args.e.now (reverse (take (count_to c.args.from k.rows) k.rows)) p) c.in-Some.is c.loop-place.invariant)

pub returns-then-same : goal.returns-then-same
returns-then-same g c =
    let k = g.C.Walked.seen c.args.rows.now in
    back_hit k c.requires.sound g.T.Elem.is_same c.args.e.now (reverse (take (count_to c.args.from k.rows) k.rows)) c.in-Some.name c.at.result.now
    (subst (λ p. SearchingBack k g.T.Elem.is_same c.args.e.now (reverse (take (count_to c.args.from k.rows) k.rows)) p) c.in-Some.is c.loop-place.invariant) c.at.ensures.value (sym c.same.ensures ∙ c.if-same.true)

pub prev-place-requires : goal.prev-place-requires
prev-place-requires g c =
    let k = g.C.Walked.seen c.args.rows.now in
    back_live k c.requires.sound g.T.Elem.is_same c.args.e.now (reverse (take (count_to c.args.from k.rows) k.rows)) c.in-Some.name (subst (λ p. SearchingBack k g.T.Elem.is_same c.args.e.now (reverse (take (count_to c.args.from k.rows) k.rows)) p) c.in-Some.is c.loop-place.invariant)

pub loop-place-smaller : goal.loop-place-smaller
loop-place-smaller g c =
    let k = g.C.Walked.seen c.args.rows.now in
    let whole = reverse (take (count_to c.args.from k.rows) k.rows) in
    subst (λ p. count_to c.prev-place.result k.rows < count_to p k.rows) (sym c.in-Some.is)
    (back_less k c.requires.sound g.T.Elem.is_same c.args.e.now whole c.in-Some.name (subst (λ p. SearchingBack k g.T.Elem.is_same c.args.e.now whole p) c.in-Some.is c.loop-place.invariant) c.prev-place.result c.prev-place.ensures.name)

pub loop-place-preserved : goal.loop-place-preserved
loop-place-preserved g c =
    let k = g.C.Walked.seen c.args.rows.now in
    back_miss k c.requires.sound g.T.Elem.is_same c.args.e.now (reverse (take (count_to c.args.from k.rows) k.rows)) c.in-Some.name c.at.result.now
    (subst (λ p. SearchingBack k g.T.Elem.is_same c.args.e.now (reverse (take (count_to c.args.from k.rows) k.rows)) p) c.in-Some.is c.loop-place.invariant) c.at.ensures.value (sym c.same.ensures ∙ c.if-same.false) c.prev-place.result c.prev-place.ensures.name

pub returns : goal.returns
returns g c =
    let k = g.C.Walked.seen c.args.rows.now in
    back_end k g.T.Elem.is_same c.args.e.now (reverse (take (count_to c.args.from k.rows) k.rows)) (subst (λ p. SearchingBack k g.T.Elem.is_same c.args.e.now (reverse (take (count_to c.args.from k.rows) k.rows)) p) c.in_default.is c.loop-place.invariant)
