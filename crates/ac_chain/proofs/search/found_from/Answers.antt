use Rattle.std.proofs.Common.{◌-◌, ◌<◌, ◌∙◌, drop, length, sym, subst}
use Rattle.ac_chain.specs.Rows.{place_of}
use Rattle.ac_chain.proofs.Walks.{forward_start}
use Rattle.ac_chain.proofs.Searches.{SearchingOn, search_start, on_live, on_hit, on_miss, on_less, on_end}
use Rattle.ac_chain.proofs.search.found_from.Goals as goal

pub loop-place-init : goal.loop-place-init
loop-place-init g c =
    let k = g.C.Walked.seen c.args.rows.now in let whole = drop (place_of c.args.from k.rows) k.rows in
    record { left = whole; walk = forward_start k c.args.from c.requires.from; searching = search_start g.T.Elem.is_same c.args.e.now whole }

pub at-requires : goal.at-requires
at-requires g c =
    let k = g.C.Walked.seen c.args.rows.now in
    on_live k c.requires.sound g.T.Elem.is_same c.args.e.now (drop (place_of c.args.from k.rows) k.rows) c.in-Some.name (subst (λ p. SearchingOn k g.T.Elem.is_same c.args.e.now (drop (place_of c.args.from k.rows) k.rows) p) c.in-Some.is c.loop-place.invariant)

pub returns-then-same : goal.returns-then-same
returns-then-same g c =
    let k = g.C.Walked.seen c.args.rows.now in
    on_hit k c.requires.sound g.T.Elem.is_same c.args.e.now (drop (place_of c.args.from k.rows) k.rows) c.in-Some.name c.at.result.now
    (subst (λ p. SearchingOn k g.T.Elem.is_same c.args.e.now (drop (place_of c.args.from k.rows) k.rows) p) c.in-Some.is c.loop-place.invariant) c.at.ensures.value (sym c.same.ensures ∙ c.if-same.true)

pub next-place-requires : goal.next-place-requires
next-place-requires g c =
    let k = g.C.Walked.seen c.args.rows.now in
    on_live k c.requires.sound g.T.Elem.is_same c.args.e.now (drop (place_of c.args.from k.rows) k.rows) c.in-Some.name (subst (λ p. SearchingOn k g.T.Elem.is_same c.args.e.now (drop (place_of c.args.from k.rows) k.rows) p) c.in-Some.is c.loop-place.invariant)

pub loop-place-smaller : goal.loop-place-smaller
loop-place-smaller g c =
    let k = g.C.Walked.seen c.args.rows.now in
    let whole = drop (place_of c.args.from k.rows) k.rows in
    subst (λ p. length k.rows - place_of c.next-place.result k.rows < length k.rows - place_of p k.rows) (sym c.in-Some.is)
    (on_less k c.requires.sound g.T.Elem.is_same c.args.e.now whole c.in-Some.name (subst (λ p. SearchingOn k g.T.Elem.is_same c.args.e.now whole p) c.in-Some.is c.loop-place.invariant) c.next-place.result c.next-place.ensures.name)

pub loop-place-preserved : goal.loop-place-preserved
loop-place-preserved g c =
    let k = g.C.Walked.seen c.args.rows.now in
    on_miss k c.requires.sound g.T.Elem.is_same c.args.e.now (drop (place_of c.args.from k.rows) k.rows) c.in-Some.name c.at.result.now
    (subst (λ p. SearchingOn k g.T.Elem.is_same c.args.e.now (drop (place_of c.args.from k.rows) k.rows) p) c.in-Some.is c.loop-place.invariant) c.at.ensures.value (sym c.same.ensures ∙ c.if-same.false) c.next-place.result c.next-place.ensures.name

pub returns : goal.returns
returns g c =
    let k = g.C.Walked.seen c.args.rows.now in
    on_end k g.T.Elem.is_same c.args.e.now (drop (place_of c.args.from k.rows) k.rows) (subst (λ p. SearchingOn k g.T.Elem.is_same c.args.e.now (drop (place_of c.args.from k.rows) k.rows) p) c.in_default.is c.loop-place.invariant)
