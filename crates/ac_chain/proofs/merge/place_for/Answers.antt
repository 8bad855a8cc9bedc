use Rattle.std.proofs.Common.{◌-◌, ◌<◌, ◌∙◌, drop, length, sym, subst}
use Rattle.ac_chain.specs.Rows.{place_of}
use Rattle.ac_chain.specs.Merging.{is_behind}
use Rattle.ac_chain.proofs.Walks.{forward_start}
use Rattle.ac_chain.proofs.Searches.{SearchingOn, search_start, on_live, on_hit, on_miss, on_less, on_end}
use Rattle.ac_chain.proofs.merge.place_for.Goals as goal

pub loop-place-init : goal.loop-place-init
loop-place-init g c =
    let k = c.args.chain.now in let whole = drop (place_of c.args.from k.rows) k.rows in
    record { left = whole; walk = forward_start k c.args.from c.requires.from; searching = search_start (is_behind g.T.Rank.is_less) c.args.value.now whole }

pub at-requires : goal.at-requires
at-requires g c =
    let k = c.args.chain.now in
    on_live k c.requires.sound (is_behind g.T.Rank.is_less) c.args.value.now (drop (place_of c.args.from k.rows) k.rows) c.in-Some.name (subst (λ p. SearchingOn k (is_behind g.T.Rank.is_less) c.args.value.now (drop (place_of c.args.from k.rows) k.rows) p) c.in-Some.is c.loop-place.invariant)

pub returns-then-precedes : goal.returns-then-precedes
returns-then-precedes g c =
    let k = c.args.chain.now in
    on_hit k c.requires.sound (is_behind g.T.Rank.is_less) c.args.value.now (drop (place_of c.args.from k.rows) k.rows) c.in-Some.name c.at.result.now
    (subst (λ p. SearchingOn k (is_behind g.T.Rank.is_less) c.args.value.now (drop (place_of c.args.from k.rows) k.rows) p) c.in-Some.is c.loop-place.invariant) c.at.ensures.value (sym c.precedes.ensures ∙ c.if-precedes.true)

pub next-place-requires : goal.next-place-requires
next-place-requires g c =
    let k = c.args.chain.now in
    on_live k c.requires.sound (is_behind g.T.Rank.is_less) c.args.value.now (drop (place_of c.args.from k.rows) k.rows) c.in-Some.name (subst (λ p. SearchingOn k (is_behind g.T.Rank.is_less) c.args.value.now (drop (place_of c.args.from k.rows) k.rows) p) c.in-Some.is c.loop-place.invariant)

pub loop-place-smaller : goal.loop-place-smaller
loop-place-smaller g c =
    let k = c.args.chain.now in
    let whole = drop (place_of c.args.from k.rows) k.rows in
    subst (λ p. length k.rows - place_of c.next-place.result k.rows < length k.rows - place_of p k.rows) (sym c.in-Some.is)
    (on_less k c.requires.sound (is_behind g.T.Rank.is_less) c.args.value.now whole c.in-Some.name (subst (λ p. SearchingOn k (is_behind g.T.Rank.is_less) c.args.value.now whole p) c.in-Some.is c.loop-place.invariant) c.next-place.result c.next-place.ensures.name)

pub loop-place-preserved : goal.loop-place-preserved
loop-place-preserved g c =
    let k = c.args.chain.now in
    on_miss k c.requires.sound (is_behind g.T.Rank.is_less) c.args.value.now (drop (place_of c.args.from k.rows) k.rows) c.in-Some.name c.at.result.now
    (subst (λ p. SearchingOn k (is_behind g.T.Rank.is_less) c.args.value.now (drop (place_of c.args.from k.rows) k.rows) p) c.in-Some.is c.loop-place.invariant) c.at.ensures.value (sym c.precedes.ensures ∙ c.if-precedes.false) c.next-place.result c.next-place.ensures.name

pub returns : goal.returns
returns g c =
    let k = c.args.chain.now in
    on_end k (is_behind g.T.Rank.is_less) c.args.value.now (drop (place_of c.args.from k.rows) k.rows) (subst (λ p. SearchingOn k (is_behind g.T.Rank.is_less) c.args.value.now (drop (place_of c.args.from k.rows) k.rows) p) c.in_default.is c.loop-place.invariant)
