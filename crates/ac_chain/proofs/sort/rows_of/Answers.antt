use Rattle.std.proofs.Common.{◌-◌, ◌<◌, length, refl, sym, subst}
use Rattle.ac_chain.specs.Rows.{place_of}
use Rattle.ac_chain.proofs.Sorts.{Taking, taking_start, taking_live, taking_more, taking_less}
use Rattle.ac_chain.proofs.sort.rows_of.Goals as goal

pub loop-place-init : goal.loop-place-init
loop-place-init g c = taking_start c.args.chain.now c.first-place.result _ c.new-made.ensures.items c.first-place.ensures.name

pub at-requires : goal.at-requires
at-requires g c = taking_live c.args.chain.now c.requires.sound c.in-Some.name c.loop-place.made.items (subst (λ p. Taking c.args.chain.now c.loop-place.made.items p) c.in-Some.is c.loop-place.invariant)

pub next-place-requires : goal.next-place-requires
next-place-requires g c = taking_live c.args.chain.now c.requires.sound c.in-Some.name c.loop-place.made.items (subst (λ p. Taking c.args.chain.now c.loop-place.made.items p) c.in-Some.is c.loop-place.invariant)

pub loop-place-smaller : goal.loop-place-smaller
loop-place-smaller g c =
    let k = c.args.chain.now in
    subst (λ p. length k.rows - place_of c.next-place.result k.rows < length k.rows - place_of p k.rows) (sym c.in-Some.is)
    (taking_less k c.requires.sound c.in-Some.name c.loop-place.made.items (subst (λ p. Taking k c.loop-place.made.items p) c.in-Some.is c.loop-place.invariant) c.next-place.result c.next-place.ensures.name)

pub loop-place-preserved : goal.loop-place-preserved
loop-place-preserved g c =
    let k = c.args.chain.now in
    taking_more k c.requires.sound c.in-Some.name c.loop-place.made.items (subst (λ p. Taking k c.loop-place.made.items p) c.in-Some.is c.loop-place.invariant)
    (record { name = c.in-Some.name; value = c.at.result }) c.push.new.self.items c.next-place.result c.in_ok-push.ensures.items refl c.at.ensures.value c.next-place.ensures.name
