use Rattle.std.proofs.Common.{Some, ap, ◌∙◌, subst, sym}
use Rattle.ac_chain.proofs.Refills.{Copying, copying_live, copying_more, copying_end, copying_falls}
use Rattle.ac_chain.proofs.refilling.copies_back.Goals as goal

pub at-requires : goal.at-requires
at-requires g c = copying_live c.args.chain.now c.loop-place.place c.loop-place.made.items c.in-Some.name c.loop-place.invariant c.in-Some.is

pub prev-place-requires : goal.prev-place-requires
prev-place-requires g c = copying_live c.args.chain.now c.loop-place.place c.loop-place.made.items c.in-Some.name c.loop-place.invariant c.in-Some.is

pub loop-place-smaller : goal.loop-place-smaller
loop-place-smaller g c = copying_falls c.args.chain.now c.loop-place.place c.prev-place.result c.in-Some.name c.requires.sound c.in-Some.is c.prev-place.ensures.name

pub loop-place-preserved : goal.loop-place-preserved
loop-place-preserved g c =
    subst (λ made. Copying c.args.chain.now.rows c.prev-place.result made) (sym c.in_ok-push.ensures.items)
    (copying_more c.args.chain.now c.loop-place.place c.prev-place.result c.loop-place.made.items c.in-Some.name c.in_ok-copy.field-0 c.requires.sound c.loop-place.invariant c.in-Some.is
    (ap Some c.in_ok-copy.ensures ∙ c.at.ensures.value) c.prev-place.ensures.name)

pub returns : goal.returns
returns g c = record { same = copying_end c.args.chain.now.rows c.loop-place.place c.loop-place.made.items c.loop-place.invariant c.in_default.is }
