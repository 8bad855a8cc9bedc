use Rattle.std.proofs.Common.{rules, ◌<◌, refl, sym, ◌∙◌, subst}
use Rattle.ac_balance.specs.Climbing.{Climbed}
use Rattle.ac_balance.proofs.Rising.{left_to, rises_to, stops_at, ends, relinks_itself, relinks_then}
use Rattle.ac_balance.proofs.places.climb.Goals as goal

pub loop-place-init : goal.loop-place-init
loop-place-init g c = record { is = c.requires; top = c.side_of-part.ensures.top; measured = c.side_of-part.ensures.height ∙ search rules; kept = λ base rows k. (k, refl, relinks_itself rows _) }

pub rise-up-requires : goal.rise-up-requires
rise-up-requires g c = c.loop-place.invariant.measured

pub returns-then-up : goal.returns-then-up
returns-then-up g c = λ base rows k.
    let now = c.loop-place in let up = c.rise-up in let before = now.invariant.kept base rows k in
    let it = stops_at now.nodes up.new.nodes now.place up.result.place now.part.top base rows c.in-Some.name up.result.was up.result.height c.in-Some.is now.invariant.top up.ensures.nodes up.ensures.place up.ensures.was up.ensures.height (search rules) before.0 in
    (subst (λ n. Climbed up.new.nodes up.result.place base rows n) before.1 it.0, relinks_then rows _ _ _ before.2 it.1)

pub loop-place-smaller : goal.loop-place-smaller
loop-place-smaller g c =
    let now = c.loop-place in let up = c.rise-up in let is = now.invariant.is in
    subst (λ o. left_to up.new.nodes up.result.place.parent < left_to now.nodes o) (sym c.in-Some.is)
    (rises_to now.nodes up.new.nodes now.place up.result.place now.part.top is.base is.rows c.in-Some.name up.result.height c.in-Some.is now.invariant.top up.ensures.nodes up.ensures.place up.ensures.height is.climbing).less

pub loop-place-preserved : goal.loop-place-preserved
loop-place-preserved g c =
    let now = c.loop-place in let up = c.rise-up in let is = now.invariant.is in
    let it = rises_to now.nodes up.new.nodes now.place up.result.place now.part.top is.base is.rows c.in-Some.name up.result.height c.in-Some.is now.invariant.top up.ensures.nodes up.ensures.place up.ensures.height is.climbing in
    record {
      is = record { base = is.base; rows = is.rows; climbing = it.climbing };
      top = refl;
      measured = it.measured;
      kept = λ base rows k.
          let before = now.invariant.kept base rows k in
          let it = rises_to now.nodes up.new.nodes now.place up.result.place now.part.top base rows c.in-Some.name up.result.height c.in-Some.is now.invariant.top up.ensures.nodes up.ensures.place up.ensures.height before.0 in
          (it.climbing, it.whole ∙ before.1, relinks_then rows _ _ _ before.2 it.relinks);
    }

pub returns : goal.returns
returns g c = λ base rows k.
    let it = c.loop-place.invariant.kept base rows k in
    (subst (λ n. Climbed c.loop-place.nodes c.loop-place.place base rows n) it.1 (ends c.loop-place.nodes c.loop-place.place base rows c.in_default.is it.0), it.2)
