use Rattle.std.proofs.Common.{Some, refl}
use Rattle.ac_chain.proofs.Finds.{first_live}
use Rattle.ac_chain.proofs.Transfers.{taken, taken_less}
use Rattle.ac_chain.proofs.Merges.{merging_start, merging_place, merging_room, merging_serials, merging_found, merging_more, merging_end, merging_cleared}
use Rattle.ac_chain.proofs.merge.merge_each.Goals as goal

pub loop-first-init : goal.loop-first-init
loop-first-init g c = merging_start g.T.Rank.is_less c.args.target.now c.args.source.now c.first-place.result c.first-place.ensures.name c.requires.target c.requires.source

pub remove-value-requires : goal.remove-value-requires
remove-value-requires g c = first_live c.loop-first.source (Some c.in-Some.first) 0 c.in-Some.ensures.name c.in-Some.first refl

pub place_for-place-requires-clause-from : goal.place_for-place-requires-clause-from
place_for-place-requires-clause-from g c = merging_place g.T.Rank.is_less c.args.target.now c.args.source.now c.loop-first.place c.loop-first.target c.loop-first.source c.loop-first.invariant

pub insert_before-requires-clause-place : goal.insert_before-requires-clause-place
insert_before-requires-clause-place g c = merging_found g.T.Rank.is_less c.args.target.now c.args.source.now c.loop-first.place c.loop-first.target c.loop-first.source c.loop-first.invariant c.remove-value.result c.place_for-place.result c.place_for-place.ensures

pub insert_before-requires-clause-spare : goal.insert_before-requires-clause-spare
insert_before-requires-clause-spare g c = merging_room g.T.Rank.is_less c.args.target.now c.args.source.now c.loop-first.place c.loop-first.target c.loop-first.source c.loop-first.invariant c.in-Some.first c.in-Some.ensures.name c.requires.spare

pub insert_before-requires-clause-unspent : goal.insert_before-requires-clause-unspent
insert_before-requires-clause-unspent g c = merging_serials g.T.Rank.is_less c.args.target.now c.args.source.now c.loop-first.place c.loop-first.target c.loop-first.source c.loop-first.invariant c.in-Some.first c.in-Some.ensures.name c.requires.unspent

pub loop-first-smaller : goal.loop-first-smaller
loop-first-smaller g c = taken_less c.loop-first.source c.remove-value.new.self c.in-Some.first c.remove-value.result (taken c.loop-first.source c.remove-value.new.self c.in-Some.first c.remove-value.result c.loop-first.invariant.leaving.sound c.in-Some.ensures.name c.remove-value.ensures.value c.remove-value.ensures.removed c.remove-value.ensures.sound)

pub loop-first-preserved : goal.loop-first-preserved
loop-first-preserved g c =
    merging_more g.T.Rank.is_less c.args.target.now c.args.source.now c.loop-first.place c.loop-first.target c.loop-first.source c.loop-first.invariant
    c.in-Some.first c.remove-value.result c.remove-value.new.self c.insert_before.new.self c.insert_before.result c.place_for-place.result (merging_room g.T.Rank.is_less c.args.target.now c.args.source.now c.loop-first.place c.loop-first.target c.loop-first.source c.loop-first.invariant c.in-Some.first c.in-Some.ensures.name c.requires.spare)
    (taken c.loop-first.source c.remove-value.new.self c.in-Some.first c.remove-value.result c.loop-first.invariant.leaving.sound c.in-Some.ensures.name c.remove-value.ensures.value c.remove-value.ensures.removed c.remove-value.ensures.sound)
    c.place_for-place.ensures c.insert_before.ensures.fresh c.insert_before.ensures.inserted c.insert_before.ensures.sound

pub returns-clause-merged : goal.returns-clause-merged
returns-clause-merged g c = merging_end g.T.Rank.is_less c.args.target.now c.args.source.now c.loop-first.place c.loop-first.target c.loop-first.source c.loop-first.invariant c.in_default.ensures.name

pub returns-clause-slots : goal.returns-clause-slots
returns-clause-slots g c = c.loop-first.invariant.slots

pub returns-clause-cleared : goal.returns-clause-cleared
returns-clause-cleared g c = merging_cleared g.T.Rank.is_less c.args.target.now c.args.source.now c.loop-first.place c.loop-first.target c.loop-first.source c.loop-first.invariant c.in_default.ensures.name

pub returns-clause-target : goal.returns-clause-target
returns-clause-target g c = c.loop-first.invariant.target

pub returns-clause-source : goal.returns-clause-source
returns-clause-source g c = c.loop-first.invariant.leaving.sound
