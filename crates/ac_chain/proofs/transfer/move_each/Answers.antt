use Rattle.ac_chain.proofs.Finds.{first_live}
use Rattle.std.proofs.Common.{Some, refl}
use Rattle.ac_chain.proofs.Transfers.{taken, taken_less, moving_start, moving_place, moving_room, moving_serials, moving_more, moving_put, moving_cleared}
use Rattle.ac_chain.proofs.transfer.move_each.Goals as goal

pub loop-first-init : goal.loop-first-init
loop-first-init g c = moving_start c.args.target.now c.args.source.now c.args.place c.requires.place c.requires.target c.requires.source

pub remove-value-requires : goal.remove-value-requires
remove-value-requires g c = first_live c.loop-first.source (Some c.in-Some.first) 0 c.in-Some.ensures.name c.in-Some.first refl

pub insert_before-requires-clause-place : goal.insert_before-requires-clause-place
insert_before-requires-clause-place g c = moving_place c.args.target.now c.args.place c.args.source.now c.loop-first.target c.loop-first.source c.loop-first.invariant

pub insert_before-requires-clause-spare : goal.insert_before-requires-clause-spare
insert_before-requires-clause-spare g c = moving_room c.args.target.now c.args.place c.args.source.now c.loop-first.target c.loop-first.source c.loop-first.invariant c.in-Some.first c.in-Some.ensures.name c.requires.spare

pub insert_before-requires-clause-unspent : goal.insert_before-requires-clause-unspent
insert_before-requires-clause-unspent g c = moving_serials c.args.target.now c.args.place c.args.source.now c.loop-first.target c.loop-first.source c.loop-first.invariant c.in-Some.first c.in-Some.ensures.name c.requires.unspent

pub loop-first-smaller : goal.loop-first-smaller
loop-first-smaller g c = taken_less c.loop-first.source c.remove-value.new.self c.in-Some.first c.remove-value.result (taken c.loop-first.source c.remove-value.new.self c.in-Some.first c.remove-value.result c.loop-first.invariant.leaving.sound c.in-Some.ensures.name c.remove-value.ensures.value c.remove-value.ensures.removed c.remove-value.ensures.sound)

pub loop-first-preserved : goal.loop-first-preserved
loop-first-preserved g c =
    moving_more c.args.target.now c.args.place c.args.source.now c.loop-first.target c.loop-first.source c.loop-first.invariant
    c.in-Some.first c.remove-value.result c.remove-value.new.self c.insert_before.new.self c.insert_before.result (moving_room c.args.target.now c.args.place c.args.source.now c.loop-first.target c.loop-first.source c.loop-first.invariant c.in-Some.first c.in-Some.ensures.name c.requires.spare)
    (taken c.loop-first.source c.remove-value.new.self c.in-Some.first c.remove-value.result c.loop-first.invariant.leaving.sound c.in-Some.ensures.name c.remove-value.ensures.value c.remove-value.ensures.removed c.remove-value.ensures.sound)
    c.insert_before.ensures.fresh c.insert_before.ensures.inserted c.insert_before.ensures.sound

pub returns-clause-put : goal.returns-clause-put
returns-clause-put g c = moving_put c.args.target.now c.args.place c.args.source.now c.loop-first.target c.loop-first.source c.loop-first.invariant c.in_default.ensures.name

pub returns-clause-slots : goal.returns-clause-slots
returns-clause-slots g c = c.loop-first.invariant.slots

pub returns-clause-cleared : goal.returns-clause-cleared
returns-clause-cleared g c = moving_cleared c.args.target.now c.args.place c.args.source.now c.loop-first.target c.loop-first.source c.loop-first.invariant c.in_default.ensures.name

pub returns-clause-target : goal.returns-clause-target
returns-clause-target g c = c.loop-first.invariant.target

pub returns-clause-source : goal.returns-clause-source
returns-clause-source g c = c.loop-first.invariant.leaving.sound
