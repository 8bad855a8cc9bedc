use Rattle.ac_chain.specs.Rows.{value_of}
use Rattle.ac_chain.proofs.Puts.{reserved_enough}
use Rattle.ac_chain.proofs.Transfers.{one_moved}
use Rattle.ac_chain.proofs.transfer.move_one.Goals as goal

pub insert_before-requires-clause-spare : goal.insert_before-requires-clause-spare
insert_before-requires-clause-spare g c = (reserved_enough c.args.target.now c.reserve.new.self 1 c.in_ok-reserve.ensures.ok).enough

pub returns-clause-put : goal.returns-clause-put
returns-clause-put g c = (one_moved c.args.target.now c.reserve.new.self c.insert_before.new.self c.args.place (value_of c.args.source.now c.args.name) c.insert_before.result c.remove-value.result c.in_ok-reserve.ensures.ok c.requires.place c.reserve.ensures.sound
    c.remove-value.ensures.value c.insert_before.ensures.fresh c.insert_before.ensures.inserted).put

pub returns-clause-first : goal.returns-clause-first
returns-clause-first g c = (one_moved c.args.target.now c.reserve.new.self c.insert_before.new.self c.args.place (value_of c.args.source.now c.args.name) c.insert_before.result c.remove-value.result c.in_ok-reserve.ensures.ok c.requires.place c.reserve.ensures.sound
    c.remove-value.ensures.value c.insert_before.ensures.fresh c.insert_before.ensures.inserted).first

pub returns-clause-slots : goal.returns-clause-slots
returns-clause-slots g c = (one_moved c.args.target.now c.reserve.new.self c.insert_before.new.self c.args.place (value_of c.args.source.now c.args.name) c.insert_before.result c.remove-value.result c.in_ok-reserve.ensures.ok c.requires.place c.reserve.ensures.sound
    c.remove-value.ensures.value c.insert_before.ensures.fresh c.insert_before.ensures.inserted).grown
