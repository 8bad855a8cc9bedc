use Rattle.std.proofs.Common.{[], ◌∷◌}
use Rattle.ac_chain.proofs.Puts.{reserved_put}
use Rattle.ac_vector.proofs.Appends.{one_room, one_serial, one_live, one_named, one_slots}
use Rattle.ac_vector.proofs.put.put_single.Goals as goal

pub put_value-requires-clause-place : goal.put_value-requires-clause-place
put_value-requires-clause-place g c = one_live c.args.array.now c.reserve.new.self c.reserve.new.self c.args.place c.args.value c.in_ok-reserve.ensures.ok c.requires.place

pub put_value-requires-clause-spare : goal.put_value-requires-clause-spare
put_value-requires-clause-spare g c = one_room c.args.array.now c.reserve.new.self c.reserve.new.self c.args.place c.args.value c.in_ok-reserve.ensures.ok

pub put_value-requires-clause-unspent : goal.put_value-requires-clause-unspent
put_value-requires-clause-unspent g c = one_serial c.args.array.now c.reserve.new.self c.reserve.new.self c.args.place c.args.value c.in_ok-reserve.ensures.ok c.requires.unspent

pub returns-clause-put : goal.returns-clause-put
returns-clause-put g c = reserved_put c.args.array.now c.reserve.new.self c.put_value.new.array 1 c.args.place (c.args.value ∷ []) c.in_ok-reserve.ensures.ok c.put_value.ensures.put

pub returns-clause-first : goal.returns-clause-first
returns-clause-first g c = one_named c.args.array.now c.reserve.new.self c.put_value.new.array c.args.place c.args.value c.in_ok-reserve.ensures.ok c.put_value.result c.put_value.ensures.first

pub returns-clause-slots : goal.returns-clause-slots
returns-clause-slots g c = one_slots c.args.array.now c.reserve.new.self c.put_value.new.array c.args.place c.args.value c.in_ok-reserve.ensures.ok c.put_value.ensures.put c.put_value.ensures.spare
