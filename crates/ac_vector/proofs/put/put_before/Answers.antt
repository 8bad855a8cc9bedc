use Rattle.ac_vector.proofs.Appends.{one_put, one_turned, one_there}
use Rattle.ac_vector.proofs.put.put_before.Goals as goal

pub returns-clause-put : goal.returns-clause-put
returns-clause-put g c =
    one_turned c.args.array.now c.append-last.new.self c.args.name c.index_of-at.result c.args.value c.requires.place c.index_of-at.ensures.index c.turn.new.self
    (one_put c.args.array.now c.append-last.new.self c.append-last.result c.args.value c.append-last.ensures.inserted c.requires.sound c.append-last.ensures.fresh) c.turn.ensures.turned

pub returns-clause-first : goal.returns-clause-first
returns-clause-first g c =
    one_there c.args.array.now c.turn.new.self c.args.name c.index_of-at.result c.args.value c.requires.place c.index_of-at.ensures.index c.name_at.result
    (one_turned c.args.array.now c.append-last.new.self c.args.name c.index_of-at.result c.args.value c.requires.place c.index_of-at.ensures.index c.turn.new.self
    (one_put c.args.array.now c.append-last.new.self c.append-last.result c.args.value c.append-last.ensures.inserted c.requires.sound c.append-last.ensures.fresh) c.turn.ensures.turned)
    c.name_at.ensures.name
