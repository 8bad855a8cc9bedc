use Rattle.ac_vector.proofs.Appends.{one_put_at, one_first}
use Rattle.ac_vector.proofs.put.put_value.Goals as goal

pub returns-in-None-clause-put : goal.returns-in-None-clause-put
returns-in-None-clause-put g c =
    one_put_at c.args.array.now c.append.new.self c.append.result c.args.value c.append.ensures.inserted c.args.place c.in-None.is c.requires.sound c.append.ensures.fresh

pub returns-in-None-clause-first : goal.returns-in-None-clause-first
returns-in-None-clause-first g c = one_first c.args.array.now c.append.new.self c.append.result c.args.value c.append.ensures.inserted c.append.ensures.fresh
