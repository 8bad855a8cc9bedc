use Rattle.std.proofs.Common.{replicate, sym, subst}
use Rattle.ac_chain.specs.Put.{IsPut}
use Rattle.ac_chain.proofs.Puts.{put_none}
use Rattle.ac_vector.proofs.Appends.{single_put, single_first, single_slots}
use Rattle.ac_vector.proofs.put.put_copies.Goals as goal

pub returns-then-n-eq0-clause-put : goal.returns-then-n-eq0-clause-put
returns-then-n-eq0-clause-put g c =
    subst (λ m. IsPut c.args.array.now.rows c.args.array.now.next_serial c.args.place (replicate m c.args.e) c.args.array.now) (sym c.if-n-eq0.true) (put_none c.args.array.now c.args.place c.requires.place)

pub returns-then-n-eq1-clause-put : goal.returns-then-n-eq1-clause-put
returns-then-n-eq1-clause-put g c = single_put c.put_single.result c.args.array.now c.put_single.new.array c.args.n c.if-n-eq1.true c.args.place c.args.e c.put_single.ensures.put

pub returns-then-n-eq1-clause-first : goal.returns-then-n-eq1-clause-first
returns-then-n-eq1-clause-first g c = single_first c.put_single.result c.args.array.now c.put_single.new.array c.args.n c.if-n-eq1.true c.put_single.ensures.first

pub returns-then-n-eq1-clause-slots : goal.returns-then-n-eq1-clause-slots
returns-then-n-eq1-clause-slots g c = single_slots c.put_single.result c.args.array.now c.put_single.new.array c.args.n c.if-n-eq1.true c.put_single.ensures.slots
