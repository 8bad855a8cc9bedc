use Rattle.std.proofs.Common.{replicate, sym, subst}
use Rattle.ac_chain.specs.Put.{IsPut}
use Rattle.ac_chain.proofs.Puts.{put_none, copies_put, copies_fit, copies_slots, copies_grown, first_put}
use Rattle.ac_chain.proofs.put.put_copies.Goals as goal

pub returns-then-n-eq0-clause-put : goal.returns-then-n-eq0-clause-put
returns-then-n-eq0-clause-put g c =
    subst (λ m. IsPut c.args.chain.now.rows c.args.chain.now.next_serial c.args.place (replicate m c.args.e) c.args.chain.now) (sym c.if-n-eq0.true) (put_none c.args.chain.now c.args.place c.requires.place)

pub put_each-requires-clause-spare : goal.put_each-requires-clause-spare
put_each-requires-clause-spare g c =
    copies_fit c.args.chain.now c.reserve.new.self c.args.n c.args.e c.in_ok-more.more.items c.if-n-eq0.false c.in_ok-reserve.ensures.ok c.in_ok-more.ensures.same

pub returns-clause-put : goal.returns-clause-put
returns-clause-put g c =
    copies_put c.args.chain.now c.reserve.new.self c.put_each.new.chain c.args.n c.args.place c.args.e c.in_ok-more.more.items c.if-n-eq0.false c.in_ok-reserve.ensures.ok c.in_ok-more.ensures.same c.put_each.ensures.put

pub returns-clause-slots : goal.returns-clause-slots
returns-clause-slots g c =
    copies_slots c.args.chain.now c.reserve.new.self c.put_each.new.chain c.args.n c.args.place c.args.e c.in_ok-more.more.items c.if-n-eq0.false c.in_ok-reserve.ensures.ok c.in_ok-more.ensures.same c.put_each.ensures.put
    c.put_each.ensures.spare

pub returns-clause-grown : goal.returns-clause-grown
returns-clause-grown g c =
    copies_grown c.args.chain.now c.reserve.new.self c.put_each.new.chain c.args.n c.args.place c.args.e c.in_ok-more.more.items c.if-n-eq0.false c.in_ok-reserve.ensures.ok c.in_ok-more.ensures.same c.put_each.ensures.put
    c.put_each.ensures.spare

pub returns-clause-first : goal.returns-clause-first
returns-clause-first g c = first_put c.args.chain.now c.reserve.new.self c.put_each.new.chain c.args.n c.put_each.result c.if-n-eq0.false c.in_ok-reserve.ensures.ok c.put_each.ensures.first
