use Rattle.std.proofs.Common.{refl}
use Rattle.ac_objects.proofs.Lent.{exchanged_put, exchanged_out, none_out}
use Rattle.ac_meaning.proofs.Places.{seen_there, seen_past}
use Rattle.ac_objects.proofs.lending.exchange.Goals as goal

pub returns-in-Some-clause-put : goal.returns-in-Some-clause-put
returns-in-Some-clause-put c =
    let here = c.in-Some in
    let bs = c.args.bounds.now.items in
    let call = c.exchange_in in
    exchanged_put bs c.args.place c.args.queue.now call.new.queue here.bound.now call.new.bound
    (seen_there bs bs c.args.place here.bound.now here.bound.now refl here.ensures.item.3.0 here.ensures.value refl) call.ensures.put

pub returns-in-Some-clause-out : goal.returns-in-Some-clause-out
returns-in-Some-clause-out c =
    let here = c.in-Some in
    let bs = c.args.bounds.now.items in
    let call = c.exchange_in in
    exchanged_out bs c.args.place c.args.queue.now call.new.queue here.bound.now call.new.bound
    (seen_there bs bs c.args.place here.bound.now here.bound.now refl here.ensures.item.3.0 here.ensures.value refl) call.ensures.out

pub returns-in-None-clause-out : goal.returns-in-None-clause-out
returns-in-None-clause-out c =
    let bs = c.args.bounds.now.items in
    none_out bs c.args.place c.args.queue.now (seen_past bs bs c.args.place refl c.in-None.ensures.item.3)
