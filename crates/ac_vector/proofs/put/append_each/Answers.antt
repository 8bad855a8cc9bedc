use Rattle.std.proofs.Common.{sym, ◌∙◌}
use Rattle.ac_vector.proofs.Appends.{appending_start, appending_more, appending_room, appending_end}
use Rattle.ac_vector.proofs.put.append_each.Goals as goal

pub loop-value-init : goal.loop-value-init
loop-value-init g c = appending_start c.args.array.now c.args.values.items _ (c.into_iter-value-iterator.ensures.into_iter_gives.0) c.requires.sound

pub append-requires-clause-spare : goal.append-requires-clause-spare
append-requires-clause-spare g c =
    (appending_room c.args.array.now c.args.values.items c.loop-value.value-iterator.rest.items c.next.new.self.rest.items c.loop-value.array c.in-Some.value c.loop-value.invariant c.in-Some.ensures.steps.0 c.requires.spare c.requires.unspent).0

pub append-requires-clause-unspent : goal.append-requires-clause-unspent
append-requires-clause-unspent g c =
    (appending_room c.args.array.now c.args.values.items c.loop-value.value-iterator.rest.items c.next.new.self.rest.items c.loop-value.array c.in-Some.value c.loop-value.invariant c.in-Some.ensures.steps.0 c.requires.spare c.requires.unspent).1

pub loop-value-preserved : goal.loop-value-preserved
loop-value-preserved g c =
    let room = (appending_room c.args.array.now c.args.values.items c.loop-value.value-iterator.rest.items c.next.new.self.rest.items c.loop-value.array c.in-Some.value c.loop-value.invariant c.in-Some.ensures.steps.0 c.requires.spare c.requires.unspent).0 in
    appending_more c.args.array.now c.args.values.items c.loop-value.value-iterator.rest.items c.next.new.self.rest.items c.loop-value.array c.append.new.self c.append.result c.in-Some.value c.loop-value.invariant c.in-Some.ensures.steps.0 room
    c.append.ensures.fresh c.append.ensures.inserted c.append.ensures.sound

pub returns-clause-put : goal.returns-clause-put
returns-clause-put g c =
    (appending_end c.args.array.now c.args.values.items c.loop-value.value-iterator.rest.items c.loop-value.array c.loop-value.invariant (sym c.loop-value.value-iterator.rest.ok.0 ∙ c.in-None.ensures.steps.0)).0

pub returns-clause-spare : goal.returns-clause-spare
returns-clause-spare g c =
    (appending_end c.args.array.now c.args.values.items c.loop-value.value-iterator.rest.items c.loop-value.array c.loop-value.invariant (sym c.loop-value.value-iterator.rest.ok.0 ∙ c.in-None.ensures.steps.0)).1
