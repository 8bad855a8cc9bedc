use Rattle.std.proofs.Common.{◌∷◌, reverse, arith}
use Rattle.ac_chain.proofs.Puts.{putting_start, putting_more, putting_room, put_live, first_start, first_more}
use Rattle.ac_chain.proofs.put.put_each.Goals as goal

pub loop-value-init : goal.loop-value-init
loop-value-init g c =
    let put = c.insert_before-name in (
      putting_start c.args.chain.now c.args.place c.args.first c.args.others.items put.new.self put.result c.requires.place c.requires.sound (omega arith) put.ensures.fresh put.ensures.inserted put.ensures.sound,
      first_start c.args.chain.now put.new.self c.args.place put.result c.args.first c.requires.place put.ensures.fresh put.ensures.inserted,
    )

pub insert_before-requires-clause-place : goal.insert_before-requires-clause-place
insert_before-requires-clause-place g c =
    put_live c.args.chain.now.rows c.args.chain.now.next_serial c.args.place c.loop-value.invariant.0.done c.loop-value.chain c.loop-value.invariant.0.put

pub insert_before-requires-clause-spare : goal.insert_before-requires-clause-spare
insert_before-requires-clause-spare g c =
    (putting_room c.args.chain.now c.args.place c.args.first c.in-Some.value c.args.others.items c.loop-value.others.items c.pop.new.self.items c.loop-value.chain c.loop-value.invariant.0 c.in-Some.ensures.items c.requires.spare c.requires.unspent).0

pub insert_before-requires-clause-unspent : goal.insert_before-requires-clause-unspent
insert_before-requires-clause-unspent g c =
    (putting_room c.args.chain.now c.args.place c.args.first c.in-Some.value c.args.others.items c.loop-value.others.items c.pop.new.self.items c.loop-value.chain c.loop-value.invariant.0 c.in-Some.ensures.items c.requires.spare c.requires.unspent).1

pub loop-value-preserved : goal.loop-value-preserved
loop-value-preserved g c =
    let room = putting_room c.args.chain.now c.args.place c.args.first c.in-Some.value c.args.others.items c.loop-value.others.items c.pop.new.self.items c.loop-value.chain c.loop-value.invariant.0 c.in-Some.ensures.items c.requires.spare c.requires.unspent in
    let put = c.insert_before in
    let live = put_live c.args.chain.now.rows c.args.chain.now.next_serial c.args.place c.loop-value.invariant.0.done c.loop-value.chain c.loop-value.invariant.0.put in (
      putting_more c.args.chain.now c.args.place (c.args.first ∷ reverse c.args.others.items) c.loop-value.others.items c.pop.new.self.items c.loop-value.chain put.new.self put.result c.in-Some.value c.loop-value.invariant.0 c.in-Some.ensures.items room.0
          put.ensures.fresh put.ensures.inserted put.ensures.sound,
      first_more c.args.chain.now.next_serial c.loop-value.chain put.new.self c.args.place c.insert_before-name.result put.result c.in-Some.value live put.ensures.inserted c.loop-value.invariant.1,
    )
