use Rattle.std.proofs.Common.{◌≡◌, ◌∷◌, ◌-◌, ◌+◌, ◌<◌, ◌^◌, reverse, replicate, length, ap, ◌∙◌, subst, sym, arith}
use Rattle.std.proofs.lemmas.List.{length-replicate}
use Rattle.ac_base.specs.Rows.{row}
use Rattle.ac_chain.specs.Rows.{inserted}
use Rattle.ac_chain.proofs.Puts.{Putting, putting_start, putting_more, again_room, again_end, put_live, first_start, first_more, one_less, all_left}
use Rattle.ac_chain.proofs.put.put_again.Goals as goal

pub loop-i-init : goal.loop-i-init
loop-i-init g c =
    let put = c.insert_before-name in
    let is : put.new.self ≡ inserted c.args.chain.now c.args.place (row put.result c.args.e) = put.ensures.inserted ∙ ap (λ v. inserted c.args.chain.now c.args.place (row put.result v)) c.anew.ensures in (
      subst (λ left. Putting c.args.chain.now c.args.place (c.args.e ∷ reverse (replicate c.args.more c.args.e)) left put.new.self) (sym (all_left c.args.more c.args.e))
          (putting_start c.args.chain.now c.args.place c.args.e (replicate c.args.more c.args.e) put.new.self put.result c.requires.place c.requires.sound (omega arith) put.ensures.fresh is put.ensures.sound),
      first_start c.args.chain.now put.new.self c.args.place put.result c.args.e c.requires.place put.ensures.fresh is,
    )

pub insert_before-requires-clause-place : goal.insert_before-requires-clause-place
insert_before-requires-clause-place g c =
    put_live c.args.chain.now.rows c.args.chain.now.next_serial c.args.place c.loop-i.invariant.0.done c.loop-i.chain c.loop-i.invariant.0.put

pub insert_before-requires-clause-spare : goal.insert_before-requires-clause-spare
insert_before-requires-clause-spare g c =
    (again_room c.args.chain.now c.args.place c.args.e c.args.more c.loop-i._i c.loop-i.chain c.loop-i.invariant.0 c.loop-i-test.true c.requires.spare c.requires.unspent).0

pub insert_before-requires-clause-unspent : goal.insert_before-requires-clause-unspent
insert_before-requires-clause-unspent g c =
    (again_room c.args.chain.now c.args.place c.args.e c.args.more c.loop-i._i c.loop-i.chain c.loop-i.invariant.0 c.loop-i-test.true c.requires.spare c.requires.unspent).1

pub loop-i-preserved : goal.loop-i-preserved
loop-i-preserved g c =
    let room = again_room c.args.chain.now c.args.place c.args.e c.args.more c.loop-i._i c.loop-i.chain c.loop-i.invariant.0 c.loop-i-test.true c.requires.spare c.requires.unspent in
    let put = c.insert_before in
    let is : put.new.self ≡ inserted c.loop-i.chain c.args.place (row put.result c.args.e) = put.ensures.inserted ∙ ap (λ v. inserted c.loop-i.chain c.args.place (row put.result v)) c.anew-in-loop-i.ensures in
    let live = put_live c.args.chain.now.rows c.args.chain.now.next_serial c.args.place c.loop-i.invariant.0.done c.loop-i.chain c.loop-i.invariant.0.put in (
      putting_more c.args.chain.now c.args.place (c.args.e ∷ reverse (replicate c.args.more c.args.e)) (replicate (c.args.more - c.loop-i._i) c.args.e) (replicate (c.args.more - (c.loop-i._i + 1)) c.args.e) c.loop-i.chain
          put.new.self put.result c.args.e c.loop-i.invariant.0 (one_less c.args.more c.loop-i._i c.args.e c.loop-i-test.true) room.0 put.ensures.fresh is put.ensures.sound,
      first_more c.args.chain.now.next_serial c.loop-i.chain put.new.self c.args.place c.insert_before-name.result put.result c.args.e live is c.loop-i.invariant.1,
    )

pub returns-clause-put : goal.returns-clause-put
returns-clause-put g c = (again_end c.args.chain.now c.args.place c.args.e c.args.more c.loop-i._i c.loop-i.chain c.loop-i.invariant.0 (omega arith)).0

pub returns-clause-spare : goal.returns-clause-spare
returns-clause-spare g c = (again_end c.args.chain.now c.args.place c.args.e c.args.more c.loop-i._i c.loop-i.chain c.loop-i.invariant.0 (omega arith)).1
