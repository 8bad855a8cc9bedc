use Rattle.std.proofs.Common.{◌≡◌, ◌+◌, ◌<◌, length, get_or, sym, subst, arith}
use Rattle.std.proofs.lemmas.Option.{slice_get-get_or}
use Rattle.ac_base.specs.declared.name.Name.{Name}
use Rattle.ac_chain.specs.Rows.{Chained, IsSound}
use Rattle.ac_chain.proofs.Chains.{chain_sound}
use Rattle.ac_chain.proofs.Moves.{once_from}
use Rattle.ac_chain.proofs.Orders.{Relinked, relink_start, relink_more, relink_all}
use Rattle.ac_chain.proofs.chain.Chain.relink.Goals as goal

pub loop-name-init : goal.loop-name-init
loop-name-init g c = record {
  relinked = relink_start c.args.order.now c.args.self.now;
  sound = subst (λ x. IsSound x) c.self.view_is (chain_sound c.self.inside.links c.self.invariant);
}

pub move_before-requires-clause-name : goal.move_before-requires-clause-name
move_before-requires-clause-name g c =
    let order = c.args.order.now in let k = c.loop-name.name-index in
    let none : Name = record { slot = 0; serial = 0 } in
    let within : k < length order = omega arith in
    c.loop-name.invariant.relinked.live (get_or order k none) (c.requires.live k (get_or order k none) (slice_get-get_or order k none within))

pub loop-name-preserved : goal.loop-name-preserved
loop-name-preserved g c =
    let order = c.args.order.now in let k = c.loop-name.name-index in let now = c.loop-name.self in
    let none : Name = record { slot = 0; serial = 0 } in
    let within : k < length order = omega arith in
    let inv = c.loop-name.invariant in
    record {
      relinked = subst (λ (d : Chained _). Relinked order (k + 1) c.args.self.now d) (sym c.move_before.ensures.moved)
          (relink_more order k (get_or order k none) c.args.self.now now c.requires (once_from now.rows inv.sound.once) (slice_get-get_or order k none within) within inv.relinked);
      sound = c.move_before.ensures.sound;
    }

pub returns-clause-names : goal.returns-clause-names
returns-clause-names g c =
    let order = c.args.order.now in
    let all : c.loop-name.name-index ≡ length order = omega arith in
    (relink_all order c.args.self.now c.loop-name.self c.requires (subst (λ k. Relinked order k c.args.self.now c.loop-name.self) all c.loop-name.invariant.relinked)).0

pub returns-clause-same : goal.returns-clause-same
returns-clause-same g c =
    let order = c.args.order.now in
    let all : c.loop-name.name-index ≡ length order = omega arith in
    (relink_all order c.args.self.now c.loop-name.self c.requires (subst (λ k. Relinked order k c.args.self.now c.loop-name.self) all c.loop-name.invariant.relinked)).1
