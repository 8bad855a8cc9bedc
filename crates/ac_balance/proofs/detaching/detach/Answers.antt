use Rattle.std.proofs.Common.{sym, subst}
use Rattle.ac_balance.specs.TreeFields.{left_of}
use Rattle.ac_balance.specs.Climbing.{Climbing}
use Rattle.ac_balance.specs.Indexed.{without}
use Rattle.ac_balance.specs.Detaching.{Beside}
use Rattle.ac_balance.proofs.Indexes.{located}
use Rattle.ac_balance.proofs.Joining.{sides_beside, rejoined, detached}
use Rattle.ac_balance.proofs.detaching.detach.Goals as goal

pub join-top-requires : goal.join-top-requires
join-top-requires g c =
    let l = c.args.links.now in let a = c.args.name in let n = c.requires in let p = located l n.rows n.closed a n.has in
    record {
      left = p.left;
      right = p.right;
      beside = subst (λ o. Beside l.nodes o c.right-right_side.result p.left p.right) (sym c.left-left_side.ensures)
          (subst (λ o. Beside l.nodes (left_of l.nodes a) o p.left p.right) (sym c.right-right_side.ensures) (sides_beside l n.rows n.closed a p));
    }

pub mend-requires : goal.mend-requires
mend-requires g c =
    let l = c.args.links.now in let a = c.args.name in let n = c.requires in let p = located l n.rows n.closed a n.has in
    let b = subst (λ o. Beside l.nodes o c.right-right_side.result p.left p.right) (sym c.left-left_side.ensures)
    (subst (λ o. Beside l.nodes (left_of l.nodes a) o p.left p.right) (sym c.right-right_side.ensures) (sides_beside l n.rows n.closed a p)) in
    let m = c.join-top.new.links in
    record {
      rows = without n.rows a;
      climbing = subst (λ q. Climbing m.nodes q l.root (without n.rows a)) (sym c.place_of-place.ensures) (rejoined l m n.rows n.closed a p c.join-top.result (c.join-top.ensures p.left p.right b));
    }

pub returns : goal.returns
returns g c = λ rows k h.
    let l = c.args.links.now in let a = c.args.name in let p = located l rows k a h in
    let b = subst (λ o. Beside l.nodes o c.right-right_side.result p.left p.right) (sym c.left-left_side.ensures)
    (subst (λ o. Beside l.nodes (left_of l.nodes a) o p.left p.right) (sym c.right-right_side.ensures) (sides_beside l rows k a p)) in
    let m = c.join-top.new.links in let j = c.join-top.ensures p.left p.right b in
    let climbing = subst (λ q. Climbing m.nodes q l.root (without rows a)) (sym c.place_of-place.ensures) (rejoined l m rows k a p c.join-top.result j) in
    detached l m c.mend.new.links rows k a p c.join-top.result j _ (c.mend.ensures (without rows a) climbing)
