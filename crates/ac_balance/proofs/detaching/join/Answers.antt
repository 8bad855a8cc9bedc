use Rattle.std.proofs.Common.{◌≡◌, Some, sym, ◌∙◌, subst}
use Rattle.ac_balance.specs.TreeFields.{balanced_in}
use Rattle.ac_balance.specs.Detaching.{Part}
use Rattle.ac_balance.proofs.Joining.{joined_both}
use Rattle.ac_balance.proofs.detaching.join.Goals as goal

pub leftmost-first-requires : goal.leftmost-first-requires
leftmost-first-requires g c =
    let n = c.requires in let p = n.beside.right in record { tree = n.right; stood = record { top = sym c.in-Some.is ∙ p.top; hangs = p.hangs; sound = p.sound } }

pub cut_first-requires : goal.cut_first-requires
cut_first-requires g c =
    let n = c.requires in let p = n.beside.right in
    record {
      tree = n.right;
      part = subst (λ o. Part c.args.links.now.nodes o n.right) c.in-Some.is p;
      is_first = c.leftmost-first.ensures n.right (record { top = sym c.in-Some.is ∙ p.top; hangs = p.hangs; sound = p.sound });
    }

pub returns : goal.returns
returns g c = λ t u b.
    let p = b.right in
    let k = c.cut_first.ensures u (subst (λ o. Part c.args.links.now.nodes o u) c.in-Some.is p) (c.leftmost-first.ensures u (record { top = sym c.in-Some.is ∙ p.top; hangs = p.hangs; sound = p.sound })) in
    let m = c.cut_first.new.links in let first = c.leftmost-first.result in let it = c.balance-whole in
    let same : balanced_in m.nodes c.side_of-before.result.top first c.side_of-behind.result.top c.side_of-before.result.top c.side_of-behind.result.top ≡ balanced_in m.nodes c.args.left_side first m.root c.args.left_side m.root
    = λ i. balanced_in m.nodes (c.side_of-before.ensures.top i) first (c.side_of-behind.ensures.top i) (c.side_of-before.ensures.top i) (c.side_of-behind.ensures.top i) in
    joined_both c.args.links.now m c.args.left_side c.args.right_side t u first it.new.nodes it.result.top b k (it.ensures.nodes ∙ (λ i. (same i).nodes)) (it.ensures.top ∙ (λ i. Some (same i).top))
