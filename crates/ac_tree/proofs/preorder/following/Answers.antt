use Rattle.std.proofs.Common.{sym, subst, ◌∙◌}
use Rattle.ac_tree.specs.Walking.{Passes}
use Rattle.ac_tree.proofs.Following.{follows_child, follows_past}
use Rattle.ac_tree.proofs.preorder.following.Goals as goal

pub returns-then-is_some : goal.returns-then-is_some
returns-then-is_some g c = follows_child c.args.links.now c.args.top c.args.name c.first_child-child.result c.first_child-child.ensures (sym c.is_some.ensures ∙ c.if-is_some.true)

pub returns : goal.returns
returns g c =
    let l = c.args.links.now in
    follows_past l c.args.top c.args.name c.first_child-child.result c.name_in.result c.first_child-child.ensures (sym c.is_some.ensures ∙ c.if-is_some.false)
    (subst (λ p. Passes l c.args.top c.args.name p) (sym c.name_in.ensures) c.past.ensures)
