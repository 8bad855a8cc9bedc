use Rattle.std.proofs.Common.{◌+◌, None, sym, ap, ◌∙◌, arith}
use Rattle.ac_tree.proofs.Counting.{deeper}
use Rattle.ac_tree.proofs.Following.{follows_child, follows_past}
use Rattle.ac_tree.proofs.Levels.{child_level}
use Rattle.ac_tree.proofs.copying.after_level.Goals as goal

pub returns-then-is_some-clause-follows : goal.returns-then-is_some-clause-follows
returns-then-is_some-clause-follows g c = follows_child c.args.links.now None c.args.name c.first_child-child.result c.first_child-child.ensures (sym c.is_some.ensures ∙ c.if-is_some.true)

pub returns-then-is_some-clause-level : goal.returns-then-is_some-clause-level
returns-then-is_some-clause-level g c = λ b e.
    ap (λ d. d + 1) c.requires.depth ∙ sym (child_level c.args.links.now c.requires.forest c.args.name c.requires.live c.first_child-child.result c.first_child-child.ensures b e)

pub returns-clause-follows : goal.returns-clause-follows
returns-clause-follows g c =
    follows_past c.args.links.now None c.args.name c.first_child-child.result c.past_level.result c.first_child-child.ensures (sym c.is_some.ensures ∙ c.if-is_some.false) c.past_level.ensures.passes

pub overflow_add-depth : goal.overflow_add-depth
overflow_add-depth g c =
    let l = c.args.links.now in let few = c.requires.forest.sound.few in let most = (deeper l c.requires.forest c.args.name c.requires.live).few in let is = c.requires.depth in record { fits = omega (arith, few, most, is) }
