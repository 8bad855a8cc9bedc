use Rattle.std.proofs.Common.{sym, ◌∙◌}
use Rattle.ac_tree.proofs.WalkBack.{descends_start, descends_more, descends_less, descends_end}
use Rattle.ac_tree.proofs.backward.end_of.Goals as goal

pub loop-child-init : goal.loop-child-init
loop-child-init g c = descends_start c.args.links.now c.args.name c.requires.live

pub loop-child-smaller : goal.loop-child-smaller
loop-child-smaller g c =
    descends_less c.args.links.now c.requires.forest c.args.name c.loop-child.place c.in-Some.child c.loop-child.invariant
    (sym c.in-Some.is ∙ c.last_child.ensures)

pub loop-child-preserved : goal.loop-child-preserved
loop-child-preserved g c =
    descends_more c.args.links.now c.requires.forest c.args.name c.loop-child.place c.in-Some.child c.loop-child.invariant
    (sym c.in-Some.is ∙ c.last_child.ensures)

pub returns : goal.returns
returns g c =
    descends_end c.args.links.now c.args.name c.loop-child.place c.loop-child.invariant (sym c.in_default.is ∙ c.last_child.ensures)
