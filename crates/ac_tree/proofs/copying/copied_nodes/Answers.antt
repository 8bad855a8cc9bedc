use Rattle.std.proofs.Common.{sym, ap, subst, ◌∙◌, reverse}
use Rattle.ac_tree.specs.Copying.{nodes_in}
use Rattle.ac_tree.proofs.Levels.{Leveling, leveling_start, leveling_more, leveling_end, walk_live, walk_less, nodes_reverse}
use Rattle.ac_tree.proofs.copying.copied_nodes.Goals as goal

pub loop-place-init : goal.loop-place-init
loop-place-init g c = subst (λ made. Leveling c.args.links.now c.first_child-place.result 2 made) (sym c.new-made.ensures.items) (leveling_start c.args.links.now c.requires.forest c.first_child-place.result c.first_child-place.ensures)

pub at-requires : goal.at-requires
at-requires g c = walk_live c.args.links.now c.requires.forest c.loop-place.place c.loop-place.depth c.loop-place.invariant.walk c.in-Some.name c.in-Some.is

pub after_level-place-requires-clause-live : goal.after_level-place-requires-clause-live
after_level-place-requires-clause-live g c = walk_live c.args.links.now c.requires.forest c.loop-place.place c.loop-place.depth c.loop-place.invariant.walk c.in-Some.name c.in-Some.is

pub after_level-place-requires-clause-depth : goal.after_level-place-requires-clause-depth
after_level-place-requires-clause-depth g c = c.loop-place.invariant.walk.level c.in-Some.name c.in-Some.is

pub loop-place-smaller : goal.loop-place-smaller
loop-place-smaller g c =
    walk_less c.args.links.now c.requires.forest c.loop-place.place c.loop-place.depth c.loop-place.invariant.walk c.in-Some.name c.in-Some.is c.after_level-place.result c.after_level-place.ensures.follows

pub loop-place-preserved : goal.loop-place-preserved
loop-place-preserved g c =
    subst (λ made. Leveling c.args.links.now c.after_level-place.result c.after_level-place.new.depth made) (sym c.in_ok-push.ensures.items)
    (leveling_more c.args.links.now c.requires.forest c.loop-place.place c.loop-place.depth c.loop-place.made.items c.loop-place.invariant c.in-Some.name c.in-Some.is
    c.at.result.now c.at.ensures c.in_ok-copy.field-0 c.in_ok-copy.ensures c.after_level-place.result c.after_level-place.new.depth c.after_level-place.ensures.follows c.after_level-place.ensures.level)

pub returns : goal.returns
returns g c = record {
  copies = ap nodes_in c.reverse.ensures.items ∙ nodes_reverse c.loop-place.made.items
      ∙ ap reverse (leveling_end c.args.links.now c.loop-place.place c.loop-place.depth c.loop-place.made.items c.loop-place.invariant c.in_default.is);
}
