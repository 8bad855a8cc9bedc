use Rattle.std.proofs.Common.{sym, ◌∙◌, ne_eqb}
use Rattle.ac_tree.proofs.Equals.{compare_start, compare_levels, compare_values, compare_more}
use Rattle.ac_tree.proofs.Levels.{walk_live, walk_less}
use Rattle.ac_tree.proofs.comparing.same_nodes.Goals as goal

pub loop-place-init : goal.loop-place-init
loop-place-init g c = compare_start g.T.Elem.is_same c.args.left.now c.args.right.now c.requires.left c.requires.right c.first_child-place.result c.first_child-other.result c.first_child-place.ensures c.first_child-other.ensures

pub returns-then-depth-level : goal.returns-then-depth-level
returns-then-depth-level g c =
    let k = c.loop-place in
    compare_levels g.T.Elem.is_same c.args.left.now c.args.right.now c.requires.left c.requires.right k.place k.other k.depth k.level k.invariant c.in-Some.name c.in-Some-other.its c.in-Some.is c.in-Some-other.is (ne_eqb c.loop-place.depth c.loop-place.level c.if-depth-level.true)

pub at-requires : goal.at-requires
at-requires g c = walk_live c.args.left.now c.requires.left c.loop-place.place c.loop-place.depth c.loop-place.invariant.mine c.in-Some.name c.in-Some.is

pub at-requires-in-Some : goal.at-requires-in-Some
at-requires-in-Some g c = walk_live c.args.right.now c.requires.right c.loop-place.other c.loop-place.level c.loop-place.invariant.theirs c.in-Some-other.its c.in-Some-other.is

pub returns-then-not-same : goal.returns-then-not-same
returns-then-not-same g c =
    let k = c.loop-place in
    compare_values g.T.Elem.is_same c.args.left.now c.args.right.now c.requires.left c.requires.right k.place k.other k.depth k.level k.invariant c.in-Some.name c.in-Some-other.its c.in-Some.is c.in-Some-other.is
    c.at.result.now c.at-in-Some.result.now c.at.ensures c.at-in-Some.ensures c.if-depth-level.false (sym c.same.ensures ∙ c.if-not-same.true)

pub loop-place-smaller : goal.loop-place-smaller
loop-place-smaller g c = walk_less c.args.left.now c.requires.left c.loop-place.place c.loop-place.depth c.loop-place.invariant.mine c.in-Some.name c.in-Some.is c.after_level-place.result c.after_level-place.ensures.follows

pub loop-place-preserved : goal.loop-place-preserved
loop-place-preserved g c =
    let k = c.loop-place in
    compare_more g.T.Elem.is_same c.args.left.now c.args.right.now c.requires.left c.requires.right k.place k.other k.depth k.level k.invariant c.in-Some.name c.in-Some-other.its c.in-Some.is c.in-Some-other.is
    c.at.result.now c.at-in-Some.result.now c.at.ensures c.at-in-Some.ensures c.if-depth-level.false (sym c.same.ensures ∙ c.if-not-same.false)
    c.after_level-place.result c.after_level-other.result c.after_level-place.new.depth c.after_level-other.new.depth c.after_level-place.ensures.follows c.after_level-place.ensures.level c.after_level-other.ensures.follows c.after_level-other.ensures.level
