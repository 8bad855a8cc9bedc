use Rattle.std.proofs.Common.{Some, ◌-◌, reverse, sym, ap, subst, ◌∙◌, arith}
use Rattle.ac_tree.specs.Copying.{nodes_in}
use Rattle.ac_tree.proofs.Counting.{deeper}
use Rattle.ac_tree.proofs.Levels.{nodes_reverse, walk_live, walk_less}
use Rattle.ac_tree.proofs.Subtrees.{Copying, copying_start, copying_more, copying_full, copying_end}
use Rattle.ac_tree.proofs.grafting.copied_part.Goals as goal

pub loop-place-init : goal.loop-place-init
loop-place-init g c = λ s k.
    let a = c.args in subst (λ made. Copying a.links.now s a.from a.level a.count a.first k (Some a.from) a.level made a.count) (sym c.new-made.ensures.items) (copying_start a.links.now s a.from a.level a.count a.first k)

pub at-requires : goal.at-requires
at-requires g c = let k = c.loop-place.invariant c.requires.forest c.requires.part in walk_live c.args.links.now c.requires.forest c.loop-place.place c.loop-place.here k.walk c.in-Some.name c.in-Some.is

pub returns-then-left-eq0 : goal.returns-then-left-eq0
returns-then-left-eq0 g c = λ k.
    let a = c.args in
    ap nodes_in c.reverse.ensures.items ∙ nodes_reverse c.loop-place.made.items
    ∙ ap reverse (copying_full a.links.now c.requires.forest a.from a.level a.count a.first k c.loop-place.place c.loop-place.here c.loop-place.made.items c.loop-place.left (c.loop-place.invariant c.requires.forest k) c.if-left-eq0.true)

pub overflow_add-here : goal.overflow_add-here
overflow_add-here g c =
    let k = c.loop-place.invariant c.requires.forest c.requires.part in
    let live = walk_live c.args.links.now c.requires.forest c.loop-place.place c.loop-place.here k.walk c.in-Some.name c.in-Some.is in
    let few = (deeper c.args.links.now c.requires.forest c.in-Some.name live).few in let at = k.walk.level c.in-Some.name c.in-Some.is in let most = c.requires.forest.sound.few in let first = c.requires.first in
    record { fits = omega (arith, few, at, most, first) }

pub after_level-place-requires-clause-depth : goal.after_level-place-requires-clause-depth
after_level-place-requires-clause-depth g c = (c.loop-place.invariant c.requires.forest c.requires.part).walk.level c.in-Some.name c.in-Some.is

pub loop-place-smaller : goal.loop-place-smaller
loop-place-smaller g c =
    let k = c.loop-place.invariant c.requires.forest c.requires.part in
    walk_less c.args.links.now c.requires.forest c.loop-place.place c.loop-place.here k.walk c.in-Some.name c.in-Some.is c.after_level-place.result c.after_level-place.ensures.follows

pub loop-place-preserved : goal.loop-place-preserved
loop-place-preserved g c = λ s k.
    let a = c.args in
    subst (λ made. Copying a.links.now s a.from a.level a.count a.first k c.after_level-place.result c.after_level-place.new.depth made (c.loop-place.left - 1)) (sym c.in_ok-push.ensures.items)
    (copying_more a.links.now s a.from a.level a.count a.first k c.loop-place.place c.loop-place.here c.loop-place.made.items c.loop-place.left (c.loop-place.invariant s k) c.in-Some.name c.in-Some.is c.if-left-eq0.false
    c.at.result.now c.at.ensures c.in_ok-copy.field-0 c.in_ok-copy.ensures c.saturating_sub.result c.saturating_sub.ensures
    c.after_level-place.result c.after_level-place.new.depth c.after_level-place.ensures.follows c.after_level-place.ensures.level)

pub returns : goal.returns
returns g c = λ k.
    let a = c.args in
    ap nodes_in c.reverse-2.ensures.items ∙ nodes_reverse c.loop-place.made.items
    ∙ ap reverse (copying_end a.links.now c.requires.forest a.from a.level a.count a.first k c.loop-place.place c.loop-place.here c.loop-place.made.items c.loop-place.left (c.loop-place.invariant c.requires.forest k) c.in_default.is)
