use Rattle.std.proofs.Common.{◌<◌, sym, subst, ◌∙◌}
use Rattle.ac_model.specs.Objects.{plains}
use Rattle.ac_model.specs.Outline.{is_in_subtree}
use Rattle.ac_tree.specs.TreeCursors.{serial_in}
use Rattle.ac_tree.specs.TreeRows.{rows_of}
use Rattle.ac_tree.proofs.Counting.{node_depth}
use Rattle.ac_tree.proofs.Following.{climb_less}
use Rattle.ac_tree.proofs.Within.{within_start, within_hit, within_more, within_end}
use Rattle.ac_tree.proofs.finding.is_within.Goals as goal

pub loop-above-init : goal.loop-above-init
loop-above-init g c = within_start c.args.links.now c.requires.forest c.args.top c.requires.top c.args.node c.requires.live

pub returns-then-is_same : goal.returns-then-is_same
returns-then-is_same g c =
    let l = c.args.links.now in let wanted = is_in_subtree (plains (rows_of l).rows) c.args.top.serial (serial_in c.args.node) in
    within_hit l c.requires.forest c.args.top c.requires.top wanted c.loop-above.above c.loop-above.invariant c.in-Some.name c.in-Some.is (c.in-Some.is ∙ c.is_same.ensures.0 c.if-is_same.true)

pub loop-above-smaller : goal.loop-above-smaller
loop-above-smaller g c =
    let l = c.args.links.now in
    subst (λ p. node_depth l c.parent-above.result < node_depth l p) (sym c.in-Some.is)
    (climb_less l c.requires.forest c.in-Some.name (c.loop-above.invariant.live c.in-Some.name c.in-Some.is) c.parent-above.result (λ b e. sym c.parent-above.ensures ∙ e))

pub loop-above-preserved : goal.loop-above-preserved
loop-above-preserved g c =
    let l = c.args.links.now in let wanted = is_in_subtree (plains (rows_of l).rows) c.args.top.serial (serial_in c.args.node) in
    within_more l c.requires.forest c.args.top c.requires.top wanted c.loop-above.above c.loop-above.invariant c.in-Some.name c.in-Some.is
    (λ e. let no = c.is_same.ensures.1 (sym c.in-Some.is ∙ e) in let miss = c.if-is_same.false in cc) c.parent-above.result c.parent-above.ensures

pub returns : goal.returns
returns g c =
    let l = c.args.links.now in let wanted = is_in_subtree (plains (rows_of l).rows) c.args.top.serial (serial_in c.args.node) in
    within_end l c.requires.forest c.args.top wanted c.loop-above.above c.loop-above.invariant c.in_default.is
