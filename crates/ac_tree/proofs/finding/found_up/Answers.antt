use Rattle.std.proofs.Common.{◌<◌, refl, sym, subst, ◌∙◌}
use Rattle.ac_tree.specs.Searching.{found_in, rows_up}
use Rattle.ac_tree.specs.TreeCursors.{serial_in}
use Rattle.ac_tree.specs.TreeRows.{rows_of}
use Rattle.ac_tree.proofs.Ancestors.{rise_hit, rise_more, rise_end}
use Rattle.ac_tree.proofs.Counting.{node_depth}
use Rattle.ac_tree.proofs.Following.{climb_less}
use Rattle.ac_tree.proofs.finding.found_up.Goals as goal

pub loop-place-init : goal.loop-place-init
loop-place-init g c = record { live = c.requires.live; found = refl }

pub at-requires : goal.at-requires
at-requires g c = c.loop-place.invariant.live c.in-Some.name c.in-Some.is

pub returns-then-same : goal.returns-then-same
returns-then-same g c =
    let l = c.args.links.now in let wanted = found_in g.T.Elem.is_same c.args.e.now (rows_up (rows_of l).rows (serial_in c.args.node)) in
    rise_hit l c.requires.forest g.T.Elem.is_same c.args.e.now wanted c.loop-place.place c.loop-place.invariant c.in-Some.name c.in-Some.is c.at.result.now c.at.ensures c.same.result c.same.ensures c.if-same.true

pub loop-place-smaller : goal.loop-place-smaller
loop-place-smaller g c =
    let l = c.args.links.now in
    subst (λ p. node_depth l c.parent-place.result < node_depth l p) (sym c.in-Some.is)
    (climb_less l c.requires.forest c.in-Some.name (c.loop-place.invariant.live c.in-Some.name c.in-Some.is) c.parent-place.result (λ b e. sym c.parent-place.ensures ∙ e))

pub loop-place-preserved : goal.loop-place-preserved
loop-place-preserved g c =
    let l = c.args.links.now in let wanted = found_in g.T.Elem.is_same c.args.e.now (rows_up (rows_of l).rows (serial_in c.args.node)) in
    rise_more l c.requires.forest g.T.Elem.is_same c.args.e.now wanted c.loop-place.place c.loop-place.invariant c.in-Some.name c.in-Some.is
    c.at.result.now c.at.ensures c.same.result c.same.ensures c.if-same.false c.parent-place.result c.parent-place.ensures

pub returns : goal.returns
returns g c =
    let l = c.args.links.now in let wanted = found_in g.T.Elem.is_same c.args.e.now (rows_up (rows_of l).rows (serial_in c.args.node)) in
    rise_end l c.requires.forest g.T.Elem.is_same c.args.e.now wanted c.loop-place.place c.loop-place.invariant c.in_default.is
