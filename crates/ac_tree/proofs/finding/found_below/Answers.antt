use Rattle.std.proofs.Common.{◌≡◌, ◌+◌, Some, sym, ap, subst, ◌∙◌, arith}
use Rattle.std.specs.Prelude.{option_copied}
use Rattle.ac_pool.specs.Link.{name_in, value_in}
use Rattle.ac_pool.specs.Runs.{LiesFrom}
use Rattle.ac_tree.specs.Searching.{found_in, rows_below}
use Rattle.ac_tree.specs.TreeCursors.{serial_in}
use Rattle.ac_tree.specs.TreeRows.{rows_of}
use Rattle.ac_tree.specs.Walking.{IsBeside}
use Rattle.ac_tree.proofs.Searching.{Seeking, seek_start, seek_link, link_hit, link_more, link_less, link_end, place_few, runs_beside, follows_run}
use Rattle.ac_tree.proofs.finding.found_below.Goals as goal

pub loop-node-init : goal.loop-node-init
loop-node-init g c =
    let l = c.args.links.now in let wanted = found_in g.T.Elem.is_same c.args.e.now (rows_below (rows_of l).rows (serial_in c.args.top)) in record {
      seeking = subst (λ link. Seeking l c.args.top g.T.Elem.is_same c.args.e.now wanted (name_in l.nodes link)) (sym c.link_to-place.ensures)
          (seek_link l c.requires.forest c.args.top g.T.Elem.is_same c.args.e.now wanted c.first_child.result
          (seek_start l c.requires.forest c.args.top c.requires.live g.T.Elem.is_same c.args.e.now c.first_child.result c.first_child.ensures));
      lies = c.run_at-run.ensures;
    }

pub returns-then-same : goal.returns-then-same
returns-then-same g c =
    let l = c.args.links.now in let wanted = found_in g.T.Elem.is_same c.args.e.now (rows_below (rows_of l).rows (serial_in c.args.top)) in let k = c.loop-node.invariant in
    c.name_in.ensures
    ∙ link_hit l c.args.top g.T.Elem.is_same c.args.e.now wanted c.loop-node.place k.seeking c.in-Some.node.now
    (k.lies.first ∙ sym c.first.ensures ∙ ap option_copied c.in-Some.is) c.same.result c.same.ensures c.if-same.true

pub is_beside-requires : goal.is_beside-requires
is_beside-requires g c =
    let l = c.args.links.now in let k = c.loop-node.invariant in
    place_few l c.requires.forest c.args.top c.loop-node.place c.loop-node.run k.lies c.in-Some.node.now (k.lies.first ∙ sym c.first.ensures ∙ ap option_copied c.in-Some.is)

pub returns : goal.returns
returns g c =
    let l = c.args.links.now in let wanted = found_in g.T.Elem.is_same c.args.e.now (rows_below (rows_of l).rows (serial_in c.args.top)) in let k = c.loop-node.invariant in
    link_end l c.args.top g.T.Elem.is_same c.args.e.now wanted c.loop-node.place k.seeking (k.lies.first ∙ sym c.first.ensures ∙ ap option_copied c.in_default.is)

pub overflow_add-place : goal.overflow_add-place
overflow_add-place g c =
    let l = c.args.links.now in let k = c.loop-node.invariant in
    omega (arith, place_few l c.requires.forest c.args.top c.loop-node.place c.loop-node.run k.lies c.in-Some.node.now (k.lies.first ∙ sym c.first.ensures ∙ ap option_copied c.in-Some.is))

pub loop-node-smaller-then-is_beside : goal.loop-node-smaller-then-is_beside
loop-node-smaller-then-is_beside g c =
    let l = c.args.links.now in let wanted = found_in g.T.Elem.is_same c.args.e.now (rows_below (rows_of l).rows (serial_in c.args.top)) in let k = c.loop-node.invariant in let p = c.loop-node.place in let n = c.in-Some.node.now in
    let is : value_in l.nodes p ≡ Some n = k.lies.first ∙ sym c.first.ensures ∙ ap option_copied c.in-Some.is in
    let b = subst (λ run. IsBeside p n run) c.rest-beside.ensures (c.is_beside.ensures c.if-is_beside.true) in
    link_less l c.args.top g.T.Elem.is_same c.args.e.now wanted p k.seeking n is c.same.result c.same.ensures c.requires.forest
    (name_in l.nodes (p + 1)) (follows_run l c.requires.forest c.args.top p c.loop-node.run k.lies n is b)

pub loop-node-preserved-then-is_beside : goal.loop-node-preserved-then-is_beside
loop-node-preserved-then-is_beside g c =
    let l = c.args.links.now in let wanted = found_in g.T.Elem.is_same c.args.e.now (rows_below (rows_of l).rows (serial_in c.args.top)) in let k = c.loop-node.invariant in let p = c.loop-node.place in let n = c.in-Some.node.now in
    let is : value_in l.nodes p ≡ Some n = k.lies.first ∙ sym c.first.ensures ∙ ap option_copied c.in-Some.is in
    let b = subst (λ run. IsBeside p n run) c.rest-beside.ensures (c.is_beside.ensures c.if-is_beside.true) in record {
      seeking = link_more l c.args.top g.T.Elem.is_same c.args.e.now wanted p k.seeking n is c.same.result c.same.ensures c.if-same.false
          (name_in l.nodes (p + 1)) (follows_run l c.requires.forest c.args.top p c.loop-node.run k.lies n is b);
      lies = subst (λ run. LiesFrom (value_in l.nodes) (p + 1) run) (sym c.rest-beside.ensures) (runs_beside l c.requires.forest c.args.top p c.loop-node.run k.lies n is b);
    }

pub loop-node-smaller : goal.loop-node-smaller
loop-node-smaller g c =
    let l = c.args.links.now in let wanted = found_in g.T.Elem.is_same c.args.e.now (rows_below (rows_of l).rows (serial_in c.args.top)) in let k = c.loop-node.invariant in
    link_less l c.args.top g.T.Elem.is_same c.args.e.now wanted c.loop-node.place k.seeking c.in-Some.node.now
    (k.lies.first ∙ sym c.first.ensures ∙ ap option_copied c.in-Some.is) c.same.result c.same.ensures c.requires.forest
    (name_in l.nodes c.following_link-place.result) c.following_link-place.ensures

pub loop-node-preserved : goal.loop-node-preserved
loop-node-preserved g c =
    let l = c.args.links.now in let wanted = found_in g.T.Elem.is_same c.args.e.now (rows_below (rows_of l).rows (serial_in c.args.top)) in let k = c.loop-node.invariant in record {
      seeking = link_more l c.args.top g.T.Elem.is_same c.args.e.now wanted c.loop-node.place k.seeking c.in-Some.node.now
          (k.lies.first ∙ sym c.first.ensures ∙ ap option_copied c.in-Some.is) c.same.result c.same.ensures c.if-same.false
          (name_in l.nodes c.following_link-place.result) c.following_link-place.ensures;
      lies = c.run_at-run-else-is_beside.ensures;
    }
