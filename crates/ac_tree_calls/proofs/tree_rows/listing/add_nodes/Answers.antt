use Rattle.std.proofs.Common.{◌++◌, [], ◌∷◌, arith, refl, sym, ap, ◌∙◌, append_assoc}
use Rattle.std.proofs.lemmas.List.{length-append}
use Rattle.std.proofs.lemmas.Result.{err_from_is_err_and}
use Rattle.ac_io.proofs.Telling.{begins, goes_on, ends, breaks, still, adds_nothing}
use Rattle.ac_syntax.specs.Canonical.{literal_text}
use Rattle.ac_tree_calls.proofs.NodesListed.{still_listed, one_node, met_of, none_left}
use Rattle.ac_tree_calls.proofs.tree_rows.listing.add_nodes.Goals as goal

pub loop-place-init : goal.loop-place-init
loop-place-init g c = record {
  before = [];
  left = (g.C.TreeLike.seen c.args.tree.now).object.rows;
  is = refl;
  passed = refl;
  at = c.first_level-c.ensures;
  adds = begins _ _ _;
  short = λ h. h;
}

pub next_level-next-requires : goal.next_level-next-requires
next_level-next-requires g c =
    let inv = c.loop-place.invariant in
    (met_of (g.C.TreeLike.seen c.args.tree.now).object c.loop-place.c c.loop-place.depth c.loop-place.place inv.before inv.left inv.is inv.passed
    (omega (arith, c.loop-place-test.true, c.live_nodes-place-end.ensures)) inv.at).met

pub add_node-requires : goal.add_node-requires
add_node-requires g c =
    let inv = c.loop-place.invariant in
    (met_of (g.C.TreeLike.seen c.args.tree.now).object c.loop-place.c c.loop-place.depth c.loop-place.place inv.before inv.left inv.is inv.passed
    (omega (arith, c.loop-place-test.true, c.live_nodes-place-end.ensures)) inv.at).met

pub returns-in_err-add_node-clause-adds : goal.returns-in_err-add_node-clause-adds
returns-in_err-add_node-clause-adds g c =
    let inv = c.loop-place.invariant in
    let o = (g.C.TreeLike.seen c.args.tree.now).object in
    let text = λ (e : g.row.T.Denot). literal_text (g.T.ScriptElement.tools.to_value e) in
    let here = met_of o c.loop-place.c c.loop-place.depth c.loop-place.place inv.before inv.left inv.is inv.passed
    (omega (arith, c.loop-place-test.true, c.live_nodes-place-end.ensures)) inv.at in
    let after = c.next_level-next.ensures here.met.before here.met.at here.met.left here.met.is here.met.stands in
    breaks (err_from_is_err_and c.from_residual.result c.from_residual.ensures.1).1 (still_listed text here.met.left)
    (still (ap (still_listed text) here.cut ∙ one_node text o.number c.loop-place.depth here.met.at here.met.left _ _ here.met.depth_is after) inv.adds)
    (c.in_err-add_node.ensures.adds here.met)

pub loop-place-preserved : goal.loop-place-preserved
loop-place-preserved g c =
    let inv = c.loop-place.invariant in
    let o = (g.C.TreeLike.seen c.args.tree.now).object in
    let text = λ (e : g.row.T.Denot). literal_text (g.T.ScriptElement.tools.to_value e) in
    let here = met_of o c.loop-place.c c.loop-place.depth c.loop-place.place inv.before inv.left inv.is inv.passed
    (omega (arith, c.loop-place-test.true, c.live_nodes-place-end.ensures)) inv.at in
    let after = c.next_level-next.ensures here.met.before here.met.at here.met.left here.met.is here.met.stands in
    record {
      before = here.met.before ++ here.met.at ∷ [];
      left = here.met.left;
      is = here.met.is ∙ sym (append_assoc here.met.before (here.met.at ∷ []) here.met.left);
      passed = length-append here.met.before (here.met.at ∷ []) ∙ here.passed;
      at = after;
      adds = goes_on (still (ap (still_listed text) here.cut ∙ one_node text o.number c.loop-place.depth here.met.at here.met.left _ _ here.met.depth_is after) inv.adds)
          (c.in_ok-add_node.ensures.adds here.met);
      short = λ h. c.in_ok-add_node.ensures.short (inv.short h);
    }

pub returns-clause-adds : goal.returns-clause-adds
returns-clause-adds g c =
    let inv = c.loop-place.invariant in
    let text = λ (e : g.row.T.Denot). literal_text (g.T.ScriptElement.tools.to_value e) in
    let all = none_left (g.C.TreeLike.seen c.args.tree.now).object c.loop-place.place inv.before inv.left inv.is inv.passed
    (omega (arith, c.loop-place-test.false, c.loop-place.auto.place-end, c.live_nodes-place-end.ensures)) in
    ends (still (ap (still_listed text) all) inv.adds) (adds_nothing _ _)
