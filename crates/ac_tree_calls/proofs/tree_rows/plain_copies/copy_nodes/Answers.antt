use Rattle.std.proofs.Common.{◌++◌, ◌+◌, [], ◌∷◌, arith, refl, sym, ap, ◌∙◌, append_assoc}
use Rattle.std.proofs.lemmas.List.{length-append}
use Rattle.ac_calls.specs.PlainRows.{node_form}
use Rattle.ac_tree_calls.proofs.NodesCopied.{still_copied, copied_rows, one_copied, all_copied}
use Rattle.ac_tree_calls.proofs.NodesListed.{met_of, none_left}
use Rattle.ac_tree_calls.proofs.tree_rows.plain_copies.copy_nodes.Goals as goal

pub loop-place-init : goal.loop-place-init
loop-place-init g c =
    let form = node_form g.T.ScriptElement.tools in
    let rows = (g.C.TreeLike.seen c.args.tree.now).object.rows in
    record {
      before = [];
      left = rows;
      is = refl;
      passed = refl;
      at = c.first_level-c.ensures;
      made = ap (λ ys. ys ++ still_copied form rows) c.in_ok-rows.ensures.items ∙ copied_rows form rows;
      count = c.in_ok-rows.ensures.len;
      room = c.in_ok-rows.ensures.exact ∙ c.live_nodes.ensures.count;
    }

pub next_level-next-requires : goal.next_level-next-requires
next_level-next-requires g c =
    let inv = c.loop-place.invariant in
    (met_of (g.C.TreeLike.seen c.args.tree.now).object c.loop-place.c c.loop-place.depth c.loop-place.place inv.before inv.left inv.is inv.passed
    (omega (arith, c.loop-place-test.true, c.live_nodes-place-end.ensures)) inv.at).met

pub copy_node-requires : goal.copy_node-requires
copy_node-requires g c =
    let inv = c.loop-place.invariant in
    (met_of (g.C.TreeLike.seen c.args.tree.now).object c.loop-place.c c.loop-place.depth c.loop-place.place inv.before inv.left inv.is inv.passed
    (omega (arith, c.loop-place-test.true, c.live_nodes-place-end.ensures)) inv.at).met

pub loop-place-preserved : goal.loop-place-preserved
loop-place-preserved g c =
    let inv = c.loop-place.invariant in
    let o = (g.C.TreeLike.seen c.args.tree.now).object in
    let form = node_form g.T.ScriptElement.tools in
    let here = met_of o c.loop-place.c c.loop-place.depth c.loop-place.place inv.before inv.left inv.is inv.passed
    (omega (arith, c.loop-place-test.true, c.live_nodes-place-end.ensures)) inv.at in
    let after = c.next_level-next.ensures here.met.before here.met.at here.met.left here.met.is here.met.stands in
    record {
      before = here.met.before ++ here.met.at ∷ [];
      left = here.met.left;
      is = here.met.is ∙ sym (append_assoc here.met.before (here.met.at ∷ []) here.met.left);
      passed = length-append here.met.before (here.met.at ∷ []) ∙ here.passed;
      at = after;
      made = one_copied form inv.left here.met.left here.met.at _ _ _ _ inv.made here.cut (c.in_ok-copy_node.ensures here.met) c.push_reserved.ensures.items;
      count = c.push_reserved.ensures.len ∙ ap (λ n. n + 1) inv.count;
      room = c.push_reserved.ensures.capacity ∙ inv.room;
    }

pub returns : goal.returns
returns g c =
    let inv = c.loop-place.invariant in
    let none = none_left (g.C.TreeLike.seen c.args.tree.now).object c.loop-place.place inv.before inv.left inv.is inv.passed
    (omega (arith, c.loop-place-test.false, c.loop-place.auto.place-end, c.live_nodes-place-end.ensures)) in
    c.from_vec.ensures ∙ all_copied (node_form g.T.ScriptElement.tools) inv.left _ _ inv.made none
