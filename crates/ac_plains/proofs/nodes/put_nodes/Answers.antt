use Rattle.std.proofs.Common.{◌≡◌, ◌++◌, ◌∷◌, [], map, ap, ◌∙◌}
use Rattle.ac_model.specs.Cursors.{plain_mark}
use Rattle.ac_objects.specs.World.{IsKnown, state_of}
use Rattle.ac_plains.proofs.FillingChild.{path_begins, root_alone}
use Rattle.ac_plains.proofs.FillingNodes.{has_tree, next, node_next, node_put, path_put}
use Rattle.ac_plains.proofs.FillingRows.{begins}
use Rattle.ac_plains.proofs.nodes.put_nodes.Goals as goal

pub root_of-requires : goal.root_of-requires
root_of-requires c = has_tree c.requires

pub loop-row-init : goal.loop-row-init
loop-row-init c =
    let root = c.in_ok-root.root in
    let path = c.push.new.self.items in
    let alone : path ≡ root ∷ [] = c.in_ok-push.ensures.items ∙ ap (λ l. l ++ root ∷ []) c.new-path.ensures.items in (
      root_alone path root alone (IsKnown c.root_of.new.objects) c.in_ok-root.ensures.known,
      λ f. (c.in_ok-root.ensures.same ∙ begins f, path_begins path root alone f c.in_ok-root.ensures.root),
    )

pub put_node-requires-clause-next : goal.put_node-requires-clause-next
put_node-requires-clause-next c =
    let n = c.loop-row.row-index in
    let stand = c.loop-row.invariant.1 c.requires in (
      next c.requires n c.row-item.result c.row-item.is c.loop-row-test.true,
      node_next c.requires n c.row-item.result c.row-item.is c.loop-row-test.true (state_of c.loop-row.objects) stand.0
          (map plain_mark c.loop-row.path.items) stand.1,
    )

pub loop-row-preserved : goal.loop-row-preserved
loop-row-preserved c =
    let n = c.loop-row.row-index in
    let s = state_of c.loop-row.objects in
    let path = map plain_mark c.loop-row.path.items in (
      c.in_ok-put_node.ensures.all_known,
      λ f.
          let stand = c.loop-row.invariant.1 f in (
            node_put f n c.row-item.result c.row-item.is c.loop-row-test.true s (state_of c.put_node.new.objects) stand.0 path stand.1 c.in_ok-put_node.ensures.put,
            c.in_ok-put_node.ensures.path (next f n c.row-item.result c.row-item.is c.loop-row-test.true)
                (node_next f n c.row-item.result c.row-item.is c.loop-row-test.true s stand.0 path stand.1)
                ∙ path_put f n c.row-item.result c.row-item.is c.loop-row-test.true path stand.1,
          ),
    )
