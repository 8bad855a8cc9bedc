use Rattle.std.proofs.Common.{None, ap}
use Rattle.ac_pool.specs.Contents.{Contents}
use Rattle.ac_chain.specs.Rows.{chained}
use Rattle.ac_chain.specs.Sequence.{object_of}
use Rattle.ac_model.specs.Containers.{first_spare}
use Rattle.ac_tree.proofs.Objects.{empty_tree, empty_rows}
use Rattle.ac_tree.proofs.tree.Tree.new.Goals as goal

pub invariant_of-result : goal.invariant_of-result
invariant_of-result g c = empty_tree c.args.limit c.in-Ok.links c.requires c.in-Ok.ensures.empty

pub returns-clause-empty : goal.returns-clause-empty
returns-clause-empty g c =
    let e = c.in-Ok.ensures.empty in
    let rows = empty_rows c.in-Ok.links (first_spare c.args.limit) e in
    let next = ap (λ (d : Contents _). d.next_serial) e.nodes in
    λ j. object_of (c.new.ensures j) c.args.limit None (chained (rows j) (next j) c.in-Ok.links.nodes.spare)
