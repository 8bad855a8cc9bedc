use Rattle.std.proofs.lemmas.Result.{err_from_is_err_and}
use Rattle.ac_io.proofs.Telling.{adds_then, adds_broken}
use Rattle.ac_tree_calls.specs.ListedNodes.{follows}
use Rattle.ac_tree_calls.proofs.tree_rows.listing.add_node.Goals as goal

pub returns-in_err-add_element-clause-adds : goal.returns-in_err-add_element-clause-adds
returns-in_err-add_element-clause-adds g c m =
    adds_broken (err_from_is_err_and c.from_residual.result c.from_residual.ensures.1).1 (follows c.args.depth c.args.next.0 c.args.next.1)
    (c.in_err-add_element.ensures.adds m)

pub returns-clause-adds : goal.returns-clause-adds
returns-clause-adds g c m = adds_then (c.in_ok-add_element.ensures.adds m) c.add_follows.ensures.adds
