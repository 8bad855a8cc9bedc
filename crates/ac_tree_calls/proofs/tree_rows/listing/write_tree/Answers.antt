use Rattle.std.proofs.Common.{◌++◌, [], ◌∷◌}
use Rattle.std.proofs.lemmas.Result.{err_from_is_err_and}
use Rattle.ac_io.proofs.Telling.{adds_then, adds_broken}
use Rattle.ac_model.specs.Objects.{plain, contents}
use Rattle.ac_syntax.specs.Canonical.{literal_text}
use Rattle.ac_calls.specs.Listings.{nodes_listing}
use Rattle.ac_tree_calls.proofs.tree_rows.listing.write_tree.Goals as goal

pub returns-in_err-add-clause-adds : goal.returns-in_err-add-clause-adds
returns-in_err-add-clause-adds g c =
    let text = λ (e : g.row.T.Denot). literal_text (g.T.ScriptElement.tools.to_value e) in
    adds_broken (err_from_is_err_and c.from_residual.result c.from_residual.ensures.1).1 (nodes_listing text (contents (plain (g.C.TreeLike.seen c.args.tree.now).object)) ++ 93 ∷ []) c.in_err-add.ensures.adds

pub returns-in_err-add_nodes-clause-adds : goal.returns-in_err-add_nodes-clause-adds
returns-in_err-add_nodes-clause-adds g c =
    adds_then c.in_ok-add.ensures.adds (adds_broken (err_from_is_err_and c.from_residual-in_err-add_nodes.result c.from_residual-in_err-add_nodes.ensures.1).1 (93 ∷ []) c.in_err-add_nodes.ensures.adds)

pub returns-clause-adds : goal.returns-clause-adds
returns-clause-adds g c = adds_then c.in_ok-add.ensures.adds (adds_then c.in_ok-add_nodes.ensures.adds c.add-2.ensures.adds)
