use Rattle.std.proofs.Common.{◌++◌, [], ◌∷◌}
use Rattle.std.proofs.lemmas.Result.{err_from_is_err_and}
use Rattle.ac_io.proofs.Telling.{adds_then, adds_broken}
use Rattle.ac_model.specs.Objects.{plain, contents}
use Rattle.ac_calls.specs.Listings.{separated}
use Rattle.ac_calls.proofs.listing.write_rows.Goals as goal

pub returns-in_err-add-clause-adds : goal.returns-in_err-add-clause-adds
returns-in_err-add-clause-adds g c =
    let text = g.C.ListedRows.row_text in
    adds_broken (err_from_is_err_and c.from_residual.result c.from_residual.ensures.1).1 (separated text (contents (plain (g.C.RowObject.rows c.args.object.now).object)) ++ 93 ∷ []) c.in_err-add.ensures.adds

pub returns-in_err-add_items-clause-adds : goal.returns-in_err-add_items-clause-adds
returns-in_err-add_items-clause-adds g c =
    adds_then c.in_ok-add.ensures.adds (adds_broken (err_from_is_err_and c.from_residual-in_err-add_items.result c.from_residual-in_err-add_items.ensures.1).1 (93 ∷ []) c.in_err-add_items.ensures.adds)

pub returns-clause-adds : goal.returns-clause-adds
returns-clause-adds g c = adds_then c.in_ok-add.ensures.adds (adds_then c.in_ok-add_items.ensures.adds c.add-2.ensures.adds)
