use Rattle.std.proofs.Common.{◌++◌, [], ◌∷◌}
use Rattle.std.proofs.lemmas.Result.{err_from_is_err_and}
use Rattle.ac_base.specs.declared.value.Value.TheVariants.{Int}
use Rattle.ac_io.proofs.Telling.{adds_then, adds_broken}
use Rattle.ac_queue.specs.Kinds.{state_of}
use Rattle.ac_calls.specs.Listings.{separated}
use Rattle.ac_syntax.specs.Canonical.{literal_text}
use Rattle.ac_queue_calls.proofs.queue_listing.write_queue.Goals as goal

pub returns-in_err-add-clause-adds : goal.returns-in_err-add-clause-adds
returns-in_err-add-clause-adds g c =
    let items = (state_of c.args.queue.now).queue.items in
    adds_broken (err_from_is_err_and c.from_residual.result c.from_residual.ensures.1).1 (separated (λ item. literal_text (Int item)) items ++ 93 ∷ []) c.in_err-add.ensures.adds

pub returns-in_err-add_items-clause-adds : goal.returns-in_err-add_items-clause-adds
returns-in_err-add_items-clause-adds g c =
    adds_then c.in_ok-add.ensures.adds (adds_broken (err_from_is_err_and c.from_residual-in_err-add_items.result c.from_residual-in_err-add_items.ensures.1).1 (93 ∷ []) c.in_err-add_items.ensures.adds)

pub returns-clause-adds : goal.returns-clause-adds
returns-clause-adds g c = adds_then c.in_ok-add.ensures.adds (adds_then c.in_ok-add_items.ensures.adds c.add-2.ensures.adds)
