use Rattle.std.proofs.Common.{◌++◌}
use Rattle.std.specs.Prelude.{codes}
use Rattle.std.proofs.lemmas.Result.{err_from_is_err_and}
use Rattle.ac_syntax.specs.Canonical.{literal_text}
use Rattle.ac_io.proofs.Telling.{adds_then, adds_broken}
use Rattle.ac_keyed_calls.proofs.entry_listing.add_entry.Goals as goal

pub returns-in_err-add_literal-clause-adds : goal.returns-in_err-add_literal-clause-adds
returns-in_err-add_literal-clause-adds g c =
    adds_broken (err_from_is_err_and c.from_residual.result c.from_residual.ensures.1).1
    (codes " => " ++ literal_text (g.V.ScriptElement.tools.to_value c.args.element.now)) c.in_err-add_literal.ensures.adds

pub returns-in_err-add-clause-adds : goal.returns-in_err-add-clause-adds
returns-in_err-add-clause-adds g c =
    let left = c.from_residual-in_err-add in
    adds_then c.in_ok-add_literal.ensures.adds
    (adds_broken (err_from_is_err_and left.result left.ensures.1).1
    (literal_text (g.V.ScriptElement.tools.to_value c.args.element.now)) c.in_err-add.ensures.adds)

pub returns-clause-adds : goal.returns-clause-adds
returns-clause-adds g c = adds_then c.in_ok-add_literal.ensures.adds (adds_then c.in_ok-add.ensures.adds c.add_literal-2.ensures.adds)
