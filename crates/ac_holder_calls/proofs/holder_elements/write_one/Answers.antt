use Rattle.std.proofs.Common.{◌++◌, [], ◌∷◌, sym}
use Rattle.std.proofs.lemmas.Result.{err_from_is_err_and}
use Rattle.std.proofs.lemmas.List.{append-nil}
use Rattle.ac_io.proofs.Telling.{adds_then, adds_broken, adds_text}
use Rattle.ac_syntax.specs.Canonical.{literal_text}
use Rattle.ac_holder_calls.proofs.holder_elements.write_one.Goals as goal

pub returns-in_err-add-clause-adds : goal.returns-in_err-add-clause-adds
returns-in_err-add-clause-adds g c =
    let text = literal_text (g.T.ScriptElement.tools.to_value c.args.element.now) in
    adds_broken (err_from_is_err_and c.from_residual.result c.from_residual.ensures.1).1 ((text ++ []) ++ 93 ∷ []) c.in_err-add.ensures.adds

pub returns-in_err-add_literal-clause-adds : goal.returns-in_err-add_literal-clause-adds
returns-in_err-add_literal-clause-adds g c =
    let text = literal_text (g.T.ScriptElement.tools.to_value c.args.element.now) in
    adds_then c.in_ok-add.ensures.adds
    (adds_broken (err_from_is_err_and c.from_residual-in_err-add_literal.result c.from_residual-in_err-add_literal.ensures.1).1 (93 ∷ [])
    (adds_text (sym (append-nil text)) c.in_err-add_literal.ensures.adds))

pub returns-clause-adds : goal.returns-clause-adds
returns-clause-adds g c =
    let text = literal_text (g.T.ScriptElement.tools.to_value c.args.element.now) in
    adds_then c.in_ok-add.ensures.adds (adds_then (adds_text (sym (append-nil text)) c.in_ok-add_literal.ensures.adds) c.add-2.ensures.adds)
