use Rattle.std.proofs.Common.{◌≡◌, sym, ap, ◌∙◌}
use Rattle.std.proofs.lemmas.Option.{same_Some}
use Rattle.ac_model.specs.Objects.{plain}
use Rattle.ac_model.specs.Trees.{element_call, tree_mark}
use Rattle.ac_io.proofs.Telling.{adds_text}
use Rattle.ac_syntax.specs.Canonical.{literal_text}
use Rattle.ac_tree_calls.proofs.MetNodes.{met_read, met_element, not_refused}
use Rattle.ac_tree_calls.proofs.tree_rows.listing.add_element.Goals as goal

pub unreachable-requires : goal.unreachable-requires
unreachable-requires g c =
    let o = (g.C.TreeLike.seen c.args.tree.now).object in
    not_refused (element_call (plain o) (tree_mark o c.args.c)) c.in-Err.field-0 (met_read o c.law.ensures.as_object c.args.c c.args.depth c.requires) c.in-Err.ensures

pub returns-clause-adds : goal.returns-clause-adds
returns-clause-adds g c m =
    let o = (g.C.TreeLike.seen c.args.tree.now).object in
    let same : c.in-Ok.element.now ≡ m.at.value.element =
    same_Some _ _ (sym c.in-Ok.ensures.1 ∙ met_element o c.law.ensures.as_object c.args.c c.args.depth m) in
    adds_text (ap (λ (e : g.row.T.Denot). literal_text (g.T.ScriptElement.tools.to_value e)) same) c.add_literal.ensures.adds
