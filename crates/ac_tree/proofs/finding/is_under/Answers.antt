use Rattle.std.proofs.Common.{sym, ap, ◌∙◌}
use Rattle.ac_model.specs.Objects.{plains}
use Rattle.ac_model.specs.Outline.{is_in, run_of}
use Rattle.ac_tree.specs.TreeCursors.{serial_in}
use Rattle.ac_tree.specs.TreeRows.{rows_of}
use Rattle.ac_tree.proofs.Within.{under_root, under_itself, under_other}
use Rattle.ac_tree.proofs.finding.is_under.Goals as goal

pub returns-in_default : goal.returns-in_default
returns-in_default g c =
    let l = c.args.links.now in
    c.is_some.ensures ∙ under_root l c.requires.forest c.args.node c.requires.live ∙ ap (λ t. is_in (serial_in c.args.node) (run_of (plains (rows_of l).rows) (serial_in t))) (sym c.in_default.is)

pub returns-then-is_same : goal.returns-then-is_same
returns-then-is_same g c =
    let l = c.args.links.now in let a = c.in-Some.name in let live = c.requires.top a c.in-Some.is in
    let same = c.is_same.ensures.0 c.if-is_same.true in
    sym ((λ i. is_in (serial_in (same i)) (run_of (plains (rows_of l).rows) (serial_in (c.in-Some.is i)))) ∙ under_itself l c.requires.forest a live)

pub returns : goal.returns
returns g c =
    let l = c.args.links.now in let a = c.in-Some.name in let live = c.requires.top a c.in-Some.is in
    under_other l c.requires.forest a live c.args.node c.requires.live (λ e. let no = c.is_same.ensures.1 e in let miss = c.if-is_same.false in cc) c.is_within.result c.is_within.ensures
    ∙ ap (λ t. is_in (serial_in c.args.node) (run_of (plains (rows_of l).rows) (serial_in t))) (sym c.in-Some.is)
