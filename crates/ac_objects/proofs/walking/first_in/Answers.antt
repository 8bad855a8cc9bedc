use Rattle.std.proofs.Common.{◌≡◌, true, false, sym, subst}
use Rattle.ac_base.specs.Rows.{names}
use Rattle.ac_model.specs.Objects.{plain}
use Rattle.ac_model.specs.Cursors.{plain_mark}
use Rattle.ac_meaning.specs.Execution.{in_order}
use Rattle.ac_meaning.specs.Walks.{first_mark}
use Rattle.ac_objects.proofs.Given.{no_root_among}
use Rattle.ac_objects.proofs.Walked.{start_given, start_marks}
use Rattle.ac_objects.proofs.walking.first_in.Goals as goal

pub returns-then-backward-clause-given : goal.returns-then-backward-clause-given
returns-then-backward-clause-given g c = start_given true (g.C.RowObject.rows c.args.object.now).object c.last.result c.law.ensures c.last.ensures

pub returns-then-backward-clause-named : goal.returns-then-backward-clause-named
returns-then-backward-clause-named g c = no_root_among (plain (g.C.RowObject.rows c.args.object.now).object) c.law.ensures

pub returns-then-backward-clause-first : goal.returns-then-backward-clause-first
returns-then-backward-clause-first g c =
    let o = (g.C.RowObject.rows c.args.object.now).object in
    subst (λ b. plain_mark c.last.result ≡ first_mark o.number (in_order b (names (plain o).rows))) (sym c.if-backward.true)
    (start_marks true o c.last.result c.last.ensures)

pub returns-else-backward-clause-given : goal.returns-else-backward-clause-given
returns-else-backward-clause-given g c = start_given false (g.C.RowObject.rows c.args.object.now).object c.first.result c.law.ensures c.first.ensures

pub returns-else-backward-clause-named : goal.returns-else-backward-clause-named
returns-else-backward-clause-named g c = no_root_among (plain (g.C.RowObject.rows c.args.object.now).object) c.law.ensures

pub returns-else-backward-clause-first : goal.returns-else-backward-clause-first
returns-else-backward-clause-first g c =
    let o = (g.C.RowObject.rows c.args.object.now).object in
    subst (λ b. plain_mark c.first.result ≡ first_mark o.number (in_order b (names (plain o).rows))) (sym c.if-backward.false)
    (start_marks false o c.first.result c.first.ensures)
