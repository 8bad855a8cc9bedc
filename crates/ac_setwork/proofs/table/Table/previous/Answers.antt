use Rattle.std.proofs.Common.{IsTrue, sym, ap, ◌∙◌, subst}
use Rattle.ac_base.specs.declared.name.Name.{Name}
use Rattle.ac_base.specs.Rows.{names}
use Rattle.ac_model.specs.Containers.{Container}
use Rattle.ac_model.specs.Cursors.{name_in}
use Rattle.ac_model.specs.Letters.{is_among}
use Rattle.ac_model.specs.Objects.{plains}
use Rattle.ac_model.specs.Rows.{place_of}
use Rattle.ac_model.proofs.Reasons.{passed}
use Rattle.ac_setwork.specs.Indexed.{is_there}
use Rattle.ac_setwork.specs.Ends.{name_before, name_up_to}
use Rattle.ac_setwork.proofs.Found.{stands}
use Rattle.ac_setwork.proofs.Ends.{previous_looks}
use Rattle.ac_setwork.proofs.table.Table.previous.Goals as goal

pub previous-requires : goal.previous-requires
previous-requires g c =
    let o = c.args.self.now.object in
    subst (λ (n : Name). IsTrue (is_there (g.I.Index.seen c.self.inside.index) n)) (sym c.name_in.ensures)
    (subst (λ (x : Container _). IsTrue (is_among (names x.object.rows) (name_in c.args.b))) (sym c.self.view_is) (stands o c.args.b (sym (passed _ _ c.in_ok-allowed.ensures c.needs.ensures))).there)

pub returns : goal.returns
returns g c =
    let s = g.I.Index.seen c.self.inside.index in
    previous_looks c.args.self.now.object s c.args.b c.previous.result c.cursor_at.result (ap (λ (x : Container _). x.object.rows) c.self.view_is) (sym (passed _ _ c.in_ok-allowed.ensures c.needs.ensures))
    (c.previous.ensures ∙ ap (λ (n : Name). name_before s n) c.name_in.ensures ∙ ap (λ (x : Container _). name_up_to s (place_of (plains x.object.rows) (name_in c.args.b).serial)) c.self.view_is)
    c.cursor_at.ensures
