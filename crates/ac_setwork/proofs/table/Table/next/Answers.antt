use Rattle.std.proofs.Common.{IsTrue, sym, ap, ◌+◌, ◌∙◌, subst}
use Rattle.std.specs.Prelude.{option_map, slice_get}
use Rattle.ac_base.specs.declared.name.Name.{Name}
use Rattle.ac_base.specs.Rows.{Row, names}
use Rattle.ac_model.specs.Containers.{Container}
use Rattle.ac_model.specs.Cursors.{name_in}
use Rattle.ac_model.specs.Letters.{is_among}
use Rattle.ac_model.specs.Objects.{plains}
use Rattle.ac_model.specs.Rows.{place_of}
use Rattle.ac_model.proofs.Reasons.{passed}
use Rattle.ac_setwork.specs.Indexed.{is_there, name_after}
use Rattle.ac_setwork.proofs.Found.{stands, next_looks}
use Rattle.ac_setwork.proofs.table.Table.next.Goals as goal

pub next-requires : goal.next-requires
next-requires g c =
    let o = c.args.self.now.object in
    subst (λ (n : Name). IsTrue (is_there (g.I.Index.seen c.self.inside.index) n)) (sym c.name_in.ensures)
    (subst (λ (x : Container _). IsTrue (is_among (names x.object.rows) (name_in c.args.b))) (sym c.self.view_is) (stands o c.args.b (sym (passed _ _ c.in_ok-allowed.ensures c.needs.ensures))).there)

pub returns : goal.returns
returns g c =
    next_looks c.args.self.now.object c.args.b c.next.result c.cursor_at.result (sym (passed _ _ c.in_ok-allowed.ensures c.needs.ensures))
    (c.next.ensures ∙ ap (λ (n : Name). name_after (g.I.Index.seen c.self.inside.index) n) c.name_in.ensures
    ∙ ap (λ (x : Container _). option_map (λ (r : Row Name _). r.name) (slice_get x.object.rows (place_of (plains x.object.rows) (name_in c.args.b).serial + 1))) c.self.view_is)
    c.cursor_at.ensures
