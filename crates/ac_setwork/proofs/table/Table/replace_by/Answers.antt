use Rattle.std.proofs.Common.{refl, sym, ◌∙◌}
use Rattle.ac_model.proofs.Reasons.{passed}
use Rattle.ac_setwork.proofs.Updates.{replace_absent, replace_found}
use Rattle.ac_setwork.proofs.table.Table.replace_by.Goals as goal

pub returns-in-None-clause-changed : goal.returns-in-None-clause-changed
returns-in-None-clause-changed g c =
    let k = c.args.key.now in (
      replace_absent g.I.Index.order g.I.Keyed.key_of g.I.Keyed.keys g.met.I.Keyed.order_by_key (g.I.Index.matches k) k (g.met.I.Keyed.matches_key k) c.args.self.now.object c.args.row
          (sym c.name_by.ensures ∙ c.in-None.is) (sym (passed _ _ c.in_ok-allowed.ensures c.tampering.ensures)),
      refl,
    )

pub returns-in-Some-clause-changed : goal.returns-in-Some-clause-changed
returns-in-Some-clause-changed g c =
    let k = c.args.key.now in
    replace_found g.I.Index.order g.I.Keyed.key_of g.I.Keyed.keys g.met.I.Keyed.order_by_key (g.I.Index.matches k) k (g.met.I.Keyed.matches_key k) c.args.self.now.object c.args.row
    c.in-Some.name c.cursor_at-c.result c.replace_element.new.self.object c.replace_element.result (sym c.name_by.ensures ∙ c.in-Some.is) c.cursor_at-c.ensures c.replace_element.ensures.changed
