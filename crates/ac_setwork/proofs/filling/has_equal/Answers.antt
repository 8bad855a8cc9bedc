use Rattle.std.proofs.Common.{sym, ap, ◌∙◌}
use Rattle.ac_setwork.specs.Filling.{is_equal_row}
use Rattle.ac_setwork.proofs.Found.{among_found, none_found}
use Rattle.ac_setwork.proofs.Walking.{row_under}
use Rattle.ac_setwork.proofs.filling.has_equal.Goals as goal

pub at-requires : goal.at-requires
at-requires g c =
    let s = g.I.Index.seen c.args.index.now in
    among_found (λ w. g.I.Index.order.alike w c.args.row.now) s.rows c.in-Some.name (sym c.look_like.ensures ∙ c.in-Some.is)

pub returns-in-None : goal.returns-in-None
returns-in-None g c =
    let s = g.I.Index.seen c.args.index.now in
    sym (ap (is_equal_row g.I.Index.is_equal c.args.row.now) (none_found (λ w. g.I.Index.order.alike w c.args.row.now) s.rows (sym c.look_like.ensures ∙ c.in-None.is)))

pub returns-in-Some : goal.returns-in-Some
returns-in-Some g c =
    let s = g.I.Index.seen c.args.index.now in
    c.equal.ensures ∙ sym (ap (is_equal_row g.I.Index.is_equal c.args.row.now)
    (row_under s c.requires.names (λ w. g.I.Index.order.alike w c.args.row.now) c.in-Some.name c.at.result.now (sym c.look_like.ensures ∙ c.in-Some.is) c.at.ensures))
