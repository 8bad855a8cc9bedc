use Rattle.std.proofs.Common.{◌≡◌, true, sym, subst}
use Rattle.ac_base.specs.Rows.{names}
use Rattle.ac_model.specs.Calls.{IsAfter}
use Rattle.ac_model.specs.Containers.{Container}
use Rattle.ac_model.specs.Letters.{is_among}
use Rattle.ac_model.specs.Objects.{plain, with_rows}
use Rattle.ac_model.specs.Rows.{cut, place_of}
use Rattle.ac_setwork.specs.TableFields.{object_of}
use Rattle.ac_setwork.proofs.Tables.{taken_after, taken_table}
use Rattle.ac_setwork.proofs.table.as_set.TableSetLike.drop_name.Goals as goal

pub invariant_of-self : goal.invariant_of-self
invariant_of-self g c =
    let i = c.self.inside in
    taken_table g.I.Index.order i.guards i.limit g.met.I.Index.closed (g.I.Index.seen i.index) (g.I.Index.seen c.remove-row.new.self) c.args.name c.self.invariant
    (subst (λ (x : Container _). is_among (names x.object.rows) c.args.name ≡ true) (sym c.self.view_is) c.requires) c.remove-row.ensures.removed

pub returns-clause-dropped : goal.returns-clause-dropped
returns-clause-dropped g c =
    let i = c.self.inside in let s2 = g.I.Index.seen c.remove-row.new.self in
    subst (λ (x : Container _). IsAfter x.object (object_of i.guards i.limit s2) (with_rows (plain x.object) (cut (plain x.object).rows (place_of (plain x.object).rows c.args.name.serial) 1))) c.self.view_is
    (taken_after g.I.Index.order i.guards i.limit (g.I.Index.seen i.index) s2 c.args.name c.remove-row.ensures.removed)
