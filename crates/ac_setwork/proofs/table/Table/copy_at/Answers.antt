use Rattle.std.proofs.Common.{◌≡◌, None, IsTrue, sym, subst}
use Rattle.ac_base.specs.declared.name.Name.{Name}
use Rattle.ac_model.specs.Containers.{Container}
use Rattle.ac_model.specs.Cursors.{needs_cursor}
use Rattle.ac_setwork.specs.Indexed.{is_there}
use Rattle.ac_setwork.specs.TableFields.{object_of}
use Rattle.ac_setwork.proofs.Found.{stands}
use Rattle.ac_setwork.proofs.Updates.{copied_at}
use Rattle.ac_setwork.proofs.table.Table.copy_at.Goals as goal

pub at-requires : goal.at-requires
at-requires g c =
    let i = c.self.inside in let s = g.I.Index.seen i.index in
    subst (λ (n : Name). IsTrue (is_there s n)) (sym c.name_in.ensures)
    (stands (object_of i.guards i.limit s) c.args.c (subst (λ (x : Container _). needs_cursor x.object c.args.c ≡ None) (sym c.self.view_is) c.requires)).there

pub returns : goal.returns
returns g c =
    let i = c.self.inside in
    copied_at c.args.self.now i.guards i.limit (g.I.Index.seen i.index) c.args.c c.name_in.result c.at.result.now c.copied.result c.self.view_is c.requires c.name_in.ensures c.at.ensures c.copied.ensures
