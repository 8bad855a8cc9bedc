use Rattle.std.proofs.Common.{◌≡◌, refl, sym, subst}
use Rattle.ac_base.specs.Guards.{GuardCounts}
use Rattle.ac_setwork.specs.TableFields.{IsTable, object_of}
use Rattle.ac_model.specs.Containers.{container, first_spare}
use Rattle.ac_model.specs.Objects.{empty_object}
use Rattle.ac_setwork.proofs.Tables.{empty_is, empty_table}
use Rattle.ac_setwork.proofs.table.Table.new.Goals as goal

pub invariant_of-result : goal.invariant_of-result
invariant_of-result g c =
    subst (λ (n : GuardCounts). IsTable g.I.Index.order n c.args.limit (g.I.Index.seen c.in-Ok.index)) (sym c.new-in-Ok.ensures)
    (empty_table g.I.Index.has_capacity c.args.tag c.args.limit (g.I.Index.seen c.in-Ok.index) g.I.Index.order g.met.I.Index.closed c.requires c.in-Ok.ensures.empty)

pub returns-in-Ok : goal.returns-in-Ok
returns-in-Ok g c = record {
  empty = subst (λ (n : GuardCounts). container (object_of n c.args.limit (g.I.Index.seen c.in-Ok.index)) (g.I.Index.seen c.in-Ok.index).spare ≡ container (empty_object g.I.Index.has_capacity c.args.tag c.args.limit) (first_spare c.args.limit)) (sym c.new-in-Ok.ensures)
      (empty_is g.I.Index.has_capacity c.args.tag c.args.limit (g.I.Index.seen c.in-Ok.index) c.in-Ok.ensures.empty);
  memory = tt;
  unbounded = λ _. refl;
}
