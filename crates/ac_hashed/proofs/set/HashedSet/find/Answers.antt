use Rattle.std.proofs.Common.{Bool, subst}
use Rattle.ac_model.specs.Calls.{Marks}
use Rattle.ac_model.specs.Containers.{Container}
use Rattle.ac_model.specs.Keyed.{find_call}
use Rattle.ac_model.specs.Objects.{plain}
use Rattle.ac_setwork.proofs.Updates.{as_test}
use Rattle.ac_hashed.proofs.set.HashedSet.find.Goals as goal

pub returns : goal.returns
returns g c =
    let table = c.self.inside.table.object in
    subst (λ (x : Container g.row.T.Denot). Marks x.object c.find.result (find_call (λ v. g.T.Hashed.is_alike v c.args.e.now) (plain x.object))) c.self.view_is
    (subst (λ (test : g.row.T.Denot → Bool). Marks table c.find.result (find_call test (plain table))) (as_test g.T.Key.Hashed.is_alike g.T.KeyOf.key_of g.T.Hashed.is_alike g.met.T.KeyOf.alike_by_key c.args.e.now c.key.result.now c.key.ensures) c.find.ensures)
