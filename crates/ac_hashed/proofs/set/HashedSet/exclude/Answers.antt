use Rattle.std.proofs.Common.{Bool, subst}
use Rattle.ac_model.specs.Calls.{Changing, Same}
use Rattle.ac_model.specs.Containers.{Container}
use Rattle.ac_model.specs.Keyed.{exclude_call}
use Rattle.ac_model.specs.Objects.{plain}
use Rattle.ac_setwork.proofs.Updates.{as_test}
use Rattle.ac_hashed.proofs.set.HashedSet.exclude.Goals as goal

pub returns-clause-changed : goal.returns-clause-changed
returns-clause-changed g c =
    let table = c.self.inside.table.object in let new = c.exclude.new.self.object in
    subst (λ (x : Container g.row.T.Denot). Changing Same (exclude_call (λ v. g.T.Hashed.is_alike v c.args.e.now) (plain x.object)) x.object new c.exclude.result) c.self.view_is
    (subst (λ (test : g.row.T.Denot → Bool). Changing Same (exclude_call test (plain table)) table new c.exclude.result) (as_test g.T.Key.Hashed.is_alike g.T.KeyOf.key_of g.T.Hashed.is_alike g.met.T.KeyOf.alike_by_key c.args.e.now c.key.result.now c.key.ensures) c.exclude.ensures.changed)
