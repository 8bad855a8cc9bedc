use Rattle.std.proofs.Common.{ap, ◌∙◌}
use Rattle.std.specs.Prelude.{Bool}
use Rattle.ac_model.specs.Containers.{Container}
use Rattle.ac_model.specs.Keyed.{contains_call}
use Rattle.ac_model.specs.Objects.{plain}
use Rattle.ac_setwork.proofs.Updates.{as_test}
use Rattle.ac_hashed.proofs.set.HashedSet.contains.Goals as goal

pub returns : goal.returns
returns g c =
    c.contains.ensures ∙ ap (λ (test : g.row.T.Denot → Bool). contains_call test (plain c.self.inside.table.object)) (as_test g.T.Key.Hashed.is_alike g.T.KeyOf.key_of g.T.Hashed.is_alike g.met.T.KeyOf.alike_by_key c.args.e.now c.key.result.now c.key.ensures)
    ∙ ap (λ (x : Container g.row.T.Denot). contains_call (λ v. g.T.Hashed.is_alike v c.args.e.now) (plain x.object)) c.self.view_is
