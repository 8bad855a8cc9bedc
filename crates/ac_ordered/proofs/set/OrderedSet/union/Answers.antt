use Rattle.std.proofs.Common.{subst}
use Rattle.ac_model.specs.Calls.{Changing, Same}
use Rattle.ac_model.specs.Containers.{Container}
use Rattle.ac_model.specs.Keyed.{ascending}
use Rattle.ac_model.specs.Objects.{plain}
use Rattle.ac_model.specs.Sets.{union_call}
use Rattle.ac_ordered.proofs.set.OrderedSet.union.Goals as goal

pub returns-clause-changed : goal.returns-clause-changed
returns-clause-changed g c =
    let order = ascending g.T.Rank.is_less in let old = c.self.inside.table in let new = c.union.new.self.object in
    subst (λ (x : Container g.row.T.Denot). Changing Same (union_call order (plain x.object) (plain c.args.source.now.object)) x.object new c.union.result) c.self.view_is
    (subst (λ (x : Container g.row.T.Denot). Changing Same (union_call order (plain old.object) (plain x.object)) old.object new c.union.result) c.source.view_is c.union.ensures.changed)
