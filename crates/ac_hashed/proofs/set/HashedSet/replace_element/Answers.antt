use Rattle.std.proofs.Common.{subst}
use Rattle.ac_model.specs.Calls.{Changing, Same}
use Rattle.ac_model.specs.Containers.{Container}
use Rattle.ac_model.specs.Forms.{seen_by}
use Rattle.ac_model.specs.Keyed.{by_arrival, replace_element_call}
use Rattle.ac_model.specs.Objects.{plain}
use Rattle.ac_hashed.proofs.set.HashedSet.replace_element.Goals as goal

pub returns-clause-changed : goal.returns-clause-changed
returns-clause-changed g c =
    subst (λ (x : Container g.row.T.Denot). Changing Same (replace_element_call (by_arrival g.T.Hashed.is_alike) (plain x.object) (seen_by x c.args.c) c.args.e) x.object c.replace_element.new.self.object c.replace_element.result) c.self.view_is
    c.replace_element.ensures.changed
