use Rattle.std.proofs.Common.{refl}
use Rattle.ac_model.specs.Keyed.{insert_pos_call}
use Rattle.ac_model.specs.Objects.{plain}
use Rattle.ac_keyed_calls.proofs.OwnInserted.{own_inserted}
use Rattle.ac_keyed_calls.proofs.set_calls.likeness.insert_pos.Goals as goal

pub returns-clause-changed : goal.returns-clause-changed
returns-clause-changed g c =
    let old = c.args.set.now.object in
    own_inserted old _ (insert_pos_call g.I.Index.order (plain old) c.args.element) _ _ refl c.insert_pos.ensures.changed
