use Rattle.ac_model.specs.Cursors.{mark}
use Rattle.ac_model.specs.Letters.{needs, tampers_cursors}
use Rattle.ac_model.specs.Objects.{plain}
use Rattle.ac_keyed_calls.specs.KeyedSets.{keyed_items}
use Rattle.ac_keyed_calls.proofs.KeyedOperations.{looked_for_alone}
use Rattle.ac_keyed_calls.proofs.keyed_set.KeyedSet.refuses_update.Goals as goal

pub returns : goal.returns
returns g c =
    let o = (keyed_items c.args.self.now).object in
    looked_for_alone (tampers_cursors (plain o)) (needs (plain o) (mark o c.args.c)) c.first_reason.ensures c.tampering.ensures c.refused.ensures
