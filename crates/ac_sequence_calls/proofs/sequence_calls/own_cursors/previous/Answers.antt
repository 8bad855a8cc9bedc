use Rattle.ac_model.specs.Objects.{plain}
use Rattle.ac_calls.proofs.Own.{own_look, previous_own}
use Rattle.ac_sequence_calls.proofs.sequence_calls.own_cursors.previous.Goals as goal

pub returns : goal.returns
returns g c = let o = (g.S.SequenceLike.seen c.args.sequence.now).object in own_look o _ _ (previous_own (plain o) _ _) c.previous.ensures
