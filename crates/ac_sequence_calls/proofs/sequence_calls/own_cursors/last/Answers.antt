use Rattle.ac_model.specs.Objects.{plain}
use Rattle.ac_calls.proofs.Own.{own_cursor, mark_in_own}
use Rattle.ac_sequence_calls.proofs.sequence_calls.own_cursors.last.Goals as goal

pub returns : goal.returns
returns g c = let o = (g.S.SequenceLike.seen c.args.sequence.now).object in own_cursor o _ _ (mark_in_own (plain o) _) c.last.ensures
