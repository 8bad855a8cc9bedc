use Rattle.std.proofs.Common.{subst, to_z, of_z, to_z-of_z, w64}
use Rattle.ac_model.specs.Objects.{plain}
use Rattle.ac_model.specs.Calls.{Changing, Same, Marks}
use Rattle.ac_model.specs.Sequences as sequences
use Rattle.ac_model.specs.Cursors.{mark}
use Rattle.ac_model.proofs.Changes.{unanswered}
use Rattle.ac_chain.proofs.calls.putting.insert.Goals as goal

pub returns-clause-slots : goal.returns-clause-slots
returns-clause-slots g c = c.insert_pos.ensures.slots

pub returns-clause-changed : goal.returns-clause-changed
returns-clause-changed g c =
    let o = (g.S.Sequence.seen c.args.s.now).object in let new = (g.S.Sequence.seen c.insert_pos.new.s).object in let m = to_z w64 (of_z w64 c.args.n) in
    subst (λ n. Changing Same (sequences.insert_call (plain o) (mark o c.args.b) c.args.e n) o new c.insert_pos.result) (to_z-of_z {w = w64} {z = c.args.n} c.ranges.n)
    (unanswered (λ _ m. Marks new c.insert_pos.new.p m) (sequences.insert_pos_call (plain o) (mark o c.args.b) c.args.e m) o new c.insert_pos.result c.insert_pos.ensures.changed.0)
