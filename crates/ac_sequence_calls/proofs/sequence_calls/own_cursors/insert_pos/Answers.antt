use Rattle.std.proofs.Common.{subst, to_z-of_z, w64, Ok}
use Rattle.ac_model.specs.Objects.{plain}
use Rattle.ac_model.specs.Letters.{count_of, may}
use Rattle.ac_model.specs.Calls.{Changing, Marks}
use Rattle.ac_model.specs.Cursors.{mark}
use Rattle.ac_model.specs.Sequences.{insert_pos_call}
use Rattle.ac_model.proofs.Changes.{place_none}
use Rattle.ac_calls.proofs.Made.{own_change}
use Rattle.ac_calls.proofs.Own.{first_new_own}
use Rattle.ac_sequence_calls.proofs.sequence_calls.own_cursors.insert_pos.Goals as goal

pub returns-clause-changed : goal.returns-clause-changed
returns-clause-changed g c =
    let o = (g.S.SequenceLike.seen c.args.sequence.now).object in
    let now = (g.S.SequenceLike.seen c.insert_pos.new.self).object in
    let before = mark o c.args.before in
    let count = c.args.count in
    own_change o now (insert_pos_call (plain o) before c.args.element count) c.insert_pos.new.p
    (λ h. first_new_own (plain o) before (count_of count) (place_none o (may (plain o) before) count h))
    (subst (λ n. Changing (λ _ m. Marks now c.insert_pos.new.p m) (insert_pos_call (plain o) before c.args.element n) o now (Ok c.in_ok-insert_pos.field-0))
    (to_z-of_z {w = w64} {z = count} c.ranges.count) c.in_ok-insert_pos.ensures.changed.0)
