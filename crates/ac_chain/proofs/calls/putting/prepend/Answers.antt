use Rattle.std.proofs.Common.{◌∷◌, None, sym, ap, ◌∙◌, subst, to_z-of_z, w64}
use Rattle.ac_base.specs.FirstReason.{first_reason}
use Rattle.ac_model.specs.Objects.{plain}
use Rattle.ac_model.specs.Letters.{count_of, tampers_cursors}
use Rattle.ac_model.specs.Sequences as sequences
use Rattle.ac_model.specs.Sequences.{room_for_copies}
use Rattle.ac_model.specs.Containers.{guards_of}
use Rattle.ac_model.specs.Putting.{Takes}
use Rattle.ac_model.proofs.Changes.{takes_from, copies_done, done_slots}
use Rattle.ac_chain.proofs.SequenceGrows.{first_spot}
use Rattle.ac_model.proofs.Reasons.{passed}
use Rattle.ac_chain.proofs.calls.putting.prepend.Goals as goal

pub put-requires-clause-place : goal.put-requires-clause-place
put-requires-clause-place g c =
    let q = g.S.Sequence.seen c.args.s.now in let k = g.S.Rows.Walked.seen c.rows.result.now in let r = c.rows.ensures in (first_spot (guards_of q) q.object.limit q.object.capacity k q.object r.object r.sequence.sound c.first-first.result c.first-first.ensures.name).0

pub put-requires-clause-room : goal.put-requires-clause-room
put-requires-clause-room g c = let o = (g.S.Sequence.seen c.args.s.now).object in subst (λ m. Takes o m) (sym (c.count_of.ensures ∙ ap count_of (to_z-of_z {w = w64} {z = c.args.n} c.ranges.n))) (takes_from o None c.args.n ((passed _ _ c.in_ok-allowed.ensures c.refuses_copies.ensures) ∙ ap (λ m. first_reason (tampers_cursors (plain (g.S.Sequence.seen c.args.s.now).object) ∷ None ∷ room_for_copies (plain (g.S.Sequence.seen c.args.s.now).object) m)) (to_z-of_z {w = w64} {z = c.args.n} c.ranges.n)))

pub returns-clause-changed : goal.returns-clause-changed
returns-clause-changed g c =
    let o = (g.S.Sequence.seen c.args.s.now).object in let q = g.S.Sequence.seen c.args.s.now in let k = g.S.Rows.Walked.seen c.rows.result.now in let r = c.rows.ensures in
    let at = (first_spot (guards_of q) q.object.limit q.object.capacity k q.object r.object r.sequence.sound c.first-first.result c.first-first.ensures.name).1 in
    copies_done o (g.S.Sequence.seen c.put.new.self).object c.first-first.result 0 c.count_of.result c.args.n c.args.e c.put.result c.done.result (sequences.prepend_call (plain o) c.args.e c.args.n).reason at (c.count_of.ensures ∙ ap count_of (to_z-of_z {w = w64} {z = c.args.n} c.ranges.n)) (sym ((passed _ _ c.in_ok-allowed.ensures c.refuses_copies.ensures) ∙ ap (λ m. first_reason (tampers_cursors (plain (g.S.Sequence.seen c.args.s.now).object) ∷ None ∷ room_for_copies (plain (g.S.Sequence.seen c.args.s.now).object) m)) (to_z-of_z {w = w64} {z = c.args.n} c.ranges.n))) c.put.ensures.changed c.done.ensures

pub returns-clause-slots : goal.returns-clause-slots
returns-clause-slots g c = done_slots c.put.result c.done.result (g.S.Sequence.seen c.args.s.now) (g.S.Sequence.seen c.put.new.self) c.done.ensures c.put.ensures.slots
