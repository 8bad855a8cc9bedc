use Rattle.std.proofs.Common.{◌∷◌, sym, ap, ◌∙◌, subst, to_z-of_z, w64}
use Rattle.ac_base.specs.FirstReason.{first_reason}
use Rattle.ac_model.specs.Objects.{plain}
use Rattle.ac_model.specs.Letters.{count_of, tampers_cursors}
use Rattle.ac_model.specs.Sequences.{room_for_copies}
use Rattle.ac_model.specs.Putting.{Takes}
use Rattle.ac_model.proofs.Changes.{place_none}
use Rattle.ac_model.proofs.Changes.{takes_from}
use Rattle.ac_model.proofs.Reasons.{passed}
use Rattle.ac_chain.proofs.calls.putting.insert_pos.Goals as goal

pub place_before-place-requires : goal.place_before-place-requires
place_before-place-requires g c = sym c.may.ensures ∙ place_none (g.S.Sequence.seen c.args.s.now).object c.may.result c.args.n (sym ((passed _ _ c.in_ok-allowed.ensures c.refuses_copies.ensures) ∙ ap (λ m. first_reason (tampers_cursors (plain (g.S.Sequence.seen c.args.s.now).object) ∷ c.may.result ∷ room_for_copies (plain (g.S.Sequence.seen c.args.s.now).object) m)) (to_z-of_z {w = w64} {z = c.args.n} c.ranges.n)))

pub put-requires-clause-room : goal.put-requires-clause-room
put-requires-clause-room g c = let o = (g.S.Sequence.seen c.args.s.now).object in subst (λ m. Takes o m) (sym (c.count_of-count.ensures ∙ ap count_of (to_z-of_z {w = w64} {z = c.args.n} c.ranges.n))) (takes_from o c.may.result c.args.n ((passed _ _ c.in_ok-allowed.ensures c.refuses_copies.ensures) ∙ ap (λ m. first_reason (tampers_cursors (plain (g.S.Sequence.seen c.args.s.now).object) ∷ c.may.result ∷ room_for_copies (plain (g.S.Sequence.seen c.args.s.now).object) m)) (to_z-of_z {w = w64} {z = c.args.n} c.ranges.n)))
