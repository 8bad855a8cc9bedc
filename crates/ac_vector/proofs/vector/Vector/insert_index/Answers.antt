use Rattle.std.proofs.Common.{◌≡◌, ◌∷◌, ◌+◌, Some, sym, ap, ◌∙◌, subst, arith, to_z-of_z, w64}
use Rattle.ac_base.specs.FirstReason.{first_reason}
use Rattle.ac_pool.specs.NamedRows.{name_at}
use Rattle.ac_chain.specs.Rows.{slots_in}
use Rattle.ac_chain.proofs.SequenceRefills.{source_is}
use Rattle.ac_model.specs.Containers.{Container}
use Rattle.ac_model.specs.Letters.{count_of, index_in, place_of_index, tampers_cursors}
use Rattle.ac_model.specs.Objects.{length_of, plain}
use Rattle.ac_model.specs.Putting.{Takes}
use Rattle.ac_model.specs.Sequences.{room_for_copies}
use Rattle.ac_model.specs.Vectors as vectors
use Rattle.ac_model.proofs.Changes.{copies_done, done_slots, place_none, takes_from}
use Rattle.ac_model.proofs.Reasons.{passed}
use Rattle.ac_vector.proofs.ByIndex.{place_within}
use Rattle.ac_vector.proofs.Inserts.{index_spot}
use Rattle.ac_vector.proofs.vector.Vector.insert_index.Goals as goal

pub put-requires-clause-place : goal.put-requires-clause-place
put-requires-clause-place g c =
    let i = c.self.inside in let o = c.args.self.now.object in
    let one = to_z-of_z {w = w64} {z = c.args.index} c.ranges.index in let two = to_z-of_z {w = w64} {z = c.args.n} c.ranges.n in
    let is : c.index_in.result ≡ index_in c.args.index (length_of (plain o) + 1) = c.index_in.ensures ∙ (λ t. index_in (one t) ((c.len.ensures.count ∙ sym (source_is i.guards i.limit (Some (slots_in i.rows)) i.rows o (ap (λ (x : Container _). x.object) c.self.view_is)).1) t + 1)) in
    let none = passed _ _ c.in_ok-allowed.ensures c.refuses_copies.ensures ∙ (λ t. first_reason (tampers_cursors (plain o) ∷ is t ∷ room_for_copies (plain o) (two t))) in
    let lt = place_within c.args.index (length_of (plain o) + 1) (place_none o (index_in c.args.index (length_of (plain o) + 1)) c.args.n (sym none)) in
    (index_spot i.guards i.limit (Some (slots_in i.rows)) i.rows o (ap (λ (x : Container _). x.object) c.self.view_is) c.self.invariant.sound c.name_from.result (place_of_index c.args.index) (c.name_from.ensures ∙ ap (name_at o.rows) (c.place_of.ensures ∙ ap place_of_index one)) (omega arith)).0

pub put-requires-clause-room : goal.put-requires-clause-room
put-requires-clause-room g c =
    let i = c.self.inside in let o = c.args.self.now.object in
    let one = to_z-of_z {w = w64} {z = c.args.index} c.ranges.index in let two = to_z-of_z {w = w64} {z = c.args.n} c.ranges.n in
    let is : c.index_in.result ≡ index_in c.args.index (length_of (plain o) + 1) = c.index_in.ensures ∙ (λ t. index_in (one t) ((c.len.ensures.count ∙ sym (source_is i.guards i.limit (Some (slots_in i.rows)) i.rows o (ap (λ (x : Container _). x.object) c.self.view_is)).1) t + 1)) in
    let none = passed _ _ c.in_ok-allowed.ensures c.refuses_copies.ensures ∙ (λ t. first_reason (tampers_cursors (plain o) ∷ is t ∷ room_for_copies (plain o) (two t))) in
    subst (λ m. Takes o m) (sym (c.count_of.ensures ∙ ap count_of two)) (takes_from o (index_in c.args.index (length_of (plain o) + 1)) c.args.n none)

pub returns-clause-changed : goal.returns-clause-changed
returns-clause-changed g c =
    let i = c.self.inside in let o = c.args.self.now.object in
    let one = to_z-of_z {w = w64} {z = c.args.index} c.ranges.index in let two = to_z-of_z {w = w64} {z = c.args.n} c.ranges.n in
    let is : c.index_in.result ≡ index_in c.args.index (length_of (plain o) + 1) = c.index_in.ensures ∙ (λ t. index_in (one t) ((c.len.ensures.count ∙ sym (source_is i.guards i.limit (Some (slots_in i.rows)) i.rows o (ap (λ (x : Container _). x.object) c.self.view_is)).1) t + 1)) in
    let none = passed _ _ c.in_ok-allowed.ensures c.refuses_copies.ensures ∙ (λ t. first_reason (tampers_cursors (plain o) ∷ is t ∷ room_for_copies (plain o) (two t))) in
    let lt = place_within c.args.index (length_of (plain o) + 1) (place_none o (index_in c.args.index (length_of (plain o) + 1)) c.args.n (sym none)) in
    let at = (index_spot i.guards i.limit (Some (slots_in i.rows)) i.rows o (ap (λ (x : Container _). x.object) c.self.view_is) c.self.invariant.sound c.name_from.result (place_of_index c.args.index) (c.name_from.ensures ∙ ap (name_at o.rows) (c.place_of.ensures ∙ ap place_of_index one)) (omega arith)).1 in
    copies_done o c.put.new.self.object c.name_from.result (place_of_index c.args.index) c.count_of.result c.args.n c.args.e c.put.result c.done.result (vectors.insert_index_call (plain o) c.args.index c.args.e c.args.n).reason at
    (c.count_of.ensures ∙ ap count_of two) (sym none) c.put.ensures.changed c.done.ensures

pub returns-clause-slots : goal.returns-clause-slots
returns-clause-slots g c = done_slots c.put.result c.done.result c.args.self.now c.put.new.self c.done.ensures c.put.ensures.slots
