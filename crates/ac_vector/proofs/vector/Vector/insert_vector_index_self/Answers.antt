use Rattle.std.proofs.Common.{◌≡◌, ◌+◌, Some, sym, ap, ◌∙◌, subst, arith, to_z-of_z, w64}
use Rattle.ac_pool.specs.NamedRows.{name_at}
use Rattle.ac_chain.specs.Rows.{slots_in}
use Rattle.ac_chain.proofs.SequenceRefills.{source_is}
use Rattle.ac_model.specs.Calls.{Changing, Marks}
use Rattle.ac_model.specs.Containers.{Container}
use Rattle.ac_model.specs.Letters.{index_in, place_of_index}
use Rattle.ac_model.specs.Objects.{length_of, plain}
use Rattle.ac_model.proofs.Changes.{done_slots}
use Rattle.ac_vector.specs.Parts.{source_call}
use Rattle.ac_vector.proofs.ByIndex.{place_within}
use Rattle.ac_vector.proofs.Inserts.{index_spot, source_done}
use Rattle.ac_vector.proofs.vector.Vector.insert_vector_index_self.Goals as goal

pub insert_itself-requires : goal.insert_itself-requires
insert_itself-requires g c = λ none.
    let i = c.self.inside in let o = c.args.self.now.object in
    let same = to_z-of_z {w = w64} {z = c.args.index} c.ranges.index in
    let is : c.index_in-found.result ≡ index_in c.args.index (length_of (plain o) + 1) = c.index_in-found.ensures ∙ (λ t. index_in (same t) ((c.len.ensures.count ∙ sym (source_is i.guards i.limit (Some (slots_in i.rows)) i.rows o (ap (λ (x : Container _). x.object) c.self.view_is)).1) t + 1)) in
    let lt = place_within c.args.index (length_of (plain o) + 1) (sym is ∙ none) in
    (index_spot i.guards i.limit (Some (slots_in i.rows)) i.rows o (ap (λ (x : Container _). x.object) c.self.view_is) c.self.invariant.sound c.name_from-place.result (place_of_index c.args.index) (c.name_from-place.ensures ∙ ap (name_at o.rows) (c.place_of.ensures ∙ ap place_of_index same)) (omega arith)).0

pub returns-clause-changed : goal.returns-clause-changed
returns-clause-changed g c =
    let i = c.self.inside in let o = c.args.self.now.object in
    let same = to_z-of_z {w = w64} {z = c.args.index} c.ranges.index in
    let is : c.index_in-found.result ≡ index_in c.args.index (length_of (plain o) + 1) = c.index_in-found.ensures ∙ (λ t. index_in (same t) ((c.len.ensures.count ∙ sym (source_is i.guards i.limit (Some (slots_in i.rows)) i.rows o (ap (λ (x : Container _). x.object) c.self.view_is)).1) t + 1)) in
    source_done o c.insert_itself.new.self.object (plain o) (index_in c.args.index (length_of (plain o) + 1)) c.name_from-place.result (place_of_index c.args.index) c.insert_itself.result c.done.result
    (λ none. let lt = place_within c.args.index (length_of (plain o) + 1) none in
    (index_spot i.guards i.limit (Some (slots_in i.rows)) i.rows o (ap (λ (x : Container _). x.object) c.self.view_is) c.self.invariant.sound c.name_from-place.result (place_of_index c.args.index) (c.name_from-place.ensures ∙ ap (name_at o.rows) (c.place_of.ensures ∙ ap place_of_index same)) (omega arith)).1)
    (subst (λ f. Changing (Marks c.insert_itself.new.self.object) (source_call o f c.name_from-place.result (plain o)) o c.insert_itself.new.self.object c.insert_itself.result) is c.insert_itself.ensures.changed) c.done.ensures

pub returns-clause-slots : goal.returns-clause-slots
returns-clause-slots g c = done_slots c.insert_itself.result c.done.result c.args.self.now c.insert_itself.new.self c.done.ensures c.insert_itself.ensures.slots
