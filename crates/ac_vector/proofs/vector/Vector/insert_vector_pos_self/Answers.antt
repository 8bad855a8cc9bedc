use Rattle.std.proofs.Common.{Some, sym, ap, ◌∙◌, subst}
use Rattle.std.proofs.lemmas.List.{length-map}
use Rattle.std.specs.Option.{ForSome}
use Rattle.ac_chain.specs.Rows.{slots_in}
use Rattle.ac_chain.proofs.SequenceGrows.{insert_spot}
use Rattle.ac_chain.proofs.SequenceRefills.{source_is}
use Rattle.ac_model.specs.Containers.{Container}
use Rattle.ac_model.specs.Cursors.{IsNamed, spot}
use Rattle.ac_model.specs.Objects.{plain, plain_row}
use Rattle.ac_model.proofs.Changes.{done_slots}
use Rattle.ac_vector.proofs.Inserts.{source_sets}
use Rattle.ac_vector.proofs.vector.Vector.insert_vector_pos_self.Goals as goal

pub insert_itself-requires : goal.insert_itself-requires
insert_itself-requires g c = λ none.
    let i = c.self.inside in let o = c.args.self.now.object in
    subst (λ p. ForSome p (IsNamed o)) (sym c.place_in.ensures) (insert_spot i.guards i.limit (Some (slots_in i.rows)) i.rows o (ap (λ (x : Container _). x.object) c.self.view_is) c.self.invariant.sound c.args.b (sym c.may.ensures ∙ none)).0

pub returns-clause-changed : goal.returns-clause-changed
returns-clause-changed g c =
    let i = c.self.inside in let o = c.args.self.now.object in
    source_sets o c.insert_itself.new.self.object (plain o) c.place_in.result c.args.b c.args.p.now c.len-count.result (c.len-count.ensures.count ∙ sym (source_is i.guards i.limit (Some (slots_in i.rows)) i.rows o (ap (λ (x : Container _). x.object) c.self.view_is)).1)
    (λ none. ap (spot o) c.place_in.ensures ∙ (insert_spot i.guards i.limit (Some (slots_in i.rows)) i.rows o (ap (λ (x : Container _). x.object) c.self.view_is) c.self.invariant.sound c.args.b none).1)
    (λ e. ap (λ (x : Container _). x.object) (c.insert_itself.ensures.none (sym (length-map o.rows plain_row) ∙ e)))
    c.may.result c.insert_itself.result c.set_first.result c.set_first.new.p c.may.ensures c.set_first.ensures.answer c.set_first.ensures.variable c.insert_itself.ensures.changed

pub returns-clause-slots : goal.returns-clause-slots
returns-clause-slots g c = done_slots c.insert_itself.result c.set_first.result c.args.self.now c.insert_itself.new.self c.set_first.ensures.answer c.insert_itself.ensures.slots
