use Rattle.std.proofs.Common.{◌∷◌, ◌+◌, length, Some, refl, sym, ap, ◌∙◌}
use Rattle.std.proofs.lemmas.List.{length-map}
use Rattle.ac_base.specs.declared.name.Name.{Name}
use Rattle.ac_base.specs.FirstReason.{first_reason}
use Rattle.ac_base.specs.Rows.{Row}
use Rattle.ac_chain.specs.Rows.{slots_in}
use Rattle.ac_chain.proofs.SequenceRefills.{source_is}
use Rattle.ac_model.specs.Containers.{Container}
use Rattle.ac_model.specs.Letters.{room, tampers_cursors}
use Rattle.ac_model.specs.Objects.{length_of, plain}
use Rattle.ac_model.proofs.Reasons.{none_first, none_others, passed}
use Rattle.ac_vector.proofs.Inserts.{source_put, takes_source}
use Rattle.ac_vector.proofs.vector.Vector.insert_source.Goals as goal

pub put_source-requires-clause-place : goal.put_source-requires-clause-place
put_source-requires-clause-place g c =
    let o = c.args.self.now.object in let more = c.len.result in
    let all = room (plain o) (length_of (plain o) + more) more in
    c.requires (none_first c.args.found all (none_others (tampers_cursors (plain o)) (c.args.found ∷ all) (sym (passed _ _ c.in_ok-allowed.ensures c.refuses_source.ensures))))

pub put_source-requires-clause-room : goal.put_source-requires-clause-room
put_source-requires-clause-room g c =
    let j = c.source.inside in
    let count = c.len.ensures.count ∙ sym (length-map j.rows.rows (λ (r : Row Name _). r.value)) ∙ ap length (sym (c.in-Ok.ensures ∙ c.values.ensures.values)) in
    takes_source c.args.self.now.object c.args.found c.len.result (length c.in-Ok.copies.items) count (passed _ _ c.in_ok-allowed.ensures c.refuses_source.ensures)

pub returns-in-Ok-clause-changed : goal.returns-in-Ok-clause-changed
returns-in-Ok-clause-changed g c =
    let j = c.source.inside in let o = c.args.self.now.object in let from = plain c.args.source.now.object in
    let is = source_is j.guards j.limit (Some (slots_in j.rows)) j.rows c.args.source.now.object (ap (λ (x : Container _). x.object) c.source.view_is) in
    let none = ap (λ n. first_reason (tampers_cursors (plain o) ∷ c.args.found ∷ room (plain o) (length_of (plain o) + n) n)) (is.1 ∙ sym c.len.ensures.count) ∙ sym (passed _ _ c.in_ok-allowed.ensures c.refuses_source.ensures) in
    source_put o c.put_source.new.self.object from c.args.found c.args.place c.in-Ok.copies.items c.put_source.result (c.in-Ok.ensures ∙ c.values.ensures.values ∙ sym is.0) none c.put_source.ensures.changed

pub returns-in-Ok-clause-none : goal.returns-in-Ok-clause-none
returns-in-Ok-clause-none g c = λ e.
    let j = c.source.inside in
    c.put_source.ensures.none (ap length (c.in-Ok.ensures ∙ c.values.ensures.values) ∙ length-map j.rows.rows (λ (r : Row Name _). r.value) ∙ ap (λ (x : Container _). length x.object.rows) c.source.view_is ∙ e)

pub returns-in-Err-clause-changed : goal.returns-in-Err-clause-changed
returns-in-Err-clause-changed g c =
    let j = c.source.inside in let o = c.args.self.now.object in
    let is = source_is j.guards j.limit (Some (slots_in j.rows)) j.rows c.args.source.now.object (ap (λ (x : Container _). x.object) c.source.view_is) in
    let none = ap (λ n. first_reason (tampers_cursors (plain o) ∷ c.args.found ∷ room (plain o) (length_of (plain o) + n) n)) (is.1 ∙ sym c.len.ensures.count) ∙ sym (passed _ _ c.in_ok-allowed.ensures c.refuses_source.ensures) in
    (refl, none, refl)
