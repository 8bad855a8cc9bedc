use Rattle.std.proofs.Common.{◌∷◌, [], ◌+◌, Some, refl, sym, ap, ◌∙◌, to_z-of_z, w64}
use Rattle.ac_base.specs.FirstReason.{first_reason}
use Rattle.ac_chain.specs.Rows.{slots_in}
use Rattle.ac_model.specs.Letters.{tampers_cursors, in_range, index_in, count_of, place_of_index}
use Rattle.ac_model.specs.Objects.{length_of, plain}
use Rattle.ac_model.specs.Containers.{Container}
use Rattle.ac_chain.proofs.SequenceDeletes.{cut_at}
use Rattle.ac_model.proofs.Reasons.{passed}
use Rattle.ac_vector.proofs.Capacities.{kept}
use Rattle.ac_vector.proofs.vector.Vector.delete_index.Goals as goal

pub returns-clause-changed : goal.returns-clause-changed
returns-clause-changed g c =
    let i = c.self.inside in let o = c.args.self.now.object in
    let one = to_z-of_z {w = w64} {z = c.args.index} c.ranges.index in let two = to_z-of_z {w = w64} {z = c.args.n} c.ranges.n in
    let cut = c.cut.ensures.cut in (
      (λ t. first_reason (tampers_cursors (plain o) ∷ index_in (sym one t) (length_of (plain o) + 1) ∷ in_range (sym two t) ∷ [])) ∙ sym (passed _ _ c.in_ok-allowed.ensures c.refuses_delete_index.ensures),
      kept i.guards i.limit i.rows c.cut.new.self o _ cut.slots
          (cut_at i.guards i.limit (Some (slots_in i.rows)) i.rows c.cut.new.self o (ap (λ (x : Container _). x.object) c.self.view_is) c.place_of.result (place_of_index c.args.index) c.count_of.result (count_of c.args.n)
          (c.place_of.ensures ∙ ap place_of_index one) (c.count_of.ensures ∙ ap count_of two) cut),
      refl,
    )
