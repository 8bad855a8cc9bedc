use Rattle.std.proofs.Common.{◌∷◌, [], Some, refl, sym, ap, ◌∙◌, to_z-of_z, w64, ◌-◌}
use Rattle.ac_base.specs.FirstReason.{first_reason}
use Rattle.ac_chain.specs.Rows.{slots_in}
use Rattle.ac_model.specs.Letters.{tampers_cursors, in_range, count_of}
use Rattle.ac_model.specs.Objects.{plain}
use Rattle.ac_model.specs.Containers.{Container}
use Rattle.ac_chain.proofs.SequenceDeletes.{last_place, cut_at}
use Rattle.ac_model.proofs.Reasons.{passed}
use Rattle.ac_vector.proofs.Capacities.{kept}
use Rattle.ac_vector.proofs.vector.Vector.delete_last.Goals as goal

pub returns-clause-changed : goal.returns-clause-changed
returns-clause-changed g c =
    let i = c.self.inside in let o = c.args.self.now.object in let view = ap (λ (x : Container _). x.object) c.self.view_is in
    let same = to_z-of_z {w = w64} {z = c.args.n} c.ranges.n in
    let count = c.count_of-count.ensures ∙ ap count_of same in
    let cut = c.cut.ensures.cut in (
      ap (λ n. first_reason (tampers_cursors (plain o) ∷ in_range n ∷ [])) (sym same) ∙ sym (passed _ _ c.in_ok-allowed.ensures c.refuses_count.ensures),
      kept i.guards i.limit i.rows c.cut.new.self o _ cut.slots
          (cut_at i.guards i.limit (Some (slots_in i.rows)) i.rows c.cut.new.self o view _ _ c.count_of-count.result (count_of c.args.n)
          (c.saturating_sub.ensures ∙ ap (λ m. m - c.count_of-count.result) c.len.ensures.count ∙ last_place i.guards i.limit (Some (slots_in i.rows)) i.rows o view c.count_of-count.result (count_of c.args.n) count) count cut),
      refl,
    )
