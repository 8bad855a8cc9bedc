use Rattle.std.proofs.Common.{◌∷◌, [], Some, refl, sym, ap, ◌∙◌, to_z-of_z, w64}
use Rattle.ac_base.specs.FirstReason.{first_reason}
use Rattle.ac_chain.specs.Rows.{slots_in}
use Rattle.ac_model.specs.Letters.{tampers_cursors, in_range, count_of}
use Rattle.ac_model.specs.Objects.{plain}
use Rattle.ac_model.specs.Containers.{Container}
use Rattle.ac_chain.proofs.SequenceDeletes.{cut_at}
use Rattle.ac_model.proofs.Reasons.{passed}
use Rattle.ac_vector.proofs.Capacities.{kept}
use Rattle.ac_vector.proofs.vector.Vector.delete_first.Goals as goal

pub returns-clause-changed : goal.returns-clause-changed
returns-clause-changed g c =
    let i = c.self.inside in let o = c.args.self.now.object in
    let same = to_z-of_z {w = w64} {z = c.args.n} c.ranges.n in
    let cut = c.cut.ensures.cut in (
      ap (λ n. first_reason (tampers_cursors (plain o) ∷ in_range n ∷ [])) (sym same) ∙ sym (passed _ _ c.in_ok-allowed.ensures c.refuses_count.ensures),
      kept i.guards i.limit i.rows c.cut.new.self o _ cut.slots
          (cut_at i.guards i.limit (Some (slots_in i.rows)) i.rows c.cut.new.self o (ap (λ (x : Container _). x.object) c.self.view_is) 0 0 c.count_of.result (count_of c.args.n) refl (c.count_of.ensures ∙ ap count_of same) cut),
      refl,
    )
