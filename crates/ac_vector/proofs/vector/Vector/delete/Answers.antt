use Rattle.std.proofs.Common.{◌∷◌, [], ◌<◌, Some, length, refl, sym, ap, ◌∙◌, subst, to_z-of_z, w64, arith}
use Rattle.ac_base.specs.FirstReason.{first_reason}
use Rattle.ac_chain.specs.Rows.{slots_in}
use Rattle.ac_model.specs.Letters.{tampers_cursors, in_range, count_of}
use Rattle.ac_model.specs.Objects.{plain}
use Rattle.ac_model.specs.Cursors.{needs_cursor}
use Rattle.ac_model.specs.Containers.{Container}
use Rattle.ac_chain.proofs.SequenceDeletes.{cut_at}
use Rattle.ac_model.proofs.Reasons.{passed}
use Rattle.ac_vector.proofs.Capacities.{kept}
use Rattle.ac_vector.proofs.vector.Vector.delete.Goals as goal

pub cut-requires : goal.cut-requires
cut-requires g c =
    let lt = subst (λ (x : Container _). c.place_at-place.result < length x.object.rows) (sym c.self.view_is) c.place_at-place.ensures.within in omega arith

pub returns-clause-changed : goal.returns-clause-changed
returns-clause-changed g c =
    let i = c.self.inside in let o = c.args.self.now.object in let view = ap (λ (x : Container _). x.object) c.self.view_is in
    let same = to_z-of_z {w = w64} {z = c.args.n} c.ranges.n in
    let cut = c.cut.ensures.cut in (
      (
        ap (λ n. first_reason (tampers_cursors (plain o) ∷ needs_cursor o c.args.q.now ∷ in_range n ∷ [])) (sym same) ∙ sym (passed _ _ c.in_ok-allowed.ensures c.refuses_deletion.ensures),
        kept i.guards i.limit i.rows c.cut.new.self o _ cut.slots
            (cut_at i.guards i.limit (Some (slots_in i.rows)) i.rows c.cut.new.self o view _ _ c.count_of.result (count_of c.args.n) c.place_at-place.ensures.place (c.count_of.ensures ∙ ap count_of same) cut),
        refl,
      ),
      tt,
    )
