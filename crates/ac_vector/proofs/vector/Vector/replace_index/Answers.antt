use Rattle.std.proofs.Common.{◌∷◌, [], refl, sym, ap, ◌∙◌, subst, to_z-of_z, w64}
use Rattle.ac_base.proofs.FirstReason.{none_found}
use Rattle.ac_base.specs.FirstReason.{first_reason}
use Rattle.ac_model.specs.Calls.{IsAfter}
use Rattle.ac_model.specs.Letters.{index_in, tampers_elements}
use Rattle.ac_model.specs.Objects.{length_of, plain, with_rows}
use Rattle.ac_model.specs.Rows.{with_value}
use Rattle.ac_model.specs.Vectors.{name_in}
use Rattle.ac_model.proofs.Reasons.{passed}
use Rattle.ac_vector.proofs.vector.Vector.replace_index.Goals as goal

pub set_index-requires : goal.set_index-requires
set_index-requires g c =
    let o = c.args.self.now.object in let same = to_z-of_z {w = w64} {z = c.args.index} c.ranges.index in
    let reason = ap (λ z. first_reason (tampers_elements (plain o) ∷ index_in z (length_of (plain o)) ∷ [])) (sym same) ∙ sym (passed _ _ c.in_ok-allowed.ensures c.refuses_replace_index.ensures) in
    ap (λ z. index_in z (length_of (plain o))) same ∙ (none_found (tampers_elements (plain o) ∷ index_in c.args.index (length_of (plain o)) ∷ []) reason).1.0

pub returns-clause-changed : goal.returns-clause-changed
returns-clause-changed g c =
    let o = c.args.self.now.object in let same = to_z-of_z {w = w64} {z = c.args.index} c.ranges.index in
    let reason = ap (λ z. first_reason (tampers_elements (plain o) ∷ index_in z (length_of (plain o)) ∷ [])) (sym same) ∙ sym (passed _ _ c.in_ok-allowed.ensures c.refuses_replace_index.ensures) in (
      reason,
      subst (λ z. IsAfter o c.set_index.new.self.object (with_rows (plain o) (with_value (plain o).rows (name_in (plain o) z) c.args.e))) same c.set_index.ensures.written,
      refl,
    )
