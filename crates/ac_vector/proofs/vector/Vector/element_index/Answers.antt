use Rattle.std.proofs.Common.{◌∷◌, [], Some, sym, ap, ◌∙◌, to_z-of_z, w64}
use Rattle.std.specs.Prelude.{slice_get}
use Rattle.ac_base.specs.FirstReason.{first_reason}
use Rattle.ac_chain.specs.Rows.{slots_in}
use Rattle.ac_model.specs.Letters.{place_of_index}
use Rattle.ac_model.specs.Containers.{Container}
use Rattle.ac_chain.proofs.SequenceRefills.{source_is}
use Rattle.ac_model.proofs.Reasons.{allowed_none}
use Rattle.ac_vector.proofs.CursorPlaces.{indexed}
use Rattle.ac_vector.proofs.vector.Vector.element_index.Goals as goal

pub returns : goal.returns
returns g c =
    let i = c.self.inside in let o = c.args.self.now.object in let view = ap (λ (x : Container _). x.object) c.self.view_is in
    let same = to_z-of_z {w = w64} {z = c.args.index} c.ranges.index in
    let none = sym (indexed i.guards i.limit (Some (slots_in i.rows)) i.rows o view _ c.args.index c.len.result c.index_in.result same c.len.ensures.count c.index_in.ensures) ∙ allowed_none c.index_in.result c.in_ok-allowed.ensures in (
      ap (λ m. first_reason (m ∷ [])) none,
      (λ t. slice_get ((source_is i.guards i.limit (Some (slots_in i.rows)) i.rows o view).0 t) ((sym (c.place_of.ensures ∙ ap place_of_index same)) t)) ∙ sym c.value_at.ensures.value,
    )
