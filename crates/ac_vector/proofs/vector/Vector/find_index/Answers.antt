use Rattle.std.proofs.Common.{◌∷◌, [], Some, drop, sym, ap, ◌∙◌, to_z-of_z, w64, rules, FitsSigned}
use Rattle.std.specs.Prelude.{position}
use Rattle.ac_base.specs.FirstReason.{first_reason}
use Rattle.ac_chain.specs.Rows.{slots_in}
use Rattle.ac_chain.proofs.SequenceRefills.{source_is}
use Rattle.ac_model.specs.Containers.{Container}
use Rattle.ac_model.specs.Letters.{place_of_index}
use Rattle.ac_model.specs.Objects.{contents, plain}
use Rattle.ac_model.specs.Vectors as vectors
use Rattle.ac_model.proofs.Reasons.{allowed_none}
use Rattle.ac_vector.proofs.vector.Vector.find_index.Goals as goal

pub returns : goal.returns
returns g c =
    let i = c.self.inside in let o = c.args.self.now.object in
    let fits : FitsSigned w64 c.index_after.result = search rules in
    let same = to_z-of_z {w = w64} {z = c.args.index} c.ranges.index in
    let values = c.values.ensures.values ∙ sym (source_is i.guards i.limit (Some (slots_in i.rows)) i.rows o (ap (λ (x : Container _). x.object) c.self.view_is)).0 in (
      ap (λ m. first_reason (m ∷ [])) (ap vectors.index_from_one (sym same) ∙ sym c.index_from_one.ensures ∙ allowed_none c.index_from_one.result c.in_ok-allowed.ensures),
      to_z-of_z {w = w64} {z = c.index_after.result} fits ∙ c.index_after.ensures
          ∙ ap (vectors.index_after c.place_of-place.result) (c.steps_to.ensures.found ∙ ap (λ vs. position (λ v. g.T.Elem.is_same v c.args.e.now) vs) c.split_at.ensures.back ∙ ap (λ vs. position (λ v. g.T.Elem.is_same v c.args.e.now) (drop c.place_of-place.result vs)) values)
          ∙ ap (λ p. vectors.index_after p (position (λ v. g.T.Elem.is_same v c.args.e.now) (drop p (contents (plain o))))) (c.place_of-place.ensures ∙ ap place_of_index same),
    )
