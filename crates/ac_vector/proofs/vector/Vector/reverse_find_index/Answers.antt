use Rattle.std.proofs.Common.{◌≡◌, ◌∷◌, [], Some, take, reverse, sym, ap, ◌∙◌, to_z-of_z, w64, rules, FitsSigned}
use Rattle.std.specs.Prelude.{min, position}
use Rattle.ac_base.specs.FirstReason.{first_reason}
use Rattle.ac_chain.specs.Rows.{slots_in}
use Rattle.ac_chain.proofs.SequenceRefills.{source_is}
use Rattle.ac_model.specs.Containers.{Container}
use Rattle.ac_model.specs.Letters.{count_of}
use Rattle.ac_model.specs.Objects.{contents, length_of, plain}
use Rattle.ac_model.specs.Vectors as vectors
use Rattle.ac_model.proofs.Reasons.{allowed_none}
use Rattle.ac_vector.proofs.vector.Vector.reverse_find_index.Goals as goal

pub returns : goal.returns
returns g c =
    let i = c.self.inside in let o = c.args.self.now.object in
    let fits : FitsSigned w64 c.index_before.result = search rules in
    let same = to_z-of_z {w = w64} {z = c.args.index} c.ranges.index in
    let is = source_is i.guards i.limit (Some (slots_in i.rows)) i.rows o (ap (λ (x : Container _). x.object) c.self.view_is) in
    let values = c.values.ensures.values ∙ sym is.0 in
    let last : c.min-last.result ≡ min (count_of c.args.index) (length_of (plain o)) =
    c.min-last.ensures ∙ (λ t. min ((c.count_of.ensures ∙ ap count_of same) t) ((c.len.ensures.count ∙ sym is.1) t)) in (
      ap (λ m. first_reason (m ∷ [])) (ap vectors.index_from_one (sym same) ∙ sym c.index_from_one.ensures ∙ allowed_none c.index_from_one.result c.in_ok-allowed.ensures),
      to_z-of_z {w = w64} {z = c.index_before.result} fits ∙ c.index_before.ensures
          ∙ ap (vectors.index_before c.min-last.result) (c.steps_back.ensures.found ∙ ap (λ vs. position (λ v. g.T.Elem.is_same v c.args.e.now) (reverse (take c.min-last.result vs))) values)
          ∙ ap (λ n. vectors.index_before n (position (λ v. g.T.Elem.is_same v c.args.e.now) (reverse (take n (contents (plain o)))))) last,
    )
