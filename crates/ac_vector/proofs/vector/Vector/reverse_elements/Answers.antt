use Rattle.std.proofs.Common.{◌≡◌, ◌∷◌, [], None, refl, sym, ap, subst, reverse}
use Rattle.ac_base.specs.Rows.{values}
use Rattle.ac_base.specs.FirstReason.{first_reason}
use Rattle.ac_model.specs.Objects.{Object, plain}
use Rattle.ac_model.specs.Letters.{tampers_elements}
use Rattle.ac_model.specs.Containers.{Container}
use Rattle.ac_vector.proofs.Orders.{reversed_after, over_sequence}
use Rattle.ac_model.proofs.Reasons.{passed}
use Rattle.ac_vector.proofs.vector.Vector.reverse_elements.Goals as goal

pub returns-clause-changed : goal.returns-clause-changed
returns-clause-changed g c =
    let i = c.self.inside in let view = ap (λ (x : Container _). x.object) c.self.view_is in (
      subst (λ (p : Object _ _). first_reason (tampers_elements (plain p) ∷ []) ≡ None) view (ap (λ q. first_reason (q ∷ [])) (sym (passed _ _ c.in_ok-allowed.ensures c.forbids.ensures))),
      reversed_after i.guards i.limit i.rows c.reverse_values.new.self c.args.self.now.object view c.reverse_values.ensures.reversed,
      refl,
    )

pub invariant_of-self : goal.invariant_of-self
invariant_of-self g c = let i = c.self.inside in over_sequence i.limit i.rows c.reverse_values.new.self (reverse (values i.rows.rows)) c.self.invariant c.reverse_values.ensures.reversed c.reverse_values.ensures.sound
