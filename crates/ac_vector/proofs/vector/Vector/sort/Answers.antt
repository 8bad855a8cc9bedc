use Rattle.std.proofs.Common.{◌≡◌, ◌∷◌, [], None, Some, sym, ap, ◌∙◌, subst}
use Rattle.ac_base.specs.FirstReason.{first_reason}
use Rattle.ac_chain.specs.Rows.{slots_in}
use Rattle.ac_chain.specs.Sequence.{object_of}
use Rattle.ac_model.specs.Objects.{Object, plain}
use Rattle.ac_model.specs.Letters.{tampers_cursors}
use Rattle.ac_model.specs.Calls.{Changing, Same}
use Rattle.ac_model.specs.Vectors as vectors
use Rattle.ac_model.specs.Containers.{Container}
use Rattle.ac_model.proofs.Reasons.{allowed_none}
use Rattle.ac_vector.proofs.Orders.{sort_sequence, sort_changes, sort_spare}
use Rattle.ac_vector.proofs.vector.Vector.sort.Goals as goal

pub invariant_of-self : goal.invariant_of-self
invariant_of-self g c =
    let i = c.self.inside in let s = c.sort_values in sort_sequence g.T.Rank.is_less i.limit i.rows s.new.self s.result c.self.invariant s.ensures.ok s.ensures.err s.ensures.sound

pub returns-clause-changed : goal.returns-clause-changed
returns-clause-changed g c =
    let i = c.self.inside in let o = c.args.self.now.object in let view = ap (λ (x : Container _). x.object) c.self.view_is in let s = c.sort_values in
    subst (λ r. Changing Same (vectors.sort_call g.T.Rank.is_less (plain o)) o (object_of i.guards i.limit (Some (slots_in s.new.self)) s.new.self) r) (sym c.as_fault.ensures)
    (sort_changes i.guards i.limit i.rows s.new.self o view g.T.Rank.is_less s.result
    (subst (λ (p : Object _ _). first_reason (tampers_cursors (plain p) ∷ []) ≡ None) view (ap (λ q. first_reason (q ∷ [])) (sym c.forbids.ensures ∙ (allowed_none c.forbids.result c.in_ok-allowed.ensures))))
    s.ensures.ok s.ensures.err)

pub returns-clause-spare : goal.returns-clause-spare
returns-clause-spare g c =
    let i = c.self.inside in let s = c.sort_values in sort_spare g.T.Rank.is_less i.rows s.new.self s.result s.ensures.ok s.ensures.err ∙ ap (λ (x : Container _). x.spare) c.self.view_is
