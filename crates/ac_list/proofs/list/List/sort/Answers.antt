use Rattle.std.proofs.Common.{◌≡◌, ◌∷◌, [], None, refl, sym, ap, ◌∙◌, subst}
use Rattle.ac_base.specs.FirstReason.{first_reason}
use Rattle.ac_chain.specs.Rows.{IsOrderOf}
use Rattle.ac_model.specs.Objects.{Object, plain}
use Rattle.ac_model.specs.Letters.{tampers_cursors}
use Rattle.ac_model.specs.Containers.{Container}
use Rattle.ac_chain.proofs.Sorts.{order_of}
use Rattle.ac_chain.proofs.SequenceSorts.{list_sorted, sorted_after}
use Rattle.ac_model.proofs.Reasons.{allowed_none}
use Rattle.ac_list.proofs.list.List.sort.Goals as goal

pub relink-requires : goal.relink-requires
relink-requires g c =
    let k = c.self.inside.chain in
    subst (λ order. IsOrderOf order k) (sym c.deref.ensures.value) (order_of g.T.Rank.is_less k c.self.invariant.sound c.in_ok-order.order.items c.in_ok-order.ensures)

pub invariant_of-self : goal.invariant_of-self
invariant_of-self g c =
    let i = c.self.inside in
    list_sorted g.T.Rank.is_less i.chain c.self.invariant.sound c.in_ok-order.order.items c.in_ok-order.ensures i.limit c.relink.new.self c.self.invariant c.relink.ensures.sound (c.relink.ensures.names ∙ c.deref.ensures.value) c.relink.ensures.same

pub returns-clause-changed : goal.returns-clause-changed
returns-clause-changed g c =
    let i = c.self.inside in let o = c.args.self.now.object in (
      subst (λ (p : Object _ _). first_reason (tampers_cursors (plain p) ∷ []) ≡ None) (ap (λ (x : Container _). x.object) c.self.view_is) (ap (λ q. first_reason (q ∷ [])) (sym c.forbids.ensures ∙ (allowed_none c.forbids.result c.in_ok-allowed.ensures))),
      sorted_after g.T.Rank.is_less i.guards i.limit i.chain c.relink.new.self o (ap (λ (x : Container _). x.object) c.self.view_is) c.self.invariant.sound c.in_ok-order.order.items c.in_ok-order.ensures
          c.relink.ensures.sound (c.relink.ensures.names ∙ c.deref.ensures.value) c.relink.ensures.same,
      refl,
    )
