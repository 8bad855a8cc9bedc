use Rattle.std.proofs.Common.{◌≡◌, ◌∷◌, [], None, refl, sym, ap, subst}
use Rattle.ac_base.specs.FirstReason.{first_reason}
use Rattle.ac_model.specs.Objects.{Object, plain}
use Rattle.ac_model.specs.Letters.{tampers_cursors}
use Rattle.ac_model.specs.Containers.{Container}
use Rattle.ac_chain.proofs.SequenceLinks.{reversed_after}
use Rattle.ac_model.proofs.Reasons.{passed}
use Rattle.ac_list.proofs.list.List.reverse_elements.Goals as goal

pub returns-clause-changed : goal.returns-clause-changed
returns-clause-changed g c =
    let i = c.self.inside in let view = ap (λ (x : Container _). x.object) c.self.view_is in (
      subst (λ (p : Object _ _). first_reason (tampers_cursors (plain p) ∷ []) ≡ None) view (ap (λ q. first_reason (q ∷ [])) (sym (passed _ _ c.in_ok-allowed.ensures c.forbids.ensures))),
      reversed_after i.guards i.limit i.chain c.reverse.new.self c.args.self.now.object view c.reverse.ensures.reversed,
      refl,
    )
