use Rattle.std.proofs.Common.{sym, ap, ◌∙◌, ◌++◌}
use Rattle.ac_balance.specs.Trees.{node, in_order, after}
use Rattle.ac_balance.specs.Walking.{first_name}
use Rattle.ac_balance.proofs.Ends.{first_name-append}
use Rattle.ac_balance.proofs.Walks.{right_stood, right_none}
use Rattle.ac_balance.proofs.walk.successor.Goals as goal

pub leftmost-requires : goal.leftmost-requires
leftmost-requires g c = let n = c.requires in record { tree = n.right; stood = right_stood _ _ _ n.steps n.left n.row n.right n.placed (sym c.right.ensures ∙ c.in-Some.is) }

pub first_above-requires : goal.first_above-requires
first_above-requires g c = let n = c.requires in record { steps = n.steps; part = node n.left n.row n.right; placed = n.placed }

pub returns-in-Some : goal.returns-in-Some
returns-in-Some g c = λ steps l x r p.
    sym (first_name-append (in_order r) (after steps) _ (c.leftmost.ensures r (right_stood _ _ _ steps l x r p (sym c.right.ensures ∙ c.in-Some.is))))

pub returns-in-None : goal.returns-in-None
returns-in-None g c = λ steps l x r p.
    c.first_above.ensures steps (node l x r) p ∙ ap (λ z. first_name (in_order z ++ after steps)) (sym (right_none _ _ steps l x r p (sym c.right.ensures ∙ c.in-None.is)))
