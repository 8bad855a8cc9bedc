use Rattle.std.proofs.Common.{sym, ap, ◌∙◌, ◌++◌, append-nil}
use Rattle.ac_balance.specs.Trees.{node, in_order, before}
use Rattle.ac_balance.specs.Walking.{last_name}
use Rattle.ac_balance.proofs.Ends.{last_name-append}
use Rattle.ac_balance.proofs.Walks.{left_stood, left_none}
use Rattle.ac_balance.proofs.walk.predecessor.Goals as goal

pub rightmost-requires : goal.rightmost-requires
rightmost-requires g c = let n = c.requires in record { tree = n.left; stood = left_stood _ _ _ n.steps n.left n.row n.right n.placed (sym c.left.ensures ∙ c.in-Some.is) }

pub last_above-requires : goal.last_above-requires
last_above-requires g c = let n = c.requires in record { steps = n.steps; part = node n.left n.row n.right; placed = n.placed }

pub returns-in-Some : goal.returns-in-Some
returns-in-Some g c = λ steps l x r p.
    sym (last_name-append (before steps) (in_order l) _ (c.rightmost.ensures l (left_stood _ _ _ steps l x r p (sym c.left.ensures ∙ c.in-Some.is))))

pub returns-in-None : goal.returns-in-None
returns-in-None g c = λ steps l x r p.
    c.last_above.ensures steps (node l x r) p ∙ ap last_name (sym (append-nil (before steps))) ∙ ap (λ z. last_name (before steps ++ in_order z)) (sym (left_none _ _ steps l x r p (sym c.left.ensures ∙ c.in-None.is)))
