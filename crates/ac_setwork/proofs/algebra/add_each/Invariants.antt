use Rattle.ac_setwork.proofs.Adds.{Adding}
use Rattle.ac_setwork.proofs.algebra.add_each.Given as goal

abbrev pub invariant-loop-item : goal.invariant-loop-item
invariant-loop-item g l = Adding g.A.SetLike.order l.fn.items.items (g.A.SetLike.seen l.fn.target) (g.A.SetLike.seen l.target) l.item-iterator.rest.items
