use Rattle.std.proofs.Common.{[], ◌∷◌, sym}
use Rattle.ac_base.proofs.FirstReason.{none_found}
use Rattle.ac_model.proofs.Reasons.{passed}
use Rattle.ac_model.specs.Letters.{tampers_elements}
use Rattle.ac_model.specs.Objects.{plain}
use Rattle.ac_model.specs.Trees.{needs_element}
use Rattle.ac_chain.specs.TreeCursors.{seen_by}
use Rattle.ac_tree.proofs.tree.Tree.swap.Goals as goal

pub exchange-requires-clause-first : goal.exchange-requires-clause-first
exchange-requires-clause-first g c =
    let o = plain c.args.self.now.object in let p = seen_by c.args.self.now c.args.first in let q = seen_by c.args.self.now c.args.second in
    (none_found (tampers_elements o ∷ needs_element o p ∷ needs_element o q ∷ []) (sym (passed _ _ c.in_ok-allowed.ensures c.refuses_swap.ensures))).1.0

pub exchange-requires-clause-second : goal.exchange-requires-clause-second
exchange-requires-clause-second g c =
    let o = plain c.args.self.now.object in let p = seen_by c.args.self.now c.args.first in let q = seen_by c.args.self.now c.args.second in
    (none_found (tampers_elements o ∷ needs_element o p ∷ needs_element o q ∷ []) (sym (passed _ _ c.in_ok-allowed.ensures c.refuses_swap.ensures))).1.1.0
