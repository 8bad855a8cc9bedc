use Rattle.std.proofs.Common.{true≢false, is_none, sym, ap, ◌∙◌}
use Rattle.ac_tree.proofs.Judging.{none_is}
use Rattle.ac_tree.proofs.ReparentedLinks.{children_moved, none_moved, none_first}
use Rattle.ac_tree.proofs.reparenting.move_children.Goals as goal

pub returns-then-is_none : goal.returns-then-is_none
returns-then-is_none g c = λ steps to below t s up none same pe be.
    none_moved c.args.links.now steps to below t s none same c.args.from c.first_child-first.result up c.first_child-first.ensures (none_first c.first_child-first.result (sym (none_is c.first_child-first.result c.is_none.result c.is_none.ensures) ∙ c.if-is_none.true))

pub returns : goal.returns
returns g c = λ steps to below t s up none same pe be.
    children_moved c.args.links.now steps to below t s none same c.args.from c.args.parent c.args.before c.first_child-first.result c.last_child-last.result c.set_parents.new.links c.close.new.self c.join.new.self up pe be c.first_child-first.ensures
    (λ e. true≢false (sym (ap is_none e) ∙ sym (none_is c.first_child-first.result c.is_none.result c.is_none.ensures) ∙ c.if-is_none.false)) c.last_child-last.ensures (c.set_parents.ensures steps below s up none) c.close.ensures c.join.ensures
