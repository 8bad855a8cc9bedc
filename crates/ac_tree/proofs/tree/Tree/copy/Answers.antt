use Rattle.std.proofs.Common.{◌≤◌, Err, sym, ap, ◌∙◌, subst}
use Rattle.std.proofs.lemmas.Result.{err_from_is_err_and}
use Rattle.ac_base.specs.declared.limit.TheConstants.{GREATEST_LENGTH}
use Rattle.ac_model.specs.Common.{limit_of_copy}
use Rattle.ac_model.specs.Containers.{Container}
use Rattle.ac_model.proofs.Plains.{length-plains}
use Rattle.ac_model.proofs.Changes.{copy_wants, copy_slots}
use Rattle.ac_tree.proofs.tree.Tree.copy.Goals as goal

pub returns-in_err-assign-clause-made : goal.returns-in_err-assign-clause-made
returns-in_err-assign-clause-made g c =
    let o = c.args.self.now.object in
    let count = c.live_nodes-length.ensures.count ∙ sym (length-plains o.rows) in
    let limit = c.limit_of_copy.ensures ∙ ap (λ (x : Container _). limit_of_copy x.object.limit c.args.capacity c.live_nodes-length.result) c.self.view_is in
    let fault = err_from_is_err_and c.from_residual-in_err-assign.result c.from_residual-in_err-assign.ensures.1 in
    copy_wants o c.in_ok-made.made.object c.assign.new.self.object c.args.tag c.args.capacity c.live_nodes-length.result c.limit_of_copy.result c.assign.result c.in_err-assign.field-0.0
    c.from_residual-in_err-assign.result (subst (λ n. n ≤ GREATEST_LENGTH) count c.live_nodes-length.ensures.few) count
    (sym c.too_small.ensures ∙ c.in_default.is) limit c.in_ok-made.ensures.empty c.assign.ensures.changed c.in_err-assign.was (fault.1 ∙ ap Err fault.2)

pub returns-clause-slots : goal.returns-clause-slots
returns-clause-slots g c = λ unbounded.
    let limit = c.limit_of_copy.ensures ∙ ap (λ (x : Container _). limit_of_copy x.object.limit c.args.capacity c.live_nodes-length.result) c.self.view_is in
    copy_slots c.args.self.now.object c.in_ok-made.made c.assign.new.self c.args.tag c.args.capacity c.live_nodes-length.result c.limit_of_copy.result unbounded limit c.in_ok-made.ensures.empty c.in_ok-made.ensures.spare
    c.in_ok-assign.ensures.changed.1 c.in_ok-assign.ensures.slots
