use Rattle.std.proofs.Common.{subst, sym}
use Rattle.ac_model.specs.Containers.{Container}
use Rattle.ac_model.specs.Objects.{plain}
use Rattle.ac_calls.specs.Arguments.{marked}
use Rattle.ac_calls.specs.KeyedReplies.{of_ordered}
use Rattle.ac_calls.specs.Replied.{RepliedWith, told}
use Rattle.ac_calls.specs.Replies.{another, itself}
use Rattle.ac_calls.specs.SetReplies.{set_reply_by}
use Rattle.ac_calls.proofs.Operations.{replied_beside}
use Rattle.ac_keyed_calls.proofs.SetOperations.{no_source}
use Rattle.ac_keyed_calls.specs.SetCalls.{SetOperatedWith, SetPairRepliedWith}
use Rattle.ac_keyed_calls.proofs.set_operations.operate_ordered_with.Goals as goal

pub returns-in-SetPair : goal.returns-in-SetPair
returns-in-SetPair g c =
    let tools = g.I.Row.ScriptElement.tools in
    let order = g.I.Index.order in
    let args = c.args.args.now in
    let call = c.set_pair_call_with in
    let made = told call.new.reply call.result in
    subst (λ op. SetOperatedWith tools order of_ordered op args c.args.set.now c.args.source.now call.new.set c.args.source.now made) (sym c.in-SetPair.is)
    (subst (λ (x : Container g.row.I-Row.Denot). SetPairRepliedWith tools order c.in-SetPair.call x c.args.source.now call.new.set made) c.set.view_is
    (subst (λ (y : Container g.row.I-Row.Denot). SetPairRepliedWith tools order c.in-SetPair.call c.set.inside.table y call.new.set made) c.source.view_is call.ensures)
    (marked c.args.source.now.object args))

pub returns-in_default : goal.returns-in_default
returns-in_default g c =
    let old = c.args.set.now in
    let source = c.args.source.now in
    let now = c.operate_ordered.new.set in
    let made = told c.operate_ordered.new.reply c.operate_ordered.result in
    subst (λ r. RepliedWith r old source now source made)
    (no_source g.I.Row.ScriptElement.tools g.I.Index.order of_ordered c.args.operation (plain old.object)
    (another (plain source.object) (marked source.object c.args.args.now)) (marked old.object c.args.args.now) c.in_default.not-Common c.in_default.not-SetPair)
    (replied_beside
    (set_reply_by g.I.Row.ScriptElement.tools (plain old.object) itself (marked old.object c.args.args.now) g.I.Index.order of_ordered c.args.operation)
    old source now made c.operate_ordered.ensures)
