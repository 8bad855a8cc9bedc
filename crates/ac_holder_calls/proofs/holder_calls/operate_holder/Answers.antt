use Rattle.std.proofs.Common.{subst, sym}
use Rattle.ac_calls.specs.HolderReplies.{holder_alone_reply, holder_reply}
use Rattle.ac_calls.specs.Replies.{without}
use Rattle.ac_calls.specs.Arguments.{arguments_of}
use Rattle.ac_holder_calls.specs.HolderCalls.{HolderReplied}
use Rattle.ac_calls.specs.Replied.{told}
use Rattle.ac_holder_calls.proofs.HolderOperations.{same_tools}
use Rattle.ac_holder_calls.proofs.holder_calls.operate_holder.Goals as goal

pub returns-in-Holder : goal.returns-in-Holder
returns-in-Holder g c =
    let tools = g.T.ScriptElement.tools in
    let old = c.args.holder.now in
    let args = arguments_of c.args.args.now in
    let call = c.holder_call in
    let result = told call.new.reply call.result in
    subst (λ op. HolderReplied tools (holder_reply tools old without args op) old call.new.holder result) (sym c.in-Holder.is)
    (subst (λ t. HolderReplied t (holder_alone_reply t old without args c.in-Holder.call) old call.new.holder result)
    (sym (same_tools tools _ _ g.met.T.ScriptElement.size_is g.met.T.ScriptElement.same_is)) call.ensures)
