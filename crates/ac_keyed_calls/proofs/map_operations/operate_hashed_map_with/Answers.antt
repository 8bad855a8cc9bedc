use Rattle.ac_model.specs.Objects.{plain}
use Rattle.ac_calls.specs.Arguments.{marked}
use Rattle.ac_calls.specs.MapReplies.{map_reply}
use Rattle.ac_calls.specs.Replies.{another}
use Rattle.ac_calls.proofs.Operations.{replied_beside}
use Rattle.ac_keyed_calls.proofs.MapOperations.{in_words_with, common_by}
use Rattle.ac_keyed_calls.proofs.map_operations.operate_hashed_map_with.Goals as goal

pub returns-in-Common : goal.returns-in-Common
returns-in-Common g c =
    let keys = g.K.ScriptElement.tools in let tools = g.V.ScriptElement.tools in let which = g.M.MapKind.which in
    let old = c.args.map.now in let source = c.args.source.now in let args = c.args.args.now in
    let other = another (plain source.object) (marked source.object args) in
    in_words_with (common_by keys tools which (plain old.object) other (marked old.object args) c.args.operation c.in-Common.call c.in-Common.is)
    old source _ _ _ c.common_call_with.ensures.replied

pub returns-in_default : goal.returns-in_default
returns-in_default g c =
    let keys = g.K.ScriptElement.tools in let tools = g.V.ScriptElement.tools in let which = g.M.MapKind.which in
    let old = c.args.map.now in let source = c.args.source.now in let args = c.args.args.now in
    let other = another (plain source.object) (marked source.object args) in
    replied_beside (map_reply keys tools (plain old.object) other (marked old.object args) which c.args.operation) old source _ _ (c.operate_hashed_alone.ensures other)
