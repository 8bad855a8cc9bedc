use Rattle.ac_model.specs.Objects.{plain}
use Rattle.ac_calls.specs.Arguments.{marked}
use Rattle.ac_calls.specs.Replies.{itself}
use Rattle.ac_keyed_calls.proofs.MapOperations.{in_words, common_by}
use Rattle.ac_keyed_calls.proofs.map_operations.operate_ordered_map.Goals as goal

pub returns-in-Common : goal.returns-in-Common
returns-in-Common g c =
    let keys = g.K.ScriptElement.tools in let tools = g.V.ScriptElement.tools in let which = g.M.MapKind.which in
    let old = c.args.map.now in
    in_words (common_by keys tools which (plain old.object) itself (marked old.object c.args.args.now) c.args.operation c.in-Common.call c.in-Common.is)
    old _ _ c.common_call.ensures.replied

pub returns-in_default : goal.returns-in_default
returns-in_default g c = c.operate_ordered_alone.ensures itself
