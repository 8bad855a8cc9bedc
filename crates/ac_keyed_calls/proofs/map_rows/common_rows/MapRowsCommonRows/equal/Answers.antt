use Rattle.std.proofs.Common.{◌≡◌, ◌∙◌}
use Rattle.ac_model.specs.Objects.{plain}
use Rattle.ac_setwork.specs.TableCalls.{equal_call}
use Rattle.ac_setwork.proofs.Equality.{maps_equal}
use Rattle.ac_calls.specs.KeyedReplies.{order_by}
use Rattle.ac_keyed_calls.proofs.map_rows.common_rows.MapRowsCommonRows.equal.Goals as goal

pub returns : goal.returns
returns g c =
    let keys = order_by g.K.ScriptElement.tools g.M.MapKind.which in
    let laws = g.met.M.MapKind in
    coe 0 1 (i. c.equal.result ≡ equal_call (laws.order_is i) (laws.equal_is i) (plain (c.self.view_is i).object) (plain (c.other.view_is i).object)) c.equal.ensures
    ∙ maps_equal keys g.V.ScriptElement.tools.same (plain c.args.self.now.object) (plain c.args.other.now.object)
