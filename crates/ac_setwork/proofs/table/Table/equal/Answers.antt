use Rattle.std.proofs.Common.{◌≡◌, subst}
use Rattle.ac_model.specs.Containers.{Container}
use Rattle.ac_model.specs.Objects.{plain}
use Rattle.ac_setwork.specs.TableCalls.{equal_call}
use Rattle.ac_setwork.specs.TableFields.{object_of}
use Rattle.ac_setwork.proofs.Elements.{equal_is}
use Rattle.ac_setwork.proofs.table.Table.equal.Goals as goal

pub returns-then-len : goal.returns-then-len
returns-then-len g c =
    let i = c.self.inside in let j = c.other.inside in let order = g.I.Index.order in let same = g.I.Index.is_equal in let s = g.I.Index.seen i.index in let t = g.I.Index.seen j.index in
    subst (λ (x : Container _). c.are_matched.result ≡ equal_call order same (plain x.object) (plain c.args.other.now.object)) c.self.view_is
    (subst (λ (x : Container _). c.are_matched.result ≡ equal_call order same (plain (object_of i.guards i.limit s)) (plain x.object)) c.other.view_is
    (equal_is order same i.guards j.guards i.limit j.limit s t c.len.result c.len-2.result c.are_matched.result c.len.ensures c.len-2.ensures c.if-len.true c.are_matched.ensures))
