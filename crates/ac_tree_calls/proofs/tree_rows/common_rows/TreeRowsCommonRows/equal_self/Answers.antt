use Rattle.std.proofs.Common.{◌≡◌, sym, subst}
use Rattle.ac_model.specs.Objects.{plain}
use Rattle.ac_model.specs.Trees.{equal_call}
use Rattle.ac_tree_calls.proofs.tree_rows.common_rows.TreeRowsCommonRows.equal_self.Goals as goal

pub returns : goal.returns
returns g c =
    let same = g.T.ScriptElement.tools.same in
    let tree = g.C.TreeLike.seen c.self.inside.tree in
    subst (λ x. c.equal_self.result ≡ equal_call same (plain x.object) (plain x.object)) c.self.view_is
    (subst (λ test. c.equal_self.result ≡ equal_call test (plain tree.object) (plain tree.object)) (sym g.met.T.ScriptElement.same_is) c.equal_self.ensures)
