use Rattle.std.proofs.Common.{◌≡◌, Bool, ap, sym, ◌∙◌, subst}
use Rattle.ac_model.specs.Containers.{Container}
use Rattle.ac_model.specs.Objects.{plain}
use Rattle.ac_model.specs.Sets.{equal_call}
use Rattle.ac_setwork.proofs.Equality.{sets_equal}
use Rattle.ac_setwork.specs.TableCalls as table
use Rattle.ac_keyed_calls.proofs.set_rows.common_rows.SetRowsCommonRows.equal.Goals as goal

pub returns : goal.returns
returns g c =
    let order = g.I.Index.order in
    let same = g.I.Row.Elem.is_same in
    let left = c.self.inside.table in
    let right = c.other.inside.table in
    let tables : c.equal.result ≡ table.equal_call order same (plain left.object) (plain right.object) =
    subst (λ (s : g.row.I-Row.Denot → g.row.I-Row.Denot → Bool). c.equal.result ≡ table.equal_call order s (plain left.object) (plain right.object)) c.self.invariant c.equal.ensures in
    let elements = sets_equal order same
    (λ v w t. ap (λ u. order.alike w u) ((g.met.I.Row.Elem.same_is_equality v w).0 t) ∙ g.met.I.Index.closed.equal.refl w) (plain left.object) (plain right.object)
    c.law.ensures.valid in
    subst (λ (s : g.row.I-Row.Denot → g.row.I-Row.Denot → Bool). c.equal.result ≡ equal_call s (plain c.args.self.now.object) (plain c.args.other.now.object)) (sym g.met.I.Row.ScriptElement.same_is)
    (subst (λ (x : Container g.row.I-Row.Denot). c.equal.result ≡ equal_call same (plain x.object) (plain c.args.other.now.object)) c.self.view_is
    (subst (λ (x : Container g.row.I-Row.Denot). c.equal.result ≡ equal_call same (plain left.object) (plain x.object)) c.other.view_is (tables ∙ elements)))
