use Rattle.std.proofs.Common.{◌≡◌, Some, Result, Err, sym, subst}
use Rattle.ac_base.specs.declared.fault.Fault.{Fault}
use Rattle.ac_base.specs.declared.fault.Fault.TheVariants as fault
use Rattle.ac_base.specs.declared.reason.Reason.{Reason}
use Rattle.ac_model.specs.Calls.{Lends, Look, Looking}
use Rattle.ac_model.specs.Objects.{plain}
use Rattle.ac_model.specs.Trees.{element_call}
use Rattle.ac_chain.specs.TreeCursors.{seen_by}
use Rattle.ac_tree_calls.proofs.tree_rows.row_object.TreeRowsRowObject.refused.Goals as goal

-- a look that raised a reason had it
raised : {X A : Type 0} (Answers : X → A → Type 0) (l : Look A) (r : Result X Fault) (f : Fault) (reason : Reason)
    → Looking Answers l r → r ≡ Err f → f ≡ fault.Raised reason → Some reason ≡ l.reason
raised Answers l r f reason h is raises = sym (subst (λ f. Looking Answers l (Err f)) raises (subst (Looking Answers l) is h))

pub returns-in-Err-Raised : goal.returns-in-Err-Raised
returns-in-Err-Raised g c =
    let o = g.C.TreeLike.seen c.self.inside.tree in
    subst (λ x. Some c.in-Err-Raised.reason ≡ (element_call (plain x.object) (seen_by x c.args.c)).reason) c.self.view_is
    (raised Lends (element_call (plain o.object) (seen_by o c.args.c)) c.element.result c.in-Err-Raised.field-0 c.in-Err-Raised.reason
    c.element.ensures c.in-Err-Raised.is c.in-Err-Raised.field-0-is)
