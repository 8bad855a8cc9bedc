use Rattle.std.proofs.Common.{rules, subst, sym}
use Rattle.ac_model.specs.Objects.{plain}
use Rattle.ac_calls.proofs.Made.{unchanged}
use Rattle.ac_calls.specs.Arguments.{marked}
use Rattle.ac_calls.specs.Replied.{IsMade}
use Rattle.ac_calls.specs.Replies.{itself}
use Rattle.ac_keyed_calls.proofs.SetOperations.{none_of_hashed}
use Rattle.ac_keyed_calls.proofs.set_operations.operate_hashed.Goals as goal

pub returns-in_default : goal.returns-in_default
returns-in_default g c =
    let old = c.args.set.now in
    let none = c.in_default in
    subst (λ r. IsMade r old old c.says.result)
    (sym (none_of_hashed g.I.Row.ScriptElement.tools g.I.Index.order c.args.operation (plain old.object) itself (marked old.object c.args.args.now)
    none.not-Common none.not-Walk none.not-Set none.not-SetPair none.not-Capacity))
    (record {
      goes = search rules;
      reason = search rules;
      after = unchanged old.object;
      source = search rules;
      says = search (rules, c.says.ensures.said);
      variable = search (rules, c.says.ensures.variable);
    })
