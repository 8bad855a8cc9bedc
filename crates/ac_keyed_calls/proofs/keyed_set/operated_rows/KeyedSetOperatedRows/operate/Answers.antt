use Rattle.std.proofs.Common.{subst, sym}
use Rattle.ac_syntax.specs.declared.operation.Operation.TheVariants.{Keyed}
use Rattle.ac_model.specs.Objects.{plain}
use Rattle.ac_calls.specs.KeyedSetReplies.{keyed_set_reply}
use Rattle.ac_calls.specs.Replies.{itself, seen_by}
use Rattle.ac_calls.specs.Arguments.{arguments_of}
use Rattle.ac_keyed_calls.specs.KeyedSets.{keyed_items, keyed_kind}
use Rattle.ac_calls.specs.Replied.{Replied, told}
use Rattle.ac_keyed_calls.specs.Sets.{items_of}
use Rattle.ac_keyed_calls.proofs.KeyedOperations.{not_by_key}
use Rattle.ac_calls.proofs.Operations.{replied_by}
use Rattle.ac_keyed_calls.proofs.keyed_set.operated_rows.KeyedSetOperatedRows.operate.Goals as goal

pub returns-in-Keyed-clause-replied : goal.returns-in-Keyed-clause-replied
returns-in-Keyed-clause-replied g c =
    let s = c.args.self.now in
    let old = keyed_items s in
    replied_by (λ source args operation. keyed_set_reply (plain old.object) source args (keyed_kind s) operation) old _ c.args.args.now c.args.operation (Keyed c.in-Keyed.call) _ c.requires.agree c.in-Keyed.is
    c.key_call.ensures.replied

pub returns-in_default-clause-replied : goal.returns-in_default-clause-replied
returns-in_default-clause-replied g c =
    let s = c.args.self.now in
    let old = keyed_items s in
    subst (λ r. Replied r old (items_of c.operate.new.self) (told c.operate.new.reply c.operate.result))
    (sym (not_by_key (plain old.object) itself (seen_by (plain old.object) (arguments_of c.args.args.now)) (keyed_kind s) c.args.operation c.in_default.not-Keyed))
    c.operate.ensures.replied
