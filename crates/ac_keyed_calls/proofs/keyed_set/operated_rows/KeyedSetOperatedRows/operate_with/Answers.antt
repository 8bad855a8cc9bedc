use Rattle.std.proofs.Common.{ap, subst, sym}
use Rattle.ac_syntax.specs.declared.kind.ElemKind.TheVariants.{Str}
use Rattle.ac_syntax.specs.declared.operation.Operation.TheVariants.{Keyed}
use Rattle.ac_model.specs.Objects.{plain}
use Rattle.ac_calls.specs.Holdings.{a_set}
use Rattle.ac_calls.specs.KeyedSetReplies.{keyed_set_reply}
use Rattle.ac_calls.specs.Replies.{another, seen_by}
use Rattle.ac_calls.specs.Arguments.{arguments_of}
use Rattle.ac_keyed_calls.specs.KeyedSets.{keyed_items, keyed_kind}
use Rattle.ac_calls.specs.Replied.{RepliedWith, told}
use Rattle.ac_keyed_calls.specs.Sets.{items_of}
use Rattle.ac_keyed_calls.proofs.KeyedOperations.{keyed_in, not_by_key}
use Rattle.ac_calls.proofs.Operations.{replied_beside, replied_with_by}
use Rattle.ac_keyed_calls.proofs.keyed_set.operated_rows.KeyedSetOperatedRows.operate_with.Goals as goal

pub operate_with-requires-clause-like : goal.operate_with-requires-clause-like
operate_with-requires-clause-like g c = ap (λ kind. a_set (keyed_in kind) Str) c.requires.like

pub returns-in-Keyed-clause-replied : goal.returns-in-Keyed-clause-replied
returns-in-Keyed-clause-replied g c =
    let s = c.args.self.now in
    let old = keyed_items s in
    let source = keyed_items c.args.source.now in
    let now = keyed_items c.key_call.new.self in
    replied_with_by (λ source args operation. keyed_set_reply (plain old.object) source args (keyed_kind s) operation) old source now source
    c.args.args.now c.args.operation (Keyed c.in-Keyed.call) _ c.requires.agree c.requires.agree_with_source c.in-Keyed.is
    (replied_beside _ old source now (told c.key_call.new.reply c.key_call.result) c.key_call.ensures.replied)

pub returns-in_default-clause-replied : goal.returns-in_default-clause-replied
returns-in_default-clause-replied g c =
    let s = c.args.self.now in
    let old = keyed_items s in
    let source = keyed_items c.args.source.now in
    let call = c.operate_with in
    subst (λ r. RepliedWith r old source (items_of call.new.self) (items_of call.new.source) (told call.new.reply call.result))
    (sym (not_by_key (plain old.object) (another (plain source.object) (seen_by (plain source.object) (arguments_of c.args.args.now)))
    (seen_by (plain old.object) (arguments_of c.args.args.now)) (keyed_kind s) c.args.operation c.in_default.not-Keyed))
    call.ensures.replied
