-- What a call by key comes to in the code, where its arguments are as the object sees them: `key` is an element's key, `keys` the order of keys.
use Rattle.std.specs.Prelude.{Result}
use Rattle.ac_base.specs.declared.fault.Fault.{Fault}
use Rattle.ac_model.specs.Containers.{Container}
use Rattle.ac_model.specs.Keyed.{Order}
use Rattle.ac_syntax.specs.declared.operation.KeyedCall.{KeyedCall}
use Rattle.ac_calls.specs.Elements.{Text}
use Rattle.ac_calls.specs.KeyedReplies.{KeyedKind}
use Rattle.ac_calls.specs.KeyedSetReplies.{key_reply, key_reply_by}
use Rattle.ac_calls.specs.RowCalls.{RowsReplied}
use Rattle.ac_calls.specs.declared.argument.Arguments.{Arguments}
use Rattle.ac_calls.specs.declared.reply.Reply.{Reply}

module _ (key : Text → Text) (keys : Order Text) where
  abbrev pub KeyReplied : KeyedCall → Arguments → (old new : Container Text) → Result Reply Fault → Type 0
  KeyReplied call args old new result = RowsReplied (λ o seen. key_reply key keys o seen call) args old new result

  -- on a set of the kind
  abbrev pub KeyRepliedBy : KeyedKind → KeyedCall → Arguments → (old new : Container Text) → Result Reply Fault → Type 0
  KeyRepliedBy which call args old new result = RowsReplied (λ o seen. key_reply_by key keys o seen which call) args old new result
