-- What a call of a set in scripts comes to in the code, where its arguments are as the object sees them, by the order of its elements.
use Rattle.std.specs.Prelude.{Result}
use Rattle.ac_base.specs.declared.fault.Fault.{Fault}
use Rattle.ac_model.specs.Containers.{Container}
use Rattle.ac_model.specs.Keyed.{Order}
use Rattle.ac_model.specs.Objects.{plain}
use Rattle.ac_syntax.specs.declared.operation.Operation.{Operation}
use Rattle.ac_syntax.specs.declared.operation.OrderedSetCall.{OrderedSetCall}
use Rattle.ac_syntax.specs.declared.operation.SetCall.{SetCall}
use Rattle.ac_syntax.specs.declared.operation.SetPairCall.{SetPairCall}
use Rattle.ac_calls.specs.Elements.{Tools}
use Rattle.ac_calls.specs.KeyedReplies.{KeyedKind}
use Rattle.ac_calls.specs.Replied.{Replied, RepliedWith}
use Rattle.ac_calls.specs.Replies as replies
use Rattle.ac_calls.specs.Replies.{another, itself}
use Rattle.ac_calls.specs.RowCalls.{RowsReplied, RowsRepliedWith}
use Rattle.ac_calls.specs.SetReplies.{ordered_set_reply, set_alone_reply, set_pair_reply, set_reply_by}
use Rattle.ac_calls.specs.declared.argument.Arguments.{Arguments}
use Rattle.ac_calls.specs.declared.reply.Reply.{Reply}

module _ {T : Type 0} (tools : Tools T) (order : Order T) where
  -- a call of sets alone
  abbrev pub SetReplied : SetCall → Arguments → (old new : Container T) → Result Reply Fault → Type 0
  SetReplied call args old new result = RowsReplied (λ o seen. set_alone_reply tools order o seen call) args old new result

  -- one of ordered ones
  abbrev pub OrderedSetReplied : OrderedSetCall → Arguments → (old new : Container T) → Result Reply Fault → Type 0
  OrderedSetReplied call args old new result = RowsReplied (λ o seen. ordered_set_reply tools order o seen call) args old new result

  -- one of two sets, with the set itself as the source
  abbrev pub SetPairReplied : SetPairCall → (old new : Container T) → Result Reply Fault → Type 0
  SetPairReplied call old new result = Replied (set_pair_reply tools order (plain old.object) itself call) old new result

  -- and with another one, which stays as it is, whatever its arguments are
  abbrev pub SetPairRepliedWith : SetPairCall → (old source new : Container T) → Result Reply Fault → Type 0
  SetPairRepliedWith call old source new result =
      (seen : replies.Arguments)
      → RepliedWith (set_pair_reply tools order (plain old.object) (another (plain source.object) seen) call) old source new source result

  -- any operation on a set of the kind
  abbrev pub SetOperated : KeyedKind → Operation → Arguments → (old new : Container T) → Result Reply Fault → Type 0
  SetOperated which operation args old new result =
      RowsReplied (λ o seen. set_reply_by tools o itself seen order which operation) args old new result

  -- and with another one as the source
  abbrev pub SetOperatedWith : KeyedKind → Operation → Arguments → (old source new source_new : Container T) → Result Reply Fault → Type 0
  SetOperatedWith which operation args old source new source_new result =
      RowsRepliedWith (λ o from seen. set_reply_by tools o from seen order which operation) args old source new source_new result
