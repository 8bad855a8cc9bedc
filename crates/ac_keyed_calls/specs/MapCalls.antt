-- What a call of a map in scripts comes to in the code, where its arguments are as the object sees them, and as its source does.
use Rattle.std.specs.Prelude.{ℕ, Result}
use Rattle.ac_base.specs.declared.fault.Fault.{Fault}
use Rattle.ac_model.specs.Objects.{Object}
use Rattle.ac_model.specs.Rows.{Entry}
use Rattle.ac_model.specs.Containers.{Container}
use Rattle.ac_syntax.specs.declared.operation.Operation.{Operation}
use Rattle.ac_syntax.specs.declared.operation.MapCall.{MapCall}
use Rattle.ac_syntax.specs.declared.operation.OrderedMapCall.{OrderedMapCall}
use Rattle.ac_calls.specs.Elements.{Tools}
use Rattle.ac_calls.specs.KeyedReplies.{KeyedKind}
use Rattle.ac_calls.specs.MapReplies.{map_alone_reply, ordered_map_reply, map_reply}
use Rattle.ac_calls.specs.Replies.{Source, itself}
use Rattle.ac_calls.specs.declared.argument.Arguments.{Arguments}
use Rattle.ac_calls.specs.declared.reply.Reply.{Reply}
use Rattle.ac_calls.specs.RowCalls.{RowsReplied, RowsRepliedWith}

module _ {K V : Type 0} (keys : Tools K) (tools : Tools V) (which : KeyedKind) where
  -- a call of maps alone
  abbrev pub MapReplied : MapCall → Arguments → (old new : Container (Entry K V)) → Result Reply Fault → Type 0
  MapReplied call args old new result = RowsReplied (λ o seen. map_alone_reply keys tools which o seen call) args old new result

  -- one of ordered maps alone
  abbrev pub OrderedMapReplied : OrderedMapCall → Arguments → (old new : Container (Entry K V)) → Result Reply Fault → Type 0
  OrderedMapReplied call args old new result = RowsReplied (λ o seen. ordered_map_reply keys tools which o seen call) args old new result

  -- an operation that has no source, whatever stands for it
  abbrev pub MapOperatedAlone : Operation → Arguments → (old new : Container (Entry K V)) → Result Reply Fault → Type 0
  MapOperatedAlone operation args old new result =
      (source : Source (Object ℕ (Entry K V)))
      → RowsReplied (λ o seen. map_reply keys tools o source seen which operation) args old new result

  -- an operation on a map that is its own source, where it has one
  abbrev pub MapOperated : Operation → Arguments → (old new : Container (Entry K V)) → Result Reply Fault → Type 0
  MapOperated operation args old new result =
      RowsReplied (λ o seen. map_reply keys tools o itself seen which operation) args old new result

  -- and with another one of its kind as the source
  abbrev pub MapOperatedWith : Operation → Arguments → (old source new source_new : Container (Entry K V)) → Result Reply Fault → Type 0
  MapOperatedWith operation args old source new source_new result =
      RowsRepliedWith (λ o source seen. map_reply keys tools o source seen which operation) args old source new source_new result
