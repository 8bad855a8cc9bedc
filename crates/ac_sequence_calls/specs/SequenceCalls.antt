-- What a call of a list or a vector in scripts comes to in the code, where its arguments are as the object sees them, and as its source does.
use Rattle.ac_base.specs.declared.fault.Fault.{Fault}
use Rattle.std.specs.Prelude.{Bool, true, false, Result}
use Rattle.ac_chain.specs.Rearranging.{reversing, sorting}
use Rattle.ac_model.specs.Containers.{Container}
use Rattle.ac_syntax.specs.declared.operation.Operation.{Operation}
use Rattle.ac_syntax.specs.declared.operation.SequenceCall.{SequenceCall}
use Rattle.ac_syntax.specs.declared.operation.VectorCall.{VectorCall}
use Rattle.ac_syntax.specs.declared.operation.ListCall.{ListCall}
use Rattle.ac_calls.specs.Elements.{Tools}
use Rattle.ac_calls.specs.Holdings.{SequenceKind, of_list, of_vector, reply_by}
use Rattle.ac_calls.specs.Replies.{itself}
use Rattle.ac_calls.specs.SequenceReplies.{sequence_reply}
use Rattle.ac_calls.specs.ListReplies.{list_alone_reply}
use Rattle.ac_calls.specs.VectorReplies.{vector_alone_reply}
use Rattle.ac_calls.specs.declared.argument.Arguments.{Arguments}
use Rattle.ac_calls.specs.declared.reply.Reply.{Reply}
use Rattle.ac_calls.specs.RowCalls.{RowsReplied, RowsRepliedWith}

-- in which kind names move with their elements
abbrev pub kind_by_names : Bool → SequenceKind
kind_by_names true = of_list
kind_by_names false = of_vector

module _ {T : Type 0} (tools : Tools T) where
  -- a call that both share
  abbrev pub SequenceReplied : (names_move : Bool) → SequenceCall → Arguments → (old new : Container T) → Result Reply Fault → Type 0
  SequenceReplied names_move call args old new result =
      RowsReplied (λ o seen. sequence_reply tools o itself seen (reversing names_move o) (sorting names_move tools.less o) call) args old new result

  -- one of lists alone, and of vectors alone

  abbrev pub ListAloneReplied : ListCall → Arguments → (old new : Container T) → Result Reply Fault → Type 0
  ListAloneReplied call args old new result = RowsReplied (λ o seen. list_alone_reply tools o itself seen call) args old new result

  abbrev pub VectorAloneReplied : VectorCall → Arguments → (old new : Container T) → Result Reply Fault → Type 0
  VectorAloneReplied call args old new result = RowsReplied (λ o seen. vector_alone_reply tools o itself seen call) args old new result

  -- any operation on one of the kind
  abbrev pub SequenceOperated : SequenceKind → Operation → Arguments → (old new : Container T) → Result Reply Fault → Type 0
  SequenceOperated which operation args old new result = RowsReplied (λ o seen. reply_by tools o itself seen which operation) args old new result

  -- the same with another one of its kind as the source

  abbrev pub SequenceRepliedWith : (names_move : Bool) → SequenceCall → Arguments → (old source new source_new : Container T) → Result Reply Fault → Type 0
  SequenceRepliedWith names_move call args old source new source_new result =
      RowsRepliedWith
      (λ o from seen. sequence_reply tools o from seen (reversing names_move o) (sorting names_move tools.less o) call)
      args old source new source_new result

  abbrev pub ListAloneRepliedWith : ListCall → Arguments → (old source new source_new : Container T) → Result Reply Fault → Type 0
  ListAloneRepliedWith call args old source new source_new result =
      RowsRepliedWith (λ o from seen. list_alone_reply tools o from seen call) args old source new source_new result

  abbrev pub VectorAloneRepliedWith : VectorCall → Arguments → (old source new source_new : Container T) → Result Reply Fault → Type 0
  VectorAloneRepliedWith call args old source new source_new result =
      RowsRepliedWith (λ o from seen. vector_alone_reply tools o from seen call) args old source new source_new result

  abbrev pub SequenceOperatedWith : SequenceKind → Operation → Arguments → (old source new source_new : Container T) → Result Reply Fault → Type 0
  SequenceOperatedWith which operation args old source new source_new result =
      RowsRepliedWith (λ o from seen. reply_by tools o from seen which operation) args old source new source_new result
