-- What an operation comes to on a list and on a vector, by the arguments as the script has them.
use Rattle.std.proofs.Common.{◌≡◌, refl, sym, subst}
use Rattle.std.specs.Prelude.{Result}
use Rattle.ac_base.specs.declared.fault.Fault.{Fault}
use Rattle.ac_model.specs.Containers.{Container}
use Rattle.ac_model.specs.Objects.{plain}
use Rattle.ac_syntax.specs.declared.operation.Operation.{Operation}
use Rattle.ac_calls.specs.Arguments.{AllAgree, arguments_of}
use Rattle.ac_calls.specs.Elements.{Tools}
use Rattle.ac_calls.specs.Holdings.{reply_by}
use Rattle.ac_calls.specs.Replied.{Replied, RepliedWith}
use Rattle.ac_calls.specs.Replies.{itself, another, seen_by}
use Rattle.ac_calls.specs.declared.argument.Arguments.{Arguments}
use Rattle.ac_calls.specs.declared.reply.Reply.{Reply}
use Rattle.ac_sequence_calls.specs.SequenceCalls.{SequenceOperated, SequenceOperatedWith}
use Rattle.ac_sequence_calls.specs.Sequences.{by_kind, kind_of}
use Rattle.ac_sequence_calls.specs.declared.sequence.Sequence.{Sequence}
use Rattle.ac_calls.proofs.Operations.{replied_by, replied_with_by}

module _ {L V T : Type 0} (seen_list : L → Container T) (seen_vector : V → Container T) (tools : Tools T) (operation : Operation) (args : Arguments) where
  abbrev rows_of : Sequence L V → Container T
  rows_of s = by_kind seen_list seen_vector s

  -- on one that is its own source
  abbrev Operated : Sequence L V → Container T → Result Reply Fault → Type 0
  Operated s new result =
      let o = plain (rows_of s).object in
      Replied (reply_by tools o itself (seen_by o (arguments_of args)) (kind_of s) operation) (rows_of s) new result

  pub operated : (s t : Sequence L V) (new : Container T) (result : Result Reply Fault) → s ≡ t → AllAgree (rows_of s).object args
      → SequenceOperated tools (kind_of t) operation args (rows_of t) new result → Operated s new result
  operated s t new result is agree h =
      subst (λ (x : Sequence L V). Operated x new result) (sym is)
      (replied_by (λ source seen op. reply_by tools (plain (rows_of t).object) source seen (kind_of t) op)
      (rows_of t) new args operation operation result (subst (λ (x : Sequence L V). AllAgree (rows_of x).object args) is agree) refl h)

  -- and with another one of its kind
  abbrev OperatedWith : (s source : Sequence L V) (new source_new : Container T) → Result Reply Fault → Type 0
  OperatedWith s source new source_new result =
      let o = plain (rows_of s).object in let p = plain (rows_of source).object in
      RepliedWith (reply_by tools o (another p (seen_by p (arguments_of args))) (seen_by o (arguments_of args)) (kind_of s) operation)
      (rows_of s) (rows_of source) new source_new result

  pub operated_with : (s t source other : Sequence L V) (new source_new : Container T) (result : Result Reply Fault) → s ≡ t → source ≡ other
      → AllAgree (rows_of s).object args → AllAgree (rows_of source).object args
      → SequenceOperatedWith tools (kind_of t) operation args (rows_of t) (rows_of other) new source_new result
      → OperatedWith s source new source_new result
  operated_with s t source other new source_new result is source_is agree agree_with h =
      subst (λ (x : Sequence L V). OperatedWith x source new source_new result) (sym is)
      (subst (λ (x : Sequence L V). OperatedWith t x new source_new result) (sym source_is)
      (replied_with_by (λ from seen op. reply_by tools (plain (rows_of t).object) from seen (kind_of t) op)
      (rows_of t) (rows_of other) new source_new args operation operation result
      (subst (λ (x : Sequence L V). AllAgree (rows_of x).object args) is agree)
      (subst (λ (x : Sequence L V). AllAgree (rows_of x).object args) source_is agree_with) refl h))
