-- What an operation comes to on a set of either kind, by the arguments as the script has them.
use Rattle.std.proofs.Common.{◌≡◌, sym, subst, ap, refl, ◌∙◌}
use Rattle.std.specs.Prelude.{Result}
use Rattle.ac_base.specs.declared.fault.Fault.{Fault}
use Rattle.ac_model.specs.Containers.{Container}
use Rattle.ac_model.specs.Keyed.{Order}
use Rattle.ac_model.specs.Objects.{plain}
use Rattle.ac_syntax.specs.declared.operation.Operation.{Operation}
use Rattle.ac_calls.specs.Arguments.{AllAgree, arguments_of}
use Rattle.ac_calls.specs.Elements.{Tools}
use Rattle.ac_calls.specs.KeyedReplies.{KeyedKind, order_by}
use Rattle.ac_calls.specs.Replied.{Replied, RepliedWith}
use Rattle.ac_calls.specs.Replies.{itself, another, seen_by}
use Rattle.ac_calls.specs.SetReplies.{set_reply}
use Rattle.ac_calls.specs.declared.argument.Arguments.{Arguments}
use Rattle.ac_calls.specs.declared.reply.Reply.{Reply}
use Rattle.ac_keyed_calls.specs.SetCalls.{SetOperated, SetOperatedWith}
use Rattle.ac_keyed_calls.specs.declared.set.Set.{Set}
use Rattle.ac_keyed_calls.specs.Sets.{items_of, set_kind_of}
use Rattle.ac_calls.proofs.Operations.{replied_by, replied_with_by}

module _ {T H O P I J : Type 0} (tools : Tools T) (op : Operation) (args : Arguments) where
  -- on a set that is its own source
  abbrev Operated : Set T H O P I J → Container T → Result Reply Fault → Type 0
  Operated s new result =
      let o = plain (items_of s).object in
      Replied (set_reply tools o itself (seen_by o (arguments_of args)) (set_kind_of s) op) (items_of s) new result

  -- and with another one of its kind
  abbrev OperatedWith : (s source : Set T H O P I J) (new source_new : Container T) → Result Reply Fault → Type 0
  OperatedWith s source new source_new result =
      let o = plain (items_of s).object in let p = plain (items_of source).object in
      RepliedWith (set_reply tools o (another p (seen_by p (arguments_of args))) (seen_by o (arguments_of args)) (set_kind_of s) op)
      (items_of s) (items_of source) new source_new result

  module _ (order : Order T) (which : KeyedKind) (order_is : order ≡ order_by tools which) (s t : Set T H O P I J) (kind : which ≡ set_kind_of t) (is : s ≡ t) where
    orders : order ≡ order_by tools (set_kind_of t)
    orders = order_is ∙ ap (order_by tools) kind

    pub operated : (new : Container T) (result : Result Reply Fault) → AllAgree (items_of s).object args
        → SetOperated tools order (set_kind_of t) op args (items_of t) new result → Operated s new result
    operated new result agree h =
        subst (λ (x : Set T H O P I J). Operated x new result) (sym is)
        (replied_by (λ source seen operation. set_reply tools (plain (items_of t).object) source seen (set_kind_of t) operation)
        (items_of t) new args op op result (subst (λ (x : Set T H O P I J). AllAgree (items_of x).object args) is agree) refl
        (subst (λ o. SetOperated tools o (set_kind_of t) op args (items_of t) new result) orders h))

    pub operated_with : (source other : Set T H O P I J) (new source_new : Container T) (result : Result Reply Fault) → source ≡ other
        → AllAgree (items_of s).object args → AllAgree (items_of source).object args
        → SetOperatedWith tools order (set_kind_of t) op args (items_of t) (items_of other) new source_new result → OperatedWith s source new source_new result
    operated_with source other new source_new result source_is agree agree_with h =
        subst (λ (x : Set T H O P I J). OperatedWith x source new source_new result) (sym is)
        (subst (λ (x : Set T H O P I J). OperatedWith t x new source_new result) (sym source_is)
        (replied_with_by (λ from seen operation. set_reply tools (plain (items_of t).object) from seen (set_kind_of t) operation)
        (items_of t) (items_of other) new source_new args op op result
        (subst (λ (x : Set T H O P I J). AllAgree (items_of x).object args) is agree)
        (subst (λ (x : Set T H O P I J). AllAgree (items_of x).object args) source_is agree_with) refl
        (subst (λ o. SetOperatedWith tools o (set_kind_of t) op args (items_of t) (items_of other) new source_new result) orders h)))
