-- What an operation comes to on a map of either kind, by the arguments as the script has them.
use Rattle.std.proofs.Common.{◌≡◌, refl, sym, subst}
use Rattle.std.specs.Prelude.{Result}
use Rattle.ac_base.specs.declared.fault.Fault.{Fault}
use Rattle.ac_model.specs.Objects.{plain}
use Rattle.ac_model.specs.Containers.{Container}
use Rattle.ac_model.specs.Rows.{Entry}
use Rattle.ac_syntax.specs.declared.operation.Operation.{Operation}
use Rattle.ac_calls.specs.Elements.{Tools}
use Rattle.ac_calls.specs.MapReplies.{map_reply}
use Rattle.ac_calls.specs.Replies.{itself, another, seen_by}
use Rattle.ac_calls.specs.declared.argument.Arguments.{Arguments}
use Rattle.ac_calls.specs.declared.reply.Reply.{Reply}
use Rattle.ac_calls.specs.Arguments.{AllAgree, arguments_of}
use Rattle.ac_calls.specs.Replied.{Replied, RepliedWith}
use Rattle.ac_keyed_calls.specs.MapCalls.{MapOperated, MapOperatedWith}
use Rattle.ac_keyed_calls.specs.Maps.{MapOf, entries_of, map_kind_of}
use Rattle.ac_calls.specs.KeyedReplies.{KeyedKind}
use Rattle.ac_calls.proofs.Operations.{replied_by, replied_with_by}

module _ {K V : Type 0} (keys : Tools K) (tools : Tools V) (operation : Operation) (args : Arguments) where
  -- on a map that is its own source
  abbrev Operated : MapOf (Entry K V) → Container (Entry K V) → Result Reply Fault → Type 0
  Operated m new result =
      let o = plain (entries_of m).object in
      Replied (map_reply keys tools o itself (seen_by o (arguments_of args)) (map_kind_of m) operation) (entries_of m) new result

  pub operated : (m n : MapOf (Entry K V)) (new : Container (Entry K V)) (result : Result Reply Fault) (which : KeyedKind) → which ≡ map_kind_of n → m ≡ n
      → AllAgree (entries_of m).object args → MapOperated keys tools which operation args (entries_of n) new result → Operated m new result
  operated m n new result which kind is agree h =
      subst (λ (x : MapOf (Entry K V)). Operated x new result) (sym is)
      (replied_by (λ source seen op. map_reply keys tools (plain (entries_of n).object) source seen (map_kind_of n) op)
      (entries_of n) new args operation operation result (subst (λ (x : MapOf (Entry K V)). AllAgree (entries_of x).object args) is agree) refl
      (subst (λ k. MapOperated keys tools k operation args (entries_of n) new result) kind h))

  -- and with another one of its kind
  abbrev OperatedWith : (m source : MapOf (Entry K V)) (new source_new : Container (Entry K V)) → Result Reply Fault → Type 0
  OperatedWith m source new source_new result =
      let o = plain (entries_of m).object in let s = plain (entries_of source).object in
      RepliedWith (map_reply keys tools o (another s (seen_by s (arguments_of args))) (seen_by o (arguments_of args)) (map_kind_of m) operation)
      (entries_of m) (entries_of source) new source_new result

  pub operated_with : (m n source other : MapOf (Entry K V)) (new source_new : Container (Entry K V)) (result : Result Reply Fault) (which : KeyedKind) → which ≡ map_kind_of n
      → m ≡ n → source ≡ other → AllAgree (entries_of m).object args → AllAgree (entries_of source).object args
      → MapOperatedWith keys tools which operation args (entries_of n) (entries_of other) new source_new result
      → OperatedWith m source new source_new result
  operated_with m n source other new source_new result which kind is source_is agree agree_with h =
      subst (λ (x : MapOf (Entry K V)). OperatedWith x source new source_new result) (sym is)
      (subst (λ (x : MapOf (Entry K V)). OperatedWith n x new source_new result) (sym source_is)
      (replied_with_by (λ s seen op. map_reply keys tools (plain (entries_of n).object) s seen (map_kind_of n) op)
      (entries_of n) (entries_of other) new source_new args operation operation result
      (subst (λ (x : MapOf (Entry K V)). AllAgree (entries_of x).object args) is agree)
      (subst (λ (x : MapOf (Entry K V)). AllAgree (entries_of x).object args) source_is agree_with) refl
      (subst (λ k. MapOperatedWith keys tools k operation args (entries_of n) (entries_of other) new source_new result) kind h)))
