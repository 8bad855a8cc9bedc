-- What an operation comes to on a map, by the arguments as the object sees them.
use Rattle.std.proofs.Common.{◌≡◌, ℕ, refl, sym, ap, subst, ◌∙◌}
use Rattle.std.specs.Prelude.{Result}
use Rattle.ac_base.specs.declared.fault.Fault.{Fault}
use Rattle.ac_model.specs.Objects.{Object}
use Rattle.ac_model.specs.Containers.{Container}
use Rattle.ac_model.specs.Maps.{first_element_call, last_element_call}
use Rattle.ac_model.specs.Rows.{Entry}
use Rattle.ac_syntax.specs.declared.operation.Operation.{Operation}
use Rattle.ac_syntax.specs.declared.operation.Operation.TheVariants as operation
use Rattle.ac_syntax.specs.declared.operation.CommonCall.{CommonCall}
use Rattle.ac_syntax.specs.declared.operation.WalkCall.{WalkCall}
use Rattle.ac_syntax.specs.declared.operation.MapCall.{MapCall}
use Rattle.ac_syntax.specs.declared.operation.CapacityCall.{CapacityCall}
use Rattle.ac_syntax.specs.declared.operation.OrderedCall.{OrderedCall}
use Rattle.ac_syntax.specs.declared.operation.OrderedMapCall.{OrderedMapCall}
use Rattle.ac_calls.specs.Elements.{Tools}
use Rattle.ac_calls.specs.Answers.{answers_ok}
use Rattle.ac_calls.specs.KeyedReplies.{KeyedKind, of_hashed, of_ordered, walk_reply, ordered_reply}
use Rattle.ac_calls.specs.MapReplies.{map_own, map_alone_reply, map_reply, ordered_map_reply}
use Rattle.ac_calls.specs.Replies as replies
use Rattle.ac_calls.specs.Replies.{Source, tells, looks, value_answer, as_value}
use Rattle.ac_calls.specs.SequenceReplies.{capacity_reply, common_reply}
use Rattle.ac_calls.specs.declared.reply.Reply.{Reply}
use Rattle.ac_calls.specs.Replied.{Replied, RepliedWith}

-- the same reply in other words
module _ {V : Type 0} {r s : replies.Reply (Object ℕ V)} (same : r ≡ s) where
  pub in_words : (old new : Container V) (result : Result Reply Fault) → Replied r old new result → Replied s old new result
  in_words old new result h = subst (λ q. Replied q old new result) same h

  pub in_words_with : (old source new source_new : Container V) (result : Result Reply Fault)
      → RepliedWith r old source new source_new result → RepliedWith s old source new source_new result
  in_words_with old source new source_new result h = subst (λ q. RepliedWith q old source new source_new result) same h

module _ {K V : Type 0} (keys : Tools K) (tools : Tools V) (which : KeyedKind) (o : Object ℕ (Entry K V)) (source : Source (Object ℕ (Entry K V)))
    (args : replies.Arguments) where
  -- what the operation comes to
  abbrev comes_to : Operation → replies.Reply (Object ℕ (Entry K V))
  comes_to op = map_reply keys tools o source args which op

  -- what both kinds share

  pub common_by : (op : Operation) (c : CommonCall) → op ≡ operation.Common c
      → common_reply o source args (map_own keys tools which o) c ≡ comes_to op
  common_by op c is = common_of which ∙ ap comes_to (sym is)
    where
      common_of : (k : KeyedKind) → common_reply o source args (map_own keys tools k o) c ≡ map_reply keys tools o source args k (operation.Common c)
      common_of of_hashed = refl
      common_of of_ordered = refl

  pub walk_by : (op : Operation) (c : WalkCall) → op ≡ operation.Walk c → walk_reply o args c ≡ comes_to op
  walk_by op c is = walk_of which ∙ ap comes_to (sym is)
    where
      walk_of : (k : KeyedKind) → walk_reply o args c ≡ map_reply keys tools o source args k (operation.Walk c)
      walk_of of_hashed = refl
      walk_of of_ordered = refl

  pub map_by : (op : Operation) (c : MapCall) → op ≡ operation.Map c → map_alone_reply keys tools which o args c ≡ comes_to op
  map_by op c is = map_of which ∙ ap comes_to (sym is)
    where
      map_of : (k : KeyedKind) → map_alone_reply keys tools k o args c ≡ map_reply keys tools o source args k (operation.Map c)
      map_of of_hashed = refl
      map_of of_ordered = refl

  -- of hashed maps

  pub capacity_by : (op : Operation) (c : CapacityCall) → op ≡ operation.Capacity c → which ≡ of_hashed → capacity_reply o args c ≡ comes_to op
  capacity_by op c is hashed = ap (λ k. map_reply keys tools o source args k (operation.Capacity c)) (sym hashed) ∙ ap comes_to (sym is)

  hashed_none : (op : Operation) → ((c : CommonCall) → op ≡ operation.Common c → ⊥) → ((c : WalkCall) → op ≡ operation.Walk c → ⊥)
      → ((c : MapCall) → op ≡ operation.Map c → ⊥) → ((c : CapacityCall) → op ≡ operation.Capacity c → ⊥)
      → map_reply keys tools o source args of_hashed op ≡ tells o answers_ok
  hashed_none (operation.Common c) common walk map capacity = absurd (common c refl)
  hashed_none (operation.Walk c) common walk map capacity = absurd (walk c refl)
  hashed_none (operation.Map c) common walk map capacity = absurd (map c refl)
  hashed_none (operation.Capacity c) common walk map capacity = absurd (capacity c refl)
  hashed_none (operation.Ordered c) common walk map capacity = refl
  hashed_none (operation.OrderedMap c) common walk map capacity = refl
  hashed_none (operation.Sequence c) common walk map capacity = refl
  hashed_none (operation.Vector c) common walk map capacity = refl
  hashed_none (operation.List c) common walk map capacity = refl
  hashed_none (operation.Set c) common walk map capacity = refl
  hashed_none (operation.SetPair c) common walk map capacity = refl
  hashed_none (operation.Keyed c) common walk map capacity = refl
  hashed_none (operation.OrderedSet c) common walk map capacity = refl
  hashed_none (operation.Tree c) common walk map capacity = refl
  hashed_none (operation.TreeChange c) common walk map capacity = refl
  hashed_none (operation.Holder c) common walk map capacity = refl
  hashed_none (operation.Queue c) common walk map capacity = refl

  -- an operation that a hashed map hasn't
  pub no_hashed_call : (op : Operation) → which ≡ of_hashed → ((c : CommonCall) → op ≡ operation.Common c → ⊥)
      → ((c : WalkCall) → op ≡ operation.Walk c → ⊥) → ((c : MapCall) → op ≡ operation.Map c → ⊥)
      → ((c : CapacityCall) → op ≡ operation.Capacity c → ⊥) → comes_to op ≡ tells o answers_ok
  no_hashed_call op hashed common walk map capacity =
      ap (λ k. map_reply keys tools o source args k op) hashed ∙ hashed_none op common walk map capacity

  -- of ordered maps

  pub ordered_by : (op : Operation) (c : OrderedCall) → op ≡ operation.Ordered c → which ≡ of_ordered
      → ordered_reply o args (looks o value_answer (as_value tools (first_element_call o))) (looks o value_answer (as_value tools (last_element_call o))) c
      ≡ comes_to op
  ordered_by op c is ordered = ap (λ k. map_reply keys tools o source args k (operation.Ordered c)) (sym ordered) ∙ ap comes_to (sym is)

  pub ordered_map_by : (op : Operation) (c : OrderedMapCall) → op ≡ operation.OrderedMap c → which ≡ of_ordered
      → ordered_map_reply keys tools which o args c ≡ comes_to op
  ordered_map_by op c is ordered =
      ap (λ k. ordered_map_reply keys tools k o args c) ordered
      ∙ ap (λ k. map_reply keys tools o source args k (operation.OrderedMap c)) (sym ordered) ∙ ap comes_to (sym is)

  ordered_none : (op : Operation) → ((c : CommonCall) → op ≡ operation.Common c → ⊥) → ((c : WalkCall) → op ≡ operation.Walk c → ⊥)
      → ((c : MapCall) → op ≡ operation.Map c → ⊥) → ((c : OrderedCall) → op ≡ operation.Ordered c → ⊥)
      → ((c : OrderedMapCall) → op ≡ operation.OrderedMap c → ⊥) → map_reply keys tools o source args of_ordered op ≡ tells o answers_ok
  ordered_none (operation.Common c) common walk map ordered ordered_map = absurd (common c refl)
  ordered_none (operation.Walk c) common walk map ordered ordered_map = absurd (walk c refl)
  ordered_none (operation.Map c) common walk map ordered ordered_map = absurd (map c refl)
  ordered_none (operation.Ordered c) common walk map ordered ordered_map = absurd (ordered c refl)
  ordered_none (operation.OrderedMap c) common walk map ordered ordered_map = absurd (ordered_map c refl)
  ordered_none (operation.Capacity c) common walk map ordered ordered_map = refl
  ordered_none (operation.Sequence c) common walk map ordered ordered_map = refl
  ordered_none (operation.Vector c) common walk map ordered ordered_map = refl
  ordered_none (operation.List c) common walk map ordered ordered_map = refl
  ordered_none (operation.Set c) common walk map ordered ordered_map = refl
  ordered_none (operation.SetPair c) common walk map ordered ordered_map = refl
  ordered_none (operation.Keyed c) common walk map ordered ordered_map = refl
  ordered_none (operation.OrderedSet c) common walk map ordered ordered_map = refl
  ordered_none (operation.Tree c) common walk map ordered ordered_map = refl
  ordered_none (operation.TreeChange c) common walk map ordered ordered_map = refl
  ordered_none (operation.Holder c) common walk map ordered ordered_map = refl
  ordered_none (operation.Queue c) common walk map ordered ordered_map = refl

  -- an operation that an ordered map hasn't
  pub no_ordered_call : (op : Operation) → which ≡ of_ordered → ((c : CommonCall) → op ≡ operation.Common c → ⊥)
      → ((c : WalkCall) → op ≡ operation.Walk c → ⊥) → ((c : MapCall) → op ≡ operation.Map c → ⊥)
      → ((c : OrderedCall) → op ≡ operation.Ordered c → ⊥) → ((c : OrderedMapCall) → op ≡ operation.OrderedMap c → ⊥)
      → comes_to op ≡ tells o answers_ok
  no_ordered_call op is common walk map ordered ordered_map =
      ap (λ k. map_reply keys tools o source args k op) is ∙ ordered_none op common walk map ordered ordered_map
