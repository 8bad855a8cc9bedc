-- The calls of maps on objects of a script.
use Rattle.std.specs.Prelude.{ℕ}
use Rattle.ac_model.specs.Rows.{Entry}
use Rattle.ac_model.specs.Objects.{Object, contents}
use Rattle.ac_model.specs.Maps as map
use Rattle.ac_syntax.specs.Canonical.{literal_text}
use Rattle.ac_syntax.specs.declared.operation.Operation.{Operation}
use Rattle.ac_syntax.specs.declared.operation.Operation.TheVariants as operation
use Rattle.ac_syntax.specs.declared.operation.MapCall.{MapCall}
use Rattle.ac_syntax.specs.declared.operation.MapCall.TheVariants as map_call
use Rattle.ac_syntax.specs.declared.operation.OrderedMapCall.{OrderedMapCall}
use Rattle.ac_syntax.specs.declared.operation.OrderedMapCall.TheVariants as ordered_map_call
use Rattle.ac_calls.specs.Elements.{Tools}
use Rattle.ac_calls.specs.Answers.{answers_ok, answers_truth, answers_place}
use Rattle.ac_calls.specs.KeyedReplies.{KeyedKind, of_hashed, of_ordered, order_by, changes_inserting, walk_reply, ordered_reply}
use Rattle.ac_calls.specs.Listings.{map_listing}
use Rattle.ac_calls.specs.Replies.{Arguments, Source, Reply, changes_ok, looks, tells, value_answer, as_value}
use Rattle.ac_calls.specs.SequenceReplies.{OwnCalls, common_reply, capacity_reply}

module _ {K T : Type 0} (keys : Tools K) (tools : Tools T) where
  abbrev pub map_own : KeyedKind → Object ℕ (Entry K T) → OwnCalls (Entry K T)
  map_own which o = record {
    equal = λ s. map.equal_call (order_by keys which) tools.same o s;
    element = λ c. as_value tools (map.element_call o c);
    replace_element = λ c v. map.replace_element_call o c (tools.from_value v);
    write = λ c v. map.write_call o c (tools.from_value v);
    listing = map_listing (λ k. literal_text (keys.to_value k)) (λ e. literal_text (tools.to_value e)) (contents o);
  }

  module _ (which : KeyedKind) (o : Object ℕ (Entry K T)) (args : Arguments) where
    abbrev pub map_alone_reply : MapCall → Reply (Object ℕ (Entry K T))
    map_alone_reply map_call.Key = looks o value_answer (as_value keys (map.key_call o args.first.cursor))
    map_alone_reply map_call.ElementKey =
        looks o value_answer (as_value tools (map.element_key_call (order_by keys which) o (keys.from_value args.first.value)))
    map_alone_reply map_call.Insert =
        changes_ok (map.insert_call (order_by keys which) o (keys.from_value args.first.value) (tools.from_value args.second.value))
    map_alone_reply map_call.InsertPos =
        changes_inserting 2
        (map.insert_pos_call (order_by keys which) o (keys.from_value args.first.value) (tools.from_value args.second.value))
    map_alone_reply map_call.Include =
        changes_ok (map.include_call (order_by keys which) o (keys.from_value args.first.value) (tools.from_value args.second.value))
    map_alone_reply map_call.Replace =
        changes_ok (map.replace_call (order_by keys which) o (keys.from_value args.first.value) (tools.from_value args.second.value))
    map_alone_reply map_call.Exclude = changes_ok (map.exclude_call (order_by keys which) o (keys.from_value args.first.value))
    map_alone_reply map_call.DeleteKey = changes_ok (map.delete_key_call (order_by keys which) o (keys.from_value args.first.value))
    map_alone_reply map_call.Find = tells o (answers_place (map.find_call (order_by keys which) o (keys.from_value args.first.value)))
    map_alone_reply map_call.Contains = tells o (answers_truth (map.contains_call (order_by keys which) o (keys.from_value args.first.value)))

    -- of ordered ones
    abbrev pub ordered_map_reply : OrderedMapCall → Reply (Object ℕ (Entry K T))
    ordered_map_reply ordered_map_call.FirstKey = looks o value_answer (as_value keys (map.first_key_call o))
    ordered_map_reply ordered_map_call.LastKey = looks o value_answer (as_value keys (map.last_key_call o))
    ordered_map_reply ordered_map_call.Floor =
        tells o (answers_place (map.floor_call (order_by keys which) o (keys.from_value args.first.value)))
    ordered_map_reply ordered_map_call.Ceiling =
        tells o (answers_place (map.ceiling_call (order_by keys which) o (keys.from_value args.first.value)))

  module _ (o : Object ℕ (Entry K T)) (source : Source (Object ℕ (Entry K T))) (args : Arguments) where
    -- an operation of another kind's objects is none of a map's
    abbrev pub map_reply : KeyedKind → Operation → Reply (Object ℕ (Entry K T))
    map_reply which (operation.Common c) = common_reply o source args (map_own which o) c
    map_reply which (operation.Walk c) = walk_reply o args c
    map_reply which (operation.Map c) = map_alone_reply which o args c
    map_reply of_hashed (operation.Capacity c) = capacity_reply o args c
    map_reply of_ordered (operation.Ordered c) =
        ordered_reply o args (looks o value_answer (as_value tools (map.first_element_call o)))
        (looks o value_answer (as_value tools (map.last_element_call o))) c
    map_reply of_ordered (operation.OrderedMap c) = ordered_map_reply of_ordered o args c
    map_reply _ _ = tells o answers_ok
