-- The calls of sets on objects of a script.
use Rattle.std.specs.Prelude.{ℕ}
use Rattle.ac_model.specs.Objects.{Object, contents}
use Rattle.ac_model.specs.Keyed as keyed
use Rattle.ac_model.specs.Keyed.{Order}
use Rattle.ac_model.specs.Sequences as sequence
use Rattle.ac_model.specs.Sets as set
use Rattle.ac_syntax.specs.Canonical.{literal_text}
use Rattle.ac_syntax.specs.declared.operation.Operation.{Operation}
use Rattle.ac_syntax.specs.declared.operation.Operation.TheVariants as operation
use Rattle.ac_syntax.specs.declared.operation.SetCall.{SetCall}
use Rattle.ac_syntax.specs.declared.operation.SetCall.TheVariants as set_call
use Rattle.ac_syntax.specs.declared.operation.SetPairCall.{SetPairCall}
use Rattle.ac_syntax.specs.declared.operation.SetPairCall.TheVariants as set_pair_call
use Rattle.ac_syntax.specs.declared.operation.OrderedSetCall.{OrderedSetCall}
use Rattle.ac_syntax.specs.declared.operation.OrderedSetCall.TheVariants as ordered_set_call
use Rattle.ac_calls.specs.Elements.{Tools}
use Rattle.ac_calls.specs.Answers.{answers_ok, answers_truth, answers_place}
use Rattle.ac_calls.specs.KeyedReplies.{KeyedKind, of_hashed, of_ordered, order_by, changes_inserting, walk_reply, ordered_reply}
use Rattle.ac_calls.specs.Listings.{bracketed}
use Rattle.ac_calls.specs.Replies.{Arguments, Source, by_source, Reply, changes_ok, looks, tells, value_answer, as_value}
use Rattle.ac_calls.specs.SequenceReplies.{OwnCalls, common_reply, capacity_reply}

module _ {T : Type 0} (tools : Tools T) where
  -- a name stands for an element of a set to be read: nothing is written through it
  abbrev pub set_own : Order T → Object ℕ T → OwnCalls T
  set_own order o = record {
    equal = λ s. set.equal_call tools.same o s;
    element = λ c. as_value tools (sequence.element_call o c);
    replace_element = λ c v. keyed.replace_element_call order o c (tools.from_value v);
    write = λ c v. set.unchanged o;
    listing = bracketed (λ e. literal_text (tools.to_value e)) (contents o);
  }

  module _ (order : Order T) (o : Object ℕ T) (args : Arguments) where
    abbrev pub set_alone_reply : SetCall → Reply (Object ℕ T)
    set_alone_reply set_call.Insert = changes_ok (keyed.insert_call order o (tools.from_value args.first.value))
    set_alone_reply set_call.InsertPos = changes_inserting 1 (keyed.insert_pos_call order o (tools.from_value args.first.value))
    set_alone_reply set_call.Include = changes_ok (keyed.include_call order o (tools.from_value args.first.value))
    set_alone_reply set_call.Replace = changes_ok (set.replace_call order o (tools.from_value args.first.value))
    set_alone_reply set_call.Exclude = changes_ok (set.exclude_call order o (tools.from_value args.first.value))
    set_alone_reply set_call.DeleteItem = changes_ok (set.delete_item_call order o (tools.from_value args.first.value))
    set_alone_reply set_call.Find = tells o (answers_place (set.find_call order o (tools.from_value args.first.value)))
    set_alone_reply set_call.Contains = tells o (answers_truth (set.contains_call order o (tools.from_value args.first.value)))

    -- of ordered ones
    abbrev pub ordered_set_reply : OrderedSetCall → Reply (Object ℕ T)
    ordered_set_reply ordered_set_call.Floor =
        tells o (answers_place (set.floor_call order o (tools.from_value args.first.value)))
    ordered_set_reply ordered_set_call.Ceiling =
        tells o (answers_place (set.ceiling_call order o (tools.from_value args.first.value)))

  module _ (order : Order T) (o : Object ℕ T) (source : Source (Object ℕ T)) where
    -- of two sets, of which the source isn't changed
    abbrev pub set_pair_reply : SetPairCall → Reply (Object ℕ T)
    set_pair_reply set_pair_call.Union =
        by_source source (changes_ok (set.union_self_call o)) (λ s _. changes_ok (set.union_call order o s))
    set_pair_reply set_pair_call.Intersection =
        by_source source (changes_ok (set.intersection_self_call o))
        (λ s _. changes_ok (set.intersection_call order o s))
    set_pair_reply set_pair_call.Difference =
        by_source source (changes_ok (set.difference_self_call o)) (λ s _. changes_ok (set.difference_call order o s))
    set_pair_reply set_pair_call.SymmetricDifference =
        by_source source (changes_ok (set.symmetric_difference_self_call o))
        (λ s _. changes_ok (set.symmetric_difference_call order o s))
    set_pair_reply set_pair_call.Overlap = tells o (answers_truth (set.overlap_call order o (by_source source o (λ s _. s))))
    set_pair_reply set_pair_call.IsSubset = tells o (answers_truth (set.is_subset_call order o (by_source source o (λ s _. s))))
    set_pair_reply set_pair_call.EquivalentSets =
        tells o (answers_truth (set.equivalent_sets_call order o (by_source source o (λ s _. s))))

  module _ (o : Object ℕ T) (source : Source (Object ℕ T)) (args : Arguments) where
    -- by this order of the elements, where the kind tells which operations there are. An operation of another kind's objects is none of a set's
    abbrev pub set_reply_by : Order T → KeyedKind → Operation → Reply (Object ℕ T)
    set_reply_by order which (operation.Common c) = common_reply o source args (set_own order o) c
    set_reply_by order which (operation.Walk c) = walk_reply o args c
    set_reply_by order which (operation.Set c) = set_alone_reply order o args c
    set_reply_by order which (operation.SetPair c) = set_pair_reply order o source c
    set_reply_by order of_hashed (operation.Capacity c) = capacity_reply o args c
    set_reply_by order of_ordered (operation.Ordered c) =
        ordered_reply o args (looks o value_answer (as_value tools (sequence.first_element_call o)))
        (looks o value_answer (as_value tools (sequence.last_element_call o))) c
    set_reply_by order of_ordered (operation.OrderedSet c) = ordered_set_reply order o args c
    set_reply_by order _ _ = tells o answers_ok

    abbrev pub set_reply : KeyedKind → Operation → Reply (Object ℕ T)
    set_reply which operation = set_reply_by (order_by tools which) which operation
