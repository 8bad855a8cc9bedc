-- The calls that maps and sets have in common, on objects of a script.
use Rattle.std.specs.Prelude.{ℕ, Bool, true, false}
use Rattle.ac_model.specs.Objects.{Object}
use Rattle.ac_model.specs.Calls.{Call}
use Rattle.ac_model.specs.Keyed as keyed
use Rattle.ac_model.specs.Keyed.{Order, by_arrival, ascending, Inserted}
use Rattle.ac_model.specs.Ordered as ordered
use Rattle.ac_model.specs.Sequences as sequence
use Rattle.ac_syntax.specs.declared.operation.WalkCall.{WalkCall}
use Rattle.ac_syntax.specs.declared.operation.WalkCall.TheVariants as walk_call
use Rattle.ac_syntax.specs.declared.operation.OrderedCall.{OrderedCall}
use Rattle.ac_syntax.specs.declared.operation.OrderedCall.TheVariants as ordered_call
use Rattle.ac_calls.specs.Elements.{Tools}
use Rattle.ac_calls.specs.Answers.{answers_truth, answers_place}
use Rattle.ac_calls.specs.Replies.{Arguments, Reply, placed, changes, changes_ok, changes_variable, looks, tells}

-- how the rows of a map or a set stand: in order of arrival, or ascending
pub data KeyedKind : Type 0 where
  of_hashed : KeyedKind
  of_ordered : KeyedKind

-- those in order of arrival have a Capacity
abbrev pub kind_by_capacity : Bool → KeyedKind
kind_by_capacity true = of_hashed
kind_by_capacity false = of_ordered

-- and how its keys are told apart, by these tests
abbrev pub keyed_order : {K : Type 0} → (alike less : K → K → Bool) → KeyedKind → Order K
keyed_order alike less of_hashed = by_arrival alike
keyed_order alike less of_ordered = ascending less

abbrev pub order_by : {K : Type 0} → Tools K → KeyedKind → Order K
order_by tools which = keyed_order tools.alike tools.less which

-- an insertion answers whether it inserted, and sets the variable at this place
abbrev pub changes_inserting : {S : Type 0} → ℕ → Call S Inserted → Reply S
changes_inserting place c = record (changes (λ (i : Inserted). answers_truth i.inserted) c) { variable = placed place c.answer.position }

module _ {V : Type 0} (o : Object ℕ V) (args : Arguments) where
  abbrev pub walk_reply : WalkCall → Reply (Object ℕ V)
  walk_reply walk_call.First = tells o (answers_place (sequence.first_call o))
  walk_reply walk_call.Next = looks o answers_place (sequence.next_call o args.first.cursor)
  walk_reply walk_call.Delete = changes_variable 0 (keyed.delete_call o args.first.cursor)

  -- of ordered ones. `first` and `last` are First_Element and Last_Element
  abbrev pub ordered_reply : (first last : Reply (Object ℕ V)) → OrderedCall → Reply (Object ℕ V)
  ordered_reply first last ordered_call.Last = tells o (answers_place (sequence.last_call o))
  ordered_reply first last ordered_call.Previous = looks o answers_place (sequence.previous_call o args.first.cursor)
  ordered_reply first last ordered_call.DeleteFirst = changes_ok (ordered.delete_first_call o)
  ordered_reply first last ordered_call.DeleteLast = changes_ok (ordered.delete_last_call o)
  ordered_reply first last ordered_call.FirstElement = first
  ordered_reply first last ordered_call.LastElement = last
