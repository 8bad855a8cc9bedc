-- What one command does: its answer, and the environment after it. A refusal leaves the environment, and so does a call that would wait.
use Rattle.std.specs.Prelude.{ℕ, ℤ, pos, negsuc, ◌-◌, ◌^◌, ◌+ℤ◌, ◌-ℤ◌, int_le, Bool, true, false, ◌&&◌, List, [], ◌∷◌, slice_get, Option, Some, None}
use Rattle.ac_base.specs.declared.value.Value.{Value}
use Rattle.ac_base.specs.declared.reason.Reason.{Reason}
use Rattle.ac_base.specs.declared.reason.Reason.TheVariants.{Overflow}
use Rattle.ac_model.specs.Letters.{Mark, no_mark}
use Rattle.ac_syntax.specs.declared.operation.Operation.{Operation}
use Rattle.ac_rules.specs.declared.resolved.ResolvedArg.{ResolvedArg}
use Rattle.ac_rules.specs.declared.resolved.ResolvedArg.TheVariants.{Lit, NoElement, At}
use Rattle.ac_rules.specs.Resolved.{ResolvedSimple, calls_at, sets_at, sums_at}
use Rattle.ac_calls.specs.Elements.{integer_in}
use Rattle.ac_calls.specs.Answers.{Answer, answers_ok, answers_value, answers_truth, answers_place, answers_list, answers_raised, answers_stalled, answers_integer}
use Rattle.ac_calls.specs.Replies.{Argument, value_argument, cursor_argument, no_argument, Arguments, Placed, Reply}
use Rattle.ac_calls.specs.Holdings.{Held, write, reply_of}
use Rattle.ac_meaning.specs.Environment.{Bound, binds_type, binds_object, binds_cursor, binds_value, binds_element, State, bound_at, with_bound, object_at, value_in, value_at}

-- what a command comes to: its answer, and the environment after it
pub record Performed : Type 0 where
  pub answer : Answer
  pub after : State

abbrev pub says : Answer → State → Performed
says answer after = record { answer = answer; after = after }

-- Arguments

abbrev pub argument_in : State → Bound → Argument
argument_in e binds_type = no_argument
argument_in e (binds_object h) = no_argument
argument_in e (binds_cursor mark) = cursor_argument mark
argument_in e (binds_value v) = value_argument v
argument_in e (binds_element object at) = value_argument (value_in e (binds_element object at))

abbrev pub argument : State → ResolvedArg → Argument
argument e (Lit v) = value_argument v
argument e NoElement = cursor_argument no_mark
argument e (At place) = argument_in e (bound_at e place)

abbrev pub argument_of : State → Option ResolvedArg → Argument
argument_of e None = no_argument
argument_of e (Some arg) = argument e arg

abbrev pub arguments : State → List ResolvedArg → Arguments
arguments e args = record {
  first = argument_of e (slice_get args 0);
  second = argument_of e (slice_get args 1);
  third = argument_of e (slice_get args 2);
  fourth = argument_of e (slice_get args 3);
  fifth = (argument_of e (slice_get args 4)).count;
}

-- the place of the object among the arguments
abbrev pub source_place : State → List ResolvedArg → Option ℕ
source_place e [] = None
source_place e (Lit v ∷ args) = source_place e args
source_place e (NoElement ∷ args) = source_place e args
source_place e (At place ∷ args) = elim (object_at e place) [ None ↦ source_place e args | Some h ↦ Some place ]

abbrev pub source_of : State → Option ℕ → Option Held
source_of e None = None
source_of e (Some place) = object_at e place

-- the place that an argument names
abbrev pub place_in : Option ResolvedArg → Option ℕ
place_in None = None
place_in (Some (Lit _)) = None
place_in (Some NoElement) = None
place_in (Some (At place)) = Some place

-- Assignments

pub record Assigned : Type 0 where
  pub reason : Option Reason
  pub after : State

abbrev pub assigned_to : Option Reason → State → Assigned
assigned_to reason after = record { reason = reason; after = after }

abbrev pub element_written : State → (object : ℕ) → Mark → Value → Option Held → Assigned
element_written e object at v None = assigned_to None e
element_written e object at v (Some h) = let w = write h at v in assigned_to w.reason (with_bound e object (binds_object w.after))

abbrev pub value_set : State → (place : ℕ) → Value → Bound → Assigned
value_set e place v binds_type = assigned_to None e
value_set e place v (binds_object h) = assigned_to None e
value_set e place v (binds_cursor mark) = assigned_to None e
value_set e place v (binds_value old) = assigned_to None (with_bound e place (binds_value v))
value_set e place v (binds_element object at) = element_written e object at v (object_at e object)

abbrev pub mark_set : State → (place : ℕ) → Mark → Bound → State
mark_set e place mark binds_type = e
mark_set e place mark (binds_object h) = e
mark_set e place mark (binds_cursor old) = with_bound e place (binds_cursor mark)
mark_set e place mark (binds_value v) = e
mark_set e place mark (binds_element object at) = e

-- an answer that is a value or a cursor is assigned. Another, as a priority queue's `false`, isn't
abbrev pub set_to : State → (place : ℕ) → Answer → Assigned
set_to e place answers_ok = assigned_to None e
set_to e place (answers_value v) = value_set e place v (bound_at e place)
set_to e place (answers_truth _) = assigned_to None e
set_to e place (answers_place mark) = assigned_to None (mark_set e place mark (bound_at e place))
set_to e place (answers_list _) = assigned_to None e
set_to e place (answers_raised _) = assigned_to None e
set_to e place answers_stalled = assigned_to None e

abbrev pub assigned : State → (target : Option ℕ) → Answer → Assigned
assigned e None answer = assigned_to None e
assigned e (Some place) answer = set_to e place answer

-- Commands

-- the answer is assigned, unless what it is assigned to refuses it
abbrev pub unless_refused : State → Answer → Assigned → Performed
unless_refused e answer a = elim a.reason [ None ↦ says answer a.after | Some reason ↦ says (answers_raised reason) e ]

-- the variable among the arguments is set
abbrev pub variable_to : State → Mark → Option ℕ → State
variable_to e mark None = e
variable_to e mark (Some place) = mark_set e place mark (bound_at e place)

abbrev pub variable_set : State → List ResolvedArg → Option Placed → State
variable_set e args None = e
variable_set e args (Some p) = variable_to e p.mark (place_in (slice_get args p.place))

abbrev pub source_set : State → Option ℕ → Option Held → State
source_set e None source = e
source_set e (Some place) None = e
source_set e (Some place) (Some h) = with_bound e place (binds_object h)

-- the environment after a call, but for its target
abbrev pub after_call : State → (object : ℕ) → List ResolvedArg → Reply Held → State
after_call e object args r =
    variable_set (source_set (with_bound e object (binds_object r.after)) (source_place e args) r.source) args r.variable

abbrev pub waits_or_goes : State → Option ℕ → (object : ℕ) → List ResolvedArg → Reply Held → Performed
waits_or_goes e target object args r =
    elim r.stalls [
      | true ↦ says answers_stalled e
      | false ↦ unless_refused e r.answer (assigned (after_call e object args r) target r.answer)
    ]

abbrev pub replied : State → Option ℕ → (object : ℕ) → List ResolvedArg → Reply Held → Performed
replied e target object args r =
    elim r.reason [ None ↦ waits_or_goes e target object args r | Some reason ↦ says (answers_raised reason) e ]

-- a call on no object is in no script that can run
abbrev pub call_on : State → Option ℕ → (object : ℕ) → Operation → List ResolvedArg → Option Held → Performed
call_on e target object operation args None = says answers_ok e
call_on e target object operation args (Some h) =
    replied e target object args (reply_of h (source_of e (source_place e args)) operation (arguments e args))

abbrev pub called : State → (target : Option ℕ) → (object : ℕ) → Operation → List ResolvedArg → Performed
called e target object operation args = call_on e target object operation args (object_at e object)

-- what is assigned
abbrev pub answer_in : State → Bound → Answer
answer_in e binds_type = answers_ok
answer_in e (binds_object h) = answers_ok
answer_in e (binds_cursor mark) = answers_place mark
answer_in e (binds_value v) = answers_value v
answer_in e (binds_element object at) = answers_value (value_in e (binds_element object at))

abbrev pub answer_from : State → ResolvedArg → Answer
answer_from e (Lit v) = answers_value v
answer_from e NoElement = answers_place no_mark
answer_from e (At place) = answer_in e (bound_at e place)

abbrev pub assigned_from : State → (target : ℕ) → Answer → Performed
assigned_from e target answer = unless_refused e answer (assigned e (Some target) answer)

abbrev pub set_from : State → (target : ℕ) → ResolvedArg → Performed
set_from e target from = assigned_from e target (answer_from e from)

-- within the integers of a script
abbrev pub is_integer : ℤ → Bool
is_integer n = int_le (negsuc (2 ^ 63 - 1)) n && int_le n (pos (2 ^ 63 - 1))

abbrev pub sum_of : (minus : Bool) → ℤ → ℕ → ℤ
sum_of false n number = n +ℤ pos number
sum_of true n number = n -ℤ pos number

abbrev pub sum_assigned : State → (target : ℕ) → ℤ → Performed
sum_assigned e target n =
    elim (is_integer n) [ true ↦ assigned_from e target (answers_integer n) | false ↦ says (answers_raised Overflow) e ]

abbrev pub summed : State → (target from : ℕ) → (minus : Bool) → ℕ → Performed
summed e target from minus n = sum_assigned e target (sum_of minus (integer_in (value_at e from)) n)

-- a command, on the environment as the guards make it
abbrev pub performed : State → ResolvedSimple → Performed
performed e (calls_at number target object operation args) = called e target object operation args
performed e (sets_at number target from) = set_from e target from
performed e (sums_at number target from minus n) = summed e target from minus n

abbrev pub number_in : ResolvedSimple → ℕ
number_in (calls_at number target object operation args) = number
number_in (sets_at number target from) = number
number_in (sums_at number target from minus n) = number
