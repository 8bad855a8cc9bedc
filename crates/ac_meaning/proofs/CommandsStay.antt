-- What stays of what the names hold through a command.
use Rattle.std.proofs.Common.{◌≡◌, ◌==◌, ℕ, ℤ, Bool, true, false, List, slice_get, refl, sym, ap, subst, ◌∙◌, Option, Some, None, option_map, if◌then◌else◌}
use Rattle.std.proofs.lemmas.Option.{same_Some}
use Rattle.ac_base.specs.declared.value.Value.{Value}
use Rattle.ac_base.specs.declared.reason.Reason.{Reason}
use Rattle.ac_base.specs.declared.reason.Reason.TheVariants.{NoElement}
use Rattle.ac_model.specs.Objects.{Object}
use Rattle.ac_model.specs.Holders.{Holder}
use Rattle.ac_syntax.specs.declared.kind.ElemKind.{ElemKind}
use Rattle.ac_model.specs.Letters.{Mark, name_of}
use Rattle.ac_syntax.specs.declared.operation.Operation.{Operation}
use Rattle.ac_rules.specs.declared.resolved.ResolvedArg.{ResolvedArg}
use Rattle.ac_rules.specs.Resolved.{ResolvedSimple, calls_at, sets_at, sums_at}
use Rattle.ac_calls.specs.Elements.{ElementOf, tools_of, integer_in}
use Rattle.ac_calls.specs.Answers.{Answer, answers_ok, answers_value, answers_truth, answers_place, answers_list, answers_raised, answers_stalled, answers_integer}
use Rattle.ac_calls.specs.Replies.{Arguments, Source, itself, another, arguments_seen, source_in, Reply, Placed}
use Rattle.ac_calls.specs.Holdings.{RowKind, a_sequence, a_map, a_set, a_keyed_set, a_tree, RowOf, Held, of_rows, of_holder, of_queue, same_element, same_kind, rows_in, holder_in, rows_reply, seen_in, own_calls, write, reply_of}
use Rattle.ac_calls.specs.HolderReplies.{holder_source, holder_write}
use Rattle.ac_meaning.specs.Environment.{Bound, binds_type, binds_object, binds_cursor, binds_value, binds_element, State, bound_at, with_bound, object_at, value_at}
use Rattle.ac_meaning.specs.Commands.{Assigned, value_set, mark_set, assigned, element_written, place_in, variable_to, variable_set, source_place, source_of, source_set, after_call, unless_refused, waits_or_goes, replied, call_on, arguments, answer_from, assigned_from, is_integer, sum_of, sum_assigned, performed}
use Rattle.ac_meaning.specs.Stays.{Stays, SourceStays, ReplyStays, HeldStays, StateStays}
use Rattle.ac_meaning.proofs.CallsStay.{none_some, same, renamed, names-with_value, names-with_some_value}
use Rattle.ac_meaning.proofs.VectorsStay.{replies_stay}
use Rattle.ac_meaning.proofs.KeyedStay.{map_stays, set_stays, keyed_set_stays}
use Rattle.ac_meaning.proofs.TreesStay.{names-with_element, tree_stays}
use Rattle.ac_meaning.proofs.HoldersStay.{holder_passed, holder_write_stays, holder_stays, another_holder_stays}
use Rattle.ac_meaning.proofs.QueuesStay.{queue_stays, queue_alone}
use Rattle.ac_meaning.proofs.BoundsStay.{passed, state_same, state_then, state_set, object_there}

-- Assignments

pub own_write_stays : (kind : RowKind) (o : Object ℕ (RowOf kind)) (at : Mark) (v : Value) → Stays o None ((own_calls kind o).write at v).after
own_write_stays (a_sequence which e) o at v = renamed o None _ (names-with_value o.rows (name_of at) ((tools_of e).from_value v))
own_write_stays (a_map which k e) o at v = renamed o None _ (names-with_some_value o.rows _ _)
own_write_stays (a_set which e) o at v = same o None
own_write_stays (a_keyed_set which) o at v = same o None
own_write_stays (a_tree e) o at v = renamed o None _ (names-with_element o.rows (name_of at) (Some ((tools_of e).from_value v)))

write_stays : (h : Held) (at : Mark) (v : Value) → (write h at v).reason ≡ None → HeldStays h (write h at v).after
write_stays (of_rows kind o) at v none =
    (((own_calls kind o).write (seen_in kind o at) v).after, refl, own_write_stays kind o (seen_in kind o at) v)
write_stays (of_holder e h) at v none = ((holder_write (tools_of e) h v).after, refl, holder_write_stays (tools_of e) h v none)
write_stays (of_queue number q) at v none = none_some NoElement (sym none)

-- an assignment that isn't refused
abbrev AssignedStays : State → Assigned → Type 0
AssignedStays e a = a.reason ≡ None → StateStays e a.after

element_stays : (e : State) (object : ℕ) (at : Mark) (v : Value) (found : Option Held) → object_at e object ≡ found →
    AssignedStays e (element_written e object at v found)
element_stays e object at v None f none = state_same e
element_stays e object at v (Some h) f none =
    state_set e e object (binds_object h) (binds_object (write h at v).after) (state_same e) (object_there (bound_at e object) h f)
    (write_stays h at v none)

value_stays : (e : State) (place : ℕ) (v : Value) (b : Bound) → bound_at e place ≡ b → AssignedStays e (value_set e place v b)
value_stays e place v binds_type f none = state_same e
value_stays e place v (binds_object h) f none = state_same e
value_stays e place v (binds_cursor mark) f none = state_same e
value_stays e place v (binds_value old) f none = state_set e e place (binds_value old) (binds_value v) (state_same e) f tt
value_stays e place v (binds_element object at) f none = element_stays e object at v (object_at e object) refl none

mark_stays : (e : State) (place : ℕ) (mark : Mark) (b : Bound) → bound_at e place ≡ b → StateStays e (mark_set e place mark b)
mark_stays e place mark binds_type f = state_same e
mark_stays e place mark (binds_object h) f = state_same e
mark_stays e place mark (binds_cursor old) f = state_set e e place (binds_cursor old) (binds_cursor mark) (state_same e) f tt
mark_stays e place mark (binds_value v) f = state_same e
mark_stays e place mark (binds_element object at) f = state_same e

assigned_stays : (e : State) (target : Option ℕ) (answer : Answer) → AssignedStays e (assigned e target answer)
assigned_stays e None answer none = state_same e
assigned_stays e (Some place) answers_ok none = state_same e
assigned_stays e (Some place) (answers_value v) none = value_stays e place v (bound_at e place) refl none
assigned_stays e (Some place) (answers_truth b) none = state_same e
assigned_stays e (Some place) (answers_place mark) none = mark_stays e place mark (bound_at e place) refl
assigned_stays e (Some place) (answers_list text) none = state_same e
assigned_stays e (Some place) (answers_raised reason) none = state_same e
assigned_stays e (Some place) answers_stalled none = state_same e

variable_to_stays : (e : State) (mark : Mark) (place : Option ℕ) → StateStays e (variable_to e mark place)
variable_to_stays e mark None = state_same e
variable_to_stays e mark (Some place) = mark_stays e place mark (bound_at e place) refl

variable_stays : (e : State) (args : List ResolvedArg) (p : Option Placed) → StateStays e (variable_set e args p)
variable_stays e args None = state_same e
variable_stays e args (Some p) = variable_to_stays e p.mark (place_in (slice_get args p.place))

unless_stays : (e : State) (answer : Answer) (a : Assigned) (reason : Option Reason) → a.reason ≡ reason → AssignedStays e a →
    StateStays e (unless_refused e answer a).after
unless_stays e answer a None r h = rw r (h r)
unless_stays e answer a (Some reason) r h = rw r (state_same e)

-- the same, where the answer is assigned after something else
then_unless_stays : (e now : State) (answer : Answer) (a : Assigned) → StateStays e now → AssignedStays now a →
    StateStays e (unless_refused e answer a).after
then_unless_stays e now answer a h k = unless_stays e answer a a.reason refl (λ none. state_then e now a.after h (k none))

-- Calls

-- a reply of a held object: what stays of it, and of its source
pub record HeldReply (h : Held) (source : Option Held) (r : Reply Held) : Type 0 where
  pub target : r.reason ≡ None → HeldStays h r.after
  pub source_stays : r.reason ≡ None → (t : Held) → r.source ≡ Some t → (s : Held) × (source ≡ Some s) × HeldStays s t

itself_or : {V : Type 0} (s : Object ℕ V) (seen : Arguments) (b : Bool) (reason : Option Reason) (after : Option (Object ℕ V)) →
    SourceStays (if b then itself else another s seen) reason after → (t : Object ℕ V) → after ≡ Some t → Stays s reason t
itself_or s seen true reason after h t f = none_some t (sym h ∙ f)
itself_or s seen false reason None h t f = none_some t f
itself_or s seen false reason (Some u) h t f = let p : u ≡ t = cc in subst (λ x. Stays s reason x) p h

another_stays : {V : Type 0} (see : Object ℕ V → Mark → Mark) (o : Object ℕ V) (found : Option (Object ℕ V)) (args : Arguments) (reason : Option Reason)
    (after : Option (Object ℕ V)) → SourceStays (source_in see o found args) reason after → (t : Object ℕ V) → after ≡ Some t →
    (s : Object ℕ V) × (found ≡ Some s) × Stays s reason t
another_stays see o None args reason after h t f = none_some t (sym h ∙ f)
another_stays see o (Some s) args reason after h t f =
    (s, refl, itself_or s (arguments_seen (see s) args) (o.number == s.number) reason after h t f)

-- what is held in this way
pub mapped : {S R : Type 0} (f : S → R) (found : Option S) (t : R) → option_map f found ≡ Some t → (s : S) × (found ≡ Some s) × (f s ≡ t)
mapped f None t e = none_some t e
mapped f (Some s) t e = let p : f s ≡ t = cc in (s, refl, p)

-- an object of a kind is what is held there
pub rows_found : (kind : RowKind) (found : Option Held) (s : Object ℕ (RowOf kind)) → rows_in kind found ≡ Some s → found ≡ Some (of_rows kind s)
rows_found kind None s f = none_some s f
rows_found kind (Some (of_holder e h)) s f = none_some s f
rows_found kind (Some (of_queue number q)) s f = none_some s f
rows_found kind (Some (of_rows other o)) s f = go (same_kind other kind) f
  where
    go : (p : Option (other ≡ kind)) → option_map (λ (q : other ≡ kind). coe 0 1 (i. Object ℕ (RowOf (q i))) o) p ≡ Some s →
        Some (of_rows other o) ≡ Some (of_rows kind s)
    go None f = none_some s f
    go (Some p) f =
        ap Some ((λ i. of_rows (p i) (coe 0 i (j. Object ℕ (RowOf (p j))) o)) ∙ ap (of_rows kind) (same_Some _ s f))

-- and so is a holder
pub holder_found : (e : ElemKind) (found : Option Held) (s : Holder (ElementOf e)) → holder_in e found ≡ Some s → found ≡ Some (of_holder e s)
holder_found e None s f = none_some s f
holder_found e (Some (of_rows kind o)) s f = none_some s f
holder_found e (Some (of_queue number q)) s f = none_some s f
holder_found e (Some (of_holder other h)) s f = go (same_element other e) f
  where
    go : (p : Option (other ≡ e)) → option_map (λ (q : other ≡ e). coe 0 1 (i. Holder (ElementOf (q i))) h) p ≡ Some s →
        Some (of_holder other h) ≡ Some (of_holder e s)
    go None f = none_some s f
    go (Some p) f =
        ap Some ((λ i. of_holder (p i) (coe 0 i (j. Holder (ElementOf (p j))) h)) ∙ ap (of_holder e) (same_Some _ s f))

pub rows_stay : (kind : RowKind) (o : Object ℕ (RowOf kind)) (source : Source (Object ℕ (RowOf kind))) (args : Arguments) (op : Operation) →
    ReplyStays o source (rows_reply kind o source args op)
rows_stay (a_sequence which e) o source args op = replies_stay which (tools_of e) o source args op
rows_stay (a_map which k e) o source args op = map_stays (tools_of k) (tools_of e) o source args which op
rows_stay (a_set which e) o source args op = set_stays (tools_of e) o source args which op
rows_stay (a_keyed_set which) o source args op = keyed_set_stays o source args which op
rows_stay (a_tree e) o source args op = tree_stays (tools_of e) o source args op

pub held_reply : (h : Held) (source : Option Held) (operation : Operation) (args : Arguments) →
    HeldReply h source (reply_of h source operation args)
held_reply (of_rows kind o) source operation args =
    let found = rows_in kind source in
    let stays = rows_stay kind o (source_in (seen_in kind) o found args) (arguments_seen (seen_in kind o) args) operation in
    record {
      target = λ none. (_, refl, passed o _ _ none stays.target);
      source_stays = λ none k f.
          let m = mapped (of_rows kind) _ k f in
          let a = another_stays (seen_in kind) o found args _ _ stays.source_stays m.0 m.1 in
          (of_rows kind a.0, rows_found kind source a.0 a.1, (m.0, sym m.2, passed a.0 _ m.0 none a.2));
    }
held_reply (of_holder e h) source operation args =
    let found = holder_in e source in
    let stays = holder_stays (tools_of e) h (holder_source h found args) args operation in
    record {
      target = λ none. (_, refl, holder_passed h _ _ none stays.target);
      source_stays = λ none k f.
          let m = mapped (of_holder e) _ k f in
          let a = another_holder_stays h found args _ _ stays.source_stays m.0 m.1 in
          (of_holder e a.0, holder_found e source a.0 a.1, (m.0, sym m.2, holder_passed a.0 _ m.0 none a.2));
    }
held_reply (of_queue number q) source operation args = record {
  target = λ none. (_, refl, queue_stays q args operation);
  source_stays = λ none k f. none_some k (sym (ap (option_map (of_queue number)) (queue_alone q args operation)) ∙ f);
}

source_set_stays : (e now : State) (place : Option ℕ) (found : Option Held) → StateStays e now →
    ((t : Held) → found ≡ Some t → (s : Held) × (source_of e place ≡ Some s) × HeldStays s t) → StateStays e (source_set now place found)
source_set_stays e now None found h each = h
source_set_stays e now (Some place) None h each = h
source_set_stays e now (Some place) (Some t) h each =
    let s = each t refl in
    state_set e now place (binds_object s.0) (binds_object t) h (object_there (bound_at e place) s.0 s.1) s.2

after_call_stays : (e : State) (object : ℕ) (h : Held) (args : List ResolvedArg) (r : Reply Held) → bound_at e object ≡ binds_object h →
    r.reason ≡ None → HeldReply h (source_of e (source_place e args)) r → StateStays e (after_call e object args r)
after_call_stays e object h args r there none reply =
    let first = with_bound e object (binds_object r.after) in
    let first_stays = state_set e e object (binds_object h) (binds_object r.after) (state_same e) there (reply.target none) in
    let second = source_set first (source_place e args) r.source in
    let second_stays = source_set_stays e first (source_place e args) r.source first_stays (reply.source_stays none) in
    state_then e second (variable_set second args r.variable) second_stays (variable_stays second args r.variable)

waits_or_goes_stays : (e : State) (target : Option ℕ) (object : ℕ) (args : List ResolvedArg) (r : Reply Held) (stalls : Bool) → r.stalls ≡ stalls →
    StateStays e (after_call e object args r) → StateStays e (waits_or_goes e target object args r).after
waits_or_goes_stays e target object args r true s h = rw s (state_same e)
waits_or_goes_stays e target object args r false s h =
    let now = after_call e object args r in
    rw s (then_unless_stays e now r.answer (assigned now target r.answer) h (assigned_stays now target r.answer))

replied_stays : (e : State) (target : Option ℕ) (object : ℕ) (h : Held) (args : List ResolvedArg) (r : Reply Held) (reason : Option Reason) →
    r.reason ≡ reason → bound_at e object ≡ binds_object h → HeldReply h (source_of e (source_place e args)) r →
    StateStays e (replied e target object args r).after
replied_stays e target object h args r None f there reply =
    rw f (waits_or_goes_stays e target object args r r.stalls refl (after_call_stays e object h args r there f reply))
replied_stays e target object h args r (Some reason) f there reply = rw f (state_same e)

call_stays : (e : State) (target : Option ℕ) (object : ℕ) (operation : Operation) (args : List ResolvedArg) (found : Option Held) →
    object_at e object ≡ found → StateStays e (call_on e target object operation args found).after
call_stays e target object operation args None f = state_same e
call_stays e target object operation args (Some h) f =
    replied_stays e target object h args _ _ refl (object_there (bound_at e object) h f)
    (held_reply h (source_of e (source_place e args)) operation (arguments e args))

-- Commands

from_stays : (e : State) (target : ℕ) (answer : Answer) → StateStays e (assigned_from e target answer).after
from_stays e target answer = then_unless_stays e e answer (assigned e (Some target) answer) (state_same e) (assigned_stays e (Some target) answer)

sum_stays : (e : State) (target : ℕ) (n : ℤ) (b : Bool) → is_integer n ≡ b → StateStays e (sum_assigned e target n).after
sum_stays e target n true f = rw (f, sum_assigned) (from_stays e target (answers_integer n))
sum_stays e target n false f = rw (f, sum_assigned) (state_same e)

pub command_stays : (e : State) (simple : ResolvedSimple) → StateStays e (performed e simple).after
command_stays e (calls_at number target object operation args) = call_stays e target object operation args (object_at e object) refl
command_stays e (sets_at number target from) = from_stays e target (answer_from e from)
command_stays e (sums_at number target from minus n) = sum_stays e target (sum_of minus (integer_in (value_at e from)) n) _ refl
