-- What a command that keeps the rules takes as a value is one of the type that it asks, and what it assigns is of its target's type.
use Rattle.std.proofs.Common.{◌≡◌, ℕ, Bool, true, List, map, refl, sym, ap, subst, ◌∙◌, option_map, Option, Some, None}
use Rattle.std.specs.Prelude.{unwrap_or}
use Rattle.std.proofs.lemmas.Option.{same_Some}
use Rattle.ac_base.specs.declared.value.Value.{Value}
use Rattle.ac_base.specs.declared.value.Value.TheVariants as value
use Rattle.ac_syntax.specs.Code.{Simple, call_at, set_at, sum_at}
use Rattle.ac_syntax.specs.declared.arg.Arg.{Arg}
use Rattle.ac_syntax.specs.declared.arg.Arg.TheVariants.{Lit, NoElement, Var}
use Rattle.ac_syntax.specs.declared.kind.ElemKind.{ElemKind}
use Rattle.ac_syntax.specs.declared.kind.ElemKind.TheVariants.{Integer, Str}
use Rattle.ac_rules.specs.declared.rows.Answer.{Answer as Told}
use Rattle.ac_rules.specs.declared.rows.Answer.TheVariants as told
use Rattle.ac_rules.specs.Kept.{CommandKept}
use Rattle.ac_rules.specs.Operations.{operation_of}
use Rattle.ac_rules.specs.Resolved.{place_of, resolve_arg, resolve_operation, resolve_simple, no_operation}
use Rattle.ac_rules.specs.Rules.{Given, gives_value, given_in, given, is_elem, is_value, takes, takes_answer, answered, kind_of}
use Rattle.ac_rules.specs.Scopes.{Meaning, a_type, an_object, a_cursor, a_value, a_task, Scope, Typed, meaning_in, object_of, element_of}
use Rattle.ac_rules.specs.Table.{Row}
use Rattle.ac_rules.proofs.Apart.{neither, and_parts}
use Rattle.ac_rules.proofs.Found.{finds_row, call_kept}
use Rattle.ac_calls.specs.Answers.{Answer, answers_value}
use Rattle.ac_calls.specs.Elements.{integer_in}
use Rattle.ac_calls.specs.Holdings.{Guards, reply_of}
use Rattle.ac_meaning.specs.Commands.{source_place, source_of, arguments, answer_in, answer_from, sum_of, performed}
use Rattle.ac_meaning.specs.Environment.{Bound, binds_type, binds_object, binds_cursor, binds_value, binds_element, State, bound_at, object_at, value_in, value_at}
use Rattle.ac_meaning.specs.HoldsTypes.{shape_of, shape_of_type, Holds}
use Rattle.ac_meaning.specs.ValueTypes.{IsOf, HoldsValue, IsAnswer, HoldsValues}
use Rattle.ac_meaning.proofs.AnswersTold.{answers_are_told}
use Rattle.ac_meaning.proofs.CallsStay.{none_some}
use Rattle.ac_meaning.proofs.CommandKinds.{Goes, Assignable, call_goes, from_goes, sum_goes}
use Rattle.ac_meaning.proofs.HoldsLists.{types_found}
use Rattle.ac_meaning.proofs.StandingElements.{value_is}
use Rattle.ac_meaning.proofs.ValueLists.{kind_in, value_found}

pub elem_same : (wanted found : ElemKind) → is_elem wanted found ≡ true → found ≡ wanted
elem_same Integer Integer h = refl
elem_same Str Str h = refl
elem_same Integer Str h = neither h
elem_same Str Integer h = neither h

-- what is given as a value is a name of one
pub named_value : (wanted : ElemKind) (o : Option Meaning) → is_value wanted (given_in o) ≡ true → (w : Bool) × (o ≡ Some (a_value wanted w))
named_value wanted None h = neither h
named_value wanted (Some (a_type d)) h = neither h
named_value wanted (Some (an_object t d)) h = neither h
named_value wanted (Some (a_cursor t v)) h = neither h
named_value wanted (Some (a_value elem w)) h = (w, ap (λ k. Some (a_value k w)) (elem_same wanted elem h))
named_value wanted (Some a_task) h = neither h

-- what a target takes is of the type of the value that it holds
target_takes : (scope : Scope) (m : Meaning) (b : Bound) (k : ElemKind) (found : Given) → Holds scope m b → HoldsValue m b → kind_in b ≡ Some k →
    takes (Some m) found ≡ true → is_value k found ≡ true
target_takes scope (a_value elem w) (binds_value v) k found holds is has h =
    subst (λ x. is_value x found ≡ true) (sym is ∙ same_Some (kind_of v) k has) (and_parts w (is_value elem found) h).1
target_takes scope (a_value elem w) (binds_element p m) k found holds is has h = none_some k has
target_takes scope (a_value elem w) _ k found holds is has h = absurd holds
target_takes scope (a_cursor t v) (binds_cursor x) k found holds is has h = none_some k has
target_takes scope (a_cursor t v) _ k found holds is has h = absurd holds
target_takes scope (a_type d) b k found holds is has h = neither h
target_takes scope (an_object t d) b k found holds is has h = neither h
target_takes scope a_task b k found holds is has h = neither h

module _ (scope : Scope) (guards : Guards) (e : State) (holds : HoldsValues scope guards e) where
  -- a name of a value
  pub named_is : (name : List ℕ) (element : ElemKind) (w : Bool) → meaning_in scope name ≡ Some (a_value element w) →
      IsOf element (value_at e (place_of scope name))
  named_is name element w meant =
      value_is scope guards e element w (bound_at e (place_of scope name)) holds.types
      (types_found.names scope e name (a_value element w) holds.types meant) (value_found scope e.bounds name (a_value element w) holds.variables meant)
      (λ object at is. holds.elements (place_of scope name) object at is)

  target_by : (name : List ℕ) (o : Option Meaning) (k : ElemKind) (found : Given) → meaning_in scope name ≡ o →
      kind_in (bound_at e (place_of scope name)) ≡ Some k → takes o found ≡ true → is_value k found ≡ true
  target_by name None k found meant has h = neither h
  target_by name (Some m) k found meant has h =
      target_takes scope m (bound_at e (place_of scope name)) k found (types_found.names scope e name m holds.types meant)
      (value_found scope e.bounds name m holds.variables meant) has h

  pub target_is : (name : List ℕ) (k : ElemKind) (found : Given) → kind_in (bound_at e (place_of scope name)) ≡ Some k →
      takes (meaning_in scope name) found ≡ true → is_value k found ≡ true
  target_is name k found has h = target_by name (meaning_in scope name) k found refl has h

  -- Calls

  answered_is : (typed : Typed) (says : Told) (k : ElemKind) (v : Value) → is_value k (answered typed says) ≡ true →
      IsAnswer typed.def.first (element_of typed.def) says (answers_value v) → kind_of v ≡ k
  answered_is typed told.Done k v h is = neither h
  answered_is typed told.Integer k v h is = is ∙ elem_same k Integer h
  answered_is typed told.Truth k v h is = neither h
  answered_is typed told.Cursor k v h is = neither h
  answered_is typed told.Element k v h is = is ∙ elem_same k (element_of typed.def) h
  answered_is typed told.Key k v h is = is ∙ elem_same k typed.def.first h
  answered_is typed told.Listing k v h is = neither h

  call_assigns : (typed : Typed) (says : Told) (target : Option (List ℕ)) (answer : Answer) → takes_answer scope target (answered typed says) ≡ true →
      IsAnswer typed.def.first (element_of typed.def) says answer → Assignable e (option_map (place_of scope) target) answer
  call_assigns typed says None answer taken is place k v at has said = none_some place at
  call_assigns typed says (Some name) answer taken is place k v at has said =
      let own : kind_in (bound_at e (place_of scope name)) ≡ Some k =
      ap (λ n. kind_in (bound_at e n)) (same_Some (place_of scope name) place at) ∙ has in
      answered_is typed says k v (target_is name k (answered typed says) own taken)
      (subst (λ a. IsAnswer typed.def.first (element_of typed.def) says a) said is)

  call_kept_goes : (line : ℕ) (target : Option (List ℕ)) (object word : List ℕ) (args : List Arg) → CommandKept scope (call_at line target object word args) →
      Goes e (performed e (resolve_simple scope (call_at line target object word args))).after
  unfolding resolve_simple
  call_kept_goes line target object word args kept =
      let call = call_kept scope (object_of scope object) target word args kept.typed in
      let found = types_found.objects scope e object call.object holds.types call.is in
      let there = ((finds_row scope call.object target word args call.row).1 call.found).there in
      let means : resolve_operation scope (object_of scope object) target word args ≡ call.row.operation =
      ap (λ o. unwrap_or (operation_of scope o target word args) no_operation) call.is
      ∙ ap (λ r. unwrap_or (option_map (λ (x : Row). x.operation) r) no_operation) call.found in
      let place = place_of scope object in
      let own = map (resolve_arg scope) args in
      call_goes e (option_map (place_of scope) target) place (resolve_operation scope (object_of scope object) target word args) own
      (object_at e place) refl holds.sound
      (λ h is. subst (λ op. (reply_of h (source_of e (source_place e own)) op (arguments e own)).reason ≡ None →
      Assignable e (option_map (place_of scope) target) (reply_of h (source_of e (source_place e own)) op (arguments e own)).answer) (sym means)
      (λ none. call_assigns call.object call.row.answer target (reply_of h (source_of e (source_place e own)) call.row.operation (arguments e own)).answer
      call.taken
      ((answers_are_told call.object.def h (source_of e (source_place e own)) call.row (arguments e own) found.type
      (subst (λ x. shape_of x ≡ shape_of_type call.object.def) (same_Some found.held h (sym found.there ∙ is)) found.shape) there).answer none)))

  -- Assignments

  said : (b : Bound) (v : Value) → answer_in e b ≡ answers_value v → v ≡ value_in e b
  said binds_type v h = absurd (cc)
  said (binds_object x) v h = absurd (cc)
  said (binds_cursor mark) v h = absurd (cc)
  said (binds_value u) v h = cc
  said (binds_element p m) v h = cc

  pub from_is : (from : Arg) (k : ElemKind) (v : Value) → is_value k (given scope from) ≡ true → answer_from e (resolve_arg scope from) ≡ answers_value v →
      kind_of v ≡ k
  from_is (Lit u) k v h is = let p : u ≡ v = cc in ap kind_of (sym p) ∙ elem_same k (kind_of u) h
  from_is NoElement k v h is = absurd (cc)
  from_is (Var name) k v h is =
      let meant = named_value k (meaning_in scope name) h in
      ap kind_of (said (bound_at e (place_of scope name)) v is) ∙ named_is name k meant.0 meant.1

  pub command_goes : (simple : Simple) → CommandKept scope simple → Goes e (performed e (resolve_simple scope simple)).after
  unfolding resolve_simple
  command_goes (call_at line target object word args) kept = call_kept_goes line target object word args kept
  command_goes (set_at line target from) kept =
      from_goes e (place_of scope target) (answer_from e (resolve_arg scope from)) holds.sound
      (λ place k v at has is. from_is from k v
      (target_is target k (given scope from)
      (ap (λ n. kind_in (bound_at e n)) (same_Some (place_of scope target) place at) ∙ has) kept.typed) is)
  command_goes (sum_at line target from minus number) kept =
      sum_goes e (place_of scope target) (sum_of minus (integer_in (value_at e (place_of scope from))) number) _ refl holds.sound
      (λ place k v at has is.
      let integer : value.Int (sum_of minus (integer_in (value_at e (place_of scope from))) number) ≡ v = cc in
      ap kind_of (sym integer)
      ∙ elem_same k Integer
      (target_is target k (gives_value Integer)
      (ap (λ n. kind_in (bound_at e n)) (same_Some (place_of scope target) place at) ∙ has)
      (and_parts (takes (meaning_in scope target) (gives_value Integer)) _ kept.typed).0))
