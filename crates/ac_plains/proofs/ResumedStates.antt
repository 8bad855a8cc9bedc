-- What a script's outermost declarations make, and what stays of it when it gets what the entries of a state have.
use Rattle.std.proofs.Common.{◌≡◌, ◌+◌, ◌≤◌, ℕ, zero, suc, Bool, true, false, List, [], ◌∷◌, ◌++◌, map, length, slice_get, slice_set, nat_lt, All, Option, Some, None, is_some, refl, sym, ap, subst, ◌∙◌, arith, if◌then◌else◌, cond, option_map}
use Rattle.std.specs.Prelude.{pos, option_and_then, unwrap_or, find}
use Rattle.std.specs.Str.{bytes_eq}
use Rattle.std.proofs.lemmas.Bool.{false≢true, and_parts}
use Rattle.std.proofs.lemmas.List.{length_push}
use Rattle.std.proofs.lemmas.List.Elements.{All-nil, All-head, All-tail, All-push}
use Rattle.std.proofs.lemmas.Option.{none-some, same_Some}
use Rattle.ac_base.specs.Limits.{numbers_end}
use Rattle.ac_base.specs.declared.value.Value.TheVariants as value
use Rattle.ac_model.specs.Letters.{no_mark}
use Rattle.ac_syntax.specs.declared.decl.Decl.{Decl}
use Rattle.ac_syntax.specs.declared.decl.Decl.TheVariants as source
use Rattle.ac_syntax.specs.declared.kind.ElemKind.{ElemKind}
use Rattle.ac_syntax.specs.declared.kind.Kind.{Kind}
use Rattle.ac_syntax.specs.declared.kind.Kind.TheVariants as kinds
use Rattle.ac_syntax.specs.declared.script.Script.{Script}
use Rattle.ac_syntax.specs.declared.type_def.TypeDef.{TypeDef}
use Rattle.ac_rules.specs.declared.resolved.ResolvedDecl.{ResolvedDecl}
use Rattle.ac_rules.specs.declared.resolved.ResolvedDecl.TheVariants as decl
use Rattle.ac_rules.specs.Faults.{IsChecked}
use Rattle.ac_rules.specs.Kept.{DeclsKept}
use Rattle.ac_rules.specs.Resolved.{no_type, resolve_decl, resolve_decls}
use Rattle.ac_rules.specs.Rules.{is_type, is_object_of, is_decl}
use Rattle.ac_rules.specs.Scopes.{Meaning, a_type, an_object, a_cursor, a_value, a_task, Entry, entry, Scope, type_in, type_of, decl_entry, with_entry as scope_with, with_decls}
use Rattle.ac_rules.proofs.Kept.{rules_kept}
use Rattle.ac_calls.specs.Holdings.{held_at_rest, new_held}
use Rattle.ac_calls.specs.Plains.{name_of}
use Rattle.ac_calls.specs.declared.plains.Plain.{Plain}
use Rattle.ac_meaning.specs.AsDeclared.{StateGoesOn, BoundGoesOn}
use Rattle.ac_meaning.specs.Environment.{Bound, binds_type, binds_object, binds_cursor, binds_value, binds_element, bound_by, bound_in, State, first_state, at_rest, bound_at, Declared, declared, number_taken, with_name, after_decl, unless_spent, after_decls}
use Rattle.ac_meaning.specs.GuardedNames.{Frame, frame, kept}
use Rattle.ac_meaning.specs.Plains.{a_def}
use Rattle.ac_meaning.proofs.GoesOnLists.{each_same, each_set}
use Rattle.ac_meaning.proofs.NewObjects.{new_objects_are_unguarded}
use Rattle.ac_meaning.proofs.Places.{map_set, map_get}
use Rattle.ac_plains.specs.Laws.{DeclaredIsFresh, DeclaresFresh, IsResumedFrom, ResumesFrom}
use Rattle.ac_plains.specs.Resumed.{outermost, entry_place, filled_bound, with_entry, resumed, IsFresh, IsNoElement, AreFresh, HasNoElements, HasNoMore, IsMatched}
use Rattle.ac_plains.proofs.EntryPlaces.{as_found, walked, same_next, same_blocks, fresh_at, differ_of, entry_of}
use Rattle.ac_plains.proofs.FilledBounds.{bound_frame, bound_goes, bound_rest}
use Rattle.ac_snapshot.specs.Validity.{is_name, is_valid, is_valid_content}

-- Lists of declarations

-- by whether no number was left
either_way : (P : State → Type 0) (others : State → Declared) (first : Declared) (spent : Option ℕ) → first.spent ≡ spent → P first.after →
    P (others first.after).after → P (unless_spent others first).after
either_way P others first None f here rest = rw f rest
either_way P others first (Some line) f here rest = rw f here

abbrev object_declared : ℕ → TypeDef → Option ℕ → State → Bool → Declared
object_declared line def capacity e left =
    if left then declared (number_taken (with_name e (binds_object (new_held def e.next capacity)))) else record { after = e; spent = Some line }

module _ (P : Bound → Type 0) where
  -- what the declaration makes
  abbrev Makes : ResolvedDecl → Type 0
  Makes decl.TypeDecl = P binds_type
  Makes (decl.Object line def capacity) = (number : ℕ) → P (binds_object (new_held def number capacity))
  Makes decl.Cursor = P (binds_cursor no_mark)
  Makes decl.Integer = P (binds_value (value.Int (pos 0)))
  Makes decl.Text = P (binds_value (value.Text []))

  abbrev EachMakes : List ResolvedDecl → Type 0
  EachMakes [] = Unit {0}
  EachMakes (d ∷ ds) = Makes d × EachMakes ds

  object_made : (line : ℕ) (def : TypeDef) (capacity : Option ℕ) (e : State) (left : Bool) → ((number : ℕ) → P (binds_object (new_held def number capacity))) →
      All P e.bounds → All P (object_declared line def capacity e left).after.bounds
  object_made line def capacity e true makes all = All-push P e.bounds (binds_object (new_held def e.next capacity)) all (makes e.next)
  object_made line def capacity e false makes all = all

  one_made : (d : ResolvedDecl) (e : State) → Makes d → All P e.bounds → All P (after_decl e d).after.bounds
  one_made decl.TypeDecl e makes all = All-push P e.bounds binds_type all makes
  one_made (decl.Object line def capacity) e makes all = object_made line def capacity e (nat_lt e.next numbers_end) makes all
  one_made decl.Cursor e makes all = All-push P e.bounds (binds_cursor no_mark) all makes
  one_made decl.Integer e makes all = All-push P e.bounds (binds_value (value.Int (pos 0))) all makes
  one_made decl.Text e makes all = All-push P e.bounds (binds_value (value.Text [])) all makes

  all_made : (ds : List ResolvedDecl) (e : State) → EachMakes ds → All P e.bounds → All P (after_decls ds e).after.bounds
  all_made [] e makes all = all
  all_made (d ∷ ds) e makes all =
      let first = after_decl e d in
      let here = one_made d e makes.0 all in
      either_way (λ s. All P s.bounds) (after_decls ds) first first.spent refl here (all_made ds first.after makes.1 here)

-- No name stands for an element

makes_no_element : (d : ResolvedDecl) → Makes IsNoElement d
makes_no_element decl.TypeDecl = tt
makes_no_element (decl.Object line def capacity) = λ number. tt
makes_no_element decl.Cursor = tt
makes_no_element decl.Integer = tt
makes_no_element decl.Text = tt

make_no_elements : (ds : List ResolvedDecl) → EachMakes IsNoElement ds
make_no_elements [] = tt
make_no_elements (d ∷ ds) = (makes_no_element d, make_no_elements ds)

-- Types in scope keep the rules

abbrev KeepsRules : Meaning → Type 0
KeepsRules m = (def : TypeDef) → type_in m ≡ Some def → is_type def ≡ true

abbrev TypesKept : Scope → Type 0
TypesKept [] = Unit {0}
TypesKept (s ∷ scope) = KeepsRules s.meaning × TypesKept scope

types_last : (scope : Scope) (added : Entry) → TypesKept scope → KeepsRules added.meaning → TypesKept (scope ++ added ∷ [])
types_last [] added h k = (k, tt)
types_last (s ∷ scope) added h k = (h.0, types_last scope added h.1 k)

type_found : (scope : Scope) (name : List ℕ) (def : TypeDef) → TypesKept scope → type_of scope name ≡ Some def → is_type def ≡ true
type_found [] name def h e = absurd (none-some def e)
type_found (s ∷ scope) name def h e = by (bytes_eq s.name name) (type_found scope name def h.1) e
  where
    by : (t : Bool) → (type_of scope name ≡ Some def → is_type def ≡ true)
        → option_and_then type_in (option_map (λ (x : Entry). x.meaning) (cond t (Some s) (find (λ (x : Entry). bytes_eq x.name name) scope))) ≡ Some def
        → is_type def ≡ true
    by true further found = h.0 def found
    by false further found = further found

object_types : (scope : Scope) (name of : List ℕ) (found : Option TypeDef) → TypesKept scope →
    TypesKept (scope_with scope (option_map (entry name) (option_map (an_object of) found)))
object_types scope name of None h = h
object_types scope name of (Some def) h = types_last scope (entry name (an_object of def)) h (λ other e. absurd (none-some other e))

types_then : (scope : Scope) (d : Decl) → TypesKept scope → is_decl scope d ≡ true → TypesKept (scope_with scope (decl_entry scope d))
types_then scope (source.TypeDecl line name def) h is =
    types_last scope (entry name (a_type def)) h (λ other e. subst (λ x. is_type x ≡ true) (same_Some def other e) is)
types_then scope (source.Object line name of capacity) h is = object_types scope name of (type_of scope of) h
types_then scope (source.CursorVar line name of) h is = types_last scope (entry name (a_cursor of true)) h (λ other e. absurd (none-some other e))
types_then scope (source.IntVar line name) h is = types_last scope _ h (λ other e. absurd (none-some other e))
types_then scope (source.TextVar line name) h is = types_last scope _ h (λ other e. absurd (none-some other e))

-- Each object was just declared

bounded_alike : (bounded : Bool) (kind : Kind) (first : ElemKind) (second : Option ElemKind) (keyed : Bool) (capacity : Option ℕ) →
    is_object_of (Some (a_def bounded kind first second keyed)) capacity ≡ true → is_some capacity ≡ bounded
bounded_alike true kind first second keyed None h = h
bounded_alike true kind first second keyed (Some most) h = refl
bounded_alike false kind first second keyed None h = refl
bounded_alike false kind first second keyed (Some most) h = sym h

object_fresh : (scope : Scope) (of : List ℕ) (capacity : Option ℕ) (number : ℕ) (found : Option TypeDef) → TypesKept scope → type_of scope of ≡ found →
    is_object_of found capacity ≡ true → IsFresh (binds_object (new_held (unwrap_or found no_type) number capacity))
object_fresh scope of capacity number None h there is = absurd (false≢true is)
object_fresh scope of capacity number (Some def) h there is = record {
  def = def;
  number = number;
  limit = capacity;
  is = refl;
  is_type = type_found scope of def h there;
  bounded = bounded_alike def.bounded def.kind def.first def.second def.keyed capacity is;
}

makes_fresh : (scope : Scope) (d : Decl) → TypesKept scope → is_decl scope d ≡ true → Makes IsFresh (resolve_decl scope d)
makes_fresh scope (source.TypeDecl line name def) h is = tt
makes_fresh scope (source.Object line name of capacity) h is = λ number. object_fresh scope of capacity number (type_of scope of) h refl is
makes_fresh scope (source.CursorVar line name of) h is = tt
makes_fresh scope (source.IntVar line name) h is = tt
makes_fresh scope (source.TextVar line name) h is = tt

make_fresh : (decls : List Decl) (scope : Scope) → TypesKept scope → DeclsKept scope decls → EachMakes IsFresh (resolve_decls scope decls)
make_fresh [] scope h kept = tt
make_fresh (d ∷ decls) scope h kept =
    (makes_fresh scope d h kept.first.typed, make_fresh decls (scope_with scope (decl_entry scope d)) (types_then scope d h kept.first.typed) kept.rest)

-- There are no more names than the outermost ones

module _ (scope : Scope) where
  longer_by : (added : Option Entry) → length scope ≤ length (scope_with scope added)
  longer_by None = omega arith
  longer_by (Some s) = omega (arith, length_push scope s)

  one_longer : (s : Entry) → length scope + 1 ≤ length (scope ++ s ∷ [])
  one_longer s = omega (arith, length_push scope s)

  object_longer : (name of : List ℕ) (capacity : Option ℕ) (found : Option TypeDef) → is_object_of found capacity ≡ true →
      length scope + 1 ≤ length (scope_with scope (option_map (entry name) (option_map (an_object of) found)))
  object_longer name of capacity None is = absurd (false≢true is)
  object_longer name of capacity (Some def) is = one_longer (entry name (an_object of def))

  longer : (d : Decl) → is_decl scope d ≡ true → length scope + 1 ≤ length (scope_with scope (decl_entry scope d))
  longer (source.TypeDecl line name def) is = one_longer (entry name (a_type def))
  longer (source.Object line name of capacity) is = object_longer name of capacity (type_of scope of) is
  longer (source.CursorVar line name of) is = one_longer (entry name (a_cursor of true))
  longer (source.IntVar line name) is = one_longer _
  longer (source.TextVar line name) is = one_longer _

all_longer : (decls : List Decl) (scope : Scope) → length scope ≤ length (with_decls scope decls)
all_longer [] scope = omega arith
all_longer (d ∷ decls) scope =
    let next = scope_with scope (decl_entry scope d) in
    omega (arith, longer_by scope (decl_entry scope d), all_longer decls next)

object_more : (line : ℕ) (def : TypeDef) (capacity : Option ℕ) (e : State) (left : Bool) →
    length (object_declared line def capacity e left).after.bounds ≤ length e.bounds + 1
object_more line def capacity e true = omega (arith, length_push e.bounds (binds_object (new_held def e.next capacity)))
object_more line def capacity e false = omega arith

one_more : (d : ResolvedDecl) (e : State) → length (after_decl e d).after.bounds ≤ length e.bounds + 1
one_more decl.TypeDecl e = omega (arith, length_push e.bounds binds_type)
one_more (decl.Object line def capacity) e = object_more line def capacity e (nat_lt e.next numbers_end)
one_more decl.Cursor e = omega (arith, length_push e.bounds (binds_cursor no_mark))
one_more decl.Integer e = omega (arith, length_push e.bounds (binds_value (value.Int (pos 0))))
one_more decl.Text e = omega (arith, length_push e.bounds (binds_value (value.Text [])))

make_few : (decls : List Decl) (scope : Scope) (e : State) → DeclsKept scope decls → length e.bounds ≤ length scope →
    length (after_decls (resolve_decls scope decls) e).after.bounds ≤ length (with_decls scope decls)
make_few [] scope e kept few = few
make_few (d ∷ decls) scope e kept few =
    let next = scope_with scope (decl_entry scope d) in
    let first = after_decl e (resolve_decl scope d) in
    let all = length (with_decls next decls) in
    let here : length first.after.bounds ≤ length next = omega (arith, few, one_more (resolve_decl scope d) e, longer scope d kept.first.typed) in
    either_way (λ s. length s.bounds ≤ all) (after_decls (resolve_decls next decls)) first first.spent refl
    (omega (arith, here, all_longer decls next)) (make_few decls next first.after kept.rest here)

pub declares_fresh : DeclaresFresh
declares_fresh script checked =
    let kept = (rules_kept script checked).decls in
    let decls = resolve_decls [] script.decls in
    record {
      fresh = all_made IsFresh decls first_state (make_fresh script.decls [] tt kept) (All-nil IsFresh);
      no_elements = all_made IsNoElement decls first_state (make_no_elements decls) (All-nil IsNoElement);
      no_more = make_few script.decls [] first_state kept (omega arith);
    }

-- At rest

new_rest_by : (bounded : Bool) (kind : Kind) (first : ElemKind) (second : Option ElemKind) (keyed : Bool) (number : ℕ) (limit : Option ℕ) →
    let h = new_held (a_def bounded kind first second keyed) number limit in held_at_rest h ≡ h
new_rest_by bounded kinds.Vector first second keyed number limit = refl
new_rest_by bounded kinds.List first second keyed number limit = refl
new_rest_by bounded kinds.HashedMap first second keyed number limit = refl
new_rest_by bounded kinds.OrderedMap first second keyed number limit = refl
new_rest_by bounded kinds.HashedSet first second keyed number limit = refl
new_rest_by bounded kinds.OrderedSet first second keyed number limit = refl
new_rest_by bounded kinds.Tree first second keyed number limit = refl
new_rest_by bounded kinds.Holder first second keyed number limit = refl
new_rest_by bounded kinds.Queue first second keyed number limit = refl
new_rest_by bounded kinds.PriorityQueue first second keyed number limit = refl

fresh_rest : (b : Bound) → IsFresh b → bound_by held_at_rest b ≡ b
fresh_rest binds_type fresh = refl
fresh_rest (binds_object h) fresh =
    let def = fresh.def in
    let new = new_rest_by def.bounded def.kind def.first def.second def.keyed fresh.number fresh.limit in
    ap binds_object (ap held_at_rest fresh.is ∙ (new ∙ sym fresh.is))
fresh_rest (binds_cursor mark) fresh = refl
fresh_rest (binds_value v) fresh = refl
fresh_rest (binds_element object at) fresh = refl

all_rest : (bs : List Bound) → All IsFresh bs → map (bound_by held_at_rest) bs ≡ bs
all_rest [] fresh = refl
all_rest (b ∷ bs) fresh = λ i. fresh_rest b (All-head IsFresh b bs fresh) i ∷ all_rest bs (All-tail IsFresh b bs fresh) i

at_found : (found : Option Bound) → bound_by held_at_rest (bound_in found) ≡ bound_in (option_map (bound_by held_at_rest) found)
at_found None = refl
at_found (Some b) = refl

rest_then : (script : Script) (e : State) (x : Plain) → at_rest e ≡ e → at_rest (with_entry script e x) ≡ with_entry script e x
rest_then script e x rest =
    let place = entry_place script x in
    let b = bound_at e place in
    let here : bound_by held_at_rest b ≡ b =
    at_found (slice_get e.bounds place)
    ∙ (ap bound_in (sym (map_get (bound_by held_at_rest) e.bounds place)) ∙ ap (λ (s : State). bound_at s place) rest) in
    let put : bound_by held_at_rest (filled_bound x b) ≡ filled_bound x b = bound_rest x b ∙ ap (filled_bound x) here in
    let all : map (bound_by held_at_rest) (slice_set e.bounds place (filled_bound x b)) ≡ slice_set e.bounds place (filled_bound x b) =
    map_set (bound_by held_at_rest) e.bounds place (filled_bound x b) ∙ (λ i. slice_set (rest i).bounds place (put i)) in
    λ i. record e { bounds = all i }

resumed_rest : (script : Script) (s : List Plain) (e : State) → at_rest e ≡ e → at_rest (resumed script e s) ≡ resumed script e s
resumed_rest script [] e rest = rest
resumed_rest script (x ∷ s) e rest = resumed_rest script s (with_entry script e x) (rest_then script e x rest)

-- What is kept of each name

frame_set : (bs : List Bound) (place : ℕ) (b : Bound) → frame [] b ≡ frame [] (bound_in (slice_get bs place)) → map (frame []) (slice_set bs place b) ≡ map (frame []) bs
frame_set [] place b h = refl
frame_set (x ∷ bs) zero b h = λ i. h i ∷ map (frame []) bs
frame_set (x ∷ bs) (suc place) b h = λ i. frame [] x ∷ frame_set bs place b h i

among : {A : Type 0} (P : A → Type 0) (ys : List A) (z : A) (zs : List A) → All P (ys ++ z ∷ zs) → P z
among P [] z zs h = All-head P z zs h
among P (y ∷ ys) z zs h = among P ys z zs (All-tail P y (ys ++ z ∷ zs) h)

module _ (script : Script) (e : State) (s : List Plain) (fresh : AreFresh e) (few : HasNoMore script e) (valid : is_valid s ≡ true) (matched : All (IsMatched script e) s) where
  matched_in : (before : List Plain) (x : Plain) (later : List Plain) → s ≡ before ++ x ∷ later → IsMatched script e x
  matched_in before x later is = among (IsMatched script e) before x later (subst (All (IsMatched script e)) is matched)

  kept_then : (before : List Plain) (x : Plain) (later : List Plain) → s ≡ before ++ x ∷ later → kept [] (resumed script e before) ≡ kept [] e →
      kept [] (with_entry script (resumed script e before) x) ≡ kept [] e
  kept_then before x later is same =
      let now = resumed script e before in
      let place = entry_place script x in
      let found = as_found script e s before x later few (differ_of s valid) is in
      frame_set now.bounds place (filled_bound x (bound_at now place))
      (subst (λ b. frame [] (filled_bound x b) ≡ frame [] b) (sym found) (bound_frame x (bound_at e place) (matched_in before x later is)))
      ∙ same

  goes_then : (before : List Plain) (x : Plain) (later : List Plain) → s ≡ before ++ x ∷ later → StateGoesOn e (resumed script e before) →
      StateGoesOn e (with_entry script (resumed script e before) x)
  goes_then before x later is goes =
      let now = resumed script e before in
      let place = entry_place script x in
      let found = as_found script e s before x later few (differ_of s valid) is in
      let content = (and_parts (is_name (name_of x)) (is_valid_content x) (entry_of s before x later valid is)).1 in
      each_set e.bounds now.bounds place (filled_bound x (bound_at now place)) goes
      (subst (λ b. BoundGoesOn (bound_at e place) (filled_bound x b)) (sym found)
      (bound_goes x (bound_at e place) content (fresh_at e place fresh) (matched_in before x later is)))

  resumed_from : IsResumedFrom e (resumed script e s)
  resumed_from = record {
    rest = resumed_rest script s e (λ i. record e { bounds = all_rest e.bounds fresh i });
    kept = walked script (λ now. kept [] now ≡ kept [] e) e s s [] refl kept_then refl;
    next = same_next script s e;
    blocks = same_blocks script s e;
    goes_on = walked script (λ now. StateGoesOn e now) e s s [] refl goes_then (each_same e.bounds);
  }

pub resumes_from : ResumesFrom
resumes_from script e s fresh few valid matched = resumed_from script e s fresh few valid matched
