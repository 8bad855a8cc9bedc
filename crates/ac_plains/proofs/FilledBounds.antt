-- What an entry makes of what a name holds.
use Rattle.std.proofs.Common.{◌≡◌, ℕ, Bool, true, false, not, ◌&&◌, List, [], Option, Some, None, is_some, IfSome, refl, sym, ap, subst, ◌∙◌, inl, inr}
use Rattle.std.proofs.lemmas.Bool.{false≢true, and_parts}
use Rattle.ac_base.specs.declared.limit.Limit.TheVariants.{Unbounded}
use Rattle.ac_model.specs.Capacities.{IsStep}
use Rattle.ac_syntax.specs.declared.kind.ElemKind.{ElemKind}
use Rattle.ac_syntax.specs.declared.kind.Kind.{Kind}
use Rattle.ac_syntax.specs.declared.kind.Kind.TheVariants as kinds
use Rattle.ac_syntax.specs.declared.type_def.TypeDef.{TypeDef}
use Rattle.ac_syntax.specs.Kinds.{has_capacity}
use Rattle.ac_rules.specs.Rules.{is_type}
use Rattle.ac_calls.specs.Holdings.{Held, of_rows, of_holder, of_queue, holds_element, held_at_rest, limit_by, new_held}
use Rattle.ac_calls.specs.declared.plains.Plain.{Plain}
use Rattle.ac_calls.specs.declared.plains.Plain.TheVariants as plain
use Rattle.ac_calls.specs.declared.plains.PlainRow.{PlainRow}
use Rattle.ac_meaning.specs.AsDeclared.{limit_of, capacity_of, HeldGoesOn, BoundGoesOn}
use Rattle.ac_meaning.specs.Environment.{Bound, binds_type, binds_object, binds_cursor, binds_value, binds_element, bound_by}
use Rattle.ac_meaning.specs.GuardedNames.{of_object, frame}
use Rattle.ac_meaning.specs.Plains.{a_def, def_of, limit_number}
use Rattle.ac_meaning.proofs.TypesTold.{type_told}
use Rattle.ac_plains.specs.Resumed.{filled_bound, IsFresh, IsDeclared, IsNoElement, IsObjectAs, Matches}
use Rattle.ac_snapshot.specs.Filled.{filled}
use Rattle.ac_snapshot.specs.RowValidity.{is_given}
use Rattle.ac_snapshot.specs.Validity.{is_step, is_limit_of, is_capacity_of, is_peak_of, is_valid_object, is_valid_content}
use Rattle.ac_snapshot.proofs.Decided.{step_decided}

-- No name stands for an element

pub no_element : (entry : Plain) (b : Bound) → IsNoElement b → IsNoElement (filled_bound entry b)
no_element (plain.Int name z) b h = tt
no_element (plain.Str name bytes) b h = tt
no_element (plain.Object name def limit capacity peak rows) binds_type h = tt
no_element (plain.Object name def limit capacity peak rows) (binds_object x) h = tt
no_element (plain.Object name def limit capacity peak rows) (binds_cursor mark) h = tt
no_element (plain.Object name def limit capacity peak rows) (binds_value v) h = tt
no_element (plain.Object name def limit capacity peak rows) (binds_element object at) h = absurd h

-- At rest

held_rest : (h : Held) (capacity peak : Option ℕ) (rows : List PlainRow) → held_at_rest (filled h capacity peak rows) ≡ filled (held_at_rest h) capacity peak rows
held_rest (of_rows kind o) capacity peak rows = refl
held_rest (of_holder e h) capacity peak rows = refl
held_rest (of_queue number q) capacity peak rows = refl

pub bound_rest : (entry : Plain) (b : Bound) → bound_by held_at_rest (filled_bound entry b) ≡ filled_bound entry (bound_by held_at_rest b)
bound_rest (plain.Int name z) b = refl
bound_rest (plain.Str name bytes) b = refl
bound_rest (plain.Object name def limit capacity peak rows) binds_type = refl
bound_rest (plain.Object name def limit capacity peak rows) (binds_object h) = ap binds_object (held_rest h capacity peak rows)
bound_rest (plain.Object name def limit capacity peak rows) (binds_cursor mark) = refl
bound_rest (plain.Object name def limit capacity peak rows) (binds_value v) = refl
bound_rest (plain.Object name def limit capacity peak rows) (binds_element object at) = refl

-- What is kept while no guard is held

and_false : (a b : Bool) → (a && false) ≡ (b && false)
and_false true true = refl
and_false true false = refl
and_false false true = refl
and_false false false = refl

held_frame : (h : Held) (capacity peak : Option ℕ) (rows : List PlainRow) → frame [] (binds_object (filled h capacity peak rows)) ≡ frame [] (binds_object h)
held_frame (of_rows kind o) capacity peak rows = refl
held_frame (of_holder e h) capacity peak rows =
    ap (of_object h.number false []) (and_false (holds_element (filled (of_holder e h) capacity peak rows)) (holds_element (of_holder e h)))
held_frame (of_queue number q) capacity peak rows = refl

pub bound_frame : (entry : Plain) (b : Bound) → Matches entry b → frame [] (filled_bound entry b) ≡ frame [] b
bound_frame (plain.Int name z) b m = sym (ap (frame []) m.1)
bound_frame (plain.Str name bytes) b m = sym (ap (frame []) m.1)
bound_frame (plain.Object name def limit capacity peak rows) b m =
    subst (λ x. frame [] (filled_bound (plain.Object name def limit capacity peak rows) x) ≡ frame [] x) (sym m.there) (held_frame m.held capacity peak rows)

-- The type and the limit of an object that was just declared

number_by : (limit : Option ℕ) → limit_number (limit_by limit) ≡ limit
number_by None = refl
number_by (Some most) = refl

limit_by_kind : (bounded : Bool) (kind : Kind) (first : ElemKind) (second : Option ElemKind) (keyed : Bool) (number : ℕ) (limit : Option ℕ) →
    limit_of (new_held (a_def bounded kind first second keyed) number limit) ≡ limit_by limit
limit_by_kind bounded kinds.Vector first second keyed number limit = refl
limit_by_kind bounded kinds.List first second keyed number limit = refl
limit_by_kind bounded kinds.HashedMap first second keyed number limit = refl
limit_by_kind bounded kinds.OrderedMap first second keyed number limit = refl
limit_by_kind bounded kinds.HashedSet first second keyed number limit = refl
limit_by_kind bounded kinds.OrderedSet first second keyed number limit = refl
limit_by_kind bounded kinds.Tree first second keyed number limit = refl
limit_by_kind bounded kinds.Holder first second keyed number limit = refl
limit_by_kind bounded kinds.Queue first second keyed number limit = refl
limit_by_kind bounded kinds.PriorityQueue first second keyed number limit = refl

new_limit : (def : TypeDef) (number : ℕ) (limit : Option ℕ) → limit_of (new_held def number limit) ≡ limit_by limit
new_limit def number limit = limit_by_kind def.bounded def.kind def.first def.second def.keyed number limit

-- what stands there was declared with the entry's type and its limit
pub as_declared : (def : TypeDef) (limit : Option ℕ) (b : Bound) → IsFresh b → (is : IsObjectAs def limit b) → (number : ℕ) × (is.held ≡ new_held def number limit)
as_declared def limit b fresh is =
    let declared : IsDeclared is.held = subst IsFresh is.there fresh in
    let type : declared.def ≡ def =
    sym (type_told declared.def declared.number declared.limit declared.is_type declared.bounded) ∙ (sym (ap def_of declared.is) ∙ is.of_type) in
    let most : declared.limit ≡ limit =
    sym (number_by declared.limit)
    ∙ (ap limit_number (sym (new_limit declared.def declared.number declared.limit) ∙ sym (ap limit_of declared.is)) ∙ is.within) in
    (declared.number, declared.is ∙ (λ i. new_held (type i) declared.number (most i)))

-- It goes on as it was declared

-- a Capacity is given to an unbounded object that has one, and is a step
record IsGivenTo (h : Held) (capacity : ℕ) : Type 0 where
  unbounded : limit_of h ≡ Unbounded
  has : is_some (capacity_of h) ≡ true
  step : IsStep capacity

held_goes : (h : Held) (capacity peak : Option ℕ) (rows : List PlainRow) → IfSome capacity (IsGivenTo h) → HeldGoesOn h (filled h capacity peak rows)
held_goes (of_rows kind o) None peak rows given = record { shape = refl; limit = refl; capacity = inl refl }
held_goes (of_rows kind o) (Some c) peak rows given =
    record { shape = refl; limit = refl; capacity = inr (record { unbounded = given.unbounded; had = given.has; step = c; is = refl; is_step = given.step }) }
held_goes (of_holder e h) capacity peak rows given = record { shape = refl; limit = refl; capacity = inl refl }
held_goes (of_queue number q) capacity peak rows given = record { shape = refl; limit = refl; capacity = inl refl }

capacity_by_kind : (bounded : Bool) (kind : Kind) (first : ElemKind) (second : Option ElemKind) (keyed : Bool) (number : ℕ) → has_capacity kind ≡ true →
    is_some (capacity_of (new_held (a_def bounded kind first second keyed) number None)) ≡ true
capacity_by_kind bounded kinds.Vector first second keyed number h = refl
capacity_by_kind bounded kinds.List first second keyed number h = absurd (false≢true h)
capacity_by_kind bounded kinds.HashedMap first second keyed number h = refl
capacity_by_kind bounded kinds.OrderedMap first second keyed number h = absurd (false≢true h)
capacity_by_kind bounded kinds.HashedSet first second true number h = refl
capacity_by_kind bounded kinds.HashedSet first second false number h = refl
capacity_by_kind bounded kinds.OrderedSet first second keyed number h = absurd (false≢true h)
capacity_by_kind bounded kinds.Tree first second keyed number h = absurd (false≢true h)
capacity_by_kind bounded kinds.Holder first second keyed number h = absurd (false≢true h)
capacity_by_kind bounded kinds.Queue first second keyed number h = absurd (false≢true h)
capacity_by_kind bounded kinds.PriorityQueue first second keyed number h = absurd (false≢true h)

not_true : (b : Bool) → not b ≡ true → b ≡ false
not_true false h = refl
not_true true h = absurd (false≢true h)

no_limit : (bounded : Bool) (test : ℕ → Bool) (limit : Option ℕ) → bounded ≡ false → is_given bounded test limit ≡ true → limit ≡ None
no_limit bounded test None free h = refl
no_limit bounded test (Some most) free h = absurd (false≢true (sym free ∙ (and_parts bounded (test most) h).0))

given_to : (def : TypeDef) (number : ℕ) (limit : Option ℕ) (rows : List PlainRow) (c : ℕ) → is_limit_of def limit ≡ true → is_capacity_of def rows (Some c) ≡ true →
    IsGivenTo (new_held def number limit) c
given_to def number limit rows c within given =
    let parts = and_parts (not def.bounded && has_capacity def.kind) _ given in
    let wanted = and_parts (not def.bounded) (has_capacity def.kind) parts.0 in
    let none : limit ≡ None = no_limit def.bounded _ limit (not_true def.bounded wanted.0) within in
    record {
      unbounded = new_limit def number limit ∙ ap limit_by none;
      has = ap (λ l. is_some (capacity_of (new_held def number l))) none
          ∙ capacity_by_kind def.bounded def.kind def.first def.second def.keyed number wanted.1;
      step = (step_decided c).0 (and_parts (is_step c) _ parts.1).0;
    }

given_if : (def : TypeDef) (number : ℕ) (limit capacity peak : Option ℕ) (rows : List PlainRow) → is_valid_object def limit capacity peak rows ≡ true →
    IfSome capacity (IsGivenTo (new_held def number limit))
given_if def number limit None peak rows valid = tt
given_if def number limit (Some c) peak rows valid =
    let typed = and_parts (is_type def) _ valid in
    let limited = and_parts (is_limit_of def limit) _ typed.1 in
    given_to def number limit rows c limited.0 (and_parts (is_capacity_of def rows (Some c)) _ limited.1).0

pub bound_goes : (entry : Plain) (b : Bound) → is_valid_content entry ≡ true → IsFresh b → Matches entry b → BoundGoesOn b (filled_bound entry b)
bound_goes (plain.Int name z) b valid fresh m = subst (λ x. BoundGoesOn x (filled_bound (plain.Int name z) x)) (sym m.1) tt
bound_goes (plain.Str name bytes) b valid fresh m = subst (λ x. BoundGoesOn x (filled_bound (plain.Str name bytes) x)) (sym m.1) tt
bound_goes (plain.Object name def limit capacity peak rows) b valid fresh m =
    let declared = as_declared def limit b fresh m in
    subst (λ x. BoundGoesOn x (filled_bound (plain.Object name def limit capacity peak rows) x)) (sym (m.there ∙ ap binds_object declared.1))
    (held_goes (new_held def declared.0 limit) capacity peak rows (given_if def declared.0 limit capacity peak rows valid))
