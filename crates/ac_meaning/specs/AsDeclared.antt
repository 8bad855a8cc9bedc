-- An object stays what it was declared as: of its kind with its types of elements, within its limit, and with a Capacity that goes by steps.
use Rattle.std.specs.Prelude.{◌≡◌, ⊤, ℕ, Bool, false, List, [], ◌∷◌, Option, None, IfSome, is_some}
use Rattle.ac_base.specs.declared.limit.Limit.{Limit}
use Rattle.ac_base.specs.declared.limit.Limit.TheVariants.{Unbounded, Bounded}
use Rattle.ac_model.specs.Capacities.{IsStep}
use Rattle.ac_syntax.specs.Code.{Code}
use Rattle.ac_syntax.specs.declared.script.Script.{Script}
use Rattle.ac_syntax.specs.declared.type_def.TypeDef.{TypeDef}
use Rattle.ac_rules.specs.declared.resolved.ResolvedDecl.{ResolvedDecl}
use Rattle.ac_rules.specs.declared.resolved.ResolvedDecl.TheVariants as decl
use Rattle.ac_rules.specs.Resolved.{ResolvedCode, ResolvedSimple, resolve_decls}
use Rattle.ac_rules.specs.Scopes.{Scope}
use Rattle.ac_calls.specs.Holdings.{Held, Guards, from_rows, have_capacity, limit_by, new_held}
use Rattle.ac_meaning.specs.Commands.{performed}
use Rattle.ac_meaning.specs.Environment.{Bound, binds_type, binds_object, binds_cursor, binds_value, binds_element, State, first_state, under, at_rest, after_decls}
use Rattle.ac_meaning.specs.Execution.{End, Orders, exec_behind, resolved_behind, run_with}
use Rattle.ac_meaning.specs.HoldsTypes.{Shape, has_rows, has_place, has_line, shape_of}
use Rattle.ac_meaning.specs.Stays.{CapacityGoesOn}

abbrev pub limit_of : Held → Limit
limit_of h = from_rows (λ V o. o.limit) h

-- of a vector and of a hashed container alone
abbrev pub capacity_of : Held → Option ℕ
capacity_of h = from_rows (λ V o. o.capacity) h

-- What goes on, whatever is executed

pub record HeldGoesOn (h now : Held) : Type 0 where
  pub shape : shape_of now ≡ shape_of h
  pub limit : limit_of now ≡ limit_of h
  pub capacity : CapacityGoesOn (limit_of h) (capacity_of h) (capacity_of now)

abbrev pub BoundGoesOn : Bound → Bound → Type 0
BoundGoesOn binds_type binds_type = ⊤
BoundGoesOn (binds_object h) (binds_object now) = HeldGoesOn h now
BoundGoesOn (binds_cursor _) (binds_cursor _) = ⊤
BoundGoesOn (binds_value _) (binds_value _) = ⊤
BoundGoesOn (binds_element _ _) (binds_element _ _) = ⊤
BoundGoesOn _ _ = ⊥

abbrev pub EachGoesOn : List Bound → List Bound → Type 0
EachGoesOn [] [] = ⊤
EachGoesOn [] (_ ∷ _) = ⊥
EachGoesOn (_ ∷ _) [] = ⊥
EachGoesOn (b ∷ bounds) (c ∷ now) = BoundGoesOn b c × EachGoesOn bounds now

-- each object in scope, and no name comes or goes
abbrev pub StateGoesOn : State → State → Type 0
StateGoesOn e now = EachGoesOn e.bounds now.bounds

-- through commands and statements, whatever they are, and through guards
pub record StatesGoOn : Type 0 where
  pub commands : (e : State) (simple : ResolvedSimple) → StateGoesOn e (performed e simple).after
  pub resolved : (propagates : Bool) (orders : Orders) (code : ResolvedCode) (guards : Guards) (end : End) (e : State) →
      StateGoesOn e (resolved_behind propagates orders code guards end e).after
  pub statements : (propagates : Bool) (orders : Orders) (code : Code) (scope : Scope) (guards : Guards) (end : End) (e : State) →
      StateGoesOn e (exec_behind propagates orders code scope guards end e).after
  pub guarded : (guards : Guards) (e : State) → StateGoesOn e (under guards e)
  pub rested : (e : State) → StateGoesOn e (at_rest e)

-- What was declared

-- which objects have a Capacity
abbrev pub has_capacity : Shape → Bool
has_capacity (has_rows kind) = have_capacity kind
has_capacity (has_place _) = false
has_capacity (has_line _) = false

-- the Capacity of a bounded object is its limit, and an unbounded one's a step
abbrev pub IsCapacityIn : Limit → ℕ → Type 0
IsCapacityIn Unbounded capacity = IsStep capacity
IsCapacityIn (Bounded most) capacity = capacity ≡ most

-- of this shape and within this limit
pub record IsObjectOf (shape : Shape) (limit : Limit) (h : Held) : Type 0 where
  pub of_shape : shape_of h ≡ shape
  pub within : limit_of h ≡ limit
  pub has : is_some (capacity_of h) ≡ has_capacity shape
  pub capacity : IfSome (capacity_of h) (IsCapacityIn limit)

-- that of an object of the type
abbrev pub declared_shape : TypeDef → Shape
declared_shape def = shape_of (new_held def 0 None)

-- what a name holds that was declared so
abbrev pub IsAsDeclared : ResolvedDecl → Bound → Type 0
IsAsDeclared decl.TypeDecl binds_type = ⊤
IsAsDeclared (decl.Object _ def capacity) (binds_object h) = IsObjectOf (declared_shape def) (limit_by capacity) h
IsAsDeclared decl.Cursor (binds_cursor _) = ⊤
IsAsDeclared decl.Integer (binds_value _) = ⊤
IsAsDeclared decl.Text (binds_value _) = ⊤
IsAsDeclared _ _ = ⊥

-- each name, in order, and there are no others
abbrev pub AreAsDeclared : List ResolvedDecl → List Bound → Type 0
AreAsDeclared [] [] = ⊤
AreAsDeclared [] (_ ∷ _) = ⊥
AreAsDeclared (_ ∷ _) [] = ⊥
AreAsDeclared (d ∷ decls) (b ∷ bounds) = IsAsDeclared d b × AreAsDeclared decls bounds

-- behind declarations, unless no number is left; as long as it goes on; and so at a script's end
pub record StaysDeclared : Type 0 where
  pub decls : (decls : List ResolvedDecl) → (after_decls decls first_state).spent ≡ None → AreAsDeclared decls (after_decls decls first_state).after.bounds
  pub goes_on : (decls : List ResolvedDecl) (e now : State) → StateGoesOn e now → AreAsDeclared decls e.bounds → AreAsDeclared decls now.bounds
  pub script : (orders : Orders) (script : Script) → (after_decls (resolve_decls [] script.decls) first_state).spent ≡ None →
      AreAsDeclared (resolve_decls [] script.decls) (run_with orders script).after.bounds
