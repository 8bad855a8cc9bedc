-- A script's outermost variables and objects with what the entries of a state have of them.
use Rattle.std.specs.Prelude.{◌≡◌, ◌≤◌, ◌+◌, ⊤, ℕ, ℤ, true, List, [], ◌∷◌, ◌++◌, length, All, Option, is_some}
use Rattle.ac_base.specs.declared.value.Value.{Value}
use Rattle.ac_base.specs.declared.value.Value.TheVariants as value
use Rattle.ac_syntax.specs.declared.script.Script.{Script}
use Rattle.ac_syntax.specs.declared.type_def.TypeDef.{TypeDef}
use Rattle.ac_rules.specs.Resolved.{place_of, resolve_decls}
use Rattle.ac_rules.specs.Rules.{is_type}
use Rattle.ac_rules.specs.Scopes.{with_decls}
use Rattle.ac_calls.specs.Holdings.{Held, new_held}
use Rattle.ac_calls.specs.Plains.{name_of}
use Rattle.ac_calls.specs.declared.plains.Plain.{Plain}
use Rattle.ac_calls.specs.declared.plains.Plain.TheVariants as plain
use Rattle.ac_meaning.specs.AsDeclared.{limit_of}
use Rattle.ac_meaning.specs.Environment.{Bound, binds_type, binds_object, binds_cursor, binds_value, binds_element, State, bound_at, with_bound, after_decls, first_state}
use Rattle.ac_meaning.specs.Plains.{def_of, limit_number}
use Rattle.ac_snapshot.specs.Filled.{filled}

-- what a script's outermost declarations make
abbrev pub outermost : Script → State
outermost script = (after_decls (resolve_decls [] script.decls) first_state).after

-- what a name holds that an entry stands for
abbrev pub filled_bound : Plain → Bound → Bound
filled_bound (plain.Int name z) b = binds_value (value.Int z)
filled_bound (plain.Str name bytes) b = binds_value (value.Text bytes)
filled_bound (plain.Object name def limit capacity peak rows) (binds_object h) = binds_object (filled h capacity peak rows)
filled_bound (plain.Object name def limit capacity peak rows) b = b

-- the place of an entry's name among the outermost ones, past the end where it is none
abbrev pub entry_place : Script → Plain → ℕ
entry_place script entry = place_of (with_decls [] script.decls) (name_of entry)

abbrev pub with_entry : Script → State → Plain → State
with_entry script e entry = with_bound e (entry_place script entry) (filled_bound entry (bound_at e (entry_place script entry)))

-- one after another
abbrev pub resumed : Script → State → List Plain → State
resumed script e [] = e
resumed script e (entry ∷ s) = resumed script (with_entry script e entry) s

-- what a name holds

abbrev pub HoldsValue : Bound → Type 0
HoldsValue b = (v : Value) × (b ≡ binds_value v)

abbrev pub HoldsInteger : Bound → Type 0
HoldsInteger b = (n : ℤ) × (b ≡ binds_value (value.Int n))

abbrev pub HoldsText : Bound → Type 0
HoldsText b = (text : List ℕ) × (b ≡ binds_value (value.Text text))

pub record IsObjectAs (def : TypeDef) (limit : Option ℕ) (b : Bound) : Type 0 where
  pub held : Held
  pub there : b ≡ binds_object held
  pub of_type : def_of held ≡ def
  pub within : limit_number (limit_of held) ≡ limit

-- it is of the entry's sort, and an object of its type and its limit
abbrev pub Matches : Plain → Bound → Type 0
Matches (plain.Int name z) b = HoldsInteger b
Matches (plain.Str name bytes) b = HoldsText b
Matches (plain.Object name def limit capacity peak rows) b = IsObjectAs def limit b

-- an outermost name is so
abbrev pub IsMatched : Script → State → Plain → Type 0
IsMatched script e entry = Matches entry (bound_at e (entry_place script entry))

-- the first entry that isn't matched, by its line
pub record IsMismatch (script : Script) (e : State) (s : List Plain) (line : ℕ) : Type 0 where
  pub before : List Plain
  pub entry : Plain
  pub later : List Plain
  pub is : s ≡ before ++ entry ∷ later
  pub matched : All (IsMatched script e) before
  pub unmatched : IsMatched script e entry → ⊥
  pub counted : line ≡ length before + 1

-- What is filled is as it was declared

-- an object of a type that keeps the rules, without elements
pub record IsDeclared (h : Held) : Type 0 where
  pub def : TypeDef
  pub number : ℕ
  pub limit : Option ℕ
  pub is : h ≡ new_held def number limit
  pub is_type : is_type def ≡ true
  pub bounded : is_some limit ≡ def.bounded

abbrev pub IsFresh : Bound → Type 0
IsFresh binds_type = ⊤
IsFresh (binds_object h) = IsDeclared h
IsFresh (binds_cursor mark) = ⊤
IsFresh (binds_value v) = ⊤
IsFresh (binds_element object at) = ⊤

-- no name stands for an element
abbrev pub IsNoElement : Bound → Type 0
IsNoElement binds_type = ⊤
IsNoElement (binds_object h) = ⊤
IsNoElement (binds_cursor mark) = ⊤
IsNoElement (binds_value v) = ⊤
IsNoElement (binds_element object at) = ⊥

abbrev pub HasNoElements : State → Type 0
HasNoElements e = All IsNoElement e.bounds

abbrev pub AreFresh : State → Type 0
AreFresh e = All IsFresh e.bounds

-- there are no other names than the outermost ones of the script
abbrev pub HasNoMore : Script → State → Type 0
HasNoMore script e = length e.bounds ≤ length (with_decls [] script.decls)
