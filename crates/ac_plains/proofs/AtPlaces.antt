-- What an entry asks of the name at a place, in memory and by its meaning.
use Rattle.std.proofs.Common.{◌≡◌, ℕ, Bool, true, false, List, map, slice_get, Decides, Option, Some, None, refl, sym, ap, subst, ◌∙◌, option_map}
use Rattle.std.proofs.lemmas.Bool.{false≢true, and_parts}
use Rattle.std.proofs.lemmas.Option.{slice_get-map, none-some, same_Some}
use Rattle.ac_base.specs.declared.value.Value.{Value}
use Rattle.ac_syntax.specs.declared.type_def.TypeDef.{TypeDef}
use Rattle.ac_calls.specs.Holdings.{Held}
use Rattle.ac_calls.specs.declared.plains.Plain.{Plain}
use Rattle.ac_calls.specs.declared.plains.Plain.TheVariants as plain
use Rattle.ac_calls.specs.declared.plains.PlainRow.{PlainRow}
use Rattle.ac_meaning.specs.AsDeclared.{limit_of}
use Rattle.ac_meaning.specs.Environment.{Bound, binds_type, binds_object, binds_value, bound_in, object_in, State, bound_at}
use Rattle.ac_meaning.specs.Plains.{def_of, limit_number}
use Rattle.ac_objects.specs.declared.bound.Bound as memory
use Rattle.ac_objects.specs.World.{World, bound_of, state_of}
use Rattle.ac_plains.specs.Filling.{IsAsDeclared}
use Rattle.ac_plains.specs.Resumed.{IsFresh, IsObjectAs, Matches}
use Rattle.ac_plains.specs.Told.{told_of}
use Rattle.ac_plains.specs.declared.telling.Told.{Told}
use Rattle.ac_plains.proofs.FilledBounds.{as_declared}
use Rattle.ac_snapshot.specs.Validity.{is_name, is_valid_entry, is_valid_content}

-- What a name holds in memory

module _ (P : Bound → Type 0) (w : World) (place : ℕ) where
  pub told_there : (b : memory.Bound) → slice_get w.bounds place ≡ Some b → P (bound_of b) → P (bound_at (state_of w) place)
  told_there b there holds = subst P (sym (ap bound_in (slice_get-map bound_of w.bounds place ∙ ap (option_map bound_of) there))) holds

  pub told_past : slice_get w.bounds place ≡ None → P binds_type → P (bound_at (state_of w) place)
  told_past there holds = subst P (sym (ap bound_in (slice_get-map bound_of w.bounds place ∙ ap (option_map bound_of) there))) holds

-- Whether it is matched

never : {P : Type 0} → (P → ⊥) → Decides false P
never none = (λ e. absurd (false≢true e), λ p. absurd (none p))

no_value : (b : Bound) → b ≡ binds_type → (v : Value) → b ≡ binds_value v → ⊥
no_value b none v is = absurd (cc)

pub nothing_matches : (entry : Plain) → Decides false (Matches entry binds_type)
nothing_matches (plain.Int name z) = never (λ m. no_value binds_type refl _ m.1)
nothing_matches (plain.Str name bytes) = never (λ m. no_value binds_type refl _ m.1)
nothing_matches (plain.Object name def limit capacity peak rows) = never (λ m. none-some m.held (ap object_in m.there))

object_is : (h k : Held) → binds_object h ≡ binds_object k → h ≡ k
object_is h k e = same_Some h k (ap object_in e)

-- an object of the type is matched by its limit
pub object_decided : (b : Bound) (h : Held) (def : TypeDef) (limit : Option ℕ) (told : Told) (same : Bool) → b ≡ binds_object h → told ≡ told_of h →
    told.def ≡ def → Decides same (told.limit ≡ limit) → Decides same (IsObjectAs def limit b)
object_decided b h def limit told same there is of_type within = (
  λ e. record { held = h; there = there; of_type = sym (ap (λ (t : Told). t.def) is) ∙ of_type; within = sym (ap (λ (t : Told). t.limit) is) ∙ within.0 e },
  λ m. within.1 (ap (λ (t : Told). t.limit) is ∙ (ap (λ x. limit_number (limit_of x)) (object_is h m.held (sym there ∙ m.there)) ∙ m.within)),
)

-- one of another type isn't
pub object_apart : (b : Bound) (h : Held) (def : TypeDef) (limit : Option ℕ) (told : Told) → b ≡ binds_object h → told ≡ told_of h → (told.def ≡ def → ⊥) →
    Decides false (IsObjectAs def limit b)
object_apart b h def limit told there is other =
    never (λ m. other (ap (λ (t : Told). t.def) is ∙ (ap def_of (object_is h m.held (sym there ∙ m.there)) ∙ m.of_type)))

-- What is there to be filled

declared_by : (e : State) (place : ℕ) (name : List ℕ) (def : TypeDef) (limit capacity peak : Option ℕ) (rows : List PlainRow) →
    is_valid_entry (plain.Object name def limit capacity peak rows) ≡ true → IsFresh (bound_at e place) → IsObjectAs def limit (bound_at e place) →
    IsAsDeclared def capacity peak rows e place
declared_by e place name def limit capacity peak rows valid fresh is =
    let declared = as_declared def limit (bound_at e place) fresh is in
    record {
      number = declared.0;
      limit = limit;
      valid = (and_parts (is_name name) _ valid).1;
      there = ap object_in is.there ∙ ap (λ h. Some h) declared.1;
    }

pub declared_there : (entry : Plain) (e : State) (place : ℕ) (name : List ℕ) (def : TypeDef) (limit capacity peak : Option ℕ) (rows items : List PlainRow) →
    entry ≡ plain.Object name def limit capacity peak rows → items ≡ rows → is_valid_entry entry ≡ true → IsFresh (bound_at e place) →
    Matches entry (bound_at e place) → IsAsDeclared def capacity peak items e place
declared_there entry e place name def limit capacity peak rows items is same valid fresh matched =
    subst (λ xs. IsAsDeclared def capacity peak xs e place) (sym same)
    (declared_by e place name def limit capacity peak rows (subst (λ x. is_valid_entry x ≡ true) is valid) fresh
    (subst (λ x. Matches x (bound_at e place)) is matched))
