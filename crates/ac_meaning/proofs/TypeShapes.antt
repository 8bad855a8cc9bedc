-- What a type says of its objects, where the type keeps the rules.
use Rattle.std.proofs.Common.{◌≡◌, ℕ, Bool, true, false, refl, ap, Option, Some, None}
use Rattle.std.specs.Prelude.{option_and_then, IsTrue}
use Rattle.std.proofs.lemmas.Option.{same_Some}
use Rattle.ac_syntax.specs.declared.kind.ElemKind.{ElemKind}
use Rattle.ac_syntax.specs.declared.kind.Kind.{Kind}
use Rattle.ac_syntax.specs.declared.kind.Kind.TheVariants as kind
use Rattle.ac_syntax.specs.declared.type_def.TypeDef.{TypeDef}
use Rattle.ac_rules.specs.Rules.{is_type}
use Rattle.ac_rules.specs.Scopes.{Meaning, a_type, an_object, a_cursor, a_value, a_task, type_in}
use Rattle.ac_rules.proofs.Apart.{neither}
use Rattle.ac_calls.specs.Holdings.{new_held}
use Rattle.ac_meaning.specs.HoldsTypes.{shape_of, shape_of_type}
use Rattle.ac_meaning.proofs.CallsStay.{none_some}

abbrev pub def_by : (bounded : Bool) → Kind → ElemKind → Option ElemKind → (keyed : Bool) → TypeDef
def_by bounded k first second keyed = record { bounded = bounded; kind = k; first = first; second = second; keyed = keyed }

-- a new object is of its type
new_shape_by : (bounded : Bool) (k : Kind) (first : ElemKind) (second : Option ElemKind) (keyed : Bool) (number : ℕ) (capacity : Option ℕ) →
    is_type (def_by bounded k first second keyed) ≡ true →
    shape_of (new_held (def_by bounded k first second keyed) number capacity) ≡ shape_of_type (def_by bounded k first second keyed)
new_shape_by bounded kind.Vector first None keyed number capacity h = refl
new_shape_by bounded kind.List first None keyed number capacity h = refl
new_shape_by bounded kind.HashedMap first None keyed number capacity h = refl
new_shape_by bounded kind.OrderedMap first None keyed number capacity h = refl
new_shape_by bounded kind.HashedMap first (Some second) keyed number capacity h = refl
new_shape_by bounded kind.OrderedMap first (Some second) keyed number capacity h = refl
new_shape_by bounded kind.HashedSet first None true number capacity h = refl
new_shape_by bounded kind.HashedSet first None false number capacity h = refl
new_shape_by bounded kind.OrderedSet first None true number capacity h = refl
new_shape_by bounded kind.OrderedSet first None false number capacity h = refl
new_shape_by bounded kind.Tree first None keyed number capacity h = refl
new_shape_by bounded kind.Holder first None keyed number capacity h = refl
new_shape_by bounded kind.Queue first None keyed number capacity h = refl
new_shape_by bounded kind.PriorityQueue first None keyed number capacity h = refl
new_shape_by bounded kind.Vector first (Some second) keyed number capacity h = neither h
new_shape_by bounded kind.List first (Some second) keyed number capacity h = neither h
new_shape_by bounded kind.HashedSet first (Some second) keyed number capacity h = neither h
new_shape_by bounded kind.OrderedSet first (Some second) keyed number capacity h = neither h
new_shape_by bounded kind.Tree first (Some second) keyed number capacity h = neither h
new_shape_by bounded kind.Holder first (Some second) keyed number capacity h = neither h
new_shape_by bounded kind.Queue first (Some second) keyed number capacity h = neither h
new_shape_by bounded kind.PriorityQueue first (Some second) keyed number capacity h = neither h

pub new_shape : (def : TypeDef) (number : ℕ) (capacity : Option ℕ) → IsTrue (is_type def) → shape_of (new_held def number capacity) ≡ shape_of_type def
new_shape def number capacity h = new_shape_by def.bounded def.kind def.first def.second def.keyed number capacity h

pub type_meant : (o : Option Meaning) (def : TypeDef) → option_and_then type_in o ≡ Some def → o ≡ Some (a_type def)
type_meant None def h = none_some def h
type_meant (Some (a_type d)) def h = ap (λ y. Some (a_type y)) (same_Some d def h)
type_meant (Some (an_object t d)) def h = none_some def h
type_meant (Some (a_cursor t v)) def h = none_some def h
type_meant (Some (a_value k w)) def h = none_some def h
type_meant (Some a_task) def h = none_some def h
