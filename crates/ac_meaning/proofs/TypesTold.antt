-- The type that is told of a new object, by its kind.
use Rattle.std.proofs.Common.{◌≡◌, ℕ, Bool, true, false, Option, Some, None, refl, ap, ◌∙◌}
use Rattle.std.specs.Prelude.{is_some}
use Rattle.ac_syntax.specs.declared.kind.ElemKind.{ElemKind}
use Rattle.ac_syntax.specs.declared.kind.ElemKind.TheVariants.{Integer, Str}
use Rattle.ac_syntax.specs.declared.kind.Kind.{Kind}
use Rattle.ac_syntax.specs.declared.kind.Kind.TheVariants as kinds
use Rattle.ac_syntax.specs.declared.type_def.TypeDef.{TypeDef}
use Rattle.ac_rules.specs.Rules.{is_type}
use Rattle.ac_calls.specs.Holdings.{new_held, limit_by}
use Rattle.ac_meaning.specs.Plains.{a_def, def_of, is_bounded}

bounded_by : (capacity : Option ℕ) → is_bounded (limit_by capacity) ≡ is_some capacity
bounded_by None = refl
bounded_by (Some most) = refl

told : (bounded : Bool) (kind : Kind) (first : ElemKind) (second : Option ElemKind) (keyed : Bool) (number : ℕ) (capacity : Option ℕ) →
    is_type (a_def bounded kind first second keyed) ≡ true →
    def_of (new_held (a_def bounded kind first second keyed) number capacity) ≡ a_def (is_bounded (limit_by capacity)) kind first second keyed
told bounded kinds.Vector first None false number capacity is = refl
told bounded kinds.Vector first None true number capacity is = absurd (cc is)
told bounded kinds.Vector first (Some second) keyed number capacity is = absurd (cc is)
told bounded kinds.List first None false number capacity is = refl
told bounded kinds.List first None true number capacity is = absurd (cc is)
told bounded kinds.List first (Some second) keyed number capacity is = absurd (cc is)
told bounded kinds.HashedMap first None keyed number capacity is = absurd (cc is)
told bounded kinds.HashedMap first (Some second) false number capacity is = refl
told bounded kinds.HashedMap first (Some second) true number capacity is = absurd (cc is)
told bounded kinds.OrderedMap first None keyed number capacity is = absurd (cc is)
told bounded kinds.OrderedMap first (Some second) false number capacity is = refl
told bounded kinds.OrderedMap first (Some second) true number capacity is = absurd (cc is)
told bounded kinds.HashedSet first None false number capacity is = refl
told bounded kinds.HashedSet Integer None true number capacity is = absurd (cc is)
told bounded kinds.HashedSet Str None true number capacity is = refl
told bounded kinds.HashedSet first (Some second) keyed number capacity is = absurd (cc is)
told bounded kinds.OrderedSet first None false number capacity is = refl
told bounded kinds.OrderedSet Integer None true number capacity is = absurd (cc is)
told bounded kinds.OrderedSet Str None true number capacity is = refl
told bounded kinds.OrderedSet first (Some second) keyed number capacity is = absurd (cc is)
told bounded kinds.Tree first None false number capacity is = refl
told bounded kinds.Tree first None true number capacity is = absurd (cc is)
told bounded kinds.Tree first (Some second) keyed number capacity is = absurd (cc is)
told bounded kinds.Holder first None false number capacity is = refl
told bounded kinds.Holder first None true number capacity is = absurd (cc is)
told bounded kinds.Holder first (Some second) keyed number capacity is = absurd (cc is)
told bounded kinds.Queue Integer None false number capacity is = refl
told bounded kinds.Queue Integer None true number capacity is = absurd (cc is)
told bounded kinds.Queue Str None keyed number capacity is = absurd (cc is)
told bounded kinds.Queue first (Some second) keyed number capacity is = absurd (cc is)
told bounded kinds.PriorityQueue Integer None false number capacity is = refl
told bounded kinds.PriorityQueue Integer None true number capacity is = absurd (cc is)
told bounded kinds.PriorityQueue Str None keyed number capacity is = absurd (cc is)
told bounded kinds.PriorityQueue first (Some second) keyed number capacity is = absurd (cc is)

pub type_told : (def : TypeDef) (number : ℕ) (capacity : Option ℕ) → is_type def ≡ true → is_some capacity ≡ def.bounded →
    def_of (new_held def number capacity) ≡ def
type_told def number capacity is alike =
    told def.bounded def.kind def.first def.second def.keyed number capacity is
    ∙ ap (λ b. a_def b def.kind def.first def.second def.keyed) (bounded_by capacity ∙ alike)
