-- Hashed and ordered sets in one type: the items that one has, and which of the two it is.
use Rattle.std.specs.Prelude.{◌≡◌, refl}
use Rattle.ac_base.specs.Guards.{GuardCounts}
use Rattle.ac_model.specs.Containers.{Container, guards_of, with_guards}
use Rattle.ac_calls.specs.KeyedReplies.{KeyedKind, of_hashed, of_ordered}
use Rattle.ac_keyed_calls.specs.declared.set.Set.{Set}
use Rattle.ac_keyed_calls.specs.declared.set.Set.TheVariants.{Hashed, Ordered}

module _ {T H O P I J : Type 0} where
  abbrev pub items_of : Set T H O P I J → Container T
  items_of (Hashed s) = s
  items_of (Ordered s) = s

  abbrev pub set_kind_of : Set T H O P I J → KeyedKind
  set_kind_of (Hashed s) = of_hashed
  set_kind_of (Ordered s) = of_ordered

  -- with these counts of guards
  abbrev pub set_with : Set T H O P I J → GuardCounts → Set T H O P I J
  set_with (Hashed s) counts = Hashed (with_guards s counts)
  set_with (Ordered s) counts = Ordered (with_guards s counts)

  -- the laws of guards

  pub set_given : (s : Set T H O P I J) (counts : GuardCounts) → guards_of (items_of (set_with s counts)) ≡ counts
  set_given (Hashed s) counts = refl
  set_given (Ordered s) counts = refl

  pub set_own : (s : Set T H O P I J) → set_with s (guards_of (items_of s)) ≡ s
  set_own (Hashed s) = refl
  set_own (Ordered s) = refl

  pub set_rest : (s : Set T H O P I J) (counts others : GuardCounts) → set_with (set_with s counts) others ≡ set_with s others
  set_rest (Hashed s) counts others = refl
  set_rest (Ordered s) counts others = refl
