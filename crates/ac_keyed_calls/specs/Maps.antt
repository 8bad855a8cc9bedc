-- Hashed and ordered maps in one type: the entries that one has, and which of the two it is.
use Rattle.std.specs.Prelude.{◌≡◌, refl}
use Rattle.ac_base.specs.Guards.{GuardCounts}
use Rattle.ac_model.specs.Containers.{Container, guards_of, with_guards}
use Rattle.ac_calls.specs.KeyedReplies.{KeyedKind, of_hashed, of_ordered}
use Rattle.ac_keyed_calls.specs.declared.map.Map.{Map}
use Rattle.ac_keyed_calls.specs.declared.map.Map.TheVariants.{Hashed, Ordered}

abbrev pub map_kind_of : {H O : Type 0} → Map H O → KeyedKind
map_kind_of (Hashed m) = of_hashed
map_kind_of (Ordered m) = of_ordered

-- with entries of this type
abbrev pub MapOf : Type 0 → Type 0
MapOf V = Map (Container V) (Container V)

module _ {V : Type 0} where
  abbrev pub entries_of : MapOf V → Container V
  entries_of (Hashed m) = m
  entries_of (Ordered m) = m

  -- with these counts of guards
  abbrev pub map_with : MapOf V → GuardCounts → MapOf V
  map_with (Hashed m) counts = Hashed (with_guards m counts)
  map_with (Ordered m) counts = Ordered (with_guards m counts)

  -- the laws of guards

  pub map_given : (m : MapOf V) (counts : GuardCounts) → guards_of (entries_of (map_with m counts)) ≡ counts
  map_given (Hashed m) counts = refl
  map_given (Ordered m) counts = refl

  pub map_own : (m : MapOf V) → map_with m (guards_of (entries_of m)) ≡ m
  map_own (Hashed m) = refl
  map_own (Ordered m) = refl

  pub map_rest : (m : MapOf V) (counts others : GuardCounts) → map_with (map_with m counts) others ≡ map_with m others
  map_rest (Hashed m) counts others = refl
  map_rest (Ordered m) counts others = refl
