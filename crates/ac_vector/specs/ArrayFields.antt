-- What an array's fields are seen as, and what holds of them: the slots' live names and the values are the rows, and the pool has each name's place.
use Rattle.std.specs.Prelude.{◌≡◌, ℕ, ◌+◌, ◌≤◌, List, [], ◌∷◌, length, map, Option, Some, None}
use Rattle.ac_base.specs.declared.name.Name.{Name}
use Rattle.ac_base.specs.Rows.{Row, row}
use Rattle.ac_base.specs.Rows as rows
use Rattle.ac_pool.specs.Contents.{Contents, value_of, live_count, slot_count, with_value, IsSound}
use Rattle.ac_pool.specs.Link.{name_in}
use Rattle.ac_pool.specs.NamedRows.{name_at}

abbrev pub slots_of : List Name → List ℕ
slots_of ns = map (λ (a : Name). a.slot) ns

abbrev pub before : Option Name → List Name → List Name
before None ns = ns
before (Some a) ns = a ∷ ns

-- the live names of the slots
unfoldable pub names_in : Contents ℕ → List ℕ → List Name
names_in c [] = []
names_in c (k ∷ ks) = before (name_in c k) (names_in c ks)

module _ {X : Type 0} where
  -- each value under its name
  abbrev pub rows_in : List Name → List X → List (Row Name X)
  rows_in [] vs = []
  rows_in (a ∷ ns) [] = []
  rows_in (a ∷ ns) (v ∷ vs) = row a v ∷ rows_in ns vs

  pub record StandsFor (ns : List Name) (vs : List X) (places : Contents ℕ) (rs : List (Row Name X)) : Type 0 where
    pub named : ns ≡ rows.names rs
    pub valued : vs ≡ rows.values rs
    pub placed : (i : ℕ) (a : Name) → name_at rs i ≡ Some a → value_of places a ≡ Some i
    pub all : (i : ℕ) (a : Name) → value_of places a ≡ Some i → name_at rs i ≡ Some a
    pub count : length rs ≡ live_count places
    pub sound : IsSound places

  -- the two lists have room for a row in each slot
  pub record IsArray (ns : List Name) (vs : List X) (places : Contents ℕ) (name_room value_room : ℕ) : Type 0 where
    pub stands : StandsFor ns vs places (rows_in ns vs)
    pub names : slot_count places ≤ name_room
    pub values : slot_count places ≤ value_room

  -- the same where slots are kept, each with a live name
  pub record IsSlotted (ks : List ℕ) (vs : List X) (places : Contents ℕ) (slot_room value_room : ℕ) : Type 0 where
    pub slots : ks ≡ slots_of (names_in places ks)
    pub array : IsArray (names_in places ks) vs places slot_room value_room

-- what the write of a name's place leaves, if the name is live
abbrev pub place_written : Contents ℕ → Name → ℕ → Option ℕ → Contents ℕ
place_written c a i None = c
place_written c a i (Some old) = with_value c a i

abbrev pub with_place : Contents ℕ → Name → ℕ → Contents ℕ
with_place c a i = place_written c a i (value_of c a)

-- the names have the places from i on
abbrev pub renumbered : List Name → ℕ → Contents ℕ → Contents ℕ
renumbered [] i c = c
renumbered (a ∷ ns) i c = renumbered ns (i + 1) (with_place c a i)

-- the same of the live name of a slot, and of those of slots from i on
abbrev pub place_written_in : Contents ℕ → Option Name → ℕ → Contents ℕ
place_written_in c None i = c
place_written_in c (Some a) i = with_place c a i

abbrev pub with_place_in : Contents ℕ → ℕ → ℕ → Contents ℕ
with_place_in c k i = place_written_in c (name_in c k) i

abbrev pub renumbered_in : List ℕ → ℕ → Contents ℕ → Contents ℕ
renumbered_in [] i c = c
renumbered_in (k ∷ ks) i c = renumbered_in ks (i + 1) (with_place_in c k i)
