-- What a contract sees of a chain: its rows in order, the next serial, and how many slots are spare.
use Rattle.std.specs.Prelude.{◌≡◌, ◌≢◌, ℕ, zero, suc, ◌+◌, ◌-◌, ◌<◌, ◌≤◌, ◌^◌, List, ◌∷◌, length, reverse, Option, Some, None, nat_le, nat_lt, if◌then◌else◌, refl, []}
use Rattle.std.specs.List.{slice_get, slice_set, insert, remove, swap}
use Rattle.std.specs.Option.{option_map}
use Rattle.std.specs.Coded.{Coded, code_by, coded×, coded_ℕ, coded_list}
use Rattle.std.specs.Ordering.{eq_by_cmp}
use Rattle.ac_base.specs.declared.name.Name.{Name}
use Rattle.ac_pool.specs.Names.{name_cmp}
use Rattle.ac_pool.specs.NamedRows.{index_of, name_at, name_before}
use Rattle.ac_base.specs.Growth.{pow8}
use Rattle.ac_base.specs.Rows.{Row, row, names, row_code}

pub record Chained (X : Type 0) : Type 0 where
  pub rows : List (Row Name X)
  pub next_serial : ℕ
  pub spare : ℕ

module _ {X : Type 0} where
  abbrev pub chained : List (Row Name X) → ℕ → ℕ → Chained X
  chained rows next spare = record { rows = rows; next_serial = next; spare = spare }

  abbrev pub chained_code : Coded X → Coded (Chained X)
  chained_code x = code_by (List (Row Name X) × (ℕ × ℕ)) (coded× (coded_list (row_code x)) (coded× coded_ℕ coded_ℕ)) (λ c. (c.rows, (c.next_serial, c.spare))) (λ p. chained p.0 p.1.0 p.1.1) (λ _. refl)

  -- how many slots there are, with and without a row
  abbrev pub slots_in : Chained X → ℕ
  slots_in c = length c.rows + c.spare

  -- the place before which a row is put: before the name's, or at the end
  abbrev pub place_of : Option Name → List (Row Name X) → ℕ
  place_of None rows = length rows
  place_of (Some a) rows = index_of a rows

  abbrev pub IsLive : Chained X → Name → Type 0
  IsLive c a = index_of a c.rows < length c.rows

  -- the value under the name, if the name is live
  abbrev pub value_of : Chained X → Name → Option X
  value_of c a = option_map (λ (r : Row Name X). r.value) (slice_get c.rows (index_of a c.rows))

  -- the name of the row after the name's, and of the one before it
  abbrev pub next_name : Chained X → Name → Option Name
  next_name c a = name_at c.rows (index_of a c.rows + 1)

  abbrev pub prev_name : Chained X → Name → Option Name
  prev_name c a = name_before c.rows (index_of a c.rows)

  abbrev pub no_rows : ℕ → ℕ → Chained X
  no_rows next spare = chained [] next spare

  -- the same but for the rows
  abbrev pub with_rows : Chained X → List (Row Name X) → Chained X
  with_rows c rows = chained rows c.next_serial c.spare

  abbrev pub with_value : Chained X → Name → X → Chained X
  with_value c a w = with_rows c (slice_set c.rows (index_of a c.rows) (row a w))

  -- n slots are spare: there are as many slots as before where that is so already
  abbrev pub reserved : Chained X → ℕ → Chained X
  reserved c n = if nat_le n c.spare then c else chained c.rows c.next_serial (pow8 (length c.rows + n) - length c.rows)

  -- a row more before the place, in a slot that was spare
  abbrev pub inserted : Chained X → Option Name → Row Name X → Chained X
  inserted c place r = chained (insert c.rows (place_of place c.rows) r) (c.next_serial + 1) (c.spare - 1)

  -- the name's row is gone, and its slot is spare
  abbrev pub removed : Chained X → Name → Chained X
  removed c a = chained (remove c.rows (index_of a c.rows)) c.next_serial (c.spare + 1)

  abbrev pub cleared : Chained X → Chained X
  cleared c = no_rows c.next_serial (length c.rows + c.spare)

  -- the two names' values change places
  abbrev pub values_exchanged : Chained X → Name → Name → Option X → Option X → Chained X
  values_exchanged c a b None y = c
  values_exchanged c a b (Some x) None = c
  values_exchanged c a b (Some x) (Some y) = with_value (with_value c a y) b x

  abbrev pub values_swapped : Chained X → Name → Name → Chained X
  values_swapped c a b = values_exchanged c a b (value_of c a) (value_of c b)

  -- the two names' rows change places
  abbrev pub links_swapped : Chained X → Name → Name → Chained X
  links_swapped c a b = with_rows c (swap c.rows (index_of a c.rows) (index_of b c.rows))

  abbrev pub put_at : List (Row Name X) → ℕ → Option (Row Name X) → List (Row Name X)
  put_at rows i None = rows
  put_at rows i (Some r) = insert rows i r

  -- the row at i is taken out and put before the one that was at j
  abbrev pub moved_rows : List (Row Name X) → ℕ → ℕ → List (Row Name X)
  moved_rows rows i j = put_at (remove rows i) (if nat_lt i j then j - 1 else j) (slice_get rows i)

  -- the name's row is taken out and put before the place
  abbrev pub moved : Chained X → Option Name → Name → Chained X
  moved c place a = with_rows c (moved_rows c.rows (index_of a c.rows) (place_of place c.rows))

  abbrev pub reversed : Chained X → Chained X
  reversed c = with_rows c (reverse c.rows)

  -- the names that a walk meets, from one on by the next ones, at most so many
  abbrev pub walk_from : Chained X → ℕ → Option Name → List Name
  walk_from c zero o = []
  walk_from c (suc many) None = []
  walk_from c (suc many) (Some a) = a ∷ walk_from c many (next_name c a)

  -- a walk from the first name on meets each row once, in order
  abbrev pub WalksInOrder : Chained X → Type 0
  WalksInOrder c = (many : ℕ) → length c.rows ≤ many → walk_from c many (name_at c.rows 0) ≡ names c.rows

  -- the list has exactly the chain's names, each once
  pub record IsOrderOf (order : List Name) (c : Chained X) : Type 0 where
    pub live : (i : ℕ) (a : Name) → slice_get order i ≡ Some a → IsLive c a
    pub once : (i j : ℕ) (a : Name) → slice_get order i ≡ Some a → slice_get order j ≡ Some a → i ≡ j
    pub all : length order ≡ length c.rows

  -- each value stands under the name under which it stood, and nothing but the order of the rows changes
  pub record Reorders (c d : Chained X) : Type 0 where
    pub values : (a : Name) → value_of d a ≡ value_of c a
    pub next : d.next_serial ≡ c.next_serial
    pub spare : d.spare ≡ c.spare

  -- no row has the name's slot or its serial, which is the next one
  pub record IsFresh (c : Chained X) (a : Name) : Type 0 where
    pub slot : (other : Name) → IsLive c other → other.slot ≢ a.slot
    pub serials : (other : Name) → IsLive c other → other.serial ≢ a.serial
    pub serial : a.serial ≡ c.next_serial

  -- what holds of every chain
  pub record IsSound (c : Chained X) : Type 0 where
    pub once : (i j : ℕ) (a : Name) → name_at c.rows i ≡ Some a → name_at c.rows j ≡ Some a → i ≡ j
    pub slots : (a b : Name) → IsLive c a → IsLive c b → a.slot ≡ b.slot → a ≡ b
    pub serials : (a b : Name) → IsLive c a → IsLive c b → a.serial ≡ b.serial → a ≡ b
    pub issued : (a : Name) → IsLive c a → (0 < a.serial) × (a.serial < c.next_serial)
    pub next : (0 < c.next_serial) × (c.next_serial < 2 ^ 64)
    pub few : length c.rows + c.spare ≤ 2 ^ 30
