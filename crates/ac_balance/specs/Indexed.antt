-- What a contract sees of an ordered index: its rows in the ascending order of their keys, the next serial, and how many slots are spare.
use Rattle.std.specs.Prelude.{◌≡◌, ◌≢◌, ℕ, ◌+◌, ◌-◌, ◌*◌, ◌<◌, ◌≤◌, ◌^◌, Bool, true, List, [], ◌∷◌, length, reverse, find, Option, Some, None, is_some, nat_le, if◌then◌else◌, refl}
use Rattle.std.specs.List.{slice_get, slice_set, insert, remove, prefix_len}
use Rattle.std.specs.Option.{option_map}
use Rattle.std.specs.Coded.{Coded, code_by, coded×, coded_ℕ, coded_list}
use Rattle.ac_base.specs.declared.name.Name.{Name}
use Rattle.ac_base.specs.Growth.{pow8}
use Rattle.ac_base.specs.Rows.{Row, row, row_code}
use Rattle.ac_pool.specs.NamedRows.{index_of, name_at, name_before}
use Rattle.ac_balance.specs.declared.entry.Entry.{Entry}

pub record Indexed (K V : Type 0) : Type 0 where
  pub rows : List (Row Name (Entry K V))
  pub next_serial : ℕ
  pub spare : ℕ

abbrev pub entry : {K V : Type 0} → K → V → Entry K V
entry key value = record { key = key; value = value }

abbrev pub entry_code : {K V : Type 0} → Coded K → Coded V → Coded (Entry K V)
entry_code {K} {V} k v = code_by (K × V) (coded× k v) (λ e. (e.key, e.value)) (λ p. entry p.0 p.1) (λ _. refl)

module _ {X : Type 0} where
  abbrev pub value_at : List (Row Name X) → Name → Option X
  value_at rows a = option_map (λ (r : Row Name X). r.value) (slice_get rows (index_of a rows))

  abbrev pub without : List (Row Name X) → Name → List (Row Name X)
  without rows a = remove rows (index_of a rows)

  abbrev pub Each : (X → Bool) → List (Row Name X) → Type 0
  Each test [] = Unit {0}
  Each test (r ∷ rows) = (test r.value ≡ true) × Each test rows

  -- each row's value is less than those of all rows after it
  abbrev pub IsAscending : (X → X → Bool) → List (Row Name X) → Type 0
  IsAscending less [] = Unit {0}
  IsAscending less (r ∷ rows) = Each (less r.value) rows × IsAscending less rows

-- a search among n rows has taken few steps
pub record FewSteps (n before after : ℕ) : Type 0 where
  pub height : ℕ
  pub low : 2 ^ height ≤ (n + 1) ^ 2
  pub few : after ≤ before + (2 * height + 2)
  pub counted : before ≤ after

module _ {K V : Type 0} where
  abbrev pub indexed : List (Row Name (Entry K V)) → ℕ → ℕ → Indexed K V
  indexed rows next spare = record { rows = rows; next_serial = next; spare = spare }

  abbrev pub indexed_code : Coded K → Coded V → Coded (Indexed K V)
  indexed_code k v =
      code_by (List (Row Name (Entry K V)) × (ℕ × ℕ)) (coded× (coded_list (row_code (entry_code k v))) (coded× coded_ℕ coded_ℕ))
      (λ c. (c.rows, (c.next_serial, c.spare))) (λ p. indexed p.0 p.1.0 p.1.1) (λ _. refl)

  -- the name has a row
  abbrev pub IsThere : Indexed K V → Name → Type 0
  IsThere c a = index_of a c.rows < length c.rows

  abbrev pub key_of : Indexed K V → Name → Option K
  key_of c a = option_map (λ (e : Entry K V). e.key) (value_at c.rows a)

  abbrev pub value_of : Indexed K V → Name → Option V
  value_of c a = option_map (λ (e : Entry K V). e.value) (value_at c.rows a)

  -- the name of the row after the name's, and of the one before it
  abbrev pub next_name : Indexed K V → Name → Option Name
  next_name c a = name_at c.rows (index_of a c.rows + 1)

  abbrev pub prev_name : Indexed K V → Name → Option Name
  prev_name c a = name_before c.rows (index_of a c.rows)

  -- the names of the first and the last row whose key passes the test
  abbrev pub first_where : (K → Bool) → Indexed K V → Option Name
  first_where test c = option_map (λ (r : Row Name (Entry K V)). r.name) (find (λ r. test r.value.key) c.rows)

  abbrev pub last_where : (K → Bool) → Indexed K V → Option Name
  last_where test c = option_map (λ (r : Row Name (Entry K V)). r.name) (find (λ r. test r.value.key) (reverse c.rows))

  abbrev pub no_rows : ℕ → ℕ → Indexed K V
  no_rows next spare = indexed [] next spare

  -- the same but for the rows
  abbrev pub with_rows : Indexed K V → List (Row Name (Entry K V)) → Indexed K V
  with_rows c rows = indexed rows c.next_serial c.spare

  abbrev pub value_put : Indexed K V → Name → V → Option (Entry K V) → Indexed K V
  value_put c a w None = c
  value_put c a w (Some e) = with_rows c (slice_set c.rows (index_of a c.rows) (row a (entry e.key w)))

  -- the name's row has another value, and its key
  abbrev pub with_value : Indexed K V → Name → V → Indexed K V
  with_value c a w = value_put c a w (value_at c.rows a)

  abbrev pub key_put : Indexed K V → Name → (K → K) → Option (Entry K V) → Indexed K V
  key_put c a change None = c
  key_put c a change (Some e) = with_rows c (slice_set c.rows (index_of a c.rows) (row a (entry (change e.key) e.value)))

  -- the name's row has its key changed, and its value and its place
  abbrev pub with_changed : Indexed K V → Name → (K → K) → Indexed K V
  with_changed c a change = key_put c a change (value_at c.rows a)

  -- n slots are spare: there are as many slots as before where that is so already
  abbrev pub reserved : Indexed K V → ℕ → Indexed K V
  reserved c n = if nat_le n c.spare then c else indexed c.rows c.next_serial (pow8 (length c.rows + n) - length c.rows)

  abbrev pub cleared : Indexed K V → Indexed K V
  cleared c = no_rows c.next_serial (length c.rows + c.spare)

  -- the rows with one more, behind those whose keys are less
  abbrev pub with_row : (K → K → Bool) → List (Row Name (Entry K V)) → Name → K → V → List (Row Name (Entry K V))
  with_row less rows a key value = insert rows (prefix_len (λ r. less r.value.key key) rows) (row a (entry key value))

  -- a row more, in a slot that was spare
  abbrev pub added : (K → K → Bool) → Indexed K V → Name → K → V → Indexed K V
  added less c a key value = indexed (with_row less c.rows a key value) (c.next_serial + 1) (c.spare - 1)

  -- the key and the value of the name's row
  abbrev pub row_of : Indexed K V → Name → Option (K × V)
  row_of c a = option_map (λ (e : Entry K V). (e.key, e.value)) (value_at c.rows a)

  -- the name's row is gone
  abbrev pub without_row : Indexed K V → Name → Indexed K V
  without_row c a = with_rows c (without c.rows a)

  -- the name's row is gone where it was there, and its slot is spare
  abbrev pub taken : Indexed K V → Name → Indexed K V
  taken c a = if is_some (value_at c.rows a) then indexed (without c.rows a) c.next_serial (c.spare + 1) else c

  -- the name has another row, at the place where it belongs
  abbrev pub with_new_row : (K → K → Bool) → Indexed K V → Name → K → V → Indexed K V
  with_new_row less c a key value = with_rows c (with_row less (without c.rows a) a key value)

  -- no row has the name's slot or its serial, which is the next one
  pub record IsFresh (c : Indexed K V) (a : Name) : Type 0 where
    pub slot : (other : Name) → IsThere c other → other.slot ≢ a.slot
    pub serials : (other : Name) → IsThere c other → other.serial ≢ a.serial
    pub serial : a.serial ≡ c.next_serial

  -- what holds of every index
  pub record IsSound (less : K → K → Bool) (c : Indexed K V) : Type 0 where
    pub ascending : IsAscending (λ e f. less e.key f.key) c.rows
    pub once : (i j : ℕ) (a : Name) → name_at c.rows i ≡ Some a → name_at c.rows j ≡ Some a → i ≡ j
    pub slots : (a b : Name) → IsThere c a → IsThere c b → a.slot ≡ b.slot → a ≡ b
    pub serials : (a b : Name) → IsThere c a → IsThere c b → a.serial ≡ b.serial → a ≡ b
    pub issued : (a : Name) → IsThere c a → (0 < a.serial) × (a.serial < c.next_serial)
    pub next : (0 < c.next_serial) × (c.next_serial < 2 ^ 64)
    pub few : length c.rows + c.spare ≤ 2 ^ 30
