-- What a contract sees of a pool: a finite map from names to values, the next serial, and how many slots are spare.
use Rattle.std.specs.Prelude.{◌≡◌, ◌≢◌, ℕ, ◌+◌, ◌-◌, ◌<◌, ◌≤◌, ◌^◌, Option, Some, None, IsSome, is_some, nat_le, if◌then◌else◌, refl}
use Rattle.std.specs.Coded.{Coded, code_by, coded×, coded_ℕ}
use Rattle.std.specs.FinMap as map
use Rattle.ac_base.specs.declared.name.Name.{Name}
use Rattle.ac_base.specs.Names.{name_code}
use Rattle.ac_pool.specs.Names.{name_cmp}
use Rattle.ac_base.specs.Growth.{pow8}

pub record Contents (X : Type 0) : Type 0 where
  pub entries : map.FinMap name_cmp X
  pub next_serial : ℕ
  pub spare : ℕ

module _ {X : Type 0} where
  abbrev pub contents : map.FinMap name_cmp X → ℕ → ℕ → Contents X
  contents entries next spare = record { entries = entries; next_serial = next; spare = spare }

  abbrev pub contents_code : Coded X → Coded (Contents X)
  contents_code x = code_by (map.FinMap name_cmp X × (ℕ × ℕ)) (coded× (map.code name_code x) (coded× coded_ℕ coded_ℕ)) (λ c. (c.entries, (c.next_serial, c.spare))) (λ p. contents p.0 p.1.0 p.1.1) (λ _. refl)

  -- the value under the name, if the name is live
  abbrev pub value_of : Contents X → Name → Option X
  value_of c name = map.get c.entries name

  abbrev pub IsLive : Contents X → Name → Type 0
  IsLive c name = IsSome (value_of c name)

  abbrev pub live_count : Contents X → ℕ
  live_count c = map.len c.entries

  abbrev pub slot_count : Contents X → ℕ
  slot_count c = live_count c + c.spare

  -- no name is live
  abbrev pub no_values : ℕ → ℕ → Contents X
  no_values next spare = contents map.empty next spare

  abbrev pub with_value : Contents X → Name → X → Contents X
  with_value c name w = contents (map.insert c.entries name w) c.next_serial c.spare

  -- v is put into a spare slot, under the next serial
  abbrev pub added : Contents X → Name → X → Contents X
  added c name v = contents (map.insert c.entries name v) (c.next_serial + 1) (c.spare - 1)

  -- the name is gone where it was live, and its slot is spare
  abbrev pub taken : Contents X → Name → Contents X
  taken c name = if is_some (value_of c name) then contents (map.remove c.entries name) c.next_serial (c.spare + 1) else c

  abbrev pub exchanged : Contents X → Name → Name → Option X → Option X → Contents X
  exchanged c a b None y = c
  exchanged c a b (Some x) None = c
  exchanged c a b (Some x) (Some y) = with_value (with_value c a y) b x

  -- the values under the two names change places, where both are live
  abbrev pub swapped : Contents X → Name → Name → Contents X
  swapped c a b = exchanged c a b (value_of c a) (value_of c b)

  -- n slots are spare: there are as many slots as before where that is so already
  abbrev pub reserved : Contents X → ℕ → Contents X
  reserved c n = if nat_le n c.spare then c else contents c.entries c.next_serial (pow8 (live_count c + n) - live_count c)

  -- all slots are spare
  abbrev pub cleared : Contents X → Contents X
  cleared c = no_values c.next_serial (slot_count c)

  -- the name may be given to a new value
  pub record IsFresh (c : Contents X) (name : Name) : Type 0 where
    pub slot : (other : Name) → IsLive c other → other.slot ≢ name.slot
    pub serial : name.serial ≡ c.next_serial

  -- what holds of every pool
  pub record IsSound (c : Contents X) : Type 0 where
    pub slots : (a b : Name) → IsLive c a → IsLive c b → a.slot ≡ b.slot → a ≡ b
    pub serials : (a b : Name) → IsLive c a → IsLive c b → a.serial ≡ b.serial → a ≡ b
    pub within : (a : Name) → IsLive c a → a.slot < slot_count c
    pub issued : (a : Name) → IsLive c a → (0 < a.serial) × (a.serial < c.next_serial)
    pub next : (0 < c.next_serial) × (c.next_serial < 2 ^ 64)
    pub few : slot_count c ≤ 2 ^ 30

  -- no name of the slot is live in d, and the rest is as in c
  pub record Vacates (c d : Contents X) (slot : ℕ) : Type 0 where
    pub gone : (a : Name) → a.slot ≡ slot → value_of d a ≡ None
    pub others : (a : Name) → a.slot ≢ slot → value_of d a ≡ value_of c a
    pub slots : slot_count d ≡ slot_count c
    pub next : d.next_serial ≡ c.next_serial
