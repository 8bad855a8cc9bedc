-- What a chain is after values were put before a place.
use Rattle.std.specs.Prelude.{◌≡◌, ℕ, zero, suc, ◌+◌, ◌≤◌, max, List, ◌++◌, length, Option, None, Some}
use Rattle.ac_base.specs.declared.name.Name.{Name}
use Rattle.ac_base.specs.Growth.{pow8}
use Rattle.ac_base.specs.Rows.{Row}
use Rattle.ac_chain.specs.Rows.{Chained, IsLive, place_of, slots_in}
use Rattle.ac_chain.specs.ChainFields.{first_or}
use Rattle.ac_model.specs.Rows.{fresh}
use Rattle.ac_model.specs.Objects.{plains}

module _ {X : Type 0} where
  -- of these rows and this next serial, the chain with the values as new rows before the place
  pub record IsPut (rows : List (Row Name X)) (next : ℕ) (place : Option Name) (vs : List X) (now : Chained X) : Type 0 where
    pub before : List (Row Name X)
    pub more : List (Row Name X)
    pub after : List (Row Name X)
    pub were : rows ≡ before ++ after
    pub are : now.rows ≡ before ++ more ++ after
    pub at : place_of place rows ≡ length before
    pub named : place ≡ first_or after None
    pub fresh_names : plains more ≡ fresh next vs
    pub risen : now.next_serial ≡ next + length vs

  -- the slots after so many rows more: no more than there were where these have room for all, or else than the least 8 * 2 ^ k with room for all rows
  pub record HasGrown (c : Chained X) (n : ℕ) (now : Chained X) : Type 0 where
    pub kept : n ≤ c.spare → slots_in now ≡ slots_in c
    pub most : slots_in now ≤ max (slots_in c) (pow8 (length now.rows))

  -- the name of the first new row
  pub record IsFirst (next : ℕ) (now : Chained X) (a : Name) : Type 0 where
    pub serial : a.serial ≡ next
    pub live : IsLive now a

  -- the same of so many new rows, which may be none
  abbrev pub HasFirst : ℕ → ℕ → Chained X → Option Name → Type 0
  HasFirst next zero now first = first ≡ None
  HasFirst next (suc count) now None = ⊥
  HasFirst next (suc count) now (Some a) = IsFirst next now a
