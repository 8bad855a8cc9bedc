-- The rows of a container, as a list: what stands there under which name, and the words in which every call is told.
--
-- A name is a serial number here. In the library a name has a slot too, which the code may choose: a container's
-- own rows have the names with their slots, and `plain` (in `Objects`) leaves the slots out. So a call's meaning is
-- a function of plain rows, the same for a script, whose cursors have no slots, and for a library call, whose
-- contract says besides that each name that stays keeps its slot (in `Calls`).
--
-- A place is the number of rows that stand before it.
use Rattle.std.specs.Prelude.{◌≡◌, ◌==◌, ◌+◌, ℕ, suc, Bool, true, not, ◌&&◌, List, [], ◌∷◌, ◌++◌, length, take, drop, map, filter, find, Option, Some, None, option_map, if◌then◌else◌}
use Rattle.std.specs.List.{list_any}
use Rattle.ac_base.specs.Rows.{Row, row}

-- what a map's row holds
pub record Entry (K T : Type 0) : Type 0 where
  pub key : K
  pub element : T

-- what a tree's row holds: the root's children have depth 2
pub record Node (T : Type 0) : Type 0 where
  pub depth : ℕ
  pub element : T

abbrev pub entry : {K T : Type 0} → K → T → Entry K T
entry key element = record { key = key; element = element }

abbrev pub node : {T : Type 0} → ℕ → T → Node T
node depth element = record { depth = depth; element = element }

-- the values under new names, from this one on
abbrev pub fresh : {V : Type 0} → ℕ → List V → List (Row ℕ V)
fresh next [] = []
fresh next (v ∷ vs) = row next v ∷ fresh (next + 1) vs

-- the rows without the `count` from the place on
abbrev pub cut : {N V : Type 0} → List (Row N V) → ℕ → ℕ → List (Row N V)
cut rows place count = take place rows ++ drop (place + count) rows

-- the rows with more of them before the place
abbrev pub put : {N V : Type 0} → List (Row N V) → ℕ → List (Row N V) → List (Row N V)
put rows place more = take place rows ++ more ++ drop place rows

-- the place of the row with this name, or past the end
abbrev pub place_of : {V : Type 0} → List (Row ℕ V) → ℕ → ℕ
place_of [] name = 0
place_of (r ∷ rows) name = if r.name == name then 0 else suc (place_of rows name)

-- a row has this name
abbrev pub is_named : {V : Type 0} → List (Row ℕ V) → ℕ → Bool
is_named rows name = list_any (λ r. r.name == name) rows

-- the row with this name, if there is one
abbrev pub named : {V : Type 0} → List (Row ℕ V) → ℕ → Option (Row ℕ V)
named rows name = find (λ r. r.name == name) rows

-- what stands under the name
abbrev pub value_at : {V : Type 0} → List (Row ℕ V) → ℕ → Option V
value_at rows name = option_map (λ r. r.value) (named rows name)

-- the rows with another value under the name
abbrev pub with_value : {V : Type 0} → List (Row ℕ V) → ℕ → V → List (Row ℕ V)
with_value rows name value = map (λ r. if r.name == name then row name value else r) rows

abbrev pub with_some_value : {V : Type 0} → List (Row ℕ V) → ℕ → Option V → List (Row ℕ V)
with_some_value rows name None = rows
with_some_value rows name (Some value) = with_value rows name value

-- the rows with the values of two names exchanged
abbrev pub with_exchanged_values : {V : Type 0} → List (Row ℕ V) → ℕ → ℕ → List (Row ℕ V)
with_exchanged_values rows first second =
    with_some_value (with_some_value rows first (value_at rows second)) second (value_at rows first)

abbrev pub instead : {V : Type 0} → Row ℕ V → Option (Row ℕ V) → Row ℕ V
instead r None = r
instead r (Some other) = other

-- the rows with two of them in each other's place
abbrev pub with_exchanged_rows : {V : Type 0} → List (Row ℕ V) → ℕ → ℕ → List (Row ℕ V)
with_exchanged_rows rows first second =
    map (λ r. if r.name == first then instead r (named rows second)
    else if r.name == second then instead r (named rows first)
    else r) rows

-- the names in place, over these values
abbrev pub over : {N V : Type 0} → List (Row N V) → List V → List (Row N V)
over [] vs = []
over (r ∷ rows) [] = r ∷ rows
over (r ∷ rows) (v ∷ vs) = row r.name v ∷ over rows vs

-- the row whose key is equivalent to the one that is looked for, if there is one
abbrev pub row_by : {V : Type 0} → (V → Bool) → List (Row ℕ V) → Option (Row ℕ V)
row_by matches rows = find (λ r. matches r.value) rows

-- the row before the first that it isn't after: rows that are equivalent stay in their order
abbrev pub sorted_in : {V : Type 0} → (V → V → Bool) → Row ℕ V → List (Row ℕ V) → List (Row ℕ V)
sorted_in less r [] = r ∷ []
sorted_in less r (s ∷ rows) = if less s.value r.value then s ∷ sorted_in less r rows else r ∷ s ∷ rows

-- the rows in ascending order
abbrev pub sorted : {V : Type 0} → (V → V → Bool) → List (Row ℕ V) → List (Row ℕ V)
sorted less [] = []
sorted less (r ∷ rows) = sorted_in less r (sorted less rows)

-- no value is less than the one before it
abbrev pub is_ascending : {V : Type 0} → (V → V → Bool) → List V → Bool
is_ascending less [] = true
is_ascending less (v ∷ []) = true
is_ascending less (v ∷ w ∷ vs) = not (less w v) && is_ascending less (w ∷ vs)

-- the rows of the second list that are less than r, then r, and then what `rest` makes of those that are left
abbrev pub merged_in : {V : Type 0} → (V → V → Bool) → Row ℕ V → (List (Row ℕ V) → List (Row ℕ V)) → List (Row ℕ V) → List (Row ℕ V)
merged_in less r rest [] = r ∷ rest []
merged_in less r rest (s ∷ rows) = if less s.value r.value then s ∷ merged_in less r rest rows else r ∷ rest (s ∷ rows)

-- each time the head that is less, the first list's where neither is
abbrev pub merged : {V : Type 0} → (V → V → Bool) → List (Row ℕ V) → List (Row ℕ V) → List (Row ℕ V)
merged less [] others = others
merged less (r ∷ rows) others = merged_in less r (merged less rows) others

-- one list has the rows of another: of each sort as many
abbrev pub HasRowsOf : {V : Type 0} → List (Row ℕ V) → List (Row ℕ V) → Type 0
HasRowsOf {V} some others = (test : Row ℕ V → Bool) → length (filter test some) ≡ length (filter test others)
