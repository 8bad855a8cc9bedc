-- What a sort of a chain's rows gives: values with their names, and the names in order.
use Rattle.std.specs.Prelude.{◌≡◌, List, Bool, IsPermutation}
use Rattle.ac_base.specs.declared.name.Name.{Name}
use Rattle.ac_base.specs.Rows.{Row, row, names}
use Rattle.ac_model.specs.Rows as model
use Rattle.ac_chain.specs.declared.sort.Keyed.{Keyed}
use Rattle.ac_model.specs.Objects.{plains}

module _ {X : Type 0} where
  -- the row of a value that was taken with its name
  abbrev pub row_at : Keyed X → Row Name X
  row_at k = row k.name k.value.now

  -- the names of these rows in order, the rows that are level as they stood
  pub record IsSortedOrder (less : X → X → Bool) (rows : List (Row Name X)) (order : List Name) : Type 0 where
    pub to : List (Row Name X)
    pub named : order ≡ names to
    pub moves : IsPermutation rows to
    pub sorted : plains to ≡ model.sorted less (plains rows)
