-- Rows that ascend, as an index of them is seen.
use Rattle.std.specs.Prelude.{map, None}
use Rattle.std.specs.Coded.{Coded}
use base.Stored.{coded_unit}
use Rattle.ac_base.specs.declared.name.Name.{Name}
use Rattle.ac_base.specs.Rows.{Row, row}
use Rattle.ac_balance.specs.declared.entry.Entry.{Entry}
use Rattle.ac_balance.specs.Indexed as balance
use Rattle.ac_setwork.specs.Indexed.{Indexed}

-- what stands beside a row in the tree
abbrev pub Nothing : Type 0
Nothing = Unit {0}

module _ {V : Type 0} where
  abbrev pub row_in : Row Name (Entry V Nothing) → Row Name V
  row_in r = row r.name r.value.key

  abbrev pub ascent : balance.Indexed V Nothing → Indexed V
  ascent x = record { rows = map row_in x.rows; next = x.next_serial; capacity = None; spare = x.spare }

  abbrev pub tree_code : Coded V → Coded (balance.Indexed V Nothing)
  tree_code v = balance.indexed_code v coded_unit
