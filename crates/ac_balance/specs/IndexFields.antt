-- What an index's fields are seen as, and what holds of them.
use Rattle.std.specs.Prelude.{◌≡◌, Bool, List, length}
use Rattle.ac_base.specs.declared.name.Name.{Name}
use Rattle.ac_base.specs.Rows.{Row}
use Rattle.ac_pool.specs.Contents.{IsLive, live_count}
use Rattle.ac_balance.specs.declared.entry.Entry.{Entry}
use Rattle.ac_balance.specs.declared.links.Links.{Links}
use Rattle.ac_balance.specs.Trees.{in_order}
use Rattle.ac_balance.specs.TreeFields.{tree_in}
use Rattle.ac_pool.specs.NamedRows.{HasName}
use Rattle.ac_balance.specs.Climbing.{Closed}
use Rattle.ac_balance.specs.Indexed.{IsAscending}

module _ {K V : Type 0} where
  -- the rows of all nodes stand in the tree, in order
  pub record StandsFor (less : K → K → Bool) (l : Links (Entry K V)) (rows : List (Row Name (Entry K V))) : Type 0 where
    pub closed : Closed l rows
    pub ascending : IsAscending (λ e f. less e.key f.key) rows
    pub all : (a : Name) → IsLive l.nodes a → HasName a rows
    pub count : length rows ≡ live_count l.nodes

  unfoldable pub rows_in : Links (Entry K V) → List (Row Name (Entry K V))
  rows_in l = in_order (tree_in l)

  abbrev pub IsOrderIndex : (K → K → Bool) → Links (Entry K V) → Type 0
  IsOrderIndex less l = StandsFor less l (rows_in l)
