-- What a chain is after a merge, each value going before the first row that it is less than.
use Rattle.std.specs.Prelude.{◌≡◌, ◌+◌, ◌<◌, List, length, Bool}
use Rattle.ac_base.specs.declared.name.Name.{Name}
use Rattle.ac_chain.specs.Rows.{Chained, IsLive}
use Rattle.ac_model.specs.Rows.{fresh, merged}
use Rattle.ac_model.specs.Objects.{plains}

module _ {X : Type 0} where
  -- each name that isn't new was there
  abbrev pub KeepsNames : Chained X → Chained X → Type 0
  KeepsNames c now = (a : Name) → IsLive now a → a.serial < c.next_serial → IsLive c a

  -- the chain with the values merged into its rows, under new names in their order
  pub record IsMerged (less : X → X → Bool) (c : Chained X) (vs : List X) (now : Chained X) : Type 0 where
    pub rows : plains now.rows ≡ merged less (plains c.rows) (fresh c.next_serial vs)
    pub next : now.next_serial ≡ c.next_serial + length vs
    pub names : KeepsNames c now

  -- the value stands behind the element, which is less
  abbrev pub is_behind : (X → X → Bool) → X → X → Bool
  is_behind less value element = less element value
