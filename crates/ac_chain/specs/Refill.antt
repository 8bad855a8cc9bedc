-- What a chain is after its rows gave way to others.
use Rattle.std.specs.Prelude.{◌≡◌, ◌+◌, List, length}
use Rattle.ac_chain.specs.Rows.{Chained}
use Rattle.ac_model.specs.Rows.{fresh}
use Rattle.ac_model.specs.Objects.{plains}

module _ {X : Type 0} where
  -- the chain with these values under new names, and nothing else
  pub record IsRefilled (c : Chained X) (vs : List X) (now : Chained X) : Type 0 where
    pub rows : plains now.rows ≡ fresh c.next_serial vs
    pub next : now.next_serial ≡ c.next_serial + length vs
