-- What a chain is after rows were taken out of it.
use Rattle.std.specs.Prelude.{◌≡◌, ℕ, ◌+◌, ◌++◌, length, take, drop}
use Rattle.ac_chain.specs.Rows.{Chained}

module _ {X : Type 0} where
  -- the chain without the `count` rows from the place on, whose slots are spare
  pub record IsCut (c : Chained X) (place count : ℕ) (now : Chained X) : Type 0 where
    pub rows : now.rows ≡ take place c.rows ++ drop (place + count) c.rows
    pub next : now.next_serial ≡ c.next_serial
    pub slots : length now.rows + now.spare ≡ length c.rows + c.spare
