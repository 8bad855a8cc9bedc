-- What it is to read the items that may come, no more and no less.
use Rattle.std.specs.Prelude.{◌≡◌, Bool, List, ◌∷◌, ◌++◌, Some}
use Rattle.ac_syntax.specs.declared.closing.Closing.{Closing}
use Rattle.ac_syntax.specs.declared.closing.Closing.TheVariants.{EndHandlers}
use Rattle.ac_syntax.specs.declared.token.Placed.{Placed}
use Rattle.ac_syntax.specs.Items.{Item}
use Rattle.ac_syntax.specs.Grammar.{IsItem}
use Rattle.ac_syntax.specs.Order.{Stage, catching, Context, next_after}
use Rattle.ac_script.specs.Outcomes.{got, stopped, Reader}
use Rattle.ac_script.specs.ItemReader.{innermost_of}

-- the item may come in this context
pub record MayCome (propagating : Bool) (blocks : List Closing) (stage : Stage) (item : Item) : Type 0 where
  pub next : Context
  pub leads : next_after propagating blocks stage item ≡ Some next

-- where a handler has to come, one may
abbrev pub MayCatch : List Closing → Stage → Type 0
MayCatch blocks stage = stage ≡ catching → innermost_of blocks ≡ Some EndHandlers

-- these tokens are the item's, which has some, and then the rest
pub record IsFront (propagating : Bool) (blocks : List Closing) (stage : Stage) (placed : List Placed) (item : Item) (rest : List Placed) : Type 0 where
  pub first : Placed
  pub others : List Placed
  pub whole : placed ≡ first ∷ (others ++ rest)
  pub is : IsItem item (first ∷ others)
  pub may : MayCome propagating blocks stage item

-- the tokens up to these begin an item that may come
pub record IsBegun (propagating : Bool) (blocks : List Closing) (stage : Stage) (placed at : List Placed) : Type 0 where
  pub before : List Placed
  pub more : List Placed
  pub item : Item
  pub whole : placed ≡ before ++ at
  pub is : IsItem item (before ++ more)
  pub may : MayCome propagating blocks stage item

-- the reader reads the items that may come in this context
pub record ReadsItems (propagating : Bool) (blocks : List Closing) (stage : Stage) (reader : Reader Item) : Type 0 where
  -- what is read is an item that may come
  pub found : (placed : List Placed) (item : Item) (rest : List Placed) → reader placed ≡ got item rest → IsFront propagating blocks stage placed item rest
  -- each item that may come is read
  pub only : (item : Item) (front rest : List Placed) → MayCome propagating blocks stage item → IsItem item front → reader (front ++ rest) ≡ got item rest
  -- what stands before the place where it stops begins an item that may come
  pub begun : (placed at : List Placed) → reader placed ≡ stopped at → IsBegun propagating blocks stage placed at
  -- and with the token at that place none begins so
  pub bad : (placed before : List Placed) (b : Placed) (after more : List Placed) (item : Item) → reader placed ≡ stopped (b ∷ after) → placed ≡ before ++ b ∷ after
      → MayCome propagating blocks stage item → IsItem item (before ++ b ∷ more) → ⊥
