-- Runs of a block told by orders: which tasks have a turn, one after another. Behind an order all tasks have turns in rounds, until nothing more can be done.
use Rattle.std.specs.Prelude.{◌≡◌, ℕ, zero, suc, List, [], ◌∷◌, ◌++◌, map, length}
use Rattle.ac_history.specs.declared.entry.Entry.{Entry}
use Rattle.ac_history.specs.Blocks.{Block, IsComplete, after_turns, commands_in, opening, present, with_entries}
use Rattle.ac_history.specs.Histories.{IsLegal}

-- the numbers below this one, in order
abbrev pub each_below : ℕ → List ℕ
each_below zero = []
each_below (suc n) = each_below n ++ n ∷ []

-- each of so many tasks, so many times over
abbrev pub rounds : (times tasks : ℕ) → List ℕ
rounds zero tasks = []
rounds (suc times) tasks = each_below tasks ++ rounds times tasks

-- as many rounds as there are commands: each does at least one, while any task is able
abbrev pub last_rounds : Block → List ℕ
last_rounds b = rounds (commands_in b.code) (length b.code)

-- the block as an order leaves it
abbrev pub run_of : Block → (order : List ℕ) → Block
run_of b order = after_turns b (order ++ last_rounds b)

-- the order that a history tells
abbrev pub order_of : List Entry → List ℕ
order_of history = map (λ (e : Entry). e.task) history

-- what an order leaves is legal, and nothing more can be done
pub record RunsToTheEnd (b : Block) : Type 0 where
  pub legal : IsLegal (opening b) b.history
  pub complete : IsComplete b

abbrev pub OrdersRun : Type 0
OrdersRun = (b : Block) (order : List ℕ) → IsLegal (opening b) b.history → RunsToTheEnd (run_of b order)

-- and each history of which this holds is that of an order
abbrev pub HistoriesHaveOrders : Type 0
HistoriesHaveOrders = (b : Block) (more : List Entry) → IsLegal (present b) more → IsComplete (with_entries b more) →
    run_of b (order_of more) ≡ with_entries b more
