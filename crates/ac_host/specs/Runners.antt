-- Blocks of tasks that are run to their end, and the orders by which they ran.
use Rattle.std.specs.Prelude.{◌≡◌, ℕ, List, [], Result, IfOk}
use Rattle.ac_base.specs.declared.fault.NoMemory.{NoMemory}
use Rattle.ac_history.specs.Blocks.{Block}
use Rattle.ac_history.specs.Orders.{run_of}

-- done is what an order of these leaves of start
pub record IsRunBy (allows : List ℕ → Type 0) (start done : Block) : Type 0 where
  pub order : List ℕ
  pub allowed : allows order
  pub is : done ≡ run_of start order

-- each answer is what one of these orders leaves
abbrev pub AnswersBy : (allows : List ℕ → Type 0) → (answers : Block → Result Block NoMemory → Type 0) → Type 0
AnswersBy allows answers = (start : Block) (made : Result Block NoMemory) → start.history ≡ [] → answers start made → IfOk made (IsRunBy allows start)
