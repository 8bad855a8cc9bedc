-- What is asked: a question and its parts.
use Rattle.std.specs.Prelude.{ℕ, Bool, List}
use Rattle.ac_aggregate.specs.declared.oper.Comparison.{Comparison}
use Rattle.ac_aggregate.specs.declared.oper.Oper.{Oper}

pub data Asked : Type 0 where
  -- a number, and whether a minus stands before it, as they are spelled
  literal : (minus : Bool) → ℕ → Asked
  text : List ℕ → Asked
  name : List ℕ → Asked
  group : Asked → Asked
  product : Asked → Asked → Asked
  sum : Asked → (minus : Bool) → Asked → Asked
  -- all elements of an object that is reduced
  all_of : (object : List ℕ) → Asked
  -- of each element of an object for which the condition holds what it gives
  each : (generator object : List ℕ) → (condition : Asked) → (gives : Asked) → Asked
  -- a reduction, and the number that it begins with
  reduced : (source : Asked) → Oper → (minus : Bool) → ℕ → Asked
  -- the condition of an aggregate that has none
  always : Asked
  compares : Asked → Comparison → Asked → Asked
  both : Asked → Asked → Asked
  negated : Asked → Asked
