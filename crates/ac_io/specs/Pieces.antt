-- Text that is written in pieces: what was told of it so far, and what waits in a buffer.
use Rattle.std.specs.Prelude.{◌≡◌, ◌+◌, ◌-◌, ◌≤◌, ℕ, Bool, true, List, ◌++◌, length, Option, Some, IfSome, Result, Ok, OnOk, OnErr, IsOk}
use Rattle.ac_io.specs.declared.whole.WriteFault.{WriteFault}
use Rattle.ac_io.specs.Outside.{Rose, GrewBy, GrewByFront}

-- what is held grew by a front of the whole, of which the rest is still to be told
pub record IsTold (before now : Option (List ℕ)) (rest whole : List ℕ) : Type 0 where
  pub told : List ℕ
  pub parts : told ++ rest ≡ whole
  pub grew : GrewBy before now told

-- a text is added to what waits, and of both a front is told, on Err too; with the promises of a sink by its members
pub record Adds {K T E : Type 0} (held : K → Option (List ℕ)) (faults : K → ℕ) (room : K → Option ℕ) (counts_failures : K → Bool)
    (old new : K) (waits waits_now text : List ℕ) (result : Result T E) : Type 0 where
  pub whole : OnOk result (IsTold (held old) (held new) waits_now (waits ++ text))
  pub front : OnErr result (GrewByFront (held old) (held new) (waits ++ text))
  pub fault : OnErr result (Rose (faults old) (faults new))
  pub counted : faults old ≤ faults new
  -- where the sink has room for all, it takes it all
  pub within : IfSome (room old) (λ most. length (waits ++ text) ≤ most →
      IsOk result × (room new ≡ Some ((most + length waits_now) - length (waits ++ text))))
  -- where the count rises in failed calls alone, what is whole leaves it as it was
  pub counts : counts_failures old ≡ true → (IsOk result → faults new ≡ faults old) × (counts_failures new ≡ true)

-- the same in the middle of a whole, of which the rest is still to be added
pub record AddsSoFar {K : Type 0} (held : K → Option (List ℕ)) (faults : K → ℕ) (room : K → Option ℕ) (counts_failures : K → Bool)
    (old new : K) (waits waits_now rest whole : List ℕ) : Type 0 where
  pub done : List ℕ
  pub parts : done ++ rest ≡ whole
  pub adds : Adds {T = Unit {0}} {E = WriteFault} held faults room counts_failures old new waits waits_now done (Ok tt)
