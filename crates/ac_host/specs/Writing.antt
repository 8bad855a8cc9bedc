-- What was written of a text when a part of a script ended.
use Rattle.std.specs.Prelude.{◌≡◌, ◌≢◌, ◌-◌, ◌≤◌, ℕ, Bool, true, List, ◌++◌, length, Option, Some, IfSome, Result, Ok, Err, OnOk, IfOk}
use Rattle.ac_io.specs.Outside.{Rose, GrewBy, GrewByFront}
use Rattle.ac_calls.specs.Answers.{lines_text}
use Rattle.ac_meaning.specs.Environment.{State, under}
use Rattle.ac_calls.specs.Holdings.{Guards}
use Rattle.ac_meaning.specs.Execution.{End, Outcome}
use Rattle.ac_objects.specs.World.{World, state_of}
use Rattle.ac_host.specs.declared.end.HostEnd.{HostEnd}
use Rattle.ac_host.specs.declared.end.HostEnd.TheVariants.{WriteFault}

-- a sink is told by its members
module _ {K : Type 0} (held : K → Option (List ℕ)) (faults : K → ℕ) (room : K → Option ℕ) (counts_failures : K → Bool) where
  -- the whole text was written
  pub record Wrote (old new : K) (text : List ℕ) : Type 0 where
    pub grew : GrewBy (held old) (held new) text
    pub counted : faults old ≤ faults new
    -- from the room for it
    pub within : IfSome (room old) (λ most. length text ≤ most → room new ≡ Some (most - length text))
    -- where the count of faults rises in failed calls alone, it stays
    pub counts : counts_failures old ≡ true → (faults new ≡ faults old) × (counts_failures new ≡ true)

  -- a front of it was written before this end
  pub record Broke (old new : K) (text : List ℕ) (end : HostEnd) : Type 0 where
    pub front : GrewByFront (held old) (held new) text
    pub rose : end ≡ WriteFault → Rose (faults old) (faults new)
    pub counted : faults old ≤ faults new
    -- where there is room for it, no write fails
    pub within : IfSome (room old) (λ most. length text ≤ most → end ≢ WriteFault)
    pub counts : counts_failures old ≡ true → (end ≢ WriteFault → faults new ≡ faults old) × (counts_failures new ≡ true)

  -- by the result
  abbrev pub Writes : {T : Type 0} → (old new : K) → List ℕ → Result T HostEnd → Type 0
  Writes old new text (Ok _) = Wrote old new text
  Writes old new text (Err end) = Broke old new text end

  -- the lines were written, and then this is the environment that is left, and the end is told
  pub record Reached (old new : K) (now : State) (guards : Guards) (r : Outcome) (result : Result End HostEnd) : Type 0 where
    pub writes : Writes old new (lines_text r.lines) result
    pub after : OnOk result (now ≡ under guards r.after)
    pub ended : IfOk result (λ end. end ≡ r.end)

  -- by the objects
  abbrev pub Ran : (old new : K) → World → Guards → Outcome → Result End HostEnd → Type 0
  Ran old new now guards r result = Reached old new (state_of now) guards r result

  -- of a whole, a beginning was written, and what is left comes to the same environment and ends in the same way
  pub record WroteSoFar (old new : K) (left whole : Outcome) : Type 0 where
    pub done : List ℕ
    pub parts : done ++ lines_text left.lines ≡ lines_text whole.lines
    pub wrote : Wrote old new done
    pub after : left.after ≡ whole.after
    pub end : left.end ≡ whole.end
