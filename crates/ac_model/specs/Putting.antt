-- Copies that are put before a place of a list.
use Rattle.std.specs.Prelude.{◌≡◌, ℕ, ◌+◌, replicate, Option, None, ◌≤◌, ◌==◌, ◌&&◌, false, not, Result, Ok, Err}
use Rattle.ac_base.specs.declared.name.Name.{Name}
use Rattle.ac_base.specs.declared.fault.Fault.{Fault}
use Rattle.ac_base.specs.Limits.{is_past, numbers_end}
use Rattle.ac_base.specs.declared.limit.TheConstants.{GREATEST_LENGTH}
use Rattle.ac_model.specs.Objects.{Object, plain, length_of}
use Rattle.ac_model.specs.Letters.{Mark, no_mark, has_room}
use Rattle.ac_model.specs.Calls.{Call, call, Done}
use Rattle.ac_model.specs.Sequences.{with_new, first_new}
use Rattle.ac_model.specs.Cursors.{spot}

-- the answer let go
abbrev pub done : {A : Type 0} → Result A Fault → Result Done Fault
done (Ok x) = Ok tt
done (Err e) = Err e

module _ {X : Type 0} where
  -- an object that takes so many more
  pub record Takes (o : Object Name X) (n : ℕ) : Type 0 where
    pub few : length_of o + n ≤ GREATEST_LENGTH
    pub within : is_past o.limit (length_of o + n) ≡ false
    pub unspent : o.next + n ≤ numbers_end

  -- so many copies are put before the place, and the answer is the first one's cursor
  abbrev pub put_call : Object Name X → Option Name → X → ℕ → Call (Object ℕ X) Mark
  put_call o place e n = call (not ((n == 1) && has_room (plain o))) None (with_new (plain o) (spot o place) (replicate n e) n) (first_new (plain o) no_mark n)
