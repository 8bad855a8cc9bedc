-- What a write in the rows of an object comes to.
use Rattle.std.specs.Prelude.{◌≡◌, ℕ, None, Some, Result, Ok, Err}
use Rattle.ac_base.specs.declared.fault.Fault.{Fault}
use Rattle.ac_base.specs.declared.fault.Fault.TheVariants as fault
use Rattle.ac_model.specs.Calls.{Call, Done, IsAfter}
use Rattle.ac_model.specs.Containers.{Container}
use Rattle.ac_model.specs.Objects.{Object, plain}

-- where it fails, nothing changes
abbrev pub WritesIn : {V : Type 0} → (Object ℕ V → Call (Object ℕ V) Done) → (old new : Container V) → Result Done Fault → Type 0
WritesIn call old new (Ok done) = ((call (plain old.object)).reason ≡ None) × IsAfter old.object new.object (call (plain old.object)).after
WritesIn call old new (Err (fault.Raised reason)) = ((call (plain old.object)).reason ≡ Some reason) × (new ≡ old)
WritesIn call old new (Err fault.NoMemory) = new ≡ old
