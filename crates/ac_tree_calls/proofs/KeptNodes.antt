-- What a call of a tree leaves whose spare slots stay.
use Rattle.std.proofs.Common.{◌≡◌, ℕ}
use Rattle.std.specs.Prelude.{Result, Ok, Err}
use Rattle.ac_base.specs.declared.fault.Fault.{Fault}
use Rattle.ac_base.specs.declared.fault.Fault.TheVariants as fault
use Rattle.ac_model.specs.Calls.{Call, Done, Same}
use Rattle.ac_model.specs.Containers.{Container}
use Rattle.ac_model.specs.Forms.{Does}
use Rattle.ac_model.specs.Objects.{Object}
use Rattle.ac_calls.specs.RowWrites.{WritesIn}

module _ {V : Type 0} where
  pub whole_kept : (old new : Container V) → new.object ≡ old.object → new.spare ≡ old.spare → new ≡ old
  whole_kept old new object spare = λ i. record { object = object i; spare = spare i }

  pub writes_by_spare : (call : Object ℕ V → Call (Object ℕ V) Done) (old new : Container V) (result : Result Done Fault) → new.spare ≡ old.spare
      → Does Same call old new result → WritesIn call old new result
  writes_by_spare call old new (Ok done) spare h = (h.0, h.1)
  writes_by_spare call old new (Err (fault.Raised reason)) spare h = (h.0, whole_kept old new h.1 spare)
  writes_by_spare call old new (Err fault.NoMemory) spare h = whole_kept old new h.2 spare
