-- What a holder's contracts say, in short forms: the call's definition, over the holder before and after it, and its result.
use Rattle.std.specs.Prelude.{Result}
use Rattle.ac_base.specs.declared.fault.Fault.{Fault}
use Rattle.ac_model.specs.Holders.{Holder}
use Rattle.ac_model.specs.Calls.{Call, Both, both, ChangingBy, IsNow, Same, Done}

module _ {T : Type 0} where
  -- the call does what it means to the holder
  abbrev pub Does : (Holder T → Call (Holder T) Done) → Holder T → Holder T → Result Done Fault → Type 0
  Does call old new result = ChangingBy IsNow Same (call old) old new result

  -- to a target and a source
  abbrev pub DoesBoth : (Holder T → Holder T → Call (Both (Holder T)) Done)
      → (target source target_new source_new : Holder T) → Result Done Fault → Type 0
  DoesBoth call target source target_new source_new result =
      ChangingBy IsNow Same (call target source) (both target source) (both target_new source_new) result
