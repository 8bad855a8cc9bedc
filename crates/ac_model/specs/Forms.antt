-- What a library call's contract says, in short forms: the call's definition, over the container before and after it, and its answer.
use Rattle.std.specs.Prelude.{◌≡◌, ℕ, IsTrue, OnErr, Option, Some, None, Result, Ok, Err}
use Rattle.ac_base.specs.declared.cursor.Cursor.{Cursor}
use Rattle.ac_base.specs.declared.fault.Fault.{Fault}
use Rattle.ac_base.specs.declared.fault.Fault.TheVariants as fault
use Rattle.ac_base.specs.declared.cursor.Cursor.TheVariants.{At}
use Rattle.ac_base.specs.declared.fault.NoMemory.{NoMemory}
use Rattle.ac_base.specs.declared.name.Name.{Name}
use Rattle.ac_base.specs.declared.reason.Reason.{Reason}
use Rattle.ac_model.specs.Objects.{Object, plain}
use Rattle.ac_model.specs.Letters.{Mark}
use Rattle.ac_model.specs.Calls.{Call, Look, Both, both, Changing, ChangingBoth, Looking, Marks, Done}
use Rattle.ac_model.specs.Containers.{Container}
use Rattle.ac_model.specs.Cursors.{mark}

-- refused for the reason, if there is one
abbrev pub allowed : Option Reason → Result Done Fault
allowed None = Ok tt
allowed (Some reason) = Err (fault.Raised reason)

-- want of memory as a fault
abbrev pub as_fault : Result Done NoMemory → Result Done Fault
as_fault (Ok x) = Ok x
as_fault (Err e) = Err fault.NoMemory

-- a new name as a cursor of the object with this number
abbrev pub cursor_of : ℕ → Result Name NoMemory → Result Cursor Fault
cursor_of number (Ok name) = Ok (At number name)
cursor_of number (Err e) = Err fault.NoMemory

-- a call that makes a container: Ok, no reason and the object that it means; or the first reason; or want of memory, where it may take some, and no reason
abbrev pub Makes : {V : Type 0} → Call (Object ℕ V) Done → Result (Container V) Fault → Type 0
Makes c (Ok made) = (c.reason ≡ None) × (plain made.object ≡ c.after)
Makes c (Err (fault.Raised reason)) = c.reason ≡ Some reason
Makes c (Err fault.NoMemory) = IsTrue c.memory × (c.reason ≡ None)

module _ {V X A : Type 0} where
  -- the call does what it means to the container; `Answers` says how its answer is the meaning's
  abbrev pub Does : (X → A → Type 0) → (Object ℕ V → Call (Object ℕ V) A) → Container V → Container V → Result X Fault → Type 0
  Does Answers call old new result = Changing Answers (call (plain old.object)) old.object new.object result

  -- to a target and a source
  abbrev pub DoesBoth : (X → A → Type 0) → (Object ℕ V → Object ℕ V → Call (Both (Object ℕ V)) A)
      → (target source target_new source_new : Container V) → Result X Fault → Type 0
  DoesBoth Answers call target source target_new source_new result =
      ChangingBoth Answers (call (plain target.object) (plain source.object))
      (both target.object source.object) (both target_new.object source_new.object) result

  -- it only looks
  abbrev pub Looks : (X → A → Type 0) → (Object ℕ V → Look A) → Container V → Result X Fault → Type 0
  Looks Answers call now result = Looking Answers (call (plain now.object)) result

-- why the call is refused
abbrev pub Refuses : {V A : Type 0} → (Object ℕ V → Call (Object ℕ V) A) → Container V → Option Reason → Type 0
Refuses call now refusal = refusal ≡ (call (plain now.object)).reason

-- of a target and a source
abbrev pub RefusesBoth : {V A : Type 0} → (Object ℕ V → Object ℕ V → Call (Both (Object ℕ V)) A)
    → (target source : Container V) → Option Reason → Type 0
RefusesBoth call target source refusal = refusal ≡ (call (plain target.object) (plain source.object)).reason

-- what the cursor means to the container
abbrev pub seen_by : {V : Type 0} → Container V → Cursor → Mark
seen_by c cursor = mark c.object cursor

module _ {V X : Type 0} where
  -- the call does what it means to the container and sets its cursor variable, which keeps its value where the call fails
  abbrev pub Sets : (Object ℕ V → Call (Object ℕ V) Mark) → Container V → Cursor → Container V → Cursor → Result X Fault → Type 0
  Sets call old variable_old new variable_new result =
      Does (λ _ mark. Marks new.object variable_new mark) call old new result × OnErr result (variable_new ≡ variable_old)

  -- the same of a target and a source: the variable is set to a cursor of the target
  abbrev pub SetsBoth : (Object ℕ V → Object ℕ V → Call (Both (Object ℕ V)) Mark)
      → (target source : Container V) → Cursor → (target_new source_new : Container V) → Cursor → Result X Fault → Type 0
  SetsBoth call target source variable_old target_new source_new variable_new result =
      DoesBoth (λ _ mark. Marks target_new.object variable_new mark) call target source target_new source_new result
      × OnErr result (variable_new ≡ variable_old)
