-- What a call means, in one value for each call: the first reason to refuse it, and where there is none, what it leaves and answers; and the relations in which a library call's contract says that it does so.
use Rattle.std.specs.Prelude.{◌≡◌, ◌<◌, ℕ, Bool, true, false, All, IsTrue, Option, Some, None, Result, Ok, Err}
use Rattle.std.specs.Borrow.{Bor}
use Rattle.ac_base.specs.declared.reason.Reason.{Reason}
use Rattle.ac_base.specs.declared.fault.Fault.{Fault}
use Rattle.ac_base.specs.declared.fault.Fault.TheVariants as fault
use Rattle.ac_base.specs.declared.name.Name.{Name}
use Rattle.ac_base.specs.declared.cursor.Cursor.{Cursor}
use Rattle.ac_base.specs.FirstReason.{earlier}
use Rattle.ac_base.specs.Rows.{names}
use Rattle.ac_model.specs.Objects.{Object, plain, IsValid}
use Rattle.ac_model.specs.Letters.{Mark, mark_of, is_among}

-- S: what the call may change, one object or two; A: what it answers
pub record Call (S A : Type 0) : Type 0 where
  pub reason : Option Reason
  pub after : S
  pub answer : A
  -- the call may answer that it wants memory
  pub memory : Bool

-- a call that only looks
pub record Look (A : Type 0) : Type 0 where
  pub reason : Option Reason
  pub answer : A

-- the objects of a call that changes two
pub record Both (S : Type 0) : Type 0 where
  pub target : S
  pub source : S

abbrev pub both : {S : Type 0} → S → S → Both S
both target source = record { target = target; source = source }

-- the answer of a call that answers nothing
abbrev pub Done : Type 0
Done = Unit {0}

abbrev pub call : {S A : Type 0} → Bool → Option Reason → S → A → Call S A
call memory reason after answer = record { reason = reason; after = after; answer = answer; memory = memory }

-- the call after a check, which is made before the call looks for its own reasons
abbrev pub after_check : {S A : Type 0} → Option Reason → Call S A → Call S A
after_check check c = record c { reason = earlier check c.reason }

abbrev pub look : {A : Type 0} → Option Reason → A → Look A
look reason answer = record { reason = reason; answer = answer }

-- the call takes no memory; it may take some; it may take some where the test fails
abbrev pub takes_none : Bool
takes_none = false

abbrev pub takes_some : Bool
takes_some = true

-- each name in the new rows was in the old ones, with its slot, or is new
abbrev pub KeepsSlots : {V : Type 0} → Object Name V → Object Name V → Type 0
KeepsSlots old new = All (λ name. name.serial < old.next → IsTrue (is_among (names old.rows) name)) (names new.rows)

-- the object after a call: plain, it is what the call means
pub record IsAfter {V : Type 0} (old new : Object Name V) (after : Object ℕ V) : Type 0 where
  pub plainly : plain new ≡ after
  pub slots : KeepsSlots old new

-- a changing call: Ok, no reason and its effect; or the first reason and no change; or want of memory, where the call may take some, no reason and no change. `After` says how the new state is what the call means, and `Answers` how the code's answer is
abbrev pub ChangingBy : {O S X A : Type 0} → (O → O → S → Type 0) → (X → A → Type 0) → Call S A → O → O → Result X Fault → Type 0
ChangingBy After Answers c old new (Ok x) = (c.reason ≡ None) × After old new c.after × Answers x c.answer
ChangingBy After Answers c old new (Err (fault.Raised reason)) = (c.reason ≡ Some reason) × (new ≡ old)
ChangingBy After Answers c old new (Err fault.NoMemory) = IsTrue c.memory × (c.reason ≡ None) × (new ≡ old)

-- of an object with names
abbrev pub Changing : {V X A : Type 0} → (X → A → Type 0) → Call (Object ℕ V) A → Object Name V → Object Name V → Result X Fault → Type 0
Changing Answers c old new result = ChangingBy IsAfter Answers c old new result

-- of two of them
pub record AreAfter {V : Type 0} (old new : Both (Object Name V)) (after : Both (Object ℕ V)) : Type 0 where
  pub target : IsAfter old.target new.target after.target
  pub source : IsAfter old.source new.source after.source

abbrev pub ChangingBoth : {V X A : Type 0} → (X → A → Type 0) → Call (Both (Object ℕ V)) A → Both (Object Name V) → Both (Object Name V) → Result X Fault → Type 0
ChangingBoth Answers c old new result = ChangingBy AreAfter Answers c old new result

-- a call whose effect stands whether it is refused or not, as the end of an update of a key
abbrev pub ChangingAlways : {V X A : Type 0} → (X → A → Type 0) → Call (Object ℕ V) A → Object Name V → Object Name V → Result X Fault → Type 0
ChangingAlways Answers c old new (Ok x) = (c.reason ≡ None) × IsAfter old new c.after × Answers x c.answer
ChangingAlways Answers c old new (Err (fault.Raised reason)) = (c.reason ≡ Some reason) × IsAfter old new c.after
ChangingAlways Answers c old new (Err fault.NoMemory) = ⊥

-- of a state that has no names
abbrev pub IsNow : {S : Type 0} → S → S → S → Type 0
IsNow old new after = new ≡ after

-- a call that only looks and may be refused. `Answers` says what is lent or answered, by the call's meaning
abbrev pub Looking : {X A : Type 0} → (X → A → Type 0) → Look A → Result X Fault → Type 0
Looking Answers l (Ok x) = (l.reason ≡ None) × Answers x l.answer
Looking Answers l (Err (fault.Raised reason)) = l.reason ≡ Some reason
Looking Answers l (Err fault.NoMemory) = ⊥

-- how answers correspond: the same value; a value that is lent; a cursor, by its mark in the object
abbrev pub Same : {A : Type 0} → A → A → Type 0
Same x answer = x ≡ answer

abbrev pub Lends : {A : Type 0} → Bor A → Option A → Type 0
Lends lent answer = answer ≡ Some lent.now

abbrev pub Marks : {V : Type 0} → Object Name V → Cursor → Mark → Type 0
Marks o cursor mark = mark_of o.number (names o.rows) cursor ≡ mark

-- a call keeps an object valid
abbrev pub Keeps : {V A : Type 0} → Object ℕ V → Call (Object ℕ V) A → Type 0
Keeps o c = IsValid o → c.reason ≡ None → IsValid c.after

abbrev pub KeepsBoth : {V A : Type 0} → Object ℕ V → Object ℕ V → Call (Both (Object ℕ V)) A → Type 0
KeepsBoth target source c = IsValid target → IsValid source → c.reason ≡ None → IsValid c.after.target × IsValid c.after.source
