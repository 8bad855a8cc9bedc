-- Heads of blocks that view an object, a view, an update of a key or a `stable`: what such a block begins with, and what it ends with.
use Rattle.std.specs.Prelude.{◌≡◌, ◌+◌, ⊤, ℕ, length, Option, Some, None, Result, Ok, Err}
use Rattle.ac_base.specs.declared.fault.Fault.{Fault}
use Rattle.ac_base.specs.declared.fault.Fault.TheVariants.{Raised, NoMemory}
use Rattle.ac_base.specs.declared.guard.GuardKind.TheVariants as guard
use Rattle.ac_base.specs.declared.reason.Reason.{Reason}
use Rattle.ac_model.specs.Cursors.{plain_mark}
use Rattle.ac_model.specs.Letters.{Mark}
use Rattle.ac_syntax.specs.declared.view_kind.ViewKind.{ViewKind}
use Rattle.ac_syntax.specs.declared.view_kind.ViewKind.TheVariants.{Query, Update, Reference, UpdateKey}
use Rattle.ac_calls.specs.Holdings.{Held, Guards, element_value}
use Rattle.ac_meaning.specs.Environment.{Bound, State, binds_element, binds_value, mark_at, value_or_zero, with_name, leaving}
use Rattle.ac_meaning.specs.Execution.{head_reason, guards_of_view, guards_of_stable}
use Rattle.ac_objects.specs.declared.blocks.OpenUpdate.{OpenUpdate}
use Rattle.ac_objects.specs.declared.blocks.ViewHead.{ViewHead}
use Rattle.ac_objects.specs.declared.blocks.ViewHead.TheVariants.{Element, Stable}
use Rattle.ac_objects.specs.declared.blocks.ViewKey.{ViewKey}
use Rattle.ac_objects.specs.declared.blocks.ViewKey.TheVariants as keys
use Rattle.ac_objects.specs.Blocks.{releasing, guards_of_open_view}
use Rattle.ac_objects.specs.KeyUpdates.{UpdateEnds}
use Rattle.ac_objects.specs.Standing.{HasValue, StandsAt}
use Rattle.ac_objects.specs.World.{World, state_of, IsKnown}

-- Where a block begins

-- the object of the head
abbrev pub viewed_object : ViewHead → ℕ
viewed_object (Element kind object at) = object
viewed_object (Stable object) = object

-- why the head is refused
abbrev pub head_refusal : ViewHead → State → Held → Option Reason
head_refusal (Element kind object at) e h = head_reason kind h (mark_at e at)
head_refusal (Stable object) e h = None

-- the guards that the block holds
abbrev pub guards_of_head : ViewHead → Held → Guards
guards_of_head (Element kind object at) h = guards_of_view kind h
guards_of_head (Stable object) h = guards_of_stable h

-- what the name of a view stands for: the element itself, or a copy of it
abbrev pub viewed_name : ViewKind → (object : ℕ) → Mark → Held → Bound
viewed_name Query object at h = binds_element object at
viewed_name Update object at h = binds_element object at
viewed_name Reference object at h = binds_element object at
viewed_name UpdateKey object at h = binds_value (value_or_zero (element_value h at).answer)

-- what the body finds: the name of a view, beside what there is
abbrev pub with_viewed : ViewHead → State → Held → State → State
with_viewed (Element kind object at) e h found = with_name found (viewed_name kind object (mark_at e at) h)
with_viewed (Stable object) e h found = found

-- the key of a block with this head: an update of a key has a cursor that it keeps, and a cursor guard
abbrev pub KeepsCursor : (at : Option ℕ) → State → World → OpenUpdate → Type 0
KeepsCursor at old now update = (plain_mark update.at ≡ mark_at old at) × IsKnown now update.at × (update.guard.kind ≡ guard.Cursors)

abbrev pub IsKeyOf : ViewHead → (old : State) → (now : World) → ViewKey → Type 0
IsKeyOf (Element Query object at) old now (keys.View view) = ⊤
IsKeyOf (Element Query object at) old now (keys.Update update) = ⊥
IsKeyOf (Element Update object at) old now (keys.View view) = ⊤
IsKeyOf (Element Update object at) old now (keys.Update update) = ⊥
IsKeyOf (Element Reference object at) old now (keys.View view) = ⊤
IsKeyOf (Element Reference object at) old now (keys.Update update) = ⊥
IsKeyOf (Element UpdateKey object at) old now (keys.View view) = ⊥
IsKeyOf (Element UpdateKey object at) old now (keys.Update update) = KeepsCursor at old now update
IsKeyOf (Stable object) old now (keys.View view) = ⊤
IsKeyOf (Stable object) old now (keys.Update update) = ⊥

-- Where it ends

-- an update of a key can end: its name is the last and a variable's, and its cursor designates an element of its object
pub record CanEnd (w : World) (update : OpenUpdate) : Type 0 where
  pub last : length w.bounds ≡ update.names + 1
  pub copy : HasValue (state_of w) update.names
  pub cursors : update.guard.kind ≡ guard.Cursors
  pub known : IsKnown w update.at
  pub element : StandsAt (state_of w) update.object (plain_mark update.at)

-- nothing of that is asked of another block
abbrev pub BlockCanEnd : World → ViewKey → Type 0
BlockCanEnd w (keys.View view) = ⊤
BlockCanEnd w (keys.Update update) = CanEnd w update

-- the reason of a fault
abbrev pub fault_reason : Result ⊤ Fault → Option Reason
fault_reason (Ok _) = None
fault_reason (Err (Raised reason)) = Some reason
fault_reason (Err NoMemory) = None

-- the name goes and the guard is released, and no fault is told. An update of a key puts its copy back besides
abbrev pub BlockEnds : ViewKey → (old new : State) → Result ⊤ Fault → Type 0
BlockEnds (keys.View view) old new result = (result ≡ Ok tt) × (new ≡ releasing (guards_of_open_view view) (leaving view.names old))
BlockEnds (keys.Update update) old new result = UpdateEnds update old new (fault_reason result)
