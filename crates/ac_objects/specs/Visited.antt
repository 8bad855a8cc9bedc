-- What a visitor reads of an object in memory, and what each visitor tells of it.
use Rattle.std.specs.Prelude.{◌≡◌, ⊤, ℕ, Bool, Option, Some, None, Result, IfOk}
use Rattle.ac_base.specs.declared.cursor.Cursor.{Cursor}
use Rattle.ac_base.specs.declared.cursor.Cursor.TheVariants as cursor
use Rattle.ac_base.specs.declared.fault.NoMemory.{NoMemory}
use Rattle.ac_base.specs.declared.reason.Reason.{Reason}
use Rattle.ac_base.specs.declared.reason.Reason.TheVariants.{NoElement}
use Rattle.ac_base.specs.declared.value.Value.{Value}
use Rattle.ac_base.specs.Rows.{names}
use Rattle.ac_model.specs.Calls.{Look, look}
use Rattle.ac_model.specs.Containers.{Container}
use Rattle.ac_model.specs.Cursors.{plain_mark}
use Rattle.ac_model.specs.Holders.{Holder}
use Rattle.ac_model.specs.Objects.{Object, plain, length_of}
use Rattle.ac_calls.specs.Arguments.{SlotAgrees}
use Rattle.ac_calls.specs.Elements.{Tools, tools_of}
use Rattle.ac_calls.specs.HolderReplies.{holder_element}
use Rattle.ac_calls.specs.Holdings.{RowKind, own_calls, seen_in}
use Rattle.ac_calls.specs.SequenceReplies.{OwnCalls}
use Rattle.ac_meaning.specs.Execution.{in_order}
use Rattle.ac_meaning.specs.Walks.{first_mark}
use Rattle.ac_objects.specs.Given.{GivenBy, StepsOn}
use Rattle.ac_objects.specs.RootFree.{NoRootAmong}
use Rattle.ac_objects.specs.World.{InMemory, in_rows, in_holder, in_queue}

-- rows, with their kind and what it means in its own way, or a holder, or a queue
pub data Visited : Type 1 where
  some_rows : {V : Type 0} → RowKind → (Object ℕ V → OwnCalls V) → Container V → Visited
  some_holder : {T : Type 0} → Tools T → Holder T → Visited
  some_queue : Visited

abbrev pub visited : InMemory → Visited
visited (in_rows kind l) = some_rows kind (own_calls kind) l
visited (in_holder e h) = some_holder (tools_of e) h
visited (in_queue number q) = some_queue

-- the slot of the cursor is the one that the object would find
abbrev pub AgreesThere : Cursor → Visited → Type 0
AgreesThere at (some_rows kind own l) = SlotAgrees l.object at
AgreesThere at (some_holder tools h) = ⊤
AgreesThere at some_queue = ⊤

-- how many elements have a slot
abbrev pub TellsCount : Visited → ℕ → Type 0
TellsCount (some_rows kind own l) count = count ≡ length_of l.object
TellsCount (some_holder tools h) count = count ≡ 0
TellsCount some_queue count = count ≡ 0

-- where a loop begins. A holder or a queue has no cursors, so that a loop over it ends where it begins
abbrev pub TellsFirst : (backward : Bool) → Visited → Cursor → Type 0
TellsFirst backward (some_rows kind own l) c =
    let o = plain l.object in
    GivenBy l.object c × NoRootAmong (names o.rows) × (plain_mark c ≡ first_mark o.number (in_order backward (names o.rows)))
TellsFirst backward (some_holder tools h) c = c ≡ cursor.NoElement
TellsFirst backward some_queue c = c ≡ cursor.NoElement

-- where it goes on behind this cursor
abbrev pub TellsNext : (backward : Bool) → (at : Cursor) → Visited → Cursor → Type 0
TellsNext backward at (some_rows kind own l) c =
    let o = plain l.object in GivenBy l.object c × StepsOn backward o.number (names o.rows) at c
TellsNext backward at (some_holder tools h) c = c ≡ cursor.NoElement
TellsNext backward at some_queue c = c ≡ cursor.NoElement

-- the element at the cursor. No name stands for an item of a queue
abbrev pub element_there : Cursor → Visited → Look (Option Value)
element_there at (some_rows kind own l) = let o = plain l.object in (own o).element (seen_in kind o (plain_mark at))
element_there at (some_holder tools h) = holder_element tools h
element_there at some_queue = look (Some NoElement) None

-- why it can't be viewed
abbrev pub TellsRefusal : Cursor → Visited → Option Reason → Type 0
TellsRefusal at there reason = reason ≡ (element_there at there).reason

-- a copy of it can be made
pub record CanCopy (at : Cursor) (there : Visited) : Type 0 where
  pub agrees : AgreesThere at there
  pub stands : (element_there at there).reason ≡ None

-- of a queue's items none is copied
abbrev pub AsksElement : Cursor → Visited → Type 0
AsksElement at (some_rows kind own l) = CanCopy at (some_rows kind own l)
AsksElement at (some_holder tools h) = CanCopy at (some_holder tools h)
AsksElement at some_queue = ⊤

abbrev pub TellsElement : Cursor → Visited → Result Value NoMemory → Type 0
TellsElement at there result = IfOk result (λ value. (element_there at there).answer ≡ Some value)
