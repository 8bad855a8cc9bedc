-- The keys of blocks, and what begins and ends them does.
use Rattle.std.specs.Prelude.{◌≡◌, ◌<◌, ◌-◌, ◌^◌, ℕ, true, [], ◌∷◌, Option, Some, None}
use Rattle.ac_base.specs.declared.guard.GuardKind.{GuardKind}
use Rattle.ac_base.specs.Guards.{HeldGuard, count_of, raised_kind}
use Rattle.ac_calls.specs.Holdings.{Held, Guards, number_of, is_a_set, takes_guards}
use Rattle.ac_meaning.specs.Environment.{State, objects_by, object_at}
use Rattle.ac_meaning.specs.UnderGuards.{held_with, held_without}
use Rattle.ac_objects.specs.declared.blocks.LoopKey.{LoopKey}
use Rattle.ac_objects.specs.declared.blocks.OpenUpdate.{OpenUpdate}
use Rattle.ac_objects.specs.declared.blocks.OpenView.{OpenView}
use Rattle.ac_objects.specs.declared.blocks.ViewKey.{ViewKey}
use Rattle.ac_objects.specs.declared.blocks.ViewKey.TheVariants as keys
use Rattle.ac_objects.specs.Standing.{counts_in_held}

-- with these guards held, the last first
abbrev pub holding : Guards → State → State
holding [] e = e
holding (g ∷ guards) e = objects_by (held_with g) (holding guards e)

-- and released, the first first
abbrev pub releasing : Guards → State → State
releasing [] e = e
releasing (g ∷ guards) e = releasing guards (objects_by (held_without g) e)

-- the guards that a key carries

abbrev pub guard_if : Option HeldGuard → Guards
guard_if None = []
guard_if (Some g) = g ∷ []

abbrev pub guards_of_loop_key : LoopKey → Guards
guards_of_loop_key key = key.cursors ∷ guard_if key.elements

abbrev pub guards_of_open_view : OpenView → Guards
guards_of_open_view view = view.guard ∷ []

abbrev pub guards_of_open_update : OpenUpdate → Guards
guards_of_open_update update = update.guard ∷ []

-- of a view, of an update of a key or of a `stable`: the place of its object, how many names there were, and its guard

abbrev pub object_of_key : ViewKey → ℕ
object_of_key (keys.View view) = view.object
object_of_key (keys.Update update) = update.object

abbrev pub names_of_key : ViewKey → ℕ
names_of_key (keys.View view) = view.names
names_of_key (keys.Update update) = update.names

abbrev pub guard_of_key : ViewKey → HeldGuard
guard_of_key (keys.View view) = view.guard
guard_of_key (keys.Update update) = update.guard

abbrev pub guards_of_view_key : ViewKey → Guards
guards_of_view_key key = guard_of_key key ∷ []

-- the guard is held on the object at the place
pub record IsHeldAt (e : State) (place : ℕ) (g : HeldGuard) : Type 0 where
  pub held : Held
  pub there : object_at e place ≡ Some held
  pub own : g.object ≡ number_of held
  pub counted : 0 < count_of g.kind (counts_in_held held)

-- guards are held on the object at the place, and 64 bits count one more of the kind
pub record HasRoom (e : State) (place : ℕ) (kind : GuardKind) : Type 0 where
  pub held : Held
  pub there : object_at e place ≡ Some held
  pub takes : takes_guards held ≡ true
  pub counted : count_of (raised_kind (is_a_set held) kind) (counts_in_held held) < 2 ^ 64 - 1

-- 64 bits count two cursor guards more
pub record HasRoomForTwo (e : State) (place : ℕ) : Type 0 where
  pub held : Held
  pub there : object_at e place ≡ Some held
  pub counted : (counts_in_held held).cursor_guards < 2 ^ 64 - 2
