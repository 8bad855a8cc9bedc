-- Environments while guards are held: the counts of the objects are those of the guards, and what commands and blocks owe to that.
use Rattle.std.specs.Prelude.{◌≡◌, ◌==◌, ℕ, false, ◌∷◌, None, option_map, if◌then◌else◌}
use Rattle.ac_base.specs.declared.guard.GuardKind.TheVariants as guard
use Rattle.ac_base.specs.declared.value.Value.{Value}
use Rattle.ac_base.specs.Guards.{HeldGuard}
use Rattle.ac_model.specs.Objects.{Object}
use Rattle.ac_model.specs.Letters.{Mark}
use Rattle.ac_model.specs.Common.{hold_call, release_call}
use Rattle.ac_rules.specs.Resolved.{ResolvedSimple}
use Rattle.ac_calls.specs.Elements.{Text}
use Rattle.ac_calls.specs.KeyedReplies.{KeyedKind}
use Rattle.ac_calls.specs.Holdings.{a_keyed_set, Held, of_rows, Guards, with_rows_by, held_under, guard_on, key_updated}
use Rattle.ac_meaning.specs.Environment.{Bound, bound_by, object_in, State, objects_by, under, at_rest, object_at, bound_at, with_bound, with_name, leaving}
use Rattle.ac_meaning.specs.Commands.{performed}

-- a guard is held on the object with its number, and on no other
abbrev pub hold_on : HeldGuard → (V : Type 0) → Object ℕ V → Object ℕ V
hold_on g V o = if g.object == o.number then hold_call false g.kind o else o

-- and released
abbrev pub release_on : HeldGuard → (V : Type 0) → Object ℕ V → Object ℕ V
release_on g V o = if g.object == o.number then release_call false g.kind o else o

abbrev pub held_with : HeldGuard → Held → Held
held_with g h = with_rows_by (hold_on g) h

abbrev pub held_without : HeldGuard → Held → Held
held_without g h = with_rows_by (release_on g) h

-- a guard more is held on its object alone, and released from it
pub record GuardsComeAndGo : Type 0 where
  pub held : (g : HeldGuard) (guards : Guards) (e : State) → under (g ∷ guards) e ≡ objects_by (held_with g) (under guards e)
  pub released : (g : HeldGuard) (guards : Guards) (e : State) → objects_by (held_without g) (under (g ∷ guards) e) ≡ under guards e

-- the guards are told by the blocks alone, whatever the counts were
pub record CountsAreTheGuards : Type 0 where
  pub anew : (guards others : Guards) (e : State) → under guards (under others e) ≡ under guards e
  pub rested : (guards : Guards) (e : State) → under guards (at_rest e) ≡ under guards e

-- of parts of an environment
pub record PartsUnder : Type 0 where
  pub bound : (guards : Guards) (e : State) (place : ℕ) → bound_at (under guards e) place ≡ bound_by (held_under guards) (bound_at e place)
  pub object : (guards : Guards) (e : State) (place : ℕ) →
      object_at (under guards e) place ≡ option_map (held_under guards) (object_at e place)
  pub set : (guards : Guards) (e : State) (place : ℕ) (b : Bound) →
      under guards (with_bound e place b) ≡ with_bound (under guards e) place (bound_by (held_under guards) b)
  pub named : (guards : Guards) (e : State) (b : Bound) →
      under guards (with_name e b) ≡ with_name (under guards e) (bound_by (held_under guards) b)
  pub left : (guards : Guards) (count : ℕ) (e : State) → under guards (leaving count e) ≡ leaving count (under guards e)

-- a command leaves the counts as it found them: so at rest nothing else is lost
pub record CountsStay (guards : Guards) (after : State) : Type 0 where
  pub same : under guards after ≡ after
  pub rested : under guards (at_rest after) ≡ after

abbrev pub CommandsKeepCounts : Type 0
CommandsKeepCounts = (guards : Guards) (e : State) (simple : ResolvedSimple) → under guards e ≡ e →
    CountsStay guards (performed e simple).after

-- and so does what blocks do: a name more, for no object, and names that go
pub record BlocksKeepCounts : Type 0 where
  pub named : (guards : Guards) (e : State) (b : Bound) → under guards e ≡ e → object_in b ≡ None →
      under guards (with_name e b) ≡ with_name e b
  pub left : (guards : Guards) (count : ℕ) (e : State) → under guards e ≡ e → under guards (leaving count e) ≡ leaving count e

-- and the end of an update of a key, which releases its guard
abbrev pub UpdatesKeepCounts : Type 0
UpdatesKeepCounts = (guards : Guards) (which : KeyedKind) (o : Object ℕ Text) (at : Mark) (copy : Value) →
    let h = of_rows (a_keyed_set which) o in
    let now = (key_updated h at copy).after in
    held_under (guard_on h guard.Cursors ∷ guards) h ≡ h → held_under guards now ≡ now
