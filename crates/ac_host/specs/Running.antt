-- What a statement comes to, and where the turns of a loop stand.
use Rattle.std.specs.Prelude.{◌≡◌, ◌<◌, ◌+◌, ⊤, ℕ, Bool, true, List, [], ◌++◌, length, slice_get, Option, Some, Result}
use Rattle.ac_base.specs.declared.guard.GuardKind.TheVariants.{Cursors}
use Rattle.ac_model.specs.Cursors.{plain_mark}
use Rattle.ac_model.specs.Letters.{Mark}
use Rattle.ac_rules.specs.Resolved.{ResolvedCode, ResolvedHead, calls_at, sets_at, sums_at, loops_at, views_at, stables_at, declares_at}
use Rattle.ac_rules.specs.declared.resolved.ResolvedStmt.{ResolvedStmt}
use Rattle.ac_rules.specs.declared.resolved.ResolvedStmt.TheVariants.{Call, Set, Sum, Loop, View, Stable, Declare, Tasks, Handled}
use Rattle.ac_calls.specs.Holdings.{Held, Guards, number_of, names_of}
use Rattle.ac_meaning.specs.Environment.{State, under, value_at, leaving}
use Rattle.ac_meaning.specs.Execution.{End, Outcome, ending, Orders, passed_on, followed, unless_raised, commanded, gathered, block_on, resolved_behind, exec_resolved, in_order, guards_of_loop, key_end}
use Rattle.ac_meaning.specs.GuardedNames.{is_guarded, of_object, of_value, kept}
use Rattle.ac_meaning.specs.Walks.{first_mark}
use Rattle.ac_objects.specs.declared.blocks.OpenUpdate.{OpenUpdate}
use Rattle.ac_objects.specs.declared.blocks.ViewHead.{ViewHead}
use Rattle.ac_objects.specs.declared.blocks.ViewHead.TheVariants as heads
use Rattle.ac_objects.specs.declared.blocks.ViewKey.{ViewKey}
use Rattle.ac_objects.specs.declared.blocks.ViewKey.TheVariants as keys
use Rattle.ac_objects.specs.Blocks.{object_of_key, names_of_key, guard_of_key, guards_of_view_key, guards_of_open_update, IsHeldAt}
use Rattle.ac_objects.specs.RootFree.{NoRootAmong}
use Rattle.ac_objects.specs.Standing.{counts_of}
use Rattle.ac_objects.specs.World.{World, state_of, IsKnown, Persists}
use Rattle.ac_host.specs.declared.end.HostEnd.{HostEnd}
use Rattle.ac_host.specs.Ready.{IsKept, Ready, IsUnder}
use Rattle.ac_host.specs.Told.{Tells}
use Rattle.ac_host.specs.Writing.{Ran, WroteSoFar}

-- a block, with its body
abbrev pub block_of : (propagates : Bool) → Orders → (body : ResolvedCode) → Guards → State → ResolvedHead → Outcome
block_of propagates orders body guards e head = block_on (exec_resolved propagates orders body) guards orders body e head

-- the head of a block that views an object, as the block's line has it
abbrev pub head_at : ℕ → ViewHead → ResolvedHead
head_at line (heads.Element kind object at) = views_at line kind object at
head_at line (heads.Stable object) = stables_at line object

-- a block with handlers: behind an exception that leaves the body, the first that takes it
abbrev pub handled_of : (propagates : Bool) → Orders → (body handlers : ResolvedCode) → Guards → State → Outcome
handled_of propagates orders body handlers guards e =
    followed (passed_on propagates (exec_resolved propagates orders body guards e)) (resolved_behind propagates orders handlers guards)

-- one statement, without what follows it
abbrev pub statement_outcome : ResolvedStmt → (propagates : Bool) → Orders → Guards → State → Outcome
statement_outcome (Call line target object operation args) propagates orders guards e = commanded guards e (calls_at line target object operation args)
statement_outcome (Set line target from) propagates orders guards e = commanded guards e (sets_at line target from)
statement_outcome (Sum line target from minus number) propagates orders guards e = commanded guards e (sums_at line target from minus number)
statement_outcome (Loop line elements backward object body) propagates orders guards e =
    block_of propagates orders body guards e (loops_at line elements backward object)
statement_outcome (View line kind object at body) propagates orders guards e = block_of propagates orders body guards e (views_at line kind object at)
statement_outcome (Stable line object body) propagates orders guards e = block_of propagates orders body guards e (stables_at line object)
statement_outcome (Declare line decls body) propagates orders guards e = block_of propagates orders body guards e (declares_at line decls)
statement_outcome (Tasks line tasks) propagates orders guards e = gathered (orders e.blocks) tasks e
statement_outcome (Handled body handlers) propagates orders guards e = handled_of propagates orders body handlers guards e

-- with no more than so many names left behind it
abbrev pub inside : ℕ → Outcome → Outcome
inside count r = ending r.end r.lines (leaving count r.after)

-- what a block that views an object comes to behind its body, which ended so and has left this environment: the block's name goes, and the
-- end stays. An update of a key ends with its copy, but behind an exception
abbrev pub key_ending : ℕ → ViewKey → Guards → End → State → Outcome
key_ending line (keys.View view) guards end e = ending end [] (leaving view.names e)
key_ending line (keys.Update update) guards end e =
    unless_raised (key_end line update.object (plain_mark update.at) (value_at e update.names) (guards_of_open_update update ++ guards)) end
    (leaving update.names e)

-- what runs on the objects comes to this, for whatever environment they are
abbrev pub Runs : {K : Type 0} → (K → Option (List ℕ)) → (K → ℕ) → (K → Option ℕ) → (K → Bool) → (sink_old sink_new : K) → (old new : World) →
    (Guards → State → Outcome) → Result End HostEnd → Type 0
Runs held faults room counts_failures sink_old sink_new old new comes_to result =
    (guards : Guards) (e : State) → IsUnder old guards e → Ran held faults room counts_failures sink_old sink_new new guards (comes_to guards e) result

-- the same by orders, told by those of the blocks of tasks that began
abbrev pub RunsByOrders : {K : Type 0} → (allows : List ℕ → Type 0) → (K → Option (List ℕ)) → (K → ℕ) → (K → Option ℕ) → (K → Bool) →
    (sink_old sink_new : K) → (old new : World) → (Orders → Guards → State → Outcome) → Result End HostEnd → Type 0
RunsByOrders allows held faults room counts_failures sink_old sink_new old new comes_to result =
    Tells allows old new result (λ orders. Runs held faults room counts_failures sink_old sink_new old new (comes_to orders) result)

-- whatever it comes to, cursors that were known are known, and the names in scope hold objects as they did, with their counts of guards
pub record Leaves (old new : World) : Type 0 where
  pub persists : Persists old new
  pub counts : counts_of (state_of new) ≡ counts_of (state_of old)

-- between two turns of a loop over an object, with these names still to come
pub record Turning (w : World) (count object : ℕ) (backward : Bool) (coming : Mark) (guards : Guards) (e : State) (number : ℕ)
    (all names : List ℕ) : Type 0 where
  pub is : leaving count (state_of w) ≡ under guards e
  pub ready : Ready guards e
  pub as_many : count ≡ length e.bounds
  pub rooted : Bool
  pub has_element : Bool
  pub there : slice_get (kept guards e) object ≡ Some (of_object number rooted all has_element)
  pub no_root : NoRootAmong all
  pub guarded : is_guarded guards number ≡ true
  pub before : List ℕ
  pub among : in_order backward all ≡ before ++ names
  pub coming_is : coming ≡ first_mark number names

-- there are such guards, such an environment and such names
pub record IsTurning (elements : Bool) (w : World) (count object : ℕ) (backward : Bool) (coming : Mark) : Type 0 where
  pub guards : Guards
  pub held : Held
  pub env : State
  pub names : List ℕ
  pub turning : Turning w count object backward coming (guards_of_loop elements held ++ guards) env (number_of held) (names_of held) names

-- an update of a key goes on while these guards are held in this environment: its cursor designates an element of its object, and the last
-- name is that of the copy
pub record UpdateGoesOn (w : World) (held : Guards) (env : State) (update : OpenUpdate) : Type 0 where
  pub element : IsKept held (kept held env) update.object (plain_mark update.at)
  pub copy : slice_get (kept held env) update.names ≡ Some of_value
  pub last : length w.bounds ≡ update.names + 1
  pub known : IsKnown w update.at
  pub cursors : update.guard.kind ≡ Cursors

-- nothing of that is asked of a view or a `stable`
abbrev pub IsUpdating : World → Guards → State → ViewKey → Type 0
IsUpdating w held env (keys.View view) = ⊤
IsUpdating w held env (keys.Update update) = UpdateGoesOn w held env update

-- a block that views an object goes on: its guard is held, among others in such an environment
pub record IsViewing (w : World) (key : ViewKey) : Type 0 where
  pub guards : Guards
  pub env : State
  pub stands : IsUnder w (guards_of_view_key key ++ guards) env
  pub inner : object_of_key key < names_of_key key
  pub guard : IsHeldAt (state_of w) (object_of_key key) (guard_of_key key)
  pub updating : IsUpdating w (guards_of_view_key key ++ guards) env key

-- in the middle of a whole: what is left of it, of the environment that stands

module _ {K : Type 0} (held : K → Option (List ℕ)) (faults : K → ℕ) (room : K → Option ℕ) (counts_failures : K → Bool) where
  pub record GoesOn (sink_old sink_now : K) (now : World) (guards : Guards) (left : State → Outcome) (whole : Outcome) : Type 0 where
    pub env : State
    pub under_guards : IsUnder now guards env
    pub so_far : WroteSoFar held faults room counts_failures sink_old sink_now (left env) whole

  pub record TurnsOn (sink_old sink_now : K) (now : World) (count object : ℕ) (backward : Bool) (coming : Mark) (guards : Guards) (number : ℕ)
      (all : List ℕ) (left : List ℕ → State → Outcome) (whole : Outcome) : Type 0 where
    pub env : State
    pub names : List ℕ
    pub turning : Turning now count object backward coming guards env number all names
    pub so_far : WroteSoFar held faults room counts_failures sink_old sink_now (left names env) whole
