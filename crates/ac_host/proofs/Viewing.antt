-- Blocks that view an object: views, updates of a key and `stable`, by cases of the head and of the key.
use Rattle.std.proofs.Common.{◌≡◌, ◌<◌, ◌++◌, ℕ, Bool, true, List, [], ◌∷◌, length, take, refl, sym, ap, subst, ◌∙◌, Option, Some, None, Ok, append-nil}
use Rattle.std.proofs.lemmas.Option.{none-some}
use Rattle.ac_base.specs.Guards.{HeldGuard}
use Rattle.ac_base.specs.declared.reason.Reason.{Reason}
use Rattle.ac_syntax.specs.declared.view_kind.ViewKind.{ViewKind}
use Rattle.ac_syntax.specs.declared.view_kind.ViewKind.TheVariants.{Query, Update, Reference, UpdateKey}
use Rattle.ac_rules.specs.Resolved.{ResolvedCode, views_at, stables_at}
use Rattle.ac_calls.specs.Answers.{answers_raised}
use Rattle.ac_calls.specs.Holdings.{Held, Guards, takes_guards}
use Rattle.ac_meaning.specs.Environment.{State, under, object_at, guarded_at, mark_at, with_name, leaving, binds_element}
use Rattle.ac_meaning.specs.Execution.{End, Outcome, ending, Orders, one_line, followed, exec_resolved, guards_of_stable, guards_of_view, head_reason}
use Rattle.ac_objects.specs.declared.blocks.OpenUpdate.{OpenUpdate}
use Rattle.ac_objects.specs.declared.blocks.OpenView.{OpenView}
use Rattle.ac_objects.specs.declared.blocks.ViewHead.{ViewHead}
use Rattle.ac_objects.specs.declared.blocks.ViewHead.TheVariants.{Element, Stable}
use Rattle.ac_objects.specs.declared.blocks.ViewKey.{ViewKey}
use Rattle.ac_objects.specs.declared.blocks.ViewKey.TheVariants as keys
use Rattle.ac_objects.specs.Blocks.{holding, object_of_key, names_of_key, guard_of_key, guards_of_open_view, guards_of_open_update, guards_of_view_key, IsHeldAt}
use Rattle.ac_objects.specs.Standing.{TakesGuards, counts_of}
use Rattle.ac_objects.specs.ViewHeads.{viewed_object, head_refusal, guards_of_head, viewed_name, with_viewed, IsKeyOf, BlockCanEnd}
use Rattle.ac_objects.specs.World.{World, state_of, Persists}
use Rattle.ac_host.specs.Ready.{IsUnder}
use Rattle.ac_host.specs.Running.{block_of, head_at, inside, key_ending, UpdateGoesOn, IsUpdating, IsViewing}
use Rattle.ac_host.specs.Writing.{Ran}
use Rattle.ac_host.proofs.Blocks.{Taken, taken, ran_nowhere, many_names, there_within, mark_under, leaving_held, leaving_named, stable_held, view_held, stable_comes, view_comes, view_refused}
use Rattle.ac_host.proofs.Holding.{held_still}
use Rattle.ac_host.proofs.Standing.{ready_exec}
use Rattle.ac_host.proofs.Opening.{stable_begins, view_begins, update_begins}
use Rattle.ac_host.proofs.Updating.{copied, updating_begins, updating_copy, updating_stands, updating_goes_on, update_comes}

-- the object that the code asks for is the head's
pub block_taken : (s : State) (head : ViewHead) (object : ℕ) → object ≡ viewed_object head → TakesGuards s object → Taken s (viewed_object head)
block_taken s head object is t = taken s (viewed_object head) (subst (TakesGuards s) is t)

-- Where the block begins

module _ (w now : World) (h : Held) where
  -- what the head comes to: its guards are held, and its name is there
  abbrev pub Begun : ViewHead → Type 0
  Begun head = state_of now ≡ with_viewed head (state_of w) h (holding (guards_of_head head h) (state_of w))

  pub block_begins : (guards : Guards) (e : State) → IsUnder w guards e → (head : ViewHead) → object_at (state_of w) (viewed_object head) ≡ Some h →
      head_refusal head (state_of w) h ≡ None → Begun head →
      IsUnder now (guards_of_head head h ++ guards) (with_viewed head (state_of w) h e)
  block_begins guards e u (Element Query object at) there none is = view_begins w guards e u object h there Query (mark_at (state_of w) at) now none is
  block_begins guards e u (Element Update object at) there none is = view_begins w guards e u object h there Update (mark_at (state_of w) at) now none is
  block_begins guards e u (Element Reference object at) there none is = view_begins w guards e u object h there Reference (mark_at (state_of w) at) now none is
  block_begins guards e u (Element UpdateKey object at) there none is = update_begins w guards e u object h there (copied (state_of w) at h) now is
  block_begins guards e u (Stable object) there none is = stable_begins w guards e u object h there now is

  -- its guard, and what leaves its name
  pub block_held : (head : ViewHead) (g : HeldGuard) → takes_guards h ≡ true → object_at (state_of w) (viewed_object head) ≡ Some h →
      g ∷ [] ≡ guards_of_head head h → Begun head → IsHeldAt (state_of now) (viewed_object head) g
  block_held (Element kind object at) g takes there own is =
      subst (λ s. IsHeldAt s object g) (sym is)
      (view_held (state_of w) (viewed_name kind object (mark_at (state_of w) at) h) object kind h takes g there own)
  block_held (Stable object) g takes there own is = subst (λ s. IsHeldAt s object g) (sym is) (stable_held (state_of w) object h takes g there own)

  pub block_left : (head : ViewHead) (count : ℕ) → count ≡ length w.bounds → Begun head →
      leaving count (state_of now) ≡ holding (guards_of_head head h) (state_of w)
  block_left (Element kind object at) count many is =
      ap (leaving count) is
      ∙ leaving_named (guards_of_view kind h) (state_of w) (viewed_name kind object (mark_at (state_of w) at) h) count (many ∙ sym (many_names w))
  block_left (Stable object) count many is =
      ap (leaving count) is ∙ leaving_held (guards_of_stable h) (state_of w) count (many ∙ sym (many_names w))

  -- an update of a key goes on
  update_on : (guards : Guards) (e : State) → IsUnder w guards e → (update : OpenUpdate) (head : ViewHead) →
      object_at (state_of w) (viewed_object head) ≡ Some h → update.object ≡ viewed_object head → update.names ≡ length w.bounds →
      IsKeyOf head (state_of w) now (keys.Update update) → head_refusal head (state_of w) h ≡ None →
      guards_of_open_update update ≡ guards_of_head head h → Begun head →
      UpdateGoesOn now (guards_of_open_update update ++ guards) (with_viewed head (state_of w) h e) update
  update_on guards e u update (Element Query object at) there object_is names key none own is = absurd key
  update_on guards e u update (Element Update object at) there object_is names key none own is = absurd key
  update_on guards e u update (Element Reference object at) there object_is names key none own is = absurd key
  update_on guards e u update (Element UpdateKey object at) there object_is names key none own is =
      updating_begins w now guards e u object h there update (mark_at (state_of w) at) (copied (state_of w) at h) none own is object_is names key.0 key.1 key.2
  update_on guards e u update (Stable object) there object_is names key none own is = absurd key

  goes_on : (guards : Guards) (e : State) → IsUnder w guards e → (key : ViewKey) (head : ViewHead) →
      object_at (state_of w) (viewed_object head) ≡ Some h → object_of_key key ≡ viewed_object head → names_of_key key ≡ length w.bounds →
      IsKeyOf head (state_of w) now key → head_refusal head (state_of w) h ≡ None → guards_of_view_key key ≡ guards_of_head head h → Begun head →
      IsUpdating now (guards_of_view_key key ++ guards) (with_viewed head (state_of w) h e) key
  goes_on guards e u (keys.View view) head there object_is names key none own is = tt
  goes_on guards e u (keys.Update update) head there object_is names key none own is = update_on guards e u update head there object_is names key none own is

  pub block_under : (guards : Guards) (e : State) → IsUnder w guards e → (key : ViewKey) (head : ViewHead) →
      object_at (state_of w) (viewed_object head) ≡ Some h → head_refusal head (state_of w) h ≡ None →
      guards_of_view_key key ≡ guards_of_head head h → Begun head →
      IsUnder now (guards_of_view_key key ++ guards) (with_viewed head (state_of w) h e)
  block_under guards e u key head there none own is =
      subst (λ m. IsUnder now (m ++ guards) (with_viewed head (state_of w) h e)) (sym own) (block_begins guards e u head there none is)

  pub block_viewing : (guards : Guards) (e : State) → IsUnder w guards e → (key : ViewKey) (head : ViewHead) → takes_guards h ≡ true →
      object_at (state_of w) (viewed_object head) ≡ Some h → object_of_key key ≡ viewed_object head → names_of_key key ≡ length w.bounds →
      IsKeyOf head (state_of w) now key → head_refusal head (state_of w) h ≡ None → guards_of_view_key key ≡ guards_of_head head h → Begun head →
      IsViewing now key
  block_viewing guards e u key head takes there object_is names is_key none own is = record {
    guards = guards;
    env = with_viewed head (state_of w) h e;
    stands = block_under guards e u key head there none own is;
    inner =
        subst (λ p. p < names_of_key key) (sym object_is)
        (subst (λ n. viewed_object head < n) (many_names w ∙ sym names) (there_within (state_of w) (viewed_object head) h there));
    guard = subst (λ p. IsHeldAt (state_of now) p (guard_of_key key)) (sym object_is) (block_held head (guard_of_key key) takes there own is);
    updating = goes_on guards e u key head there object_is names is_key none own is;
  }

pub viewed_count : (head : ViewHead) (e found : State) (h : Held) → (with_viewed head e h found).blocks ≡ found.blocks
viewed_count (Element kind object at) e found h = refl
viewed_count (Stable object) e found h = refl

-- What it comes to

without_end : (r : Outcome) (count : ℕ) → followed r (λ (end : End) (e : State). ending end [] (leaving count e)) ≡ inside count r
without_end r count = λ i. ending r.end (append-nil r.lines i) (leaving count r.after)

module _ (propagates : Bool) (orders : Orders) (code : ResolvedCode) (guards : Guards) (e : State) (line : ℕ) where
  module _ (w : World) (h : Held) (s_is : state_of w ≡ under guards e) where
    marks : (at : Option ℕ) → mark_at (state_of w) at ≡ mark_at e at
    marks at = ap (λ x. mark_at x at) s_is ∙ mark_under guards e at

    element_comes : (view : OpenView) (kind : ViewKind) (object : ℕ) (at : Option ℕ) → (kind ≡ UpdateKey → ⊥) →
        guarded_at (under guards e) object ≡ Some h → head_reason kind h (mark_at (state_of w) at) ≡ None →
        guards_of_open_view view ≡ guards_of_view kind h → view.names ≡ length e.bounds →
        followed (exec_resolved propagates orders code (guards_of_open_view view ++ guards) (with_name e (binds_element object (mark_at (state_of w) at))))
        (key_ending line (keys.View view) guards)
        ≡ block_of propagates orders code guards e (views_at line kind object at)
    element_comes view kind object at other there none own names =
        without_end (exec_resolved propagates orders code (guards_of_open_view view ++ guards) (with_name e (binds_element object (mark_at (state_of w) at)))) view.names
        ∙ view_comes propagates orders code guards (guards_of_open_view view) e line object view.names kind at (mark_at (state_of w) at) h other there own names
        (marks at) none

    view_comes_to : (view : OpenView) (head : ViewHead) (now : World) → guarded_at (under guards e) (viewed_object head) ≡ Some h →
        IsKeyOf head (state_of w) now (keys.View view) → head_refusal head (state_of w) h ≡ None → guards_of_open_view view ≡ guards_of_head head h →
        view.names ≡ length e.bounds →
        followed (exec_resolved propagates orders code (guards_of_open_view view ++ guards) (with_viewed head (state_of w) h e)) (key_ending line (keys.View view) guards)
        ≡ block_of propagates orders code guards e (head_at line head)
    view_comes_to view (Element Query object at) now there key none own names = element_comes view Query object at (λ f. absurd (cc)) there none own names
    view_comes_to view (Element Update object at) now there key none own names = element_comes view Update object at (λ f. absurd (cc)) there none own names
    view_comes_to view (Element Reference object at) now there key none own names = element_comes view Reference object at (λ f. absurd (cc)) there none own names
    view_comes_to view (Element UpdateKey object at) now there key none own names = absurd key
    view_comes_to view (Stable object) now there key none own names =
        without_end (exec_resolved propagates orders code (guards_of_open_view view ++ guards) e) view.names
        ∙ stable_comes propagates orders code guards (guards_of_open_view view) e line object view.names h there own names

    update_comes_to : (update : OpenUpdate) (head : ViewHead) (now : World) → guarded_at (under guards e) (viewed_object head) ≡ Some h →
        IsKeyOf head (state_of w) now (keys.Update update) → head_refusal head (state_of w) h ≡ None →
        guards_of_open_update update ≡ guards_of_head head h → update.object ≡ viewed_object head → update.names ≡ length e.bounds →
        followed (exec_resolved propagates orders code (guards_of_open_update update ++ guards) (with_viewed head (state_of w) h e))
        (key_ending line (keys.Update update) guards)
        ≡ block_of propagates orders code guards e (head_at line head)
    update_comes_to update (Element Query object at) now there key none own object_is names = absurd key
    update_comes_to update (Element Update object at) now there key none own object_is names = absurd key
    update_comes_to update (Element Reference object at) now there key none own object_is names = absurd key
    update_comes_to update (Element UpdateKey object at) now there key none own object_is names =
        update_comes propagates orders code guards e line object at (state_of w) h update there s_is none own object_is names key.0
    update_comes_to update (Stable object) now there key none own object_is names = absurd key

    pub block_comes : (key : ViewKey) (head : ViewHead) (now : World) → guarded_at (under guards e) (viewed_object head) ≡ Some h →
        IsKeyOf head (state_of w) now key → head_refusal head (state_of w) h ≡ None → guards_of_view_key key ≡ guards_of_head head h →
        object_of_key key ≡ viewed_object head → names_of_key key ≡ length e.bounds →
        followed (exec_resolved propagates orders code (guards_of_view_key key ++ guards) (with_viewed head (state_of w) h e)) (key_ending line key guards)
        ≡ block_of propagates orders code guards e (head_at line head)
    block_comes (keys.View view) head now there key none own object_is names = view_comes_to view head now there key none own names
    block_comes (keys.Update update) head now there key none own object_is names = update_comes_to update head now there key none own object_is names

    pub block_refused : (head : ViewHead) (reason : Reason) → guarded_at (under guards e) (viewed_object head) ≡ Some h →
        head_refusal head (state_of w) h ≡ Some reason →
        one_line line (answers_raised reason) e ≡ block_of propagates orders code guards e (head_at line head)
    block_refused (Element kind object at) reason there some =
        view_refused propagates orders code guards e line object kind at (mark_at (state_of w) at) h reason there (marks at) some
    block_refused (Stable object) reason there some = absurd (none-some reason some)

  -- on no object, or on one that takes no guards
  module _ {K : Type 0} (held : K → Option (List ℕ)) (faults : K → ℕ) (room : K → Option ℕ) (counts : K → Bool) where
    pub block_nowhere : (a : K) (w : World) → IsUnder w guards e → (head : ViewHead) → guarded_at (state_of w) (viewed_object head) ≡ None →
        Ran held faults room counts a a w guards (block_of propagates orders code guards e (head_at line head)) (Ok None)
    block_nowhere a w u (Element kind object at) none =
        ran_nowhere held faults room counts a w guards e u (exec_resolved propagates orders code) (views_at line kind object at) object none
    block_nowhere a w u (Stable object) none =
        ran_nowhere held faults room counts a w guards e u (exec_resolved propagates orders code) (stables_at line object) object none

-- Behind its body

pub block_still : (w now : World) (key : ViewKey) → IsViewing w key → counts_of (state_of now) ≡ counts_of (state_of w) →
    IsHeldAt (state_of now) (object_of_key key) (guard_of_key key)
block_still w now key k same = held_still (state_of w) (state_of now) (object_of_key key) (names_of_key key) (guard_of_key key) k.inner (ap (take (names_of_key key)) same) k.guard

still_updating : (propagates : Bool) (orders : Orders) (code : ResolvedCode) (w now : World) (held : Guards) (e : State) (key : ViewKey) →
    IsUpdating w held e key → counts_of (state_of now) ≡ counts_of (state_of w) → Persists w now →
    IsUpdating now held (exec_resolved propagates orders code held e).after key
still_updating propagates orders code w now held e (keys.View view) k same persists = tt
still_updating propagates orders code w now held e (keys.Update update) k same persists =
    updating_goes_on propagates orders code w now held e update k same (persists update.at k.known)

pub block_goes_on : (propagates : Bool) (orders : Orders) (code : ResolvedCode) (w now : World) (key : ViewKey) (k : IsViewing w key) →
    state_of now ≡ under (guards_of_view_key key ++ k.guards) (exec_resolved propagates orders code (guards_of_view_key key ++ k.guards) k.env).after →
    counts_of (state_of now) ≡ counts_of (state_of w) → Persists w now → IsViewing now key
block_goes_on propagates orders code w now key k is same persists =
    let held = guards_of_view_key key ++ k.guards in
    record {
      guards = k.guards;
      env = (exec_resolved propagates orders code held k.env).after;
      stands = record { is = is; ready = ready_exec propagates orders code held k.env k.stands.ready };
      inner = k.inner;
      guard = block_still w now key k same;
      updating = still_updating propagates orders code w now held k.env key k.updating same persists;
    }

-- what its end asks for
pub block_can_end : (w : World) (key : ViewKey) → IsViewing w key → BlockCanEnd w key
block_can_end w key k = go key k.stands k.updating
  where
    go : (key : ViewKey) → IsUnder w (guards_of_view_key key ++ k.guards) k.env → IsUpdating w (guards_of_view_key key ++ k.guards) k.env key → BlockCanEnd w key
    go (keys.View view) u updating = tt
    go (keys.Update update) u updating = record {
      last = updating.last;
      copy = updating_copy w (guards_of_open_update update ++ k.guards) k.env update u updating;
      cursors = updating.cursors;
      known = updating.known;
      element = updating_stands w (guards_of_open_update update ++ k.guards) k.env update u updating;
    }
