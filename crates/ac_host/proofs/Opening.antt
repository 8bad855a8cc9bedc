-- What begins a block.
use Rattle.std.proofs.Common.{◌≡◌, ◌==◌, ◌&&◌, ◌||◌, ◌⊎◌, inl, inr, ℕ, Bool, true, false, List, [], ◌∷◌, ◌++◌, length, slice_get, option_map, refl, sym, ap, subst, ◌∙◌, arith, Option, Some, None}
use Rattle.std.proofs.lemmas.List.{length-map}
use Rattle.std.proofs.lemmas.Option.{none-some, same_Some}
use Rattle.std.proofs.lemmas.Bool.Decides.{nat_tests}
use Rattle.ac_base.specs.Rows.{Row, names}
use Rattle.ac_base.specs.declared.guard.GuardKind.{GuardKind}
use Rattle.ac_base.specs.declared.guard.GuardKind.TheVariants as guard
use Rattle.ac_base.specs.declared.value.Value.{Value}
use Rattle.ac_base.specs.declared.reason.Reason.TheVariants.{NoElement}
use Rattle.ac_model.specs.Objects.{Object}
use Rattle.ac_model.specs.Rows.{is_named}
use Rattle.ac_model.specs.Letters.{Mark, needs, tampers_cursors}
use Rattle.ac_model.specs.Cursors.{seen}
use Rattle.ac_model.proofs.Depths.{both_true}
use Rattle.ac_model.proofs.Reasons.{none_others}
use Rattle.ac_syntax.specs.declared.view_kind.ViewKind.{ViewKind}
use Rattle.ac_syntax.specs.declared.view_kind.ViewKind.TheVariants.{Query, Update, Reference, UpdateKey}
use Rattle.ac_model.specs.Queues.{TaskQueue}
use Rattle.ac_calls.specs.Holdings.{RowKind, RowOf, a_sequence, a_map, a_set, a_keyed_set, a_tree, have_root, Held, of_rows, of_holder, of_queue, Guards, number_of, names_of, has_root, holds_element, held_under, guard_on, element_value}
use Rattle.ac_meaning.specs.Environment.{Bound, binds_value, binds_element, bound_by, State, under, object_at, with_name, leaving}
use Rattle.ac_meaning.specs.Execution.{guards_of_loop, guards_of_stable, guards_of_view, head_reason, in_order}
use Rattle.ac_meaning.specs.GuardedNames.{is_guarded, is_element_guarded, of_object, frame, kept}
use Rattle.ac_meaning.specs.Walks.{first_mark}
use Rattle.ac_meaning.specs.Numbers.{GuardsBelow}
use Rattle.ac_meaning.proofs.CountsStay.{parts_under}
use Rattle.ac_meaning.proofs.Designating.{Designates, element_refused, designates}
use Rattle.ac_meaning.proofs.GuardedGoesOn.{blocks_guard, views_guard_elements}
use Rattle.ac_objects.specs.Blocks.{holding}
use Rattle.ac_objects.specs.RootFree.{NoRootAmong}
use Rattle.ac_objects.specs.World.{World, state_of}
use Rattle.ac_host.specs.Ready.{IsNamed, IsKept, IsUnder}
use Rattle.ac_host.specs.Running.{Turning}
use Rattle.ac_host.proofs.Holding.{holding_under}
use Rattle.ac_host.proofs.Standing.{Among, keeps_element, object_framed, below_held, kept_named, kept_longer, ready_more, ready_named, number_under, names_under, root_under, has_under}

-- A cursor that designates an element

among_rest : (first : ℕ) (all : List ℕ) (name : ℕ) → Among all name → Among (first ∷ all) name
among_rest first all name a = record { before = first ∷ a.before; after = a.after; is = ap (λ l. first ∷ l) a.is }

named_either : (first name : ℕ) (all : List ℕ) (there b : Bool) → (first == name) ≡ b → (b || there) ≡ true → (there ≡ true → Among all name) → Among (first ∷ all) name
named_either first name all there true is k rest = let same : first ≡ name = grind (arith, nat_tests) in record { before = []; after = all; is = λ i. same i ∷ all }
named_either first name all there false is k rest = among_rest first all name (rest k)

named_among : {V : Type 0} (rows : List (Row ℕ V)) (name : ℕ) → is_named rows name ≡ true → Among (names rows) name
named_among [] name e = absurd (cc)
named_among (r ∷ rows) name e = named_either r.name name (names rows) (is_named rows name) (r.name == name) refl e (named_among rows name)

designated : (kind : RowKind) (o : Object ℕ (RowOf kind)) (at : Mark) → (element_value (of_rows kind o) at).reason ≡ None →
    Designates (have_root kind) o at
designated kind o at none = designates (have_root kind) o at (sym (element_refused kind o at) ∙ none)

updates_designate : (kind : RowKind) (o : Object ℕ (RowOf kind)) (at : Mark) → head_reason UpdateKey (of_rows kind o) at ≡ None →
    Designates (have_root kind) o at
updates_designate (a_keyed_set which) o at none = designates false o at (none_others (tampers_cursors o) (needs o (seen o at) ∷ []) none)
updates_designate (a_sequence which e) o at none = absurd (none-some NoElement (sym none))
updates_designate (a_map which k e) o at none = absurd (none-some NoElement (sym none))
updates_designate (a_set which e) o at none = absurd (none-some NoElement (sym none))
updates_designate (a_tree e) o at none = absurd (none-some NoElement (sym none))

viewed_designates : (view : ViewKind) (kind : RowKind) (o : Object ℕ (RowOf kind)) (at : Mark) → head_reason view (of_rows kind o) at ≡ None →
    Designates (have_root kind) o at
viewed_designates Query kind o at none = designated kind o at none
viewed_designates Update kind o at none = designated kind o at none
viewed_designates Reference kind o at none = designated kind o at none
viewed_designates UpdateKey kind o at none = updates_designate kind o at none

-- and no view of a queue begins
no_view : (view : ViewKind) (number : ℕ) (q : TaskQueue) (at : Mark) → head_reason view (of_queue number q) at ≡ None → ⊥
no_view Query number q at none = none-some NoElement (sym none)
no_view Update number q at none = none-some NoElement (sym none)
no_view Reference number q at none = none-some NoElement (sym none)
no_view UpdateKey number q at none = none-some NoElement (sym none)

-- what a view stands for is kept by its guard
viewed_stands : (view : ViewKind) (h : Held) (at : Mark) (guards : Guards) → head_reason view h at ≡ None →
    let held = guards_of_view view h ++ guards in IsNamed held (number_of h) (has_root h) (names_of h) at ⊎ (keeps_element held h ≡ true)
viewed_stands view (of_rows kind o) at guards none =
    let d = viewed_designates view kind o at none in
    let among = named_among o.rows d.name d.named in
    inl (record {
      guarded = blocks_guard.views view (of_rows kind o) guards;
      before = among.before;
      name = d.name;
      after = among.after;
      among = among.is;
      no_root = d.no_root;
      is = d.is;
    })
viewed_stands view (of_holder e h) at guards none =
    let v = views_guard_elements view e h at guards none in
    inr (both_true (holds_element (of_holder e h)) (is_element_guarded (guards_of_view view (of_holder e h) ++ guards) h.number) v.has_element v.guarded)
viewed_stands view (of_queue number q) at guards none = absurd (no_view view number q at none)

-- Objects that are found while guards are held

-- what is found under guards is what is kept, under them
record FoundUnder (guards : Guards) (e : State) (place : ℕ) (h : Held) : Type 0 where
  held : Held
  there : object_at e place ≡ Some held
  is : h ≡ held_under guards held

found_under : (guards : Guards) (e : State) (place : ℕ) (h : Held) → object_at (under guards e) place ≡ Some h → FoundUnder guards e place h
found_under guards e place h there = go (object_at e place) refl (sym (parts_under.object guards e place) ∙ there)
  where
    go : (o : Option Held) → object_at e place ≡ o → option_map (held_under guards) o ≡ Some h → FoundUnder guards e place h
    go None is f = absurd (none-some h f)
    go (Some k) is f = record { held = k; there = is; is = sym (same_Some (held_under guards k) h f) }

object_there_kept : (guards more : Guards) (e : State) (place : ℕ) (h : Held) → object_at (under guards e) place ≡ Some h →
    is_guarded more (number_of h) ≡ true → slice_get (kept more e) place ≡ Some (of_object (number_of h) (has_root h) (names_of h) (keeps_element more h))
object_there_kept guards more e place h there guarded =
    let f = found_under guards e place h there in
    let number : number_of h ≡ number_of f.held = ap number_of f.is ∙ number_under guards f.held in
    let all : names_of h ≡ names_of f.held = ap names_of f.is ∙ names_under guards f.held in
    let rooted : has_root h ≡ has_root f.held = ap has_root f.is ∙ root_under guards f.held in
    let has : holds_element h ≡ holds_element f.held = ap holds_element f.is ∙ has_under guards f.held in
    object_framed more e place f.held f.there (ap (is_guarded more) (sym number) ∙ guarded)
    ∙ sym (λ i. Some (of_object (number i) (rooted i) (all i) (has i && is_element_guarded more (number i))))

module _ (w : World) (guards : Guards) (e : State) (u : IsUnder w guards e) (place : ℕ) (h : Held) (there : object_at (state_of w) place ≡ Some h) where
  found : object_at (under guards e) place ≡ Some h
  found = ap (λ s. object_at s place) (sym u.is) ∙ there

  below_one : (kind : GuardKind) (others : Guards) → GuardsBelow others e → GuardsBelow (guard_on h kind ∷ others) e
  below_one kind others below = below_held guards e place h kind found u.ready.differ others below

  below_loop : (elements : Bool) → GuardsBelow (guards_of_loop elements h ++ guards) e
  below_loop false = below_one guard.Cursors guards u.ready.below
  below_loop true = below_one guard.Cursors (guard_on h guard.Elements ∷ guards) (below_one guard.Elements guards u.ready.below)

  below_view : (kind : ViewKind) → GuardsBelow (guards_of_view kind h ++ guards) e
  below_view Query = below_one guard.Elements guards u.ready.below
  below_view Update = below_one guard.Elements guards u.ready.below
  below_view Reference = below_one guard.Elements guards u.ready.below
  below_view UpdateKey = below_one guard.Cursors guards u.ready.below

  held_more : (more : Guards) (now : State) → now ≡ holding more (state_of w) → now ≡ under (more ++ guards) e
  held_more more now is = is ∙ (ap (holding more) u.is ∙ holding_under more guards e)

  pub stable_begins : (now : World) → state_of now ≡ holding (guards_of_stable h) (state_of w) → IsUnder now (guards_of_stable h ++ guards) e
  stable_begins now is = record {
    is = held_more (guards_of_stable h) (state_of now) is;
    ready = ready_more (guards_of_stable h) guards e (below_one guard.Elements guards u.ready.below) u.ready;
  }

  own_element : (kind : ViewKind) (at : Mark) → head_reason kind h at ≡ None →
      IsKept (guards_of_view kind h ++ guards) (kept (guards_of_view kind h ++ guards) e) place at
  own_element kind at none =
      let held = guards_of_view kind h ++ guards in
      record {
        number = number_of h;
        rooted = has_root h;
        names = names_of h;
        has_element = keeps_element held h;
        there = object_there_kept guards held e place h found (blocks_guard.views kind h guards);
        stands = viewed_stands kind h at guards none;
      }

  named_more : (more : Guards) (b : Bound) (now : World) → b ≡ bound_by (held_under (more ++ guards)) b →
      state_of now ≡ with_name (holding more (state_of w)) b → state_of now ≡ under (more ++ guards) (with_name e b)
  named_more more b now same is =
      is
      ∙ (ap (λ s. with_name s b) (ap (holding more) u.is ∙ holding_under more guards e)
      ∙ (ap (with_name (under (more ++ guards) e)) same ∙ sym (parts_under.named (more ++ guards) e b)))

  pub view_begins : (kind : ViewKind) (at : Mark) (now : World) → head_reason kind h at ≡ None →
      state_of now ≡ with_name (holding (guards_of_view kind h) (state_of w)) (binds_element place at) →
      IsUnder now (guards_of_view kind h ++ guards) (with_name e (binds_element place at))
  view_begins kind at now none is =
      let more = guards_of_view kind h in
      let own = own_element kind at none in
      record {
        is = named_more more (binds_element place at) now refl is;
        ready =
            ready_named (more ++ guards) e (binds_element place at) refl
            (λ object mark f.
            let p : place ≡ object = cc in
            let m : at ≡ mark = cc in
            subst (λ x. IsKept (more ++ guards) (kept (more ++ guards) e) x mark) p
            (subst (λ x. IsKept (more ++ guards) (kept (more ++ guards) e) place x) m own))
            (ready_more more guards e (below_view kind) u.ready);
      }

  -- an update of a key, whose name holds a copy
  pub update_begins : (copy : Value) (now : World) →
      state_of now ≡ with_name (holding (guards_of_view UpdateKey h) (state_of w)) (binds_value copy) →
      IsUnder now (guards_of_view UpdateKey h ++ guards) (with_name e (binds_value copy))
  update_begins copy now is =
      let more = guards_of_view UpdateKey h in
      record {
        is = named_more more (binds_value copy) now refl is;
        ready =
            ready_named (more ++ guards) e (binds_value copy) refl (λ object mark f. absurd (cc))
            (ready_more more guards e (below_view UpdateKey) u.ready);
      }

  pub update_element : (at : Mark) (copy : Value) → head_reason UpdateKey h at ≡ None →
      let held = guards_of_view UpdateKey h ++ guards in IsKept held (kept held (with_name e (binds_value copy))) place at
  update_element at copy none =
      let held = guards_of_view UpdateKey h ++ guards in
      let b = binds_value copy in
      subst (λ l. IsKept held l place at) (sym (kept_named held e b))
      (kept_longer held (kept held e) (frame held b ∷ []) place at (own_element UpdateKey at none))

  pub loop_begins : (elements backward : Bool) (coming : Mark) (now : World) (count : ℕ) → count ≡ length (state_of w).bounds →
      coming ≡ first_mark (number_of h) (in_order backward (names_of h)) → NoRootAmong (names_of h) →
      leaving count (state_of now) ≡ holding (guards_of_loop elements h) (state_of w) →
      Turning now count place backward coming (guards_of_loop elements h ++ guards) e (number_of h) (names_of h) (in_order backward (names_of h))
  loop_begins elements backward coming now count many coming_is no_root is =
      let more = guards_of_loop elements h in
      let as_many : count ≡ length e.bounds = many ∙ (ap (λ (s : State). length s.bounds) u.is ∙ length-map e.bounds _) in
      let guarded = blocks_guard.loops elements h guards in
      record {
        is = held_more more (leaving count (state_of now)) is;
        ready = ready_more more guards e (below_loop elements) u.ready;
        as_many = as_many;
        rooted = has_root h;
        has_element = keeps_element (more ++ guards) h;
        there = object_there_kept guards (more ++ guards) e place h found guarded;
        no_root = no_root;
        guarded = guarded;
        before = [];
        among = refl;
        coming_is = coming_is;
      }
