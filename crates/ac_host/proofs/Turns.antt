-- The turns of a loop.
use Rattle.std.proofs.Common.{◌≡◌, ◌<◌, ◌≤◌, inl, inr, ℕ, Bool, true, false, List, [], ◌∷◌, ◌++◌, length, slice_get, refl, sym, ap, subst, ◌∙◌, arith, append_assoc, Some, None}
use Rattle.std.proofs.lemmas.List.{length-map, take_all}
use Rattle.std.proofs.lemmas.Option.{slice_get_within}
use Rattle.ac_model.specs.Letters.{Mark, no_mark, mark_at}
use Rattle.ac_rules.specs.Resolved.{ResolvedCode}
use Rattle.ac_calls.specs.Holdings.{Held, Guards, number_of, names_of, held_under, element_value}
use Rattle.ac_meaning.specs.Environment.{Bound, bound_by, bound_in, object_in, State, under, object_at, with_name, leaving}
use Rattle.ac_meaning.specs.Execution.{Orders, exec_resolved, in_order, turn_bound}
use Rattle.ac_meaning.specs.GuardedNames.{Frame, of_object, of_element, frame, kept}
use Rattle.ac_meaning.specs.Walks.{first_mark}
use Rattle.ac_meaning.proofs.CountsStay.{parts_under}
use Rattle.ac_meaning.proofs.ExecKeeps.{resolved_keeps}
use Rattle.ac_meaning.proofs.Frames.{kept_back}
use Rattle.ac_objects.specs.Standing.{ComingStands}
use Rattle.ac_objects.specs.World.{World, state_of}
use Rattle.ac_host.specs.Ready.{IsKept, Ready, IsUnder}
use Rattle.ac_host.specs.Running.{Turning}
use Rattle.ac_host.proofs.Holding.{object_by_there, within_take}
use Rattle.ac_host.proofs.Standing.{ObjectKept, kept_object, Among, among_order, kept_at, element_there, number_under, names_under, ready_exec, ready_named, ready_back}

mark_found : (number name : ℕ) → mark_at number name ≡ no_mark → ⊥
mark_found number name e = cc

pub many_kept : (guards : Guards) (e now : State) → kept guards now ≡ kept guards e → length now.bounds ≡ length e.bounds
many_kept guards e now same =
    sym (length-map now.bounds (frame guards)) ∙ (ap (λ (l : List Frame). length l) same ∙ length-map e.bounds (frame guards))

-- a name that comes next
pub record NextName (names : List ℕ) : Type 0 where
  pub name : ℕ
  pub rest : List ℕ
  pub is : names ≡ name ∷ rest

module _ {w : World} {count object : ℕ} {backward : Bool} {coming : Mark} {guards : Guards} {e : State} {number : ℕ} {all names : List ℕ}
    (t : Turning w count object backward coming guards e number all names) where
  pub turning_inner : object < count
  turning_inner =
      let n = slice_get_within (kept guards e) object (of_object number t.rooted all t.has_element) t.there in
      omega (arith, n, length-map e.bounds (frame guards), t.as_many)

  abbrev pub found : ObjectKept guards e object number t.rooted all t.has_element
  found = kept_object guards e object number t.rooted all t.has_element t.there

  abbrev pub held : Held
  held = held_under guards found.held

  -- the object as the next step finds it
  pub turning_there : object_at (state_of w) object ≡ Some held
  turning_there =
      ap (λ b. object_in (bound_in b)) (sym (within_take (state_of w).bounds object count turning_inner))
      ∙ (ap (λ (s : State). object_at s object) t.is ∙ object_by_there (held_under guards) e object found.held found.there)

  pub turning_number : number_of held ≡ number
  turning_number = number_under guards found.held ∙ found.number_is

  pub turning_all : names_of held ≡ all
  turning_all = names_under guards found.held ∙ found.names_are t.guarded

  next_among : (name : ℕ) (rest : List ℕ) → names ≡ name ∷ rest → Among all name
  next_among name rest e = among_order backward all t.before name rest (t.among ∙ ap (λ l. t.before ++ l) e)

  pub turning_coming : (name : ℕ) (rest : List ℕ) → names ≡ name ∷ rest → coming ≡ mark_at number name
  turning_coming name rest e = t.coming_is ∙ ap (first_mark number) e

  pub turning_stands : ComingStands (state_of w) object coming
  turning_stands = go names refl
    where
      go : (ns : List ℕ) → names ≡ ns → ComingStands (state_of w) object coming
      go [] e = inl (t.coming_is ∙ ap (first_mark number) e)
      go (name ∷ rest) e =
          let a = next_among name rest e in
          inr (record {
            held = held;
            there = turning_there;
            stands =
                ap (λ m. (element_value held m).reason) (turning_coming name rest e ∙ ap (λ n. mark_at n name) (sym turning_number))
                ∙ element_there held a.before name a.after (turning_all ∙ a.is) (λ _. t.no_root a.before name a.after a.is);
          })

  -- at no element there is no name to come
  pub turning_none : coming ≡ no_mark → names ≡ []
  turning_none none = go names refl
    where
      go : (ns : List ℕ) → names ≡ ns → names ≡ []
      go [] e = e
      go (name ∷ rest) e = absurd (mark_found number name (sym (turning_coming name rest e) ∙ none))

  pub turn_begins : (elements : Bool) (name : ℕ) (rest : List ℕ) (now : World) → names ≡ name ∷ rest →
      state_of now ≡ with_name (leaving count (state_of w)) (turn_bound elements object coming) →
      IsUnder now guards (with_name e (turn_bound elements object (mark_at number name)))
  turn_begins elements name rest now is begun =
      let b = turn_bound elements object (mark_at number name) in
      record {
        is =
            begun
            ∙ ap (λ m. with_name (leaving count (state_of w)) (turn_bound elements object m)) (turning_coming name rest is)
            ∙ (ap (λ s. with_name s b) t.is
            ∙ (ap (with_name (under guards e)) (same elements) ∙ sym (parts_under.named guards e b)));
        ready = ready_named guards e b (none elements) (own elements) t.ready;
      }
    where
      mark : Mark
      mark = mark_at number name

      same : (each : Bool) → turn_bound each object mark ≡ bound_by (held_under guards) (turn_bound each object mark)
      same false = refl
      same true = refl

      none : (each : Bool) → object_in (turn_bound each object mark) ≡ None
      none false = refl
      none true = refl

      own : (each : Bool) (other : ℕ) (at : Mark) → frame guards (turn_bound each object mark) ≡ of_element other at → IsKept guards (kept guards e) other at
      own false other at f = absurd (cc)
      own true other at f =
          let p : object ≡ other = cc in
          let m : mark ≡ at = cc in
          subst (λ x. IsKept guards (kept guards e) other x) m
          (subst (λ x. IsKept guards (kept guards e) x mark) p
          (kept_at guards (kept guards e) object number t.rooted all t.has_element name t.there t.guarded (next_among name rest is) t.no_root))

  -- where a turn raises, the names of the loop's head are what is left
  pub turn_left : (propagates : Bool) (orders : Orders) (code : ResolvedCode) (b : Bound) (now : World) →
      state_of now ≡ under guards (exec_resolved propagates orders code guards (with_name e b)).after →
      leaving count (state_of now) ≡ under guards (leaving (length e.bounds) (exec_resolved propagates orders code guards (with_name e b)).after)
  turn_left propagates orders code b now ended =
      let after = (exec_resolved propagates orders code guards (with_name e b)).after in
      ap (leaving count) ended ∙ (ap (λ n. leaving n (under guards after)) t.as_many ∙ sym (parts_under.left guards (length e.bounds) after))

  pub turn_ends : (propagates : Bool) (orders : Orders) (code : ResolvedCode) (b : Bound) (name : ℕ) (rest : List ℕ) (now : World) (next : Mark) → names ≡ name ∷ rest →
      Ready guards (with_name e b) → state_of now ≡ under guards (exec_resolved propagates orders code guards (with_name e b)).after → next ≡ first_mark number rest →
      Turning now count object backward next guards (leaving (length e.bounds) (exec_resolved propagates orders code guards (with_name e b)).after) number all rest
  turn_ends propagates orders code b name rest now next is begun ended next_is =
      let after = (exec_resolved propagates orders code guards (with_name e b)).after in
      let left = leaving (length e.bounds) after in
      let same = resolved_keeps propagates orders code guards None (with_name e b) in
      let back : kept guards left ≡ kept guards e = kept_back guards e after (b ∷ []) same in
      record {
        is = turn_left propagates orders code b now ended;
        ready = ready_back guards e after b same t.ready (ready_exec propagates orders code guards (with_name e b) begun);
        as_many = t.as_many ∙ sym (many_kept guards e left back);
        rooted = t.rooted;
        has_element = t.has_element;
        there = ap (λ l. slice_get l object) back ∙ t.there;
        no_root = t.no_root;
        guarded = t.guarded;
        before = t.before ++ name ∷ [];
        among = t.among ∙ (ap (λ l. t.before ++ l) is ∙ sym (append_assoc t.before (name ∷ []) rest));
        coming_is = next_is;
      }

  -- and so where no turn is to come
  pub turns_left : (now : World) → state_of now ≡ leaving count (state_of w) → leaving count (state_of now) ≡ under guards e
  turns_left now is =
      let all : length (under guards e).bounds ≤ count = omega (arith, length-map e.bounds (bound_by (held_under guards)), t.as_many) in
      ap (leaving count) (is ∙ t.is) ∙ (λ i. record (under guards e) { bounds = take_all count (under guards e).bounds all i })

  pub turning_next : (coming ≡ no_mark → ⊥) → NextName names
  turning_next some = go names refl
    where
      go : (ns : List ℕ) → names ≡ ns → NextName names
      go [] e = absurd (some (t.coming_is ∙ ap (first_mark number) e))
      go (name ∷ rest) e = record { name = name; rest = rest; is = e }

  -- the step that a loop makes leads to the next name
  pub turn_goes : (name : ℕ) (rest : List ℕ) (next : Mark) → names ≡ name ∷ rest →
      ((h : Held) → object_at (state_of w) object ≡ Some h → (before : List ℕ) (this : ℕ) (after : List ℕ) →
      in_order backward (names_of h) ≡ before ++ this ∷ after → coming ≡ mark_at (number_of h) this → next ≡ first_mark (number_of h) after) →
      next ≡ first_mark number rest
  turn_goes name rest next is goes =
      goes held turning_there t.before name rest (ap (in_order backward) turning_all ∙ (t.among ∙ ap (λ l. t.before ++ l) is))
      (turning_coming name rest is ∙ ap (λ n. mark_at n name) (sym turning_number))
      ∙ ap (λ n. first_mark n rest) turning_number

-- at the same places
pub turning_at : {w : World} {count many object place : ℕ} {backward back : Bool} {coming : Mark} {guards : Guards} {e : State} {number : ℕ} {all names : List ℕ} →
    many ≡ count → place ≡ object → back ≡ backward → Turning w count object backward coming guards e number all names →
    Turning w many place back coming guards e number all names
turning_at {w} {count} {many} {object} {place} {backward} {back} {coming} {guards} {e} {number} {all} {names} m p b t =
    subst (λ x. Turning w x place back coming guards e number all names) (sym m)
    (subst (λ x. Turning w count x back coming guards e number all names) (sym p)
    (subst (λ x. Turning w count object x coming guards e number all names) (sym b) t))
