-- Updates of a key.
use Rattle.std.proofs.Common.{◌≡◌, ◌++◌, ℕ, Bool, List, [], ◌∷◌, length, slice_get, refl, sym, ap, subst, ◌∙◌, Option, Some, None, Result, Ok, Err, OnOk, IfOk, append-nil}
use Rattle.std.proofs.lemmas.Result.{IfOk-weaker}
use Rattle.std.specs.Prelude.{⊤}
use Rattle.ac_base.specs.declared.fault.Fault.{Fault}
use Rattle.ac_base.specs.declared.fault.Fault.TheVariants.{Raised}
use Rattle.ac_base.specs.declared.guard.GuardKind.TheVariants as guard
use Rattle.ac_base.specs.Reason.{exception_of}
use Rattle.ac_base.specs.declared.reason.Exception.{Exception}
use Rattle.ac_base.specs.declared.reason.Reason.{Reason}
use Rattle.ac_base.specs.declared.value.Value.{Value}
use Rattle.ac_model.specs.Cursors.{plain_mark}
use Rattle.ac_model.specs.Letters.{Mark}
use Rattle.ac_syntax.specs.declared.view_kind.ViewKind.TheVariants.{UpdateKey}
use Rattle.ac_rules.specs.Resolved.{ResolvedCode, views_at}
use Rattle.ac_calls.specs.Answers.{lines_text, line as line_of, answers_raised}
use Rattle.ac_calls.specs.Holdings.{Held, held_under, Guards, element_value}
use Rattle.ac_meaning.specs.Environment.{Bound, bound_by, bound_in, bound_at, State, under, object_at, guarded_at, mark_at, value_at, value_or_zero, with_name, leaving, binds_type, binds_object, binds_cursor, binds_value, binds_element}
use Rattle.ac_meaning.specs.Execution.{End, Outcome, ending, Orders, unless_raised, followed, exec_resolved, guards_of_view, head_reason, key_end, key_body, view_on, on_object}
use Rattle.ac_meaning.specs.GuardedNames.{of_value, frame, kept}
use Rattle.ac_meaning.proofs.CountsStay.{parts_under}
use Rattle.ac_meaning.proofs.ExecKeeps.{resolved_keeps}
use Rattle.ac_objects.specs.declared.blocks.OpenUpdate.{OpenUpdate}
use Rattle.ac_objects.specs.declared.blocks.ViewKey.{ViewKey}
use Rattle.ac_objects.specs.declared.blocks.ViewKey.TheVariants as keys
use Rattle.ac_objects.specs.Blocks.{holding, releasing, names_of_key, guards_of_open_view, guards_of_open_update, guards_of_view_key}
use Rattle.ac_objects.specs.KeyUpdates.{UpdateEnds}
use Rattle.ac_objects.specs.ViewHeads.{BlockEnds}
use Rattle.ac_objects.specs.Standing.{HasValue, StandsAt, counts_of}
use Rattle.ac_objects.specs.World.{World, state_of, IsKnown}
use Rattle.ac_host.specs.declared.end.HostEnd.{HostEnd}
use Rattle.ac_host.specs.Ready.{IsKept, IsUnder}
use Rattle.ac_host.specs.Running.{inside, key_ending, UpdateGoesOn}
use Rattle.ac_host.specs.Writing.{Wrote, Broke, Writes, Ran}
use Rattle.ac_host.proofs.Blocks.{ran_inside, ran_as, mark_under, many_under, many_named, same_many}
use Rattle.ac_host.proofs.Opening.{update_element}
use Rattle.ac_host.proofs.Standing.{frame_there, framed, kept_stands, last_there}
use Rattle.ac_host.proofs.Telling.{lines_together, wrote_nothing, wrote_then, broke_before, broke_behind}

-- What its name holds first

abbrev pub copied : State → Option ℕ → Held → Value
copied e at h = value_or_zero (element_value h (mark_at e at)).answer

-- Where it begins

pub updating_begins : (w now : World) (guards : Guards) (e : State) → IsUnder w guards e → (place : ℕ) (h : Held) → object_at (state_of w) place ≡ Some h →
    (key : OpenUpdate) (at : Mark) (copy : Value) → head_reason UpdateKey h at ≡ None → guards_of_open_update key ≡ guards_of_view UpdateKey h →
    state_of now ≡ with_name (holding (guards_of_view UpdateKey h) (state_of w)) (binds_value copy) →
    key.object ≡ place → key.names ≡ length w.bounds → plain_mark key.at ≡ at → IsKnown now key.at → key.guard.kind ≡ guard.Cursors →
    UpdateGoesOn now (guards_of_open_update key ++ guards) (with_name e (binds_value copy)) key
updating_begins w now guards e u place h there key at copy none own is object names mark known kind =
    let env = with_name e (binds_value copy) in
    record {
      element =
          subst (λ m. IsKept (m ++ guards) (kept (m ++ guards) env) key.object (plain_mark key.at)) (sym own)
          (subst (λ p. IsKept (guards_of_view UpdateKey h ++ guards) (kept (guards_of_view UpdateKey h ++ guards) env) p (plain_mark key.at)) (sym object)
          (subst (IsKept (guards_of_view UpdateKey h ++ guards) (kept (guards_of_view UpdateKey h ++ guards) env) place) (sym mark)
          (update_element w guards e u place h there at copy none)));
      copy =
          frame_there (guards_of_open_update key ++ guards) (e.bounds ++ binds_value copy ∷ []) key.names (binds_value copy)
          (ap (slice_get (e.bounds ++ binds_value copy ∷ [])) (names ∙ many_under w guards e u) ∙ last_there e.bounds (binds_value copy));
      last = many_named (guards_of_view UpdateKey h) w now (binds_value copy) key.names names is;
      known = known;
      cursors = kind;
    }

-- Behind its body

pub updating_stands : (w : World) (held : Guards) (e : State) (key : OpenUpdate) → IsUnder w held e → UpdateGoesOn w held e key →
    StandsAt (state_of w) key.object (plain_mark key.at)
updating_stands w held e key u k =
    let r = kept_stands held e key.object (plain_mark key.at) k.element in
    subst (λ s. StandsAt s key.object (plain_mark key.at)) (sym u.is) (record { held = r.held; there = r.there; stands = r.stands })

value_framed : (guards : Guards) (b : Bound) → frame guards b ≡ of_value → (v : Value) × (b ≡ binds_value v)
value_framed guards binds_type e = absurd (cc)
value_framed guards (binds_object h) e = absurd (cc)
value_framed guards (binds_cursor mark) e = absurd (cc)
value_framed guards (binds_value v) e = (v, refl)
value_framed guards (binds_element object at) e = absurd (cc)

pub updating_copy : (w : World) (held : Guards) (e : State) (key : OpenUpdate) → IsUnder w held e → UpdateGoesOn w held e key →
    HasValue (state_of w) key.names
updating_copy w held e key u k =
    let f = framed held e.bounds key.names of_value k.copy in
    let v = value_framed held f.bound f.is in
    record {
      value = v.0;
      there =
          ap (λ s. bound_at s key.names) u.is
          ∙ (parts_under.bound held e key.names
          ∙ ap (bound_by (held_under held)) (ap bound_in f.there ∙ v.1));
    }

pub updating_goes_on : (propagates : Bool) (orders : Orders) (code : ResolvedCode) (w now : World) (held : Guards) (e : State) (key : OpenUpdate) →
    UpdateGoesOn w held e key → counts_of (state_of now) ≡ counts_of (state_of w) → IsKnown now key.at →
    UpdateGoesOn now held (exec_resolved propagates orders code held e).after key
updating_goes_on propagates orders code w now held e key k counts known = record {
  element = subst (λ l. IsKept held l key.object (plain_mark key.at)) (sym (resolved_keeps propagates orders code held None e)) k.element;
  copy = ap (λ l. slice_get l key.names) (resolved_keeps propagates orders code held None e) ∙ k.copy;
  last = same_many w now counts ∙ k.last;
  known = known;
  cursors = k.cursors;
}

-- What it comes to

pub update_comes : (propagates : Bool) (orders : Orders) (code : ResolvedCode) (guards : Guards) (e : State) (line object : ℕ) (at : Option ℕ) (s : State) (h : Held) (key : OpenUpdate) →
    guarded_at (under guards e) object ≡ Some h → s ≡ under guards e → head_reason UpdateKey h (mark_at s at) ≡ None →
    guards_of_open_update key ≡ guards_of_view UpdateKey h → key.object ≡ object → key.names ≡ length e.bounds → plain_mark key.at ≡ mark_at s at →
    followed (exec_resolved propagates orders code (guards_of_open_update key ++ guards) (with_name e (binds_value (copied s at h)))) (key_ending line (keys.Update key) guards)
    ≡ on_object (exec_resolved propagates orders code) guards (views_at line UpdateKey object at) (guarded_at (under guards e) object) e
update_comes propagates orders code guards e line object at s h key there s_is none own place names mark_is =
    let body = exec_resolved propagates orders code in
    let mark : mark_at s at ≡ mark_at e at = ap (λ x. mark_at x at) s_is ∙ mark_under guards e at in
    let same = mark_is ∙ mark in
    (λ i. followed (body (own i ++ guards) (with_name e (binds_value (value_or_zero (element_value h (mark i)).answer))))
    (λ (end : End) (r : State). unless_raised (key_end line (place i) (same i) (value_at r (names i)) (own i ++ guards)) end (leaving (names i) r)))
    ∙ (begun body (mark_at e at) (sym (ap (head_reason UpdateKey h) mark) ∙ none)
    ∙ ap (λ o. on_object body guards (views_at line UpdateKey object at) o e) (sym there))
  where
    begun : (body : Guards → State → Outcome) (m : Mark) → head_reason UpdateKey h m ≡ None →
        key_body body guards line object m h e ≡ view_on body guards line UpdateKey object m h e
    begun body m f = rw (f, view_on) refl

-- where the body was left nothing follows but that the name goes
raised_ending : (line : ℕ) (key : ViewKey) (guards : Guards) (r : Outcome) (raised : Exception) → Some raised ≡ r.end →
    inside (names_of_key key) r ≡ followed r (key_ending line key guards)
raised_ending line (keys.View view) guards r raised is = λ i. ending r.end (sym (append-nil r.lines) i) (leaving view.names r.after)
raised_ending line (keys.Update update) guards r raised is =
    (λ i. ending (sym is i) (sym (append-nil r.lines) i) (leaving update.names r.after))
    ∙ ap (λ (end : End). let second = key_ending line (keys.Update update) guards end r.after in ending second.end (r.lines ++ second.lines) second.after) is

-- no view or `stable` tells a fault
no_fault : (result : Result ⊤ Fault) (fault : Fault) → result ≡ Err fault → result ≡ Ok tt → ⊥
no_fault result fault is ok = cc

-- What was written

module _ {K : Type 0} (held : K → Option (List ℕ)) (faults : K → ℕ) (room : K → Option ℕ) (counts : K → Bool) where
  pub ran_then : (a b c : K) (now : World) (guards : Guards) (first : Outcome) (next : End → State → Outcome) (end : End) (result : Result End HostEnd) →
      end ≡ first.end → Wrote held faults room counts a b (lines_text first.lines) → Ran held faults room counts b c now guards (next end first.after) result →
      Ran held faults room counts a c now guards (followed first next) result
  ran_then a b c now guards first next end result ended wrote ran = go (subst (λ (x : End). Ran held faults room counts b c now guards (next x first.after) result) ended ran)
    where
      both : (r : Result End HostEnd) → Writes held faults room counts b c (lines_text (next first.end first.after).lines) r →
          Writes held faults room counts a c (lines_text first.lines ++ lines_text (next first.end first.after).lines) r
      both (Ok x) w = wrote_then held faults room counts a b c (lines_text first.lines) (lines_text (next first.end first.after).lines) wrote w
      both (Err stop) w = broke_behind held faults room counts a b c (lines_text first.lines) (lines_text (next first.end first.after).lines) stop wrote w

      go : Ran held faults room counts b c now guards (next first.end first.after) result → Ran held faults room counts a c now guards (followed first next) result
      go then =
          let second = next first.end first.after in
          record {
            writes =
                subst (λ t. Writes held faults room counts a c t result) (sym (lines_together first.lines second.lines)) (both result then.writes);
            after = then.after;
            ended = then.ended;
          }

  abbrev stopped : HostEnd → Result End HostEnd
  stopped end = Err end

  pub ran_stopped : (a b : K) (now : World) (guards : Guards) (first : Outcome) (next : End → State → Outcome) (end : HostEnd) →
      Broke held faults room counts a b (lines_text first.lines) end → Ran held faults room counts a b now guards (followed first next) (stopped end)
  ran_stopped a b now guards first next end broke =
      let second = next first.end first.after in
      record {
        writes =
            subst (λ t. Broke held faults room counts a b t end) (sym (lines_together first.lines second.lines))
            (broke_before held faults room counts a b (lines_text first.lines) (lines_text second.lines) end broke);
        after = tt;
        ended = tt;
      }

  -- where the body was left
  pub ran_dropped : (a b : K) (now later : World) (line : ℕ) (key : ViewKey) (guards : Guards) (r : Outcome) (raised : Exception) →
      state_of later ≡ releasing (guards_of_view_key key) (leaving (names_of_key key) (state_of now)) →
      Ran held faults room counts a b now (guards_of_view_key key ++ guards) r (Ok (Some raised)) →
      Ran held faults room counts a b later guards (followed r (key_ending line key guards)) (Ok (Some raised))
  ran_dropped a b now later line key guards r raised left ran =
      ran_as held faults room counts a b later guards (inside (names_of_key key) r) (followed r (key_ending line key guards)) (Ok (Some raised))
      (raised_ending line key guards r raised ran.ended)
      (ran_inside held faults room counts (guards_of_view_key key) guards (names_of_key key) a b now later r (Ok (Some raised)) left ran)

  -- at the end: a view's and a `stable`'s, or an update's where the copy has the element's key
  pub ended_silent : (a : K) (old now : World) (line : ℕ) (key : ViewKey) (guards : Guards) (e : State) →
      BlockEnds key (state_of old) (state_of now) (Ok tt) → IsUnder old (guards_of_view_key key ++ guards) e →
      Ran held faults room counts a a now guards (key_ending line key guards None e) (Ok None)
  ended_silent a old now line (keys.View view) guards e ends u =
      ran_inside held faults room counts (guards_of_open_view view) guards view.names a a old now (ending None [] e) (Ok None) ends.1 (record {
        writes = wrote_nothing held faults room counts a;
        after = u.is;
        ended = refl;
      })
  ended_silent a old now line (keys.Update update) guards e ends u =
      let is = ends line guards e u.is in
      record {
        writes = subst (λ l. Wrote held faults room counts a a (lines_text l)) (sym is.0) (wrote_nothing held faults room counts a);
        after = is.1;
        ended = sym is.2;
      }

  -- and where it has another
  update_line : (a b : K) (old now : World) (line : ℕ) (update : OpenUpdate) (guards : Guards) (e : State) (reason : Reason) (result : Result End HostEnd) →
      UpdateEnds update (state_of old) (state_of now) (Some reason) → IsUnder old (guards_of_open_update update ++ guards) e →
      Writes held faults room counts a b (lines_text (line_of line (answers_raised reason) ∷ [])) result →
      IfOk result (λ end. end ≡ Some (exception_of reason)) →
      Ran held faults room counts a b now guards (key_ending line (keys.Update update) guards None e) result
  update_line a b old now line update guards e reason result ends u writes ended =
      let is = ends line guards e u.is in
      record {
        writes = subst (λ l. Writes held faults room counts a b (lines_text l) result) (sym is.0) writes;
        after = after result is.1;
        ended = IfOk-weaker result _ _ (λ end same. same ∙ sym is.2) ended;
      }
    where
      after : {P : Type 0} (r : Result End HostEnd) → P → OnOk r P
      after (Ok x) p = p
      after (Err end) p = tt

  pub ended_line : (a b : K) (old now : World) (line : ℕ) (key : ViewKey) (guards : Guards) (e : State) (reason : Reason) (result : Result End HostEnd) →
      BlockEnds key (state_of old) (state_of now) (Err (Raised reason)) → IsUnder old (guards_of_view_key key ++ guards) e →
      Writes held faults room counts a b (lines_text (line_of line (answers_raised reason) ∷ [])) result →
      IfOk result (λ end. end ≡ Some (exception_of reason)) →
      Ran held faults room counts a b now guards (key_ending line key guards None e) result
  ended_line a b old now line (keys.View view) guards e reason result ends u writes ended = absurd (no_fault (Err (Raised reason)) (Raised reason) refl ends.0)
  ended_line a b old now line (keys.Update update) guards e reason result ends u writes ended =
      update_line a b old now line update guards e reason result ends u writes ended
