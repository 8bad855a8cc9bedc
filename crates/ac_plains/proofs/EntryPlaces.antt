-- The places of a state's entries among the outermost names: each finds what was there before any entry was taken.
use Rattle.std.proofs.Common.{◌≡◌, ◌+◌, ◌<◌, ◌≤◌, ◌⊎◌, ℕ, suc, Bool, true, false, not, cond, ◌&&◌, ◌||◌, List, [], ◌∷◌, ◌++◌, map, length, slice_get, All, Option, Some, None, refl, sym, ap, subst, ◌∙◌, arith, append_assoc, append-nil, inl, inr, ⊎_elim}
use Rattle.std.specs.List.{list_all, list_any}
use Rattle.std.specs.Str.{bytes_eq}
use Rattle.std.proofs.lemmas.Bool.{true≢false, and_parts, cases_lt}
use Rattle.std.proofs.lemmas.Option.{slice_get_past}
use Rattle.std.proofs.lemmas.Slice.Eq.{bytes_eq-Decides}
use Rattle.ac_syntax.specs.declared.script.Script.{Script}
use Rattle.ac_rules.specs.Scopes.{Scope, with_decls}
use Rattle.ac_rules.specs.Resolved.{place_of}
use Rattle.ac_calls.specs.Plains.{name_of}
use Rattle.ac_calls.specs.declared.plains.Plain.{Plain}
use Rattle.ac_meaning.specs.Environment.{Bound, binds_type, bound_in, State, bound_at}
use Rattle.ac_meaning.proofs.Places.{all_at, all_set, get_other, length_set}
use Rattle.ac_plains.specs.Resumed.{entry_place, filled_bound, with_entry, resumed, IsFresh, IsNoElement, HasNoElements, AreFresh, HasNoMore}
use Rattle.ac_plains.proofs.FilledBounds.{no_element}
use Rattle.ac_snapshot.specs.RowValidity.{all_differ}
use Rattle.ac_snapshot.specs.Validity.{is_valid, is_valid_entry, names_differ, has_room}

-- Names with one place

pub same_name : (scope : Scope) (a b : List ℕ) → place_of scope a ≡ place_of scope b → place_of scope b < length scope → a ≡ b
same_name [] a b e l = absurd (omega (arith, l))
same_name (s ∷ scope) a b e l = by (bytes_eq s.name a) (bytes_eq s.name b) refl refl (same_name scope a b) e l
  where
    by : (t u : Bool) → bytes_eq s.name a ≡ t → bytes_eq s.name b ≡ u
        → (place_of scope a ≡ place_of scope b → place_of scope b < length scope → a ≡ b)
        → cond (not t) (1 + place_of scope a) 0 ≡ cond (not u) (1 + place_of scope b) 0
        → cond (not u) (1 + place_of scope b) 0 < suc (length scope) → a ≡ b
    by true true first second further same within = sym ((bytes_eq-Decides s.name a).0 first) ∙ (bytes_eq-Decides s.name b).0 second
    by true false first second further same within = absurd (omega (arith, same))
    by false true first second further same within = absurd (omega (arith, same))
    by false false first second further same within = further (omega (arith, same)) (omega (arith, within))

not_like : (a b : Bool) → not (a || b) ≡ true → (a ≡ false) × (b ≡ false)
not_like true b h = absurd (true≢false (sym h))
not_like false true h = absurd (true≢false (sym h))
not_like false false h = (refl, refl)

-- none of them is like one among them
none_like : (p : List ℕ → Bool) (ys : List Plain) (x : Plain) (later : List Plain) → not (list_any p (map name_of (ys ++ x ∷ later))) ≡ true → p (name_of x) ≡ false
none_like p [] x later h = (not_like (p (name_of x)) _ h).0
none_like p (y ∷ ys) x later h =
    let rest = list_any p (map name_of (ys ++ x ∷ later)) in
    none_like p ys x later (ap not (not_like (p (name_of y)) rest h).1)

module _ (script : Script) where
  -- the entries have other places
  abbrev pub AreElsewhere : ℕ → List Plain → Type 0
  AreElsewhere place [] = Unit {0}
  AreElsewhere place (y ∷ ys) = (entry_place script y ≡ place → ⊥) × AreElsewhere place ys

  elsewhere : (before : List Plain) (x : Plain) (later : List Plain) → all_differ bytes_eq (map name_of (before ++ x ∷ later)) ≡ true →
      entry_place script x < length (with_decls [] script.decls) → AreElsewhere (entry_place script x) before
  elsewhere [] x later differ within = tt
  elsewhere (y ∷ ys) x later differ within =
      let parts = and_parts (not (list_any (bytes_eq (name_of y)) (map name_of (ys ++ x ∷ later)))) _ differ in (
        λ same. true≢false (
            sym ((bytes_eq-Decides (name_of y) (name_of x)).1 (same_name (with_decls [] script.decls) (name_of y) (name_of x) same within))
            ∙ none_like (bytes_eq (name_of y)) ys x later parts.0),
        elsewhere ys x later parts.1 within,
      )

  -- what is elsewhere stays
  unmoved : (before : List Plain) (e : State) (place : ℕ) → AreElsewhere place before → bound_at (resumed script e before) place ≡ bound_at e place
  unmoved [] e place apart = refl
  unmoved (y ∷ ys) e place apart =
      unmoved ys (with_entry script e y) place apart.1
      ∙ ap bound_in (get_other e.bounds (entry_place script y) place (filled_bound y (bound_at e (entry_place script y))) apart.0)

  pub as_many : (s : List Plain) (e : State) → length (resumed script e s).bounds ≡ length e.bounds
  as_many [] e = refl
  as_many (y ∷ ys) e =
      as_many ys (with_entry script e y) ∙ length_set e.bounds (entry_place script y) (filled_bound y (bound_at e (entry_place script y)))

  pub same_next : (s : List Plain) (e : State) → (resumed script e s).next ≡ e.next
  same_next [] e = refl
  same_next (y ∷ ys) e = same_next ys (with_entry script e y)

  pub same_blocks : (s : List Plain) (e : State) → (resumed script e s).blocks ≡ e.blocks
  same_blocks [] e = refl
  same_blocks (y ∷ ys) e = same_blocks ys (with_entry script e y)

  pub resumed_last : (s : List Plain) (e : State) (x : Plain) → resumed script e (s ++ x ∷ []) ≡ with_entry script (resumed script e s) x
  resumed_last [] e x = refl
  resumed_last (y ∷ ys) e x = resumed_last ys (with_entry script e y) x

  nothing_past : (e : State) (place : ℕ) → length e.bounds ≤ place → bound_at e place ≡ binds_type
  nothing_past e place past = ap bound_in (slice_get_past e.bounds place past)

  -- where it is entered, each entry finds what was there
  pub as_found : (e : State) (s : List Plain) (before : List Plain) (x : Plain) (later : List Plain) → HasNoMore script e → names_differ s ≡ true →
      s ≡ before ++ x ∷ later → bound_at (resumed script e before) (entry_place script x) ≡ bound_at e (entry_place script x)
  as_found e s before x later few differ is =
      let place = entry_place script x in
      let scope = with_decls [] script.decls in
      ⊎_elim
      (λ (within : place < length scope). unmoved before e place (elsewhere before x later (ap names_differ (sym is) ∙ differ) within))
      (λ (past : length scope ≤ place).
      nothing_past (resumed script e before) place (omega (arith, past, few, as_many before e)) ∙ sym (nothing_past e place (omega (arith, past, few))))
      (cases_lt place (length scope))

  -- what holds at first, and through each entry, holds at last
  pub walked : (P : State → Type 0) (e : State) (s left done : List Plain) → s ≡ done ++ left →
      ((before : List Plain) (x : Plain) (later : List Plain) → s ≡ before ++ x ∷ later → P (resumed script e before) →
      P (with_entry script (resumed script e before) x)) → P (resumed script e done) → P (resumed script e s)
  walked P e s [] done is step p = subst (λ l. P (resumed script e l)) (sym (is ∙ append-nil done)) p
  walked P e s (x ∷ left) done is step p =
      walked P e s left (done ++ x ∷ []) (is ∙ sym (append_assoc done (x ∷ []) left)) step
      (subst P (sym (resumed_last done e x)) (step done x left is p))

-- At a place

module _ (P : Bound → Type 0) (other : P binds_type) where
  in_any : (found : Option Bound) → ((b : Bound) → found ≡ Some b → P b) → P (bound_in found)
  in_any None f = other
  in_any (Some b) f = f b refl

  pub at_any : (e : State) (place : ℕ) → All P e.bounds → P (bound_at e place)
  at_any e place all = in_any (slice_get e.bounds place) (λ b there. all_at P e.bounds place b all there)

pub fresh_at : (e : State) (place : ℕ) → AreFresh e → IsFresh (bound_at e place)
fresh_at e place fresh = at_any IsFresh tt e place fresh

pub no_elements_then : (script : Script) (e : State) (x : Plain) → HasNoElements e → HasNoElements (with_entry script e x)
no_elements_then script e x none =
    let place = entry_place script x in
    all_set IsNoElement e.bounds place (filled_bound x (bound_at e place)) none (no_element x (bound_at e place) (at_any IsNoElement tt e place none))

pub no_elements_resumed : (script : Script) (s : List Plain) (e : State) → HasNoElements e → HasNoElements (resumed script e s)
no_elements_resumed script [] e none = none
no_elements_resumed script (x ∷ s) e none = no_elements_resumed script s (with_entry script e x) (no_elements_then script e x none)

-- The parts of a valid state

pub differ_of : (s : List Plain) → is_valid s ≡ true → names_differ s ≡ true
differ_of s valid = (and_parts (names_differ s) (has_room s) (and_parts (list_all is_valid_entry s) _ valid).1).0

pub entry_of : (s before : List Plain) (x : Plain) (later : List Plain) → is_valid s ≡ true → s ≡ before ++ x ∷ later → is_valid_entry x ≡ true
entry_of s before x later valid is =
    among before x later (ap (list_all is_valid_entry) (sym is) ∙ (and_parts (list_all is_valid_entry s) _ valid).0)
  where
    among : (ys : List Plain) (z : Plain) (zs : List Plain) → list_all is_valid_entry (ys ++ z ∷ zs) ≡ true → is_valid_entry z ≡ true
    among [] z zs h = (and_parts (is_valid_entry z) _ h).0
    among (y ∷ ys) z zs h = among ys z zs (and_parts (is_valid_entry y) _ h).1
