-- An array seen as its rows, and what each change of its lists and its pool leaves of them.
use Rattle.std.proofs.Common.{◌≡◌, ◌≢◌, ℕ, ◌+◌, ◌-◌, ◌<◌, ◌≤◌, List, [], ◌∷◌, ◌++◌, length, Some, None, is_some, refl, sym, ap, ◌∙◌, subst, inl, inr, arith, length-append, append-nil, get_or, Result, Ok, Err}
use Rattle.std.proofs.lemmas.List.{map-append, length-map}
use Rattle.std.specs.Result.{OnOk, OnErr}
use Rattle.std.proofs.lemmas.Option.{slice_get_read, slice_get-map}
use Rattle.std.specs.List.{insert, slice_get}
use Rattle.std.specs.FinMap as map
use Rattle.ac_base.specs.declared.name.Name.{Name}
use Rattle.ac_base.specs.Rows.{Row, row, names, values}
use Rattle.ac_pool.specs.Names.{name_cmp}
use Rattle.ac_pool.specs.Contents as pool
use Rattle.ac_pool.specs.Contents.{Contents, live_count, slot_count, added, taken}
use Rattle.ac_pool.proofs.NameLaws.{cases_name}
use Rattle.ac_pool.proofs.ContentsLaws.{live_value, value_of-added_same, value_of-added_other, live_count-added, fresh_is_dead, slot_count-no_values, slot_count-added, entries-reserved}
use Rattle.ac_chain.specs.Rows.{Chained, chained, no_rows, inserted, cleared, IsFresh, IsSound}
use Rattle.ac_pool.specs.NamedRows.{index_of, name_at, HasName, IsOnce}
use Rattle.ac_pool.proofs.Cuts.{live_has, has_live, name_at_has, insert-cut}
use Rattle.ac_chain.proofs.Moves.{once_from}
use Rattle.ac_vector.specs.ArrayFields.{rows_in, StandsFor, IsArray}
use Rattle.ac_vector.proofs.NamesAt.{same_number, no_name, at_left, at_right, at_either, at_within, at_index, at_names}

module _ {X : Type 0} where
  abbrev pub view_of : List Name → List X → Contents ℕ → Chained X
  view_of ns vs p = chained (rows_in ns vs) p.next_serial p.spare

  pub rows_in-parts : (rs : List (Row Name X)) → rows_in (names rs) (values rs) ≡ rs
  rows_in-parts [] = refl
  rows_in-parts (r ∷ rs) = ap (λ k. r ∷ k) (rows_in-parts rs)

  module _ {ns : List Name} {vs : List X} {p : Contents ℕ} {rs : List (Row Name X)} (s : StandsFor ns vs p rs) where
    pub rows_in-is : rows_in ns vs ≡ rs
    rows_in-is = (λ i. rows_in (s.named i) (s.valued i)) ∙ rows_in-parts rs

    pub own : StandsFor ns vs p (rows_in ns vs)
    own = subst (λ zs. StandsFor ns vs p zs) (sym rows_in-is) s

    pub view-is : view_of ns vs p ≡ chained rs p.next_serial p.spare
    view-is = ap (λ zs. chained zs p.next_serial p.spare) rows_in-is

    pub array_from : (m n : ℕ) → slot_count p ≤ m → slot_count p ≤ n → IsArray ns vs p m n
    array_from m n names_fit values_fit = record { stands = own; names = names_fit; values = values_fit }

    pub once_at : (i j : ℕ) (a : Name) → name_at rs i ≡ Some a → name_at rs j ≡ Some a → i ≡ j
    once_at i j a e f = same_number i j (sym (s.placed i a e) ∙ s.placed j a f)

    pub once : IsOnce rs
    once = once_from rs once_at

    -- the pool has the place of each name that has a row, and no other name
    pub place_at : (a : Name) → HasName a rs → pool.value_of p a ≡ Some (index_of a rs)
    place_at a h = s.placed (index_of a rs) a (at_index rs a h)

    pub place_of : (a : Name) → index_of a rs < length rs → pool.value_of p a ≡ Some (index_of a rs)
    place_of a h = place_at a (live_has a rs h)

    pub live_in : (a : Name) → index_of a rs < length rs → pool.IsLive p a
    live_in a h = ap is_some (place_of a h)

    pub has_of : (a : Name) → pool.IsLive p a → HasName a rs
    has_of a live = let x = live_value (pool.value_of p a) live in name_at_has rs x.0 a (s.all x.0 a x.1)

    pub live_from : (a : Name) → pool.IsLive p a → index_of a rs < length rs
    live_from a live = has_live a rs (has_of a live)

    pub sound_of : IsSound (chained rs p.next_serial p.spare)
    sound_of = record {
      once = once_at;
      slots = λ a b x y e. s.sound.slots a b (live_in a x) (live_in b y) e;
      serials = λ a b x y e. s.sound.serials a b (live_in a x) (live_in b y) e;
      issued = λ a x. s.sound.issued a (live_in a x);
      next = s.sound.next;
      few = omega (arith, s.sound.few, s.count);
    }

    pub length_names : length ns ≡ length rs
    length_names = ap length s.named ∙ length-map rs (λ (r : Row Name X). r.name)

    pub length_values : length vs ≡ length rs
    length_values = ap length s.valued ∙ length-map rs (λ (r : Row Name X). r.value)

    -- what the two lists have at a place
    pub name_there : (i : ℕ) (a : Name) → i < length rs → a ≡ get_or ns i a → Some a ≡ name_at rs i
    name_there i a less is = sym (slice_get_read ns (length rs) i a (sym length_names) less is) ∙ ap (λ (zs : List Name). slice_get zs i) s.named ∙ slice_get-map (λ (r : Row Name X). r.name) rs i

    pub value_there : (i : ℕ) (v : X) → i < length rs → v ≡ get_or vs i v → Some v ≡ slice_get (values rs) i
    value_there i v less is = sym (slice_get_read vs (length rs) i v (sym length_values) less is) ∙ ap (λ (zs : List X). slice_get zs i) s.valued

    -- other values under the same names
    pub rewritten : (ws : List X) (zs : List (Row Name X)) → names zs ≡ names rs → ws ≡ values zs → StandsFor ns ws p zs
    rewritten ws zs same are = record {
      named = s.named ∙ sym same;
      valued = are;
      placed = λ i a e. s.placed i a (sym (at_names zs rs same i) ∙ e);
      all = λ i a e. at_names zs rs same i ∙ s.all i a e;
      count = sym (length-map zs (λ (r : Row Name X). r.name)) ∙ ap length same ∙ length-map rs (λ (r : Row Name X). r.name) ∙ s.count;
      sound = s.sound;
    }

    -- the same in a pool that has grown
    pub grown : (q : Contents ℕ) → q.entries ≡ p.entries → pool.IsSound q → StandsFor ns vs q rs
    grown q same sound = record {
      named = s.named;
      valued = s.valued;
      placed = λ i a e. ap (λ m. map.get m a) same ∙ s.placed i a e;
      all = λ i a e. s.all i a (ap (λ m. map.get m a) (sym same) ∙ e);
      count = s.count ∙ ap map.len (sym same);
      sound = sound;
    }

    -- a row more behind the last
    pub appended : (a : Name) (v : X) (q : Contents ℕ) → pool.IsFresh p a → q ≡ added p a (length rs) → pool.IsSound q → StandsFor (ns ++ a ∷ []) (vs ++ v ∷ []) q (rs ++ row a v ∷ [])
    appended a v q fresh is sound =
        let r = row a v in
        let dead = fresh_is_dead p a fresh in
        let here : pool.value_of q a ≡ Some (length rs) = ap (λ c. pool.value_of c a) is ∙ value_of-added_same p a (length rs) in
        let others : (b : Name) → b ≢ a → pool.value_of q b ≡ pool.value_of p b = λ b ne. ap (λ c. pool.value_of c b) is ∙ value_of-added_other p a b (length rs) ne in
        let last : name_at (rs ++ r ∷ []) (length rs) ≡ Some a = (let e : length rs ≡ length rs + 0 = omega arith in ap (λ i. name_at (rs ++ r ∷ []) i) e ∙ at_right rs (r ∷ []) 0) in
        let new : (i : ℕ) → name_at rs i ≡ Some a → ⊥ = λ i e. (let no : None ≡ Some i = sym dead ∙ s.placed i a e in cc) in
        record {
          named = ap (λ zs. zs ++ a ∷ []) s.named ∙ sym (map-append (λ (z : Row Name X). z.name) rs (r ∷ []));
          valued = ap (λ zs. zs ++ v ∷ []) s.valued ∙ sym (map-append (λ (z : Row Name X). z.value) rs (r ∷ []));
          placed = λ i b e. elim (at_either rs (r ∷ []) i b e) [
            | inl h ↦ others b (λ same. new i (h ∙ ap Some same)) ∙ s.placed i b h
            | inr h ↦ let first : h.0 ≡ 0 = (let less = at_within (r ∷ []) h.0 b h.2 in omega arith) in
                let at : length rs ≡ i = omega (arith, h.1) in
                let same : b ≡ a = (let k : Some a ≡ Some b = ap (λ j. name_at (r ∷ []) j) (sym first) ∙ h.2 in cc) in
                ap (pool.value_of q) same ∙ here ∙ ap Some at
          ];
          all = λ i b e. elim (cases_name b a) [
            | inl same ↦ let at : i ≡ length rs = same_number i (length rs) (sym e ∙ ap (pool.value_of q) same ∙ here) in ap (λ j. name_at (rs ++ r ∷ []) j) at ∙ last ∙ ap Some (sym same)
            | inr ne ↦ at_left rs (r ∷ []) i b (s.all i b (sym (others b ne) ∙ e))
          ];
          count = let more : live_count q ≡ live_count p + 1 = ap live_count is ∙ live_count-added p a (length rs) dead in let old = s.count in omega (arith, length-append rs (r ∷ []));
          sound = sound;
        }

  -- what a change of the fields leaves
  pub record Leaves (ns : List Name) (vs : List X) (p : Contents ℕ) (m n : ℕ) (d : Chained X) : Type 0 where
    pub invariant : IsArray ns vs p m n
    pub view : view_of ns vs p ≡ d
    pub sound : IsSound (view_of ns vs p)

  pub leaves : {ns : List Name} {vs : List X} {p : Contents ℕ} {rs : List (Row Name X)} → StandsFor ns vs p rs → (m n : ℕ) → slot_count p ≤ m → slot_count p ≤ n → (d : Chained X)
      → chained rs p.next_serial p.spare ≡ d → Leaves ns vs p m n d
  leaves s m n names_fit values_fit d is = record {
    invariant = array_from s m n names_fit values_fit;
    view = view-is s ∙ is;
    sound = subst (λ x. IsSound x) (sym (view-is s)) (sound_of s);
  }

  -- no rows
  pub empty_stands : (ns : List Name) (vs : List X) (q : Contents ℕ) → ns ≡ [] → vs ≡ [] → q.entries ≡ map.empty → pool.IsSound q → StandsFor ns vs q []
  empty_stands ns vs q no_names no_values none sound = record {
    named = no_names;
    valued = no_values;
    placed = λ i a e. absurd (no_name a e);
    all = λ i a e. let no : None ≡ Some i = sym (ap (λ m. map.get m a) none ∙ map.get-empty name_cmp a) ∙ e in absurd cc;
    count = sym (ap map.len none ∙ map.len-empty name_cmp ℕ);
    sound = sound;
  }

  pub emptied : (ns : List Name) (vs : List X) (q : Contents ℕ) (m n next spare : ℕ) → ns ≡ [] → vs ≡ [] → q ≡ pool.no_values next spare → pool.IsSound q → spare ≤ m → spare ≤ n → Leaves ns vs q m n (no_rows next spare)
  emptied ns vs q m n next spare no_names no_values is sound names_fit values_fit =
      let slots : slot_count q ≡ spare = ap slot_count is ∙ slot_count-no_values ℕ next spare in
      leaves (empty_stands ns vs q no_names no_values (ap (λ (c : Contents ℕ). c.entries) is) sound) m n (omega arith) (omega arith) (no_rows next spare) (ap (λ (c : Contents ℕ). chained {X = X} [] c.next_serial c.spare) is)

  module _ {ns : List Name} {vs : List X} {p : Contents ℕ} {m n : ℕ} {old : Chained X} (h : IsArray ns vs p m n) (is : view_of ns vs p ≡ old) where
    pub old_stands : StandsFor ns vs p old.rows
    old_stands = subst (λ (c : Chained X). StandsFor ns vs p c.rows) is h.stands

    pub old_sound : IsSound old
    old_sound = subst (λ x. IsSound x) is (sound_of h.stands)

    old_next : p.next_serial ≡ old.next_serial
    old_next = ap (λ (c : Chained X). c.next_serial) is

    old_spare : p.spare ≡ old.spare
    old_spare = ap (λ (c : Chained X). c.spare) is

    pub cleared_array : (ks : List Name) (ws : List X) (q : Contents ℕ) (k l : ℕ) → ks ≡ [] → ws ≡ [] → q ≡ pool.cleared p → pool.IsSound q → k ≡ m → l ≡ n → Leaves ks ws q k l (cleared old)
    cleared_array ks ws q k l no_names no_values gone sound same_names same_values =
        let count = old_stands.count in let spare = old_spare in
        let e = emptied ks ws q k l p.next_serial (slot_count p) no_names no_values gone sound (omega (arith, h.names)) (omega (arith, h.values)) in
        let slots : slot_count p ≡ length old.rows + old.spare = omega arith in
        record { invariant = e.invariant; view = e.view ∙ (λ i. no_rows {X = X} (old_next i) (slots i)); sound = e.sound }

    pub fresh_name : (a : Name) → pool.IsFresh p a → IsFresh old a
    fresh_name a fresh = record {
      slot = λ b live. fresh.slot b (live_in old_stands b live);
      serials = λ b live e. let issued = old_sound.issued b live in let serial = fresh.serial in let next = old_next in absurd (omega arith);
      serial = fresh.serial ∙ old_next;
    }

    pub appended_array : (a : Name) (v : X) (i : ℕ) (q : Contents ℕ) (ks : List Name) (ws : List X) (k l : ℕ) → pool.IsFresh p a → i ≡ length old.rows → q ≡ added p a i → pool.IsSound q → 0 < old.spare
        → ks ≡ ns ++ a ∷ [] → ws ≡ vs ++ v ∷ [] → k ≡ m → l ≡ n → Leaves ks ws q k l (inserted old None (row a v))
    appended_array a v i q ks ws k l fresh at put sound some names_are values_are same_names same_values =
        let r = row a v in
        let all : q ≡ added p a (length old.rows) = put ∙ ap (added p a) at in
        let s : StandsFor ks ws q (old.rows ++ r ∷ []) =
        subst (λ zs. StandsFor ks zs q (old.rows ++ r ∷ [])) (sym values_are) (subst (λ zs. StandsFor zs (vs ++ v ∷ []) q (old.rows ++ r ∷ [])) (sym names_are) (appended old_stands a v q fresh all sound)) in
        let slots : slot_count q ≡ slot_count p = ap slot_count put ∙ slot_count-added p a i fresh (let spare = old_spare in omega arith) in
        let next : q.next_serial ≡ old.next_serial + 1 = ap (λ (c : Contents ℕ). c.next_serial) put ∙ ap (λ x. x + 1) old_next in
        let spare : q.spare ≡ old.spare - 1 = ap (λ (c : Contents ℕ). c.spare) put ∙ ap (λ x. x - 1) old_spare in
        let rows : old.rows ++ r ∷ [] ≡ insert old.rows (length old.rows) r = sym (insert-cut old.rows r []) ∙ ap (λ zs. insert zs (length old.rows) r) (append-nil old.rows) in
        leaves s k l (omega (arith, h.names)) (omega (arith, h.values)) (inserted old None r) (λ j. chained (rows j) (next j) (spare j))

    -- the pool has grown, or has not
    pub grown_sound : {T E : Type 0} (r : Result T E) (q : Contents ℕ) (count : ℕ) (ks : List Name) (ws : List X) → OnOk r (q ≡ pool.reserved p count) → OnErr r (q ≡ p) → pool.IsSound q → ks ≡ ns → ws ≡ vs
        → IsSound (view_of ks ws q)
    grown_sound r q count ks ws ok err sound same_names same_values =
        let t = grown old_stands q (entries_kept r q count ok err) sound in
        let s : StandsFor ks ws q old.rows = subst (λ zs. StandsFor ks zs q old.rows) (sym same_values) (subst (λ zs. StandsFor zs vs q old.rows) (sym same_names) t) in
        subst (λ x. IsSound x) (sym (view-is s)) (sound_of s)
      where
        entries_kept : {T E : Type 0} (r : Result T E) (q : Contents ℕ) (count : ℕ) → OnOk r (q ≡ pool.reserved p count) → OnErr r (q ≡ p) → q.entries ≡ p.entries
        entries_kept (Ok x) q count ok err = ap (λ (c : Contents ℕ). c.entries) ok ∙ entries-reserved p count
        entries_kept (Err e) q count ok err = ap (λ (c : Contents ℕ). c.entries) err
