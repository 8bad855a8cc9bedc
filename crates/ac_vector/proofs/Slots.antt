-- An array that keeps the slots of its names: the pool tells the names, and what is left of them after each change of the fields.
use Rattle.std.proofs.Common.{◌≡◌, ℕ, zero, suc, ◌+◌, ◌-◌, ◌<◌, ◌≤◌, List, [], ◌∷◌, ◌++◌, length, take, drop, Option, Some, None, is_some, true, get_or, Result, Ok, Err, refl, sym, ap, ◌∙◌, subst, inl, inr, arith}
use Rattle.std.specs.List.{slice_get}
use Rattle.std.specs.Option.{option_map}
use Rattle.std.specs.Result.{OnOk, OnErr}
use Rattle.std.proofs.lemmas.Bool.{cond-false, lt-leb}
use Rattle.std.proofs.lemmas.List.{map-append, take-map, drop-map, length-map}
use Rattle.std.proofs.lemmas.Option.{none-some, slice_get_read, slice_get-map, slice_get_cases}
use Rattle.ac_base.specs.declared.name.Name.{Name}
use Rattle.ac_base.specs.Rows.{Row, row, names}
use Rattle.ac_pool.specs.Contents as pool
use Rattle.ac_pool.specs.Contents.{Contents, IsLive, live_count, slot_count, added, taken}
use Rattle.ac_pool.specs.Link.{name_in}
use Rattle.ac_pool.specs.NamedRows.{HasName, name_at, name_before}
use Rattle.ac_base.specs.Growth.{pow8}
use Rattle.ac_pool.proofs.ContentsLaws.{entries-reserved, reserved_grown, slot_count-reserved_grown}
use Rattle.ac_pool.proofs.SlotNames.{name_in_live}
use Rattle.ac_chain.specs.Rows.{Chained, IsSound, chained, cleared, inserted, no_rows, removed, reserved, with_rows}
use Rattle.ac_vector.specs.ArrayFields.{IsArray, IsSlotted, StandsFor, before, names_in, place_written_in, renumbered, renumbered_in, slots_of, with_place}
use Rattle.ac_vector.specs.Turn.{turned}
use Rattle.ac_vector.proofs.Arrays.{Leaves, appended_array, cleared_array, emptied, grown, leaves, length_names, length_values, old_stands, place_at, view_of}
use Rattle.ac_vector.proofs.CutRows.{popped_array}
use Rattle.ac_vector.proofs.Renumbers.{KeepsNames, renumbered-keeps_names, with_place-keeps}
use Rattle.ac_vector.proofs.Turns.{map-turned, turned_array}

abbrev pub AllLive : Contents ℕ → List Name → Type 0
AllLive c [] = Unit {0}
AllLive c (a ∷ ns) = IsLive c a × AllLive c ns

kept_live : (ns : List Name) (c d : Contents ℕ) → KeepsNames c d → AllLive c ns → AllLive d ns
kept_live [] c d k h = tt
kept_live (a ∷ ns) c d k h = (k.live a ∙ h.0, kept_live ns c d k h.1)

were_live : (ns : List Name) (c d : Contents ℕ) → KeepsNames c d → AllLive d ns → AllLive c ns
were_live [] c d k h = tt
were_live (a ∷ ns) c d k h = (sym (k.live a) ∙ h.0, were_live ns c d k h.1)

drop_live : (n : ℕ) (ns : List Name) (c : Contents ℕ) → AllLive c ns → AllLive c (drop n ns)
drop_live zero ns c h = h
drop_live (suc n) [] c h = h
drop_live (suc n) (a ∷ ns) c h = drop_live n ns c h.1

-- the slots of live names lead to them
pub names_found : (ns : List Name) (c : Contents ℕ) → pool.IsSound c → AllLive c ns → names_in c (slots_of ns) ≡ ns
unfolding names_in
names_found [] c sound h = refl
names_found (a ∷ ns) c sound h = ap (λ o. before o (names_in c (slots_of ns))) (name_in_live c sound a h.0) ∙ ap (λ zs. a ∷ zs) (names_found ns c sound h.1)

-- and the writes of places by slots are those by names
pub written_names : (ns : List Name) (i : ℕ) (c : Contents ℕ) → pool.IsSound c → AllLive c ns → renumbered_in (slots_of ns) i c ≡ renumbered ns i c
written_names [] i c sound h = refl
written_names (a ∷ ns) i c sound h =
    let d = with_place c a i in let k = with_place-keeps c a i in
    ap (λ o. renumbered_in (slots_of ns) (i + 1) (place_written_in c o i)) (name_in_live c sound a h.0) ∙ written_names ns (i + 1) d (k.sound sound) (kept_live ns c d k h.1)

names_in-fewer : (p : Contents ℕ) (ks : List ℕ) → length (names_in p ks) ≤ length ks
unfolding names_in
names_in-fewer p [] = omega arith
names_in-fewer p (k ∷ ks) = by (name_in p k) (names_in-fewer p ks)
  where
    by : (o : Option Name) → length (names_in p ks) ≤ length ks → length (before o (names_in p ks)) ≤ suc (length ks)
    by None le = omega arith
    by (Some a) le = omega arith

-- the name of the last of some slots, each of which has one
pub record Last (p : Contents ℕ) (ls : List ℕ) (k : ℕ) : Type 0 where
  pub name : Name
  pub is : name_in p k ≡ Some name
  pub live : ls ≡ slots_of (names_in p ls)
  pub all : names_in p (ls ++ k ∷ []) ≡ names_in p ls ++ name ∷ []

last_one : (p : Contents ℕ) (k : ℕ) (o : Option Name) → name_in p k ≡ o → k ∷ [] ≡ slots_of (before o []) → Last p [] k
unfolding names_in
last_one p k None e f = absurd (cc)
last_one p k (Some a) e f = record { name = a; is = e; live = refl; all = ap (λ o. before o []) e }

last_more : (p : Contents ℕ) (j : ℕ) (ls : List ℕ) (k : ℕ) (o : Option Name) → name_in p j ≡ o → (ls ++ k ∷ [] ≡ slots_of (names_in p (ls ++ k ∷ [])) → Last p ls k) → j ∷ (ls ++ k ∷ []) ≡ slots_of (before o (names_in p (ls ++ k ∷ []))) → Last p (j ∷ ls) k
unfolding names_in
last_more p j ls k None e rest f =
    let fewer = names_in-fewer p (ls ++ k ∷ []) in
    let all : suc (length (ls ++ k ∷ [])) ≡ length (names_in p (ls ++ k ∷ [])) = ap length f ∙ length-map (names_in p (ls ++ k ∷ [])) (λ (b : Name). b.slot) in absurd (omega arith)
last_more p j ls k (Some a) e rest f =
    let first : j ≡ a.slot = cc in
    let others : ls ++ k ∷ [] ≡ slots_of (names_in p (ls ++ k ∷ [])) = cc in
    let d = rest others in
    record {
      name = d.name;
      is = d.is;
      live = (λ i. first i ∷ d.live i) ∙ ap (λ o. slots_of (before o (names_in p ls))) (sym e);
      all = ap (λ o. before o (names_in p (ls ++ k ∷ []))) e ∙ ap (λ zs. a ∷ zs) d.all ∙ ap (λ o. before o (names_in p ls) ++ d.name ∷ []) (sym e);
    }

pub last_of : (p : Contents ℕ) (ls : List ℕ) (k : ℕ) → ls ++ k ∷ [] ≡ slots_of (names_in p (ls ++ k ∷ [])) → Last p ls k
unfolding names_in
last_of p [] k f = last_one p k (name_in p k) refl f
last_of p (j ∷ ls) k f = last_more p j ls k (name_in p j) refl (λ g. last_of p ls k g) f

module _ {X : Type 0} where
  pub rows_live : (rs : List (Row Name X)) (c : Contents ℕ) → ((a : Name) → HasName a rs → IsLive c a) → AllLive c (names rs)
  rows_live [] c h = tt
  rows_live (r ∷ rs) c h = (h r.name (inl refl), rows_live rs c (λ a t. h a (inr t)))

  stands_live : {ns : List Name} {vs : List X} {p : Contents ℕ} {rs : List (Row Name X)} → StandsFor ns vs p rs → AllLive p ns
  stands_live {ns} {vs} {p} {rs} s = subst (λ zs. AllLive p zs) (sym s.named) (rows_live rs p (λ a h. ap is_some (place_at s a h)))

  abbrev pub slot_view : List ℕ → List X → Contents ℕ → Chained X
  slot_view ks vs p = view_of (names_in p ks) vs p

  -- what a change of the fields leaves
  pub record Keeps (ks : List ℕ) (vs : List X) (p : Contents ℕ) (m n : ℕ) (d : Chained X) : Type 0 where
    pub invariant : IsSlotted ks vs p m n
    pub view : slot_view ks vs p ≡ d
    pub sound : IsSound (slot_view ks vs p)

  pub slotted : {ns : List Name} {vs : List X} {p : Contents ℕ} {m n : ℕ} {d : Chained X} → Leaves ns vs p m n d → (ks : List ℕ) → ks ≡ slots_of ns → Keeps ks vs p m n d
  slotted {ns} {vs} {p} {m} {n} {d} t ks are =
      let s = t.invariant.stands in
      let found : names_in p ks ≡ ns = ap (names_in p) are ∙ names_found ns p s.sound (stands_live s) in
      record {
        invariant = record { slots = are ∙ ap slots_of (sym found); array = subst (λ zs. IsArray zs vs p m n) (sym found) t.invariant };
        view = ap (λ zs. view_of zs vs p) found ∙ t.view;
        sound = subst (λ zs. IsSound (view_of zs vs p)) (sym found) t.sound;
      }

  pub emptied_slots : (ks : List ℕ) (vs : List X) (q : Contents ℕ) (m n next spare : ℕ) → ks ≡ [] → vs ≡ [] → q ≡ pool.no_values next spare → pool.IsSound q → spare ≤ m → spare ≤ n → Keeps ks vs q m n (no_rows next spare)
  emptied_slots ks vs q m n next spare no_slots no_values is sound slots_fit values_fit = slotted (emptied [] vs q m n next spare refl no_values is sound slots_fit values_fit) ks no_slots

  module _ {ks : List ℕ} {vs : List X} {p : Contents ℕ} {m n : ℕ} {old : Chained X} (h : IsSlotted ks vs p m n) (is : slot_view ks vs p ≡ old) where
    ns : List Name
    ns = names_in p ks

    pub cleared_slots : (ls : List ℕ) (ws : List X) (q : Contents ℕ) (k l : ℕ) → ls ≡ [] → ws ≡ [] → q ≡ pool.cleared p → pool.IsSound q → k ≡ m → l ≡ n → Keeps ls ws q k l (cleared old)
    cleared_slots ls ws q k l no_slots no_values gone sound same_slots same_values = slotted (cleared_array h.array is [] ws q k l refl no_values gone sound same_slots same_values) ls no_slots

    pub appended_slots : (a : Name) (v : X) (i : ℕ) (q : Contents ℕ) (ls : List ℕ) (ws : List X) (k l : ℕ) → pool.IsFresh p a → i ≡ length old.rows → q ≡ added p a i → pool.IsSound q → 0 < old.spare
        → ls ≡ ks ++ a.slot ∷ [] → ws ≡ vs ++ v ∷ [] → k ≡ m → l ≡ n → Keeps ls ws q k l (inserted old None (row a v))
    unfolding ns
    appended_slots a v i q ls ws k l fresh at put sound some slots_are values_are same_slots same_values =
        slotted (appended_array h.array is a v i q (ns ++ a ∷ []) ws k l fresh at put sound some refl values_are same_slots same_values) ls
        (slots_are ∙ ap (λ zs. zs ++ a.slot ∷ []) h.slots ∙ sym (map-append (λ (b : Name). b.slot) ns (a ∷ [])))

    pub popped_slots : (a : Name) → Some a ≡ name_before old.rows (length old.rows) → (ls : List ℕ) (ws : List X) (q : Contents ℕ) (k l x y : ℕ) → x ≡ length ks → ls ≡ take (x - 1) ks → y ≡ length vs → ws ≡ take (y - 1) vs
        → q ≡ taken p a → pool.IsSound q → k ≡ m → l ≡ n → Keeps ls ws q k l (removed old a)
    unfolding ns
    popped_slots a e ls ws q k l x y slot_count slots_are value_count values_are freed sound same_slots same_values =
        slotted (popped_array h.array is a e (take (x - 1) ns) ws q k l x y (slot_count ∙ ap length h.slots ∙ length-map ns (λ (b : Name). b.slot)) refl value_count values_are freed sound same_slots same_values) ls
        (slots_are ∙ ap (take (x - 1)) h.slots ∙ take-map (λ (b : Name). b.slot) (x - 1) ns)

    pub turned_slots : (place count : ℕ) → place + count ≤ length old.rows → (ls : List ℕ) (ws : List X) (q : Contents ℕ) (k l : ℕ) → ls ≡ turned ks place count → ws ≡ turned vs place count
        → q ≡ renumbered_in (drop place ls) place p → k ≡ m → l ≡ n → Keeps ls ws q k l (with_rows old (turned old.rows place count))
    unfolding ns
    turned_slots place count fits ls ws q k l slots_are values_are places_are same_slots same_values =
        let us = turned ns place count in
        let same : ls ≡ slots_of us = slots_are ∙ ap (λ zs. turned zs place count) h.slots ∙ sym (map-turned (λ (b : Name). b.slot) ns place count) in
        let t = turned_array h.array is place count fits us ws (renumbered (drop place us) place p) k l refl values_are refl same_slots same_values in
        let live : AllLive p us = were_live us p (renumbered (drop place us) place p) (renumbered-keeps_names (drop place us) place p) (stands_live t.invariant.stands) in
        let all : q ≡ renumbered (drop place us) place p = places_are ∙ ap (λ zs. renumbered_in (drop place zs) place p) same ∙ ap (λ zs. renumbered_in zs place p) (drop-map (λ (b : Name). b.slot) place us)
        ∙ written_names (drop place us) place p (old_stands h.array is).sound (drop_live place us p live) in
        slotted (subst (λ c. Leaves us ws c k l (with_rows old (turned old.rows place count))) (sym all) t) ls same

    -- the pool has grown, or has not
    pub grown_slots : {T E : Type 0} (r : Result T E) (q : Contents ℕ) (count : ℕ) (ls : List ℕ) (ws : List X) (x y : ℕ) → OnOk r (q ≡ pool.reserved p count) → OnErr r (q ≡ p) → pool.IsSound q → ls ≡ ks → ws ≡ vs → slot_count q ≤ x → slot_count q ≤ y
        → Keeps ls ws q x y (chained old.rows q.next_serial q.spare)
    unfolding ns
    grown_slots r q count ls ws x y ok err sound same_slots same_values slots_fit values_fit =
        let s : StandsFor ns ws q old.rows = subst (λ zs. StandsFor ns zs q old.rows) (sym same_values) (grown (old_stands h.array is) q (entries_kept r q ok err) sound) in
        slotted (leaves s x y slots_fit values_fit (chained old.rows q.next_serial q.spare) refl) ls (same_slots ∙ h.slots)
      where
        entries_kept : {T E : Type 0} (r : Result T E) (q : Contents ℕ) → OnOk r (q ≡ pool.reserved p count) → OnErr r (q ≡ p) → q.entries ≡ p.entries
        entries_kept (Ok a) q ok err = ap (λ (c : Contents ℕ). c.entries) ok ∙ entries-reserved p count
        entries_kept (Err e) q ok err = ap (λ (c : Contents ℕ). c.entries) err

    pub slots_long : length ks ≡ length vs
    unfolding ns
    slots_long = let s = old_stands h.array is in ap length h.slots ∙ length-map ns (λ (b : Name). b.slot) ∙ length_names s ∙ sym (length_values s)

    -- what was reserved, where not so many slots were spare
    module _ {T E : Type 0} (r : Result T E) (q : Contents ℕ) (count : ℕ) (short : old.spare < count) where
      spare_is : p.spare ≡ old.spare
      spare_is = ap (λ (c : Chained X). c.spare) is

      pub grown_fits : OnOk r (q ≡ pool.reserved p count) → OnErr r (q ≡ p) → (len least room : ℕ) → len ≡ length vs → least ≡ pow8 (len + count) → least ≤ room → slot_count p ≤ room → slot_count q ≤ room
      grown_fits ok err len least room long at enough had = by r ok err
        where
          all : least ≡ pow8 (live_count p + count)
          all = let s = old_stands h.array is in let e : len ≡ live_count p = long ∙ length_values s ∙ s.count in at ∙ ap (λ k. pow8 (k + count)) e

          by : (r : Result T E) → OnOk r (q ≡ pool.reserved p count) → OnErr r (q ≡ p) → slot_count q ≤ room
          by (Ok a) ok err =
              let more : slot_count q ≡ pow8 (live_count p + count) = ap slot_count ok ∙ slot_count-reserved_grown p count (let e = spare_is in omega arith) in let e = all in omega arith
          by (Err a) ok err = let same : slot_count q ≡ slot_count p = ap slot_count err in omega arith

      pub grown_ok : OnOk r (q ≡ pool.reserved p count) → (now : Chained X) → now ≡ chained old.rows q.next_serial q.spare → OnOk r (now ≡ reserved old count)
      grown_ok ok now view = by r ok
        where
          rows_grown : reserved old count ≡ chained old.rows old.next_serial (pow8 (length old.rows + count) - length old.rows)
          rows_grown = cond-false _ _ _ (lt-leb count old.spare short)

          by : (r : Result T E) → OnOk r (q ≡ pool.reserved p count) → OnOk r (now ≡ reserved old count)
          by (Ok a) ok =
              let grown = ok ∙ reserved_grown p count (let e = spare_is in omega arith) in
              let next : q.next_serial ≡ old.next_serial = ap (λ (c : Contents ℕ). c.next_serial) grown ∙ ap (λ (c : Chained X). c.next_serial) is in
              let long : live_count p ≡ length old.rows = sym (old_stands h.array is).count in
              let spare : q.spare ≡ pow8 (length old.rows + count) - length old.rows = ap (λ (c : Contents ℕ). c.spare) grown ∙ ap (λ k. pow8 (k + count) - k) long in
              view ∙ (λ i. chained old.rows (next i) (spare i)) ∙ sym rows_grown
          by (Err a) ok = tt

    -- the slot at a place leads to the name there
    pub name_there_in : (i k : ℕ) → i < length old.rows → k ≡ get_or ks i k → name_in p k ≡ name_at old.rows i
    unfolding ns
    name_there_in i k less got = step (name_at old.rows i) refl there
      where
        slots : ks ≡ slots_of (names old.rows)
        slots = h.slots ∙ ap slots_of (old_stands h.array is).named

        long : length old.rows ≡ length ks
        long = sym (ap length slots ∙ length-map (names old.rows) (λ (b : Name). b.slot) ∙ length-map old.rows (λ (r : Row Name X). r.name))

        there : option_map (λ (b : Name). b.slot) (name_at old.rows i) ≡ Some k
        there =
            ap (option_map (λ (b : Name). b.slot)) (sym (slice_get-map (λ (r : Row Name X). r.name) old.rows i)) ∙ sym (slice_get-map (λ (b : Name). b.slot) (names old.rows) i)
            ∙ ap (λ zs. slice_get zs i) (sym slots) ∙ slice_get_read ks (length old.rows) i k long less got

        step : (o : Option Name) → name_at old.rows i ≡ o → option_map (λ (b : Name). b.slot) o ≡ Some k → name_in p k ≡ o
        step None e f = absurd (none-some k f)
        step (Some a) e f =
            let same : a.slot ≡ k = cc in let s = old_stands h.array is in ap (name_in p) (sym same) ∙ name_in_live p s.sound a (ap is_some (s.placed i a e))

    pub name_stands : (i k : ℕ) → i < length old.rows → k ≡ get_or ks i k → is_some (name_in p k) ≡ true
    name_stands i k less got = ap is_some (name_there_in i k less got) ∙ elim (slice_get_cases old.rows i).1 [
      | inl at ↦ ap (λ (o : Option (Row Name X)). is_some (option_map (λ (r : Row Name X). r.name) o)) at.2
      | inr past ↦ absurd (omega (arith, past.0))
    ]
