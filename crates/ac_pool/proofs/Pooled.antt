-- What holds of a pool's fields is kept by each change, and gives what holds of its contents.
use Rattle.std.proofs.Common.{◌≡◌, ◌≢◌, ℕ, zero, suc, ◌+◌, ◌-◌, ◌<◌, ◌≤◌, ◌^◌, ◌⊎◌, List, [], ◌∷◌, ◌++◌, length, set, get_or, replicate, Option, Some, None, is_some, IsSome, refl, sym, ap, ◌∙◌, inl, inr, arith, length-append, length-set, get_or-set_same, get_or-set_other}
use Rattle.std.proofs.lemmas.Bool.{cases_eq, cases_lt}
use Rattle.std.proofs.lemmas.List.{length-map, length-replicate, get_or_append_left, get_or_push, get_or_past, set-set, set_comm}
use Rattle.std.proofs.lemmas.Option.{same_Some}
use Rattle.std.specs.FinMap as map
use Rattle.ac_base.specs.declared.name.Name.{Name}
use Rattle.ac_pool.specs.Cell.{serial_of}
use Rattle.ac_pool.specs.Contents.{contents, IsLive, live_count, slot_count, IsFresh, IsSound}
use Rattle.ac_pool.specs.Link.{name_in, value_at, value_in as linked_value}
use Rattle.ac_pool.specs.PoolFields.{name_at, entries_in, empty_count, reached_in, GivesSlot, IsPool}
use Rattle.ac_pool.specs.Runs.{kept_in, values_in, LiesFrom}
use Rattle.ac_pool.proofs.Cells.{within}
use Rattle.ac_pool.proofs.NameLaws.{same_name}
use Rattle.ac_pool.proofs.Runs.{get_kept}
use Rattle.ac_pool.proofs.SlotNames.{name_in_live, name_in_none}
use Rattle.ac_pool.proofs.Entries.{value_in, value_in_same, kept_of_value, get-entries_in, len-entries_in, entries_in-some, get_grown}

empty_count-replicate : (X : Type 0) (m : ℕ) → let none : Option (ℕ × X) = None in empty_count (replicate m none) ≡ m
empty_count-replicate X zero = refl
empty_count-replicate X (suc m) = ap suc (empty_count-replicate X m)

module _ {X : Type 0} where
  empty_count-fill : (cells : List (Option (ℕ × X))) (i : ℕ) (e : ℕ × X) → i < length cells → get_or cells i None ≡ None → empty_count cells ≡ suc (empty_count (set cells i (Some e)))
  empty_count-fill [] i e lt h = absurd (omega arith)
  empty_count-fill (None ∷ cells) zero e lt h = refl
  empty_count-fill (Some d ∷ cells) zero e lt h = cc
  empty_count-fill (None ∷ cells) (suc i) e lt h = ap suc (empty_count-fill cells i e (omega arith) h)
  empty_count-fill (Some d ∷ cells) (suc i) e lt h = empty_count-fill cells i e (omega arith) h

  empty_count-vacate : (cells : List (Option (ℕ × X))) (i : ℕ) (e : ℕ × X) → get_or cells i None ≡ Some e → empty_count (set cells i None) ≡ suc (empty_count cells)
  empty_count-vacate [] i e h = cc
  empty_count-vacate (None ∷ cells) zero e h = cc
  empty_count-vacate (Some d ∷ cells) zero e h = refl
  empty_count-vacate (None ∷ cells) (suc i) e h = ap suc (empty_count-vacate cells i e h)
  empty_count-vacate (Some d ∷ cells) (suc i) e h = empty_count-vacate cells i e h

  empty_count-write : (cells : List (Option (ℕ × X))) (i : ℕ) (d e : ℕ × X) → get_or cells i None ≡ Some d → empty_count (set cells i (Some e)) ≡ empty_count cells
  empty_count-write [] i d e h = cc
  empty_count-write (None ∷ cells) zero d e h = cc
  empty_count-write (Some c ∷ cells) zero d e h = refl
  empty_count-write (None ∷ cells) (suc i) d e h = ap suc (empty_count-write cells i d e h)
  empty_count-write (Some c ∷ cells) (suc i) d e h = empty_count-write cells i d e h

  empty_count-grow : (cells : List (Option (ℕ × X))) (m : ℕ) → empty_count (cells ++ replicate m None) ≡ empty_count cells + m
  empty_count-grow [] m = omega (arith, empty_count-replicate X m)
  empty_count-grow (None ∷ cells) m = omega (arith, empty_count-grow cells m)
  empty_count-grow (Some e ∷ cells) m = empty_count-grow cells m

  pub empty_count_within : (cells : List (Option (ℕ × X))) → empty_count cells ≤ length cells
  empty_count_within [] = omega arith
  empty_count_within (None ∷ cells) = omega (arith, empty_count_within cells)
  empty_count_within (Some e ∷ cells) = omega (arith, empty_count_within cells)

  empty_count_below : (cells : List (Option (ℕ × X))) (i : ℕ) (e : ℕ × X) → get_or cells i None ≡ Some e → empty_count cells < length cells
  empty_count_below [] i e h = cc
  empty_count_below (None ∷ cells) zero e h = cc
  empty_count_below (Some d ∷ cells) zero e h = omega (arith, empty_count_within cells)
  empty_count_below (None ∷ cells) (suc i) e h = omega (arith, empty_count_below cells i e h)
  empty_count_below (Some d ∷ cells) (suc i) e h = omega (arith, empty_count_below cells i e h)

  value_some : (c : Option (ℕ × X)) (s : ℕ) → serial_of c ≡ Some s → IsSome (value_in c s)
  value_some None s is = cc
  value_some (Some e) s is = ap is_some (value_in_same e s (same_Some e.0 s is))

  module _ (cells : List (Option (ℕ × X))) (i : ℕ) (e : ℕ × X) (lt : i < length cells) where
    -- the cell k, after the cell i got the value e
    read_set : (k : ℕ) (d : ℕ × X) → get_or (set cells i (Some e)) k None ≡ Some d → ((k ≡ i) × (e ≡ d)) ⊎ ((k ≢ i) × (get_or cells k None ≡ Some d))
    read_set k d h = elim (cases_eq k i) [
      | inl is ↦ inl (is, same_Some e d (sym (get_or-set_same cells i (Some e) None lt) ∙ ap (λ j. get_or (set cells i (Some e)) j None) (sym is) ∙ h))
      | inr n ↦ inr (n, sym (get_or-set_other cells i k (Some e) None n) ∙ h)
    ]

  module _ (cells : List (Option (ℕ × X))) (given : List ℕ) (capacity : ℕ) where
    pub IsPool-new : (serial : ℕ) → 0 < serial → serial < 2 ^ 64 → length cells ≡ 0 → length given ≡ 0 → IsPool cells given capacity 0 serial
    IsPool-new serial above small none no_given = record {
      issued = λ i e h. absurd (omega (arith, within cells i e h));
      serials = λ i j d e h k same. absurd (omega (arith, within cells i d h));
      next = (above, small);
      few = omega arith;
      room = omega arith;
      count = omega (arith, empty_count_within cells);
      listed = omega arith;
      empties = λ k h. absurd (omega arith);
      once = λ j k h l same. absurd (omega arith);
      unreached = λ i le. get_or_past cells i None (omega arith);
    }

    module _ (n next : ℕ) (h : IsPool cells given capacity n next) where
      -- a slot that keeps nothing, and the slots that were given back without it
      pub record IsNext (slot : ℕ) (left : List ℕ) : Type 0 where
        pub empty : (slot < length cells) × (get_or cells slot None ≡ None)
        pub reached : slot < reached_in cells left (n - 1)
        pub before : reached_in cells given n ≤ reached_in cells left (n - 1)
        pub listed : length left ≤ n - 1
        pub others : (k : ℕ) → k < length left → (k < length given) × (get_or left k 0 ≡ get_or given k 0) × (get_or left k 0 ≢ slot)

      pub is_next : 0 < n → (slot : ℕ) (left : List ℕ) → GivesSlot given (length cells - n) slot left → IsNext slot left
      is_next some slot left gives = elim gives [
        | inl back ↦
            let long : length given ≡ length left + 1 = ap length back ∙ length-append left (slot ∷ []) in
            let last : get_or given (length left) 0 ≡ slot = ap (λ l. get_or l (length left) 0) back ∙ get_or_push left slot 0 (length left) refl in
            let old = h.empties (length left) (omega arith) in
            let same : (k : ℕ) → k < length left → get_or left k 0 ≡ get_or given k 0 = λ k less. sym (ap (λ l. get_or l k 0) back ∙ get_or_append_left left (slot ∷ []) 0 k less) in record {
              empty = (omega (arith, old.0, last), ap (λ j. get_or cells j None) (sym last) ∙ old.1);
              reached = omega (arith, old.0, last, long, h.listed);
              before = omega (arith, long, h.listed);
              listed = omega (arith, long, h.listed);
              others = λ k less. (omega (arith, long), same k less, λ is. let place : k ≡ length left = h.once k (length left) (omega (arith, long)) (omega (arith, long)) (sym (same k less) ∙ is ∙ sym last) in omega arith);
            }
        | inr fresh ↦
            let none : length given ≡ 0 = ap length fresh.0 in let none_left : length left ≡ 0 = ap length fresh.2 in let within_all = empty_count_within cells in record {
              empty = (omega (arith, fresh.1, h.count), h.unreached slot (omega (arith, fresh.1, none)));
              reached = omega (arith, fresh.1, none_left, h.count);
              before = omega (arith, none, none_left);
              listed = omega (arith, none_left);
              others = λ k less. absurd (omega (arith, none_left));
            }
      ]

      pub IsPool-put : 0 < n → (slot : ℕ) (left : List ℕ) → IsNext slot left → (v : X) → next + 1 < 2 ^ 64 → IsPool (set cells slot (Some (next, v))) left capacity (n - 1) (next + 1)
      IsPool-put some slot left s v small =
          let e : ℕ × X = (next, v) in let lt = s.empty.0 in let long = length-set cells slot (Some e) in record {
            issued = λ k d p. elim (read_set cells slot e lt k d p) [
              | inl q ↦ let is : next ≡ d.0 = ap (λ (c : ℕ × X). c.0) q.1 in omega (arith, h.next)
              | inr q ↦ omega (arith, h.issued k d q.1)
            ];
            serials = λ j k c d p q same. elim (read_set cells slot e lt j c p) [
              | inl a ↦ elim (read_set cells slot e lt k d q) [
                | inl b ↦ a.0 ∙ sym b.0
                | inr b ↦ let is : next ≡ c.0 = ap (λ (c : ℕ × X). c.0) a.1 in absurd (omega (arith, h.issued k d b.1))
              ]
              | inr a ↦ elim (read_set cells slot e lt k d q) [
                | inl b ↦ let is : next ≡ d.0 = ap (λ (c : ℕ × X). c.0) b.1 in absurd (omega (arith, h.issued j c a.1))
                | inr b ↦ h.serials j k c d a.1 b.1 same
              ]
            ];
            next = (omega arith, small);
            few = omega (arith, h.few);
            room = omega (arith, h.room);
            count = omega (arith, h.count, empty_count-fill cells slot e lt s.empty.1);
            listed = s.listed;
            empties = λ k less. let o = s.others k less in let old = h.empties k o.0 in
                (omega (arith, old.0, o.1, s.before, long), get_or-set_other cells slot (get_or left k 0) (Some e) None o.2 ∙ ap (λ j. get_or cells j None) o.1 ∙ old.1);
            once = λ j k a b same. let o = s.others j a in let p = s.others k b in h.once j k o.0 p.0 (sym o.1 ∙ same ∙ p.1);
            unreached = λ k le. let apart : k ≢ slot = λ is. absurd (omega (arith, s.reached, long)) in
                get_or-set_other cells slot k (Some e) None apart ∙ h.unreached k (omega (arith, s.before, long));
          }

      pub entries_in-put : (slot : ℕ) (left : List ℕ) → IsNext slot left → (v : X) → entries_in (set cells slot (Some (next, v))) ≡ map.insert (entries_in cells) (name_at slot next) v
      entries_in-put slot left s v = entries_in-some cells slot next v s.empty.0 (λ e full. let no : Option (ℕ × X) = None in let none : no ≡ Some e = sym s.empty.1 ∙ full in cc)

      pub room_for_slot : (i : ℕ) (e : ℕ × X) → get_or cells i None ≡ Some e → (length given < capacity) × (n < length cells)
      room_for_slot i e full = let fewer = empty_count_below cells i e full in (omega (arith, h.listed, h.count, h.room, fewer), omega (arith, h.count, fewer))

      -- a slot that keeps a value is reached
      reached_by : (i : ℕ) (e : ℕ × X) → get_or cells i None ≡ Some e → i < reached_in cells given n
      reached_by i e full = elim (cases_lt i (reached_in cells given n)) [
        | inl less ↦ less
        | inr past ↦ let no : Option (ℕ × X) = None in let none : no ≡ Some e = sym (h.unreached i past) ∙ full in cc
      ]

      pub IsPool-take : (i : ℕ) (e : ℕ × X) → get_or cells i None ≡ Some e → IsPool (set cells i None) (given ++ i ∷ []) capacity (n + 1) next
      IsPool-take i e full =
          let lt = within cells i e full in let long = length-set cells i None in let more : length (given ++ i ∷ []) ≡ length given + 1 = length-append given (i ∷ []) in let fewer = (room_for_slot i e full).1 in
          let here : get_or (given ++ i ∷ []) (length given) 0 ≡ i = get_or_push given i 0 (length given) refl in
          let there : (k : ℕ) → k < length given → get_or (given ++ i ∷ []) k 0 ≡ get_or given k 0 = λ k less. get_or_append_left given (i ∷ []) 0 k less in
          let fresh : (k : ℕ) → k < length given → get_or given k 0 ≢ i = λ k less is. let none : None ≡ Some e = sym (h.empties k less).1 ∙ (ap (λ j. get_or cells j None) is ∙ full) in cc in
          let still : (k : ℕ) (d : ℕ × X) → get_or (set cells i None) k None ≡ Some d → get_or cells k None ≡ Some d = λ k d p. elim (cases_eq k i) [
            | inl is ↦ let none : None ≡ Some d = sym (get_or-set_same cells i None None lt) ∙ (ap (λ j. get_or (set cells i None) j None) (sym is) ∙ p) in cc
            | inr apart ↦ sym (get_or-set_other cells i k None None apart) ∙ p
          ] in record {
            issued = λ k d p. h.issued k d (still k d p);
            serials = λ j k c d p q same. h.serials j k c d (still j c p) (still k d q) same;
            next = h.next;
            few = omega (arith, h.few);
            room = omega (arith, h.room);
            count = omega (arith, h.count, empty_count-vacate cells i e full);
            listed = omega (arith, h.listed, more);
            empties = λ k less. elim (cases_eq k (length given)) [
              | inl is ↦ let at : get_or (given ++ i ∷ []) k 0 ≡ i = ap (λ j. get_or (given ++ i ∷ []) j 0) is ∙ here in
                  (omega (arith, reached_by i e full, more, long, h.listed), ap (λ j. get_or (set cells i None) j None) at ∙ get_or-set_same cells i None None lt)
              | inr apart ↦ let inside : k < length given = omega (arith, more) in let at = there k inside in let old = h.empties k inside in
                  (omega (arith, old.0, more, long, h.listed), ap (λ j. get_or (set cells i None) j None) at ∙ get_or-set_other cells i (get_or given k 0) None None (fresh k inside) ∙ old.1)
            ];
            once = λ j k a b same. elim (cases_eq j (length given)) [
              | inl jn ↦ elim (cases_eq k (length given)) [
                | inl kn ↦ jn ∙ sym kn
                | inr kn ↦ let inside : k < length given = omega (arith, more) in absurd (fresh k inside (sym (there k inside) ∙ sym same ∙ ap (λ m. get_or (given ++ i ∷ []) m 0) jn ∙ here))
              ]
              | inr jn ↦ let inside : j < length given = omega (arith, more) in elim (cases_eq k (length given)) [
                | inl kn ↦ absurd (fresh j inside (sym (there j inside) ∙ same ∙ ap (λ m. get_or (given ++ i ∷ []) m 0) kn ∙ here))
                | inr kn ↦ let inside_too : k < length given = omega (arith, more) in h.once j k inside inside_too (sym (there j inside) ∙ same ∙ there k inside_too)
              ]
            ];
            unreached = λ k le. let past : reached_in cells given n ≤ k = omega (arith, more, long, h.listed) in
                let apart : k ≢ i = λ is. absurd (omega (arith, reached_by i e full)) in get_or-set_other cells i k None None apart ∙ h.unreached k past;
          }

      pub IsPool-write : (i s : ℕ) (x w : X) → get_or cells i None ≡ Some (s, x) → IsPool (set cells i (Some (s, w))) given capacity n next
      IsPool-write i s x w full =
          let e : ℕ × X = (s, w) in let lt = within cells i (s, x) full in let long = length-set cells i (Some e) in
          let old : (k : ℕ) (d : ℕ × X) → get_or (set cells i (Some e)) k None ≡ Some d → (c : ℕ × X) × (get_or cells k None ≡ Some c) × (c.0 ≡ d.0) = λ k d p. elim (read_set cells i e lt k d p) [
            | inl q ↦ ((s, x), ap (λ j. get_or cells j None) q.0 ∙ full, ap (λ (c : ℕ × X). c.0) q.1)
            | inr q ↦ (d, q.1, refl)
          ] in record {
            issued = λ k d p. let o = old k d p in let is = o.2 in omega (arith, h.issued k o.0 o.1);
            serials = λ j k c d p q same. let a = old j c p in let b = old k d q in h.serials j k a.0 b.0 a.1 b.1 (a.2 ∙ same ∙ sym b.2);
            next = h.next;
            few = omega (arith, h.few);
            room = omega (arith, h.room);
            count = omega (arith, h.count, empty_count-write cells i (s, x) e full);
            listed = h.listed;
            empties = λ k less. let o = h.empties k less in
                let apart : get_or given k 0 ≢ i = λ is. let nothing : Option (ℕ × X) = None in let none : nothing ≡ Some (s, x) = sym o.1 ∙ (ap (λ j. get_or cells j None) is ∙ full) in cc in
                (omega (arith, o.0, long), get_or-set_other cells i (get_or given k 0) (Some e) None apart ∙ o.1);
            once = h.once;
            unreached = λ k le. let past : reached_in cells given n ≤ k = omega (arith, long) in
                let apart : k ≢ i = λ is. absurd (omega (arith, reached_by i (s, x) full)) in get_or-set_other cells i k (Some e) None apart ∙ h.unreached k past;
          }

      pub IsPool-grow : (more m : ℕ) → length cells + m ≤ 2 ^ 30 → length cells + m ≤ more → IsPool (cells ++ replicate m None) given more (n + m) next
      IsPool-grow more m fits room =
          let long : length (cells ++ replicate m None) ≡ length cells + m = length-append cells (replicate m None) ∙ ap (λ k. length cells + k) (length-replicate m None) in
          let old : (k : ℕ) (d : ℕ × X) → get_or (cells ++ replicate m None) k None ≡ Some d → get_or cells k None ≡ Some d = λ k d p. sym (get_grown cells m k) ∙ p in record {
            issued = λ k d p. h.issued k d (old k d p);
            serials = λ j k c d p q same. h.serials j k c d (old j c p) (old k d q) same;
            next = h.next;
            few = omega (arith, long);
            room = omega (arith, long);
            count = omega (arith, h.count, empty_count-grow cells m);
            listed = omega (arith, h.listed);
            empties = λ k less. let o = h.empties k less in (omega (arith, o.0, long, h.listed), get_grown cells m (get_or given k 0) ∙ o.1);
            once = h.once;
            unreached = λ k le. get_grown cells m k ∙ h.unreached k (omega (arith, long, h.listed));
          }

      pub live_cell : (q : Name) → IsLive (contents (entries_in cells) next n) q → (x : X) × (get_or cells q.slot None ≡ Some (q.serial, x))
      live_cell q live = kept_of_value (get_or cells q.slot None) q.serial (ap is_some (sym (get-entries_in cells q)) ∙ live)

      pub live_serial : (q : Name) → IsLive (contents (entries_in cells) next n) q → serial_of (get_or cells q.slot None) ≡ Some q.serial
      live_serial q live = ap serial_of (live_cell q live).1

      pub live_from : (q : Name) → serial_of (get_or cells q.slot None) ≡ Some q.serial → IsLive (contents (entries_in cells) next n) q
      live_from q is = ap is_some (get-entries_in cells q) ∙ value_some (get_or cells q.slot None) q.serial is

      pub none_live : (slot : ℕ) → serial_of (get_or cells slot None) ≡ None → (q : Name) → IsLive (contents (entries_in cells) next n) q → q.slot ≢ slot
      none_live slot empty q live at = let no : None ≡ Some q.serial = sym empty ∙ (ap (λ k. serial_of (get_or cells k None)) (sym at) ∙ live_serial q live) in cc

      pub live_count-cells : live_count (contents (entries_in cells) next n) + n ≡ length cells
      live_count-cells = omega (arith, h.count, len-entries_in cells)

      pub slot_count-cells : slot_count (contents (entries_in cells) next n) ≡ length cells
      slot_count-cells = omega (arith, h.count, len-entries_in cells)

      pub sound : IsSound (contents (entries_in cells) next n)
      sound = record {
        slots = λ a b p q same. let x = live_cell a p in let y = live_cell b q in
            let both : Some (a.serial, x.0) ≡ Some (b.serial, y.0) = sym x.1 ∙ (ap (λ j. get_or cells j None) same ∙ y.1) in
            same_name a b same (ap (λ (e : ℕ × X). e.0) (same_Some (a.serial, x.0) (b.serial, y.0) both));
        serials = λ a b p q same. let x = live_cell a p in let y = live_cell b q in
            same_name a b (h.serials a.slot b.slot (a.serial, x.0) (b.serial, y.0) x.1 y.1 same) same;
        within = λ a p. let x = live_cell a p in omega (arith, slot_count-cells, within cells a.slot (a.serial, x.0) x.1);
        issued = λ a p. let x = live_cell a p in h.issued a.slot (a.serial, x.0) x.1;
        next = h.next;
        few = omega (arith, slot_count-cells, h.few);
      }

      -- what the cell of a slot says of the slot's live name
      pub name_found : (s i : ℕ) → serial_of (get_or cells i None) ≡ Some s → Some (name_at i s) ≡ name_in (contents (entries_in cells) next n) i
      name_found s i is = sym (name_in_live (contents (entries_in cells) next n) sound (name_at i s) (live_from (name_at i s) is))

      pub no_name : (i : ℕ) → serial_of (get_or cells i None) ≡ None → None ≡ name_in (contents (entries_in cells) next n) i
      no_name i is = sym (name_in_none (contents (entries_in cells) next n) i (none_live i is))

      value_found : (s i : ℕ) (x : X) → get_or cells i None ≡ Some (s, x) → linked_value (contents (entries_in cells) next n) i ≡ Some x
      value_found s i x is =
          ap (value_at (contents (entries_in cells) next n)) (sym (name_found s i (ap serial_of is)))
          ∙ (get-entries_in cells (name_at i s) ∙ ap (λ k. value_in k s) is ∙ value_in_same (s, x) s refl)

      no_value : (i : ℕ) → get_or cells i None ≡ None → linked_value (contents (entries_in cells) next n) i ≡ None
      no_value i is = ap (value_at (contents (entries_in cells) next n)) (sym (no_name i (ap serial_of is)))

      pub value_kept : (i : ℕ) (o : Option (ℕ × X)) → get_or cells i None ≡ o → linked_value (contents (entries_in cells) next n) i ≡ kept_in o
      value_kept i None is = no_value i is
      value_kept i (Some e) is = value_found e.0 i e.1 is

      -- cells that lie together are a run of the values under live names
      pub run_is : (slot : ℕ) (part : List (Option (ℕ × X))) → LiesFrom (λ i. get_or cells i None) slot part → LiesFrom (linked_value (contents (entries_in cells) next n)) slot (values_in part)
      run_is slot part h = record {
        first = value_kept slot (get_or cells slot None) refl ∙ (ap kept_in h.first ∙ get_kept part 0);
        each = λ k less. value_kept (slot + k) (get_or cells (slot + k) None) refl ∙ (ap kept_in (h.each k (omega (arith, length-map part kept_in))) ∙ get_kept part k);
        whole = λ k less. value_kept (slot + k) (get_or cells (slot + k) None) refl ∙ (ap kept_in (h.whole k less) ∙ get_kept part k);
        within = omega (arith, length-map part kept_in, h.within);
      }

      -- a slot that keeps nothing has no live name
      pub fresh : (i : ℕ) → get_or cells i None ≡ None → IsFresh (contents (entries_in cells) next n) (name_at i next)
      fresh i none = record {
        slot = λ q live is. let x = live_cell q live in let no : None ≡ Some (q.serial, x.0) = sym none ∙ (ap (λ j. get_or cells j None) (sym is) ∙ x.1) in cc;
        serial = refl;
      }

-- two values change places
module _ {X : Type 0} (cells : List (Option (ℕ × X))) (i j s t : ℕ) (x y : X) (apart : i ≢ j) (at_i : get_or cells i None ≡ Some (s, x)) (at_j : get_or cells j None ≡ Some (t, y)) where
  abbrev one_written : List (Option (ℕ × X))
  one_written = set cells i (Some (s, y))

  abbrev pub exchanged_cells : List (Option (ℕ × X))
  exchanged_cells = set one_written j (Some (t, x))

  pub exchanged_is : set (set (set (set cells i None) j None) i (Some (s, y))) j (Some (t, x)) ≡ exchanged_cells
  exchanged_is =
      ap (λ l. set l j (Some (t, x))) (ap (λ l. set l i (Some (s, y))) (set_comm cells i j None None apart) ∙ set-set (set cells j None) i None (Some (s, y)))
      ∙ ap (λ l. set l j (Some (t, x))) (set_comm cells j i None (Some (s, y)) (λ e. apart (sym e))) ∙ set-set one_written j None (Some (t, x))

  still_at_j : get_or one_written j None ≡ Some (t, y)
  still_at_j = get_or-set_other cells i j (Some (s, y)) None (λ e. apart (sym e)) ∙ at_j

  pub IsPool-exchanged : (given : List ℕ) (capacity n next : ℕ) → IsPool cells given capacity n next → IsPool exchanged_cells given capacity n next
  IsPool-exchanged given capacity n next h = IsPool-write one_written given capacity n next (IsPool-write cells given capacity n next h i s x y at_i) j t y x still_at_j

  same_serial : (e : ℕ × X) (r : ℕ) (z : X) (o : Option (ℕ × X)) → o ≡ Some (r, z) → o ≡ Some e → e.0 ≡ r
  same_serial e r z o p q = ap (λ (d : ℕ × X). d.0) (same_Some e (r, z) (sym q ∙ p))

  pub entries_in-exchanged : entries_in exchanged_cells ≡ map.insert (map.insert (entries_in cells) (name_at i s) y) (name_at j t) x
  entries_in-exchanged =
      entries_in-some one_written j t x (within one_written j (t, y) still_at_j) (λ e q. same_serial e t y _ still_at_j q)
      ∙ ap (λ m. map.insert m (name_at j t) x) (entries_in-some cells i s y (within cells i (s, x) at_i) (λ e q. same_serial e s x _ at_i q))
