-- What each change of a pool's contents leaves under each name.
use Rattle.std.proofs.Common.{◌≡◌, ◌≢◌, ℕ, ◌+◌, ◌-◌, ◌<◌, ◌≤◌, ◌⊎◌, true, false, Option, Some, None, IsSome, is_some, refl, sym, ap, ◌∙◌, inl, inr, cond, leb, arith}
use Rattle.std.proofs.lemmas.Bool.{cond-true, cond-false, cases_lt, le-leb, lt-leb}
use Rattle.std.specs.FinMap as map
use Rattle.ac_base.specs.declared.name.Name.{Name}
use Rattle.ac_pool.specs.Names.{name_cmp}
use Rattle.ac_base.specs.Growth.{pow8}
use Rattle.ac_pool.specs.Contents.{Contents, contents, value_of, IsLive, live_count, slot_count, no_values, with_value, added, taken, exchanged, swapped, reserved, cleared, IsFresh, IsSound, Vacates}
use Rattle.ac_base.proofs.Powers.{IsLeastPow8-pow8}
use Rattle.ac_pool.proofs.NameLaws.{cases_name, name_cmp_total, get-insert_same, get-insert_other, get-remove_same, get-remove_other, same_names}

-- the value of a live name
pub live_value : {X : Type 0} (o : Option X) → IsSome o → (x : X) × (o ≡ Some x)
live_value None h = cc
live_value (Some x) h = (x, refl)

dead_or_live : {X : Type 0} (o : Option X) → (o ≡ None) ⊎ (IsSome o)
dead_or_live None = inl refl
dead_or_live (Some x) = inr refl

pub slot_count-no_values : (X : Type 0) (next spare : ℕ) → slot_count (no_values {X = X} next spare) ≡ spare
slot_count-no_values X next spare = omega (arith, map.len-empty name_cmp X)

module _ {X : Type 0} (c : Contents X) where
  pub value_of-with_value_same : (k : Name) (w : X) → value_of (with_value c k w) k ≡ Some w
  value_of-with_value_same k w = get-insert_same c.entries k w

  pub value_of-with_value_other : (k q : Name) (w : X) → q ≢ k → value_of (with_value c k w) q ≡ value_of c q
  value_of-with_value_other k q w n = get-insert_other c.entries k q w n

  pub value_of-added_same : (k : Name) (v : X) → value_of (added c k v) k ≡ Some v
  value_of-added_same k v = get-insert_same c.entries k v

  pub value_of-added_other : (k q : Name) (v : X) → q ≢ k → value_of (added c k v) q ≡ value_of c q
  value_of-added_other k q v n = get-insert_other c.entries k q v n

  pub taken_live : (k : Name) → IsLive c k → taken c k ≡ contents (map.remove c.entries k) c.next_serial (c.spare + 1)
  taken_live k live = cond-true _ _ _ live

  pub taken_dead : (k : Name) → value_of c k ≡ None → taken c k ≡ c
  taken_dead k none = cond-false _ _ _ (ap is_some none)

  pub value_of-taken_same : (k : Name) → value_of (taken c k) k ≡ None
  value_of-taken_same k = elim (dead_or_live (value_of c k)) [
    | inl none ↦ ap (λ d. value_of d k) (taken_dead k none) ∙ none
    | inr live ↦ ap (λ d. value_of d k) (taken_live k live) ∙ get-remove_same c.entries k
  ]

  pub value_of-taken_other : (k q : Name) → q ≢ k → value_of (taken c k) q ≡ value_of c q
  value_of-taken_other k q n = elim (dead_or_live (value_of c k)) [
    | inl none ↦ ap (λ d. value_of d q) (taken_dead k none)
    | inr live ↦ ap (λ d. value_of d q) (taken_live k live) ∙ get-remove_other c.entries k q n
  ]

  pub next_serial-taken : (k : Name) → (taken c k).next_serial ≡ c.next_serial
  next_serial-taken k = elim (dead_or_live (value_of c k)) [ inl none ↦ ap (λ (d : Contents X). d.next_serial) (taken_dead k none) | inr live ↦ ap (λ (d : Contents X). d.next_serial) (taken_live k live) ]

  pub entries-reserved : (n : ℕ) → (reserved c n).entries ≡ c.entries
  entries-reserved n = elim (leb n c.spare) as (λ b. (cond b c (contents c.entries c.next_serial (pow8 (live_count c + n) - live_count c))).entries ≡ c.entries) [ true ↦ refl | false ↦ refl ]

  pub next_serial-reserved : (n : ℕ) → (reserved c n).next_serial ≡ c.next_serial
  next_serial-reserved n = elim (leb n c.spare) as (λ b. (cond b c (contents c.entries c.next_serial (pow8 (live_count c + n) - live_count c))).next_serial ≡ c.next_serial) [ true ↦ refl | false ↦ refl ]

  pub value_of-reserved : (n : ℕ) (q : Name) → value_of (reserved c n) q ≡ value_of c q
  value_of-reserved n q = ap (λ m. map.get m q) (entries-reserved n)

  pub reserved_kept : (n : ℕ) → n ≤ c.spare → reserved c n ≡ c
  reserved_kept n h = cond-true _ _ _ (le-leb n c.spare h)

  pub reserved_grown : (n : ℕ) → c.spare < n → reserved c n ≡ contents c.entries c.next_serial (pow8 (live_count c + n) - live_count c)
  reserved_grown n h = cond-false _ _ _ (lt-leb n c.spare h)

  pub spare-reserved : (n : ℕ) → n ≤ (reserved c n).spare
  spare-reserved n = elim (cases_lt c.spare n) [
    | inl lt ↦ let is : (reserved c n).spare ≡ pow8 (live_count c + n) - live_count c = ap (λ (d : Contents X). d.spare) (reserved_grown n lt) in
        let enough = (IsLeastPow8-pow8 (live_count c + n)).enough in omega arith
    | inr le ↦ let is : (reserved c n).spare ≡ c.spare = ap (λ (d : Contents X). d.spare) (reserved_kept n le) in omega arith
  ]

  pub IsFresh-reserved : (n : ℕ) (k : Name) → IsFresh (reserved c n) k → IsFresh c k
  IsFresh-reserved n k f = record {
    slot = λ q live. f.slot q (ap is_some (value_of-reserved n q) ∙ live);
    serial = f.serial ∙ next_serial-reserved n;
  }

  -- a value written over itself
  pub with_value-same : (k : Name) (x : X) → value_of c k ≡ Some x → with_value c k x ≡ c
  with_value-same k x is = ap (λ m. contents m c.next_serial c.spare) (same_names (map.insert c.entries k x) c.entries (λ q. elim (cases_name q k) [
    | inl same ↦ ap (map.get (map.insert c.entries k x)) same ∙ get-insert_same c.entries k x ∙ sym is ∙ ap (map.get c.entries) (sym same)
    | inr n ↦ get-insert_other c.entries k q x n
  ]))

  pub live_count-with_value : (k : Name) (w : X) → IsLive c k → live_count (with_value c k w) ≡ live_count c
  live_count-with_value k w live = map.len-insert name_cmp_total c.entries k w ∙ cond-true _ _ _ live

  pub live_count-added : (k : Name) (v : X) → value_of c k ≡ None → live_count (added c k v) ≡ live_count c + 1
  live_count-added k v none = map.len-insert name_cmp_total c.entries k v ∙ cond-false _ _ _ (ap is_some none)

  pub live_count-taken : (k : Name) → IsLive c k → live_count (taken c k) ≡ live_count c - 1
  live_count-taken k live = ap live_count (taken_live k live) ∙ map.len-remove name_cmp_total c.entries k ∙ cond-true _ _ _ live

  -- where a name is live, there is one
  pub live_count_above : (k : Name) → IsLive c k → 0 < live_count c
  live_count_above k live =
      let x = live_value (value_of c k) live in
      let same = live_count-with_value k x.0 live in
      let m = map.remove c.entries k in
      let gone : map.contains_key m k ≡ false = ap is_some (get-remove_same c.entries k) in
      let back : map.insert m k x.0 ≡ c.entries = same_names (map.insert m k x.0) c.entries (λ q. elim (cases_name q k) [
        | inl at ↦ ap (map.get (map.insert m k x.0)) at ∙ get-insert_same m k x.0 ∙ sym x.1 ∙ ap (map.get c.entries) (sym at)
        | inr n ↦ get-insert_other m k q x.0 n ∙ get-remove_other c.entries k q n
      ]) in
      let more : live_count c ≡ map.len m + 1 = ap map.len (sym back) ∙ map.len-insert name_cmp_total m k x.0 ∙ cond-false _ _ _ gone in omega arith

  pub slot_count-taken : (k : Name) → slot_count (taken c k) ≡ slot_count c
  slot_count-taken k = elim (dead_or_live (value_of c k)) [
    | inl none ↦ ap slot_count (taken_dead k none)
    | inr live ↦ let one = live_count_above k live in let less = live_count-taken k live in let spare : (taken c k).spare ≡ c.spare + 1 = ap (λ (d : Contents X). d.spare) (taken_live k live) in omega arith
  ]

  pub fresh_is_dead : (k : Name) → IsFresh c k → value_of c k ≡ None
  fresh_is_dead k f = elim (dead_or_live (value_of c k)) [ inl none ↦ none | inr live ↦ absurd (f.slot k live refl) ]

  pub slot_count-added : (k : Name) (v : X) → IsFresh c k → 0 < c.spare → slot_count (added c k v) ≡ slot_count c
  slot_count-added k v f some = omega (arith, live_count-added k v (fresh_is_dead k f))

  exchanged_dead : (a b : Name) (o p : Option X) → (IsSome o × IsSome p → ⊥) → exchanged c a b o p ≡ c
  exchanged_dead a b None p n = refl
  exchanged_dead a b (Some x) None n = refl
  exchanged_dead a b (Some x) (Some y) n = absurd (n (refl, refl))

  -- one of the names is not live
  pub swapped_dead : (a b : Name) → (IsLive c a × IsLive c b → ⊥) → swapped c a b ≡ c
  swapped_dead a b n = exchanged_dead a b (value_of c a) (value_of c b) n

  pub swapped_live : (a b : Name) (x y : X) → value_of c a ≡ Some x → value_of c b ≡ Some y → swapped c a b ≡ with_value (with_value c a y) b x
  swapped_live a b x y p q = λ i. exchanged c a b (p i) (q i)

  pub swapped_itself : (a : Name) → swapped c a a ≡ c
  swapped_itself a = elim (dead_or_live (value_of c a)) [
    | inl none ↦ swapped_dead a a (λ both. let no : is_some {T = X} None ≡ true = ap is_some (sym none) ∙ both.0 in cc)
    | inr live ↦ let x = live_value (value_of c a) live in
        swapped_live a a x.0 x.0 x.1 x.1 ∙ ap (λ d. with_value d a x.0) (with_value-same a x.0 x.1) ∙ with_value-same a x.0 x.1
  ]

  -- what a swap leaves under each name
  module _ (a b : Name) (x y : X) (at_a : value_of c a ≡ Some x) (at_b : value_of c b ≡ Some y) where
    written : swapped c a b ≡ with_value (with_value c a y) b x
    written = swapped_live a b x y at_a at_b

    pub value_of-swapped_second : value_of (swapped c a b) b ≡ Some x
    value_of-swapped_second = ap (λ d. value_of d b) written ∙ get-insert_same (with_value c a y).entries b x

    pub value_of-swapped_first : value_of (swapped c a b) a ≡ Some y
    value_of-swapped_first = ap (λ d. value_of d a) written ∙ elim (cases_name a b) [
      | inl same ↦ ap (λ (q : Name). value_of (with_value (with_value c a y) b x) q) same ∙ get-insert_same (with_value c a y).entries b x ∙ sym at_a ∙ ap (value_of c) same ∙ at_b
      | inr n ↦ get-insert_other (with_value c a y).entries b a x n ∙ get-insert_same c.entries a y
    ]

    pub value_of-swapped_other : (q : Name) → q ≢ a → q ≢ b → value_of (swapped c a b) q ≡ value_of c q
    value_of-swapped_other q m n = ap (λ d. value_of d q) written ∙ get-insert_other (with_value c a y).entries b q x n ∙ get-insert_other c.entries a q y m

    pub live_count-swapped : live_count (swapped c a b) ≡ live_count c
    live_count-swapped =
        let live_a : IsLive c a = ap is_some at_a in
        let live_b : IsLive (with_value c a y) b = elim (cases_name b a) [
          | inl same ↦ ap (λ (q : Name). is_some (value_of (with_value c a y) q)) same ∙ ap is_some (get-insert_same c.entries a y)
          | inr n ↦ ap is_some (get-insert_other c.entries a b y n ∙ at_b)
        ] in
        ap live_count written ∙ (map.len-insert name_cmp_total (with_value c a y).entries b x ∙ cond-true _ _ _ live_b) ∙ live_count-with_value a y live_a

  pub slot_count-reserved_grown : (n : ℕ) → c.spare < n → slot_count (reserved c n) ≡ pow8 (live_count c + n)
  slot_count-reserved_grown n lt = let enough = (IsLeastPow8-pow8 (live_count c + n)).enough in ap slot_count (reserved_grown n lt) ∙ omega arith

  pub value_of-cleared : (q : Name) → value_of (cleared c) q ≡ None
  value_of-cleared q = map.get-empty name_cmp q

  pub slot_count-cleared : slot_count (cleared c) ≡ slot_count c
  slot_count-cleared = slot_count-no_values X c.next_serial (slot_count c)

  live_before : (k q : Name) (w : X) → IsLive c k → IsLive (with_value c k w) q → IsLive c q
  live_before k q w live h = elim (cases_name q k) [
    | inl same ↦ ap (λ (n : Name). is_some (value_of c n)) same ∙ live
    | inr n ↦ ap is_some (sym (value_of-with_value_other k q w n)) ∙ h
  ]

  -- what is written through a `&mut` to a value keeps the pool sound
  pub IsSound-with_value : (k : Name) (w : X) → IsLive c k → IsSound c → IsSound (with_value c k w)
  IsSound-with_value k w live s = record {
    slots = λ a b p q. s.slots a b (live_before k a w live p) (live_before k b w live q);
    serials = λ a b p q. s.serials a b (live_before k a w live p) (live_before k b w live q);
    within = λ a p. omega (arith, s.within a (live_before k a w live p), live_count-with_value k w live);
    issued = λ a p. s.issued a (live_before k a w live p);
    next = s.next;
    few = omega (arith, s.few, live_count-with_value k w live);
  }

  -- a name that is taken was the only one of its slot
  pub Vacates-taken : (k : Name) → IsSound c → IsLive c k → Vacates c (taken c k) k.slot
  Vacates-taken k s live = record {
    gone = λ a at. elim (cases_name a k) [
      | inl same ↦ ap (value_of (taken c k)) same ∙ value_of-taken_same k
      | inr n ↦ value_of-taken_other k a n ∙ elim (dead_or_live (value_of c a)) [ inl none ↦ none | inr alive ↦ absurd (n (s.slots a k alive live at)) ]
    ];
    others = λ a apart. value_of-taken_other k a (λ same. apart (ap (λ (n : Name). n.slot) same));
    slots = slot_count-taken k;
    next = next_serial-taken k;
  }

  pub Vacates-empty : (slot : ℕ) → ((a : Name) → a.slot ≡ slot → value_of c a ≡ None) → Vacates c c slot
  Vacates-empty slot h = record { gone = h; others = λ a apart. refl; slots = refl; next = refl }

  pub cleared_is : (d : Contents X) → IsSound d → slot_count d ≡ slot_count c → d.next_serial ≡ c.next_serial → ((a : Name) → a.slot < slot_count d → value_of d a ≡ None) → d ≡ cleared c
  cleared_is d s slots next none =
      let empty : d.entries ≡ map.empty = same_names d.entries map.empty (λ q. elim (dead_or_live (value_of d q)) [
        | inl dead ↦ dead ∙ sym (map.get-empty name_cmp q)
        | inr live ↦ none q (s.within q live) ∙ sym (map.get-empty name_cmp q)
      ]) in
      let zero_live : live_count d ≡ 0 = ap map.len empty ∙ map.len-empty name_cmp X in
      let spare : d.spare ≡ slot_count c = omega arith in
      λ i. contents (empty i) (next i) (spare i)

-- what stands under a name after a change
pub ruleset values = (
  value_of-with_value_same,
  value_of-with_value_other,
  value_of-added_same,
  value_of-added_other,
  value_of-taken_same,
  value_of-taken_other,
  value_of-reserved,
  value_of-swapped_first,
  value_of-swapped_second,
  value_of-swapped_other,
  value_of-cleared,
)
