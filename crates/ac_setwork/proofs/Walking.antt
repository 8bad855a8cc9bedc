-- A walk over the rows of an index, from name to name.
use Rattle.std.proofs.Common.{◌≡◌, ◌==◌, ◌+◌, ◌-◌, ◌≤◌, ◌<◌, ◌&&◌, ℕ, suc, Bool, true, false, List, [], ◌∷◌, ◌++◌, length, Option, Some, None, IsTrue, refl, sym, ap, ◌∙◌, subst, arith, eq-eqb, if◌then◌else◌}
use Rattle.std.specs.Prelude.{option_map, slice_get}
use Rattle.std.proofs.lemmas.List.{append_assoc, append-nil, map-append, length-append, length_push}
use Rattle.std.proofs.lemmas.Option.{none-some}
use Rattle.ac_base.specs.declared.name.Name.{Name}
use Rattle.ac_base.specs.Rows.{Row, row, values}
use Rattle.ac_model.specs.Rows.{place_of, row_by}
use Rattle.ac_model.specs.Objects.{plains, plain_row, times}
use Rattle.ac_model.specs.Keyed.{Order}
use Rattle.ac_model.proofs.Counts.{found_is_named}
use Rattle.ac_model.proofs.Plains.{plains-append, slice_get-plains}
use Rattle.ac_model.proofs.RowLaws.{at_its_place}
use Rattle.ac_model.proofs.Times.{times-append}
use Rattle.ac_setwork.specs.Filling.{NamesDiffer, are_matched, is_equal_row}
use Rattle.ac_setwork.specs.Indexed.{Indexed, found_in, is_there, name_at, name_after, value_of}
use Rattle.ac_setwork.proofs.Found.{at_place, row_named}

slice_get-behind : {X : Type 0} (xs ys : List X) → slice_get (xs ++ ys) (length xs) ≡ slice_get ys 0
slice_get-behind [] ys = refl
slice_get-behind (x ∷ xs) ys = slice_get-behind xs ys

twice : (b : Bool) (m : ℕ) → (if b then 1 else 0) + m ≤ 1 → 0 < m → b ≡ false
twice true m few some = absurd (omega (arith, few, some))
twice false m few some = refl

module _ {V : Type 0} where
  pub place_behind : (xs : List (Row Name V)) (r : Row Name V) (ys : List (Row Name V)) → times r.name.serial (plains (xs ++ r ∷ ys)) ≤ 1 → place_of (plains (xs ++ r ∷ ys)) r.name.serial ≡ length xs
  place_behind [] r ys few = ap (λ b. if b then 0 else suc (place_of (plains ys) r.name.serial)) (eq-eqb r.name.serial r.name.serial refl)
  place_behind (x ∷ xs) r ys few =
      let n = r.name.serial in
      let own : ◌≡◌ {A = ℕ} (if n == n then 1 else 0) 1 = ap (λ b. if b then 1 else 0) (eq-eqb n n refl) in
      let split = ap (times n) (plains-append xs (r ∷ ys)) ∙ times-append n (plains xs) (plains (r ∷ ys)) in
      let off = twice (x.name.serial == n) (times n (plains (xs ++ r ∷ ys))) few (omega (arith, own, split)) in
      ap (λ b. if b then 0 else suc (place_of (plains (xs ++ r ∷ ys)) n)) off ∙ ap suc (place_behind xs r ys (omega (arith, few)))

-- these rows were met, and those are left
pub record Walking {V : Type 0} (s : Indexed V) (before left : List (Row Name V)) (place : Option Name) : Type 0 where
  pub rows : s.rows ≡ before ++ left
  pub stands : place ≡ option_map (λ (r : Row Name V). r.name) (slice_get left 0)

-- one step of a walk
pub record Step {V : Type 0} (s : Indexed V) (before left : List (Row Name V)) (name : Name) : Type 0 where
  pub row : Row Name V
  pub rest : List (Row Name V)
  pub is : left ≡ row ∷ rest
  pub there : IsTrue (is_there s name)
  pub value : value_of s name ≡ Some row.value
  pub next : Walking s (before ++ row ∷ []) rest (name_after s name)

-- how many rows a walk still meets
abbrev pub still : {V : Type 0} → Indexed V → Option Name → ℕ
still s None = 0
still s (Some a) = length s.rows - place_of (plains s.rows) a.serial

module _ {V : Type 0} (s : Indexed V) where
  -- the row that a test finds, with what stands under its name
  pub row_under : NamesDiffer s → (test : V → Bool) (a : Name) (v : V) → found_in test s.rows ≡ Some a → value_of s a ≡ Some v → row_by test (plains s.rows) ≡ Some (row a.serial v)
  row_under differ test a v found is =
      let one = row_named test s.rows a found in
      let under = ap (option_map (λ (r : Row ℕ V). r.value)) (found_is_named test (plains s.rows) (row a.serial one.0) one.1 (differ a.serial)) in
      let value : one.0 ≡ v = (let k : Some one.0 ≡ Some v = sym under ∙ is in cc) in
      one.1 ∙ ap (λ u. Some (row a.serial u)) value

  pub started : (place : Option Name) → place ≡ name_at s 0 → Walking s [] s.rows place
  started place is = record { rows = refl; stands = is }

  pub stepped : NamesDiffer s → (before left : List (Row Name V)) (name : Name) → Walking s before left (Some name) → Step s before left name
  stepped differ before [] name w = absurd (none-some name (sym w.stands))
  stepped differ before (r ∷ rest) name w =
      let is : r.name ≡ name = (let k : Some name ≡ Some r.name = w.stands in cc) in
      let at : place_of (plains s.rows) r.name.serial ≡ length before = ap (λ rs. place_of (plains rs) r.name.serial) w.rows
      ∙ place_behind before r rest (subst (λ rs. times r.name.serial (plains rs) ≤ 1) w.rows (differ r.name.serial)) in
      let got : slice_get s.rows (length before) ≡ Some r = ap (λ rs. slice_get rs (length before)) w.rows ∙ slice_get-behind before (r ∷ rest) in
      let under : value_of s r.name ≡ Some r.value = ap (option_map (λ (q : Row ℕ V). q.value)) (sym (at_its_place (plains s.rows) r.name.serial) ∙ ap (slice_get (plains s.rows)) at ∙ slice_get-plains s.rows (length before) ∙ ap (option_map plain_row) got) in
      let further : s.rows ≡ (before ++ r ∷ []) ++ rest = w.rows ∙ sym (append_assoc before (r ∷ []) rest) in
      let sum : length before + 1 ≡ length (before ++ r ∷ []) = sym (length_push before r) in
      let after : name_after s r.name ≡ option_map (λ (q : Row Name V). q.name) (slice_get rest 0) =
      ap (option_map (λ (q : Row Name V). q.name)) (ap (λ i. slice_get s.rows (i + 1)) at ∙ ap (slice_get s.rows) sum ∙ ap (λ rs. slice_get rs (length (before ++ r ∷ []))) further ∙ slice_get-behind (before ++ r ∷ []) rest) in
      record {
        row = r;
        rest = rest;
        is = refl;
        there = subst (λ a. IsTrue (is_there s a)) is (at_place s.rows (length before) r got);
        value = subst (λ a. value_of s a ≡ Some r.value) is under;
        next = record { rows = further; stands = subst (λ a. name_after s a ≡ option_map (λ (q : Row Name V). q.name) (slice_get rest 0)) is after };
      }

  pub still_is : NamesDiffer s → (before left : List (Row Name V)) (place : Option Name) → Walking s before left place → still s place ≡ length left
  still_is differ before [] place w = ap (still s) w.stands
  still_is differ before (r ∷ rest) place w =
      let at : place_of (plains s.rows) r.name.serial ≡ length before = ap (λ rs. place_of (plains rs) r.name.serial) w.rows
      ∙ place_behind before r rest (subst (λ rs. times r.name.serial (plains rs) ≤ 1) w.rows (differ r.name.serial)) in
      let all : length s.rows ≡ length before + suc (length rest) = ap length w.rows ∙ length-append before (r ∷ rest) in
      ap (still s) w.stands ∙ omega (arith, at, all)

  nearer : NamesDiffer s → (before left : List (Row Name V)) (name : Name) → Walking s before left (Some name) → still s (name_after s name) < still s (Some name)
  nearer differ before left name w =
      let step = stepped differ before left name w in
      let now = still_is differ before left (Some name) w in
      let later = still_is differ (before ++ step.row ∷ []) step.rest (name_after s name) step.next in
      let longer : length left ≡ suc (length step.rest) = ap length step.is in
      omega (arith, now, later, longer)

  pub smaller : NamesDiffer s → (before left : List (Row Name V)) (place next : Option Name) (name : Name) → Walking s before left place → place ≡ Some name → next ≡ name_after s name → still s next < still s place
  smaller differ before left place next name w is at =
      subst (λ p. still s next < still s p) (sym is) (subst (λ p. still s p < still s (Some name)) (sym at) (nearer differ before left name (subst (Walking s before left) is w)))

  pub ended : (before left : List (Row Name V)) → Walking s before left None → left ≡ []
  ended before [] w = refl
  ended before (r ∷ rest) w = absurd (none-some r.name w.stands)

  -- copies of the rows that were met
  pub record Copying (made : List V) (place : Option Name) : Type 0 where
    pub before : List (Row Name V)
    pub left : List (Row Name V)
    pub walk : Walking s before left place
    pub are : made ≡ values before

  pub copied_more : NamesDiffer s → (made : List V) (name : Name) (next : Option Name) (v u : V) → Copying made (Some name) → value_of s name ≡ Some v → u ≡ v → next ≡ name_after s name → Copying (made ++ u ∷ []) next
  copied_more differ made name next v u c e same at =
      let step = stepped differ c.before c.left name c.walk in
      let value : u ≡ step.row.value = same ∙ (let k : Some v ≡ Some step.row.value = sym e ∙ step.value in cc) in
      record {
        before = c.before ++ step.row ∷ [];
        left = step.rest;
        walk = subst (Walking s (c.before ++ step.row ∷ []) step.rest) (sym at) step.next;
        are = (λ i. c.are i ++ value i ∷ []) ∙ sym (map-append (λ (r : Row Name V). r.value) c.before (step.row ∷ []));
      }

  pub copied_all : (made : List V) → Copying made None → made ≡ values s.rows
  copied_all made c =
      let none = ended c.before c.left c.walk in
      c.are ∙ ap values (sym (append-nil c.before) ∙ ap (λ rs. c.before ++ rs) (sym none) ∙ sym c.walk.rows)

  -- all rows that were met have an equal one among the others
  pub record Matching (order : Order V) (same : V → V → Bool) (others : List (Row ℕ V)) (place : Option Name) : Type 0 where
    pub before : List (Row Name V)
    pub left : List (Row Name V)
    pub walk : Walking s before left place
    pub whole : are_matched order same (values s.rows) others ≡ are_matched order same (values left) others

  module _ (order : Order V) (same : V → V → Bool) (others : List (Row ℕ V)) where
    head_is : (differ : NamesDiffer s) → (name : Name) (v : V) → (m : Matching order same others (Some name)) → value_of s name ≡ Some v → (rest : List (Row Name V)) × (are_matched order same (values s.rows) others ≡ (is_equal_row same v (row_by (λ w. order.alike w v) others) && are_matched order same (values rest) others)) × Walking s (m.before ++ (stepped differ m.before m.left name m.walk).row ∷ []) rest (name_after s name)
    head_is differ name v m e =
        let step = stepped differ m.before m.left name m.walk in
        let value : step.row.value ≡ v = (let k : Some step.row.value ≡ Some v = sym step.value ∙ e in cc) in
        (step.rest, m.whole ∙ ap (λ rs. are_matched order same (values rs) others) step.is ∙ ap (λ u. is_equal_row same u (row_by (λ w. order.alike w u) others) && are_matched order same (values step.rest) others) value, step.next)

    pub matched_more : NamesDiffer s → (name : Name) (next : Option Name) (v : V) (b : Bool) → Matching order same others (Some name) → value_of s name ≡ Some v → b ≡ is_equal_row same v (row_by (λ w. order.alike w v) others) → b ≡ true → next ≡ name_after s name → Matching order same others next
    matched_more differ name next v b m e is passed at =
        let h = head_is differ name v m e in
        record {
          before = m.before ++ (stepped differ m.before m.left name m.walk).row ∷ [];
          left = h.0;
          walk = subst (Walking s (m.before ++ (stepped differ m.before m.left name m.walk).row ∷ []) h.0) (sym at) h.2;
          whole = h.1 ∙ ap (λ c. c && are_matched order same (values h.0) others) (sym is ∙ passed);
        }

    pub unmatched : NamesDiffer s → (name : Name) (v : V) (b : Bool) → Matching order same others (Some name) → value_of s name ≡ Some v → b ≡ is_equal_row same v (row_by (λ w. order.alike w v) others) → b ≡ false → false ≡ are_matched order same (values s.rows) others
    unmatched differ name v b m e is off = let h = head_is differ name v m e in sym (h.1 ∙ ap (λ c. c && are_matched order same (values h.0) others) (sym is ∙ off))

    pub all_matched : Matching order same others None → true ≡ are_matched order same (values s.rows) others
    all_matched m = sym (m.whole ∙ ap (λ rs. are_matched order same (values rs) others) (ended m.before m.left m.walk))
