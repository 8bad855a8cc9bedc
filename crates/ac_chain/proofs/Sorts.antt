-- The names of a chain's rows in the order of their values, and the list after a sort.
use Rattle.std.proofs.Common.{◌≡◌, ℕ, zero, suc, ◌-◌, ◌<◌, Bool, List, ◌∷◌, ◌++◌, length, map, Option, Some, None, refl, sym, ap, ◌∙◌, subst, inl, inr, arith, append-nil, append_assoc, IsPermutation, []}
use Rattle.std.specs.Prelude.{slice_get}
use Rattle.std.specs.Option.{option_map}
use Rattle.std.specs.Prelude.{Result, Ok, Err, IfOk, Vec}
use Rattle.std.specs.Global.{Global}
use Rattle.std.specs.Cmp.{IsStrictWeakOrder}
use Rattle.std.specs.List.Sorted.{IsSortedBy, IsStableBy}
use Rattle.std.specs.List.{swap}
use Rattle.std.proofs.lemmas.Option.{slice_get-map}
use Rattle.std.proofs.lemmas.List.{map-append, length-map}
use Rattle.std.proofs.lemmas.List.Sorted.{IsPermutation-map, IsPermutation-keeps, length_permutation}
use Rattle.ac_base.specs.declared.fault.NoMemory.{NoMemory}
use Rattle.ac_base.specs.Order.{IsWeakOrder}
use Rattle.ac_base.specs.declared.name.Name.{Name}
use Rattle.ac_base.specs.Rows.{names}
use Rattle.ac_chain.specs.Rows.{Chained, place_of, next_name, IsLive, IsSound, value_of, IsOrderOf, Reorders}
use Rattle.ac_pool.specs.NamedRows.{name_at, HasName, IsOnce}
use Rattle.ac_pool.proofs.Cuts.{has_live, name_at_has, once_at}
use Rattle.ac_chain.proofs.Chains.{index_at}
use Rattle.ac_chain.proofs.Moves.{once_from}
use Rattle.ac_chain.specs.declared.sort.Keyed.{Keyed}
use Rattle.ac_model.specs.Rows as model
use Rattle.ac_base.specs.Rows.{Row, row}
use Rattle.ac_model.specs.Objects.{plains}
use Rattle.ac_chain.specs.Sorting.{row_at, IsSortedOrder}
use Rattle.ac_chain.proofs.Relinked.{WasAt, swap_was, swap_had}
use Rattle.ac_chain.proofs.Searches.{some_value}
use Rattle.ac_model.proofs.StableSorts.{strict_order, sort_is}
use Rattle.ac_chain.proofs.Walks.{Forward, Ahead, ahead, forward_first, forward_end, forward_left}

module _ {X : Type 0} where
  -- the values that were taken so far, and the walk at the others
  pub record Taking (c : Chained X) (taken : List (Keyed X)) (place : Option Name) : Type 0 where
    pub left : List (Row Name X)
    pub walk : Forward c place left
    pub taken_are : walk.before ≡ map row_at taken

  pub taking_start : (c : Chained X) (place : Option Name) (taken : List (Keyed X)) → taken ≡ [] → place ≡ name_at c.rows 0 → Taking c taken place
  taking_start c place taken none e = let f = forward_first c place e in record { left = c.rows; walk = record { before = []; is = refl; at = f.at }; taken_are = sym (ap (map row_at) none) }

  row_there : (l : List (Row Name X)) (i : ℕ) → i < length l → (r : Row Name X) × (slice_get l i ≡ Some r)
  row_there [] i h = absurd (omega arith)
  row_there (r ∷ l) zero h = (r, refl)
  row_there (r ∷ l) (suc i) h = row_there l i (omega arith)

  module _ (c : Chained X) (sound : IsSound c) (a : Name) (taken : List (Keyed X)) (t : Taking c taken (Some a)) where
    here : Ahead c a t.left
    here = ahead c (once_from c.rows sound.once) a t.left t.walk

    pub taking_live : IsLive c a
    taking_live = here.live

    pub taking_more : (k : Keyed X) (more : List (Keyed X)) (next : Option Name) → more ≡ taken ++ k ∷ [] → k.name ≡ a → Some k.value.now ≡ value_of c a → next ≡ next_name c a → Taking c more next
    taking_more k more next is named value e =
        let same : row_at k ≡ here.row = (λ i. row ((named ∙ here.named) i) (some_value k.value.now here.row.value (value ∙ here.value) i)) in
        let all : map row_at more ≡ t.walk.before ++ here.row ∷ [] = ap (map row_at) is ∙ map-append row_at taken (k ∷ []) ∙ (λ i. sym t.taken_are i ++ same i ∷ []) in
        let rows : c.rows ≡ map row_at more ++ here.rest = t.walk.is ∙ ap (λ zs. t.walk.before ++ zs) here.is ∙ sym (append_assoc t.walk.before (here.row ∷ []) here.rest) ∙ ap (λ zs. zs ++ here.rest) (sym all) in
        record { left = here.rest; walk = record { before = map row_at more; is = rows; at = e ∙ here.next.at }; taken_are = refl }

    pub taking_less : (next : Option Name) → next ≡ next_name c a → length c.rows - place_of next c.rows < length c.rows - place_of (Some a) c.rows
    taking_less next e =
        let once = once_from c.rows sound.once in
        let now = forward_left c (Some a) t.left once t.walk in
        let then = forward_left c next here.rest once (subst (λ p. Forward c p here.rest) (sym e) here.next) in
        let len : length t.left ≡ length (here.row ∷ here.rest) = ap length here.is in
        omega arith

  pub taking_end : (c : Chained X) (taken : List (Keyed X)) → Taking c taken None → map row_at taken ≡ c.rows
  taking_end c taken t = sym (t.walk.is ∙ ap (λ zs. t.walk.before ++ zs) (forward_end c t.left t.walk) ∙ append-nil t.walk.before ∙ t.taken_are)

  abbrev as_row : Keyed X → Row ℕ X
  as_row k = row k.name.serial k.value.now

  abbrev with_value : X → Keyed X → Keyed X
  with_value v k = record { name = k.name; value = record { ref_ptr = k.value.ref_ptr; now = v } }

  as_rows : (ks : List (Keyed X)) → map as_row ks ≡ plains (map row_at ks)
  as_rows [] = refl
  as_rows (k ∷ ks) = ap (λ rows. as_row k ∷ rows) (as_rows ks)

  pub keys_order : (less : X → X → Bool) → IsWeakOrder less → IsStrictWeakOrder (λ (x y : Keyed X). less x.value.now y.value.now)
  keys_order less order = strict_order less order as_row with_value (λ v k. refl)

  pub sorted_order : (less : X → X → Bool) → IsWeakOrder less → (rows : List (Row Name X)) (taken to : List (Keyed X)) → map row_at taken ≡ rows → IsPermutation taken to
      → IsSortedBy (λ (x y : Keyed X). less x.value.now y.value.now) to → IsStableBy (λ (x y : Keyed X). less x.value.now y.value.now) taken to
      → (r : Result (Vec Name Global) NoMemory) (ts : List (Keyed X)) → ts ≡ to → IfOk r (λ made. made.items ≡ names (map row_at ts)) → IfOk r (λ made. IsSortedOrder less rows made.items)
  sorted_order less order rows taken to is moves up stable (Err e) ts same h = h
  sorted_order less order rows taken to is moves up stable (Ok made) ts same h = record {
    to = map row_at to;
    named = h ∙ ap (λ ks. names (map row_at ks)) same;
    moves = subst (λ rs. IsPermutation rs (map row_at to)) is (IsPermutation-map row_at taken to moves);
    sorted = sym (as_rows to) ∙ sort_is less order as_row with_value (λ v k. refl) taken to moves up stable ∙ ap (model.sorted less) (as_rows taken ∙ ap plains is);
  }

  -- what holds of a list's rows under each exchange holds of a permutation
  pub once_moved : (rows to : List (Row Name X)) → IsOnce rows → IsPermutation rows to → (i j : ℕ) (a : Name) → name_at to i ≡ Some a → name_at to j ≡ Some a → i ≡ j
  once_moved rows to once moves = IsPermutation-keeps rows (λ l. (i j : ℕ) (a : Name) → name_at l i ≡ Some a → name_at l j ≡ Some a → i ≡ j) (once_at rows once) step to moves
    where
      same_place : (p q i j m n : ℕ) → WasAt p q i m → WasAt p q j n → m ≡ n → i ≡ j
      same_place p q i j m n (inl a) (inl b) e = a.0 ∙ sym b.0
      same_place p q i j m n (inl a) (inr (inl b)) e = a.0 ∙ sym b.1 ∙ sym e ∙ a.1 ∙ sym b.0
      same_place p q i j m n (inl a) (inr (inr b)) e = absurd (b.1 (sym b.2 ∙ sym e ∙ a.1))
      same_place p q i j m n (inr (inl a)) (inl b) e = a.0 ∙ sym b.1 ∙ sym e ∙ a.1 ∙ sym b.0
      same_place p q i j m n (inr (inl a)) (inr (inl b)) e = a.0 ∙ sym b.0
      same_place p q i j m n (inr (inl a)) (inr (inr b)) e = absurd (b.0 (sym b.2 ∙ sym e ∙ a.1))
      same_place p q i j m n (inr (inr a)) (inl b) e = absurd (a.1 (sym a.2 ∙ e ∙ b.1))
      same_place p q i j m n (inr (inr a)) (inr (inl b)) e = absurd (a.0 (sym a.2 ∙ e ∙ b.1))
      same_place p q i j m n (inr (inr a)) (inr (inr b)) e = sym a.2 ∙ e ∙ b.2

      step : (l : List (Row Name X)) (p q : ℕ) → p < length l → q < length l → ((i j : ℕ) (a : Name) → name_at l i ≡ Some a → name_at l j ≡ Some a → i ≡ j)
          → (i j : ℕ) (a : Name) → name_at (swap l p q) i ≡ Some a → name_at (swap l p q) j ≡ Some a → i ≡ j
      step l p q hp hq h i j a ei ej =
          let d = (row_there l p hp).0 in
          let wi = swap_was l d p q hp hq i in
          let wj = swap_was l d p q hp hq j in
          same_place p q i j wi.0 wj.0 wi.2 wj.2
          (h wi.0 wj.0 a (sym (ap (option_map (λ (r : Row Name X). r.name)) wi.1) ∙ ei) (sym (ap (option_map (λ (r : Row Name X). r.name)) wj.1) ∙ ej))

  pub moved_had : (rows to : List (Row Name X)) → IsPermutation rows to → (a : Name) → HasName a to → HasName a rows
  moved_had rows to moves a = IsPermutation-keeps rows (λ l. HasName a l → HasName a rows) (λ h. h) (λ l p q hp hq f h. f (swap_had l p q hp hq a h)) to moves

  -- each row has its value in the chain
  abbrev HaveValues : Chained X → List (Row Name X) → Type 0
  HaveValues k rows = (i : ℕ) (r : Row Name X) → slice_get rows i ≡ Some r → value_of k r.name ≡ Some r.value

  pub own_values : (k : Chained X) → IsOnce k.rows → HaveValues k k.rows
  own_values k once i r e =
      let at = (index_at k.rows once i r.name (ap (option_map (λ (q : Row Name X). q.name)) e)).1 in
      ap (λ j. option_map (λ (q : Row Name X). q.value) (slice_get k.rows j)) at ∙ ap (option_map (λ (q : Row Name X). q.value)) e

  pub moved_values : (k : Chained X) (to : List (Row Name X)) → IsOnce k.rows → IsPermutation k.rows to → HaveValues k to
  moved_values k to once moves = IsPermutation-keeps k.rows (HaveValues k) (own_values k once)
      (λ l p q hp hq h i r e. let was = swap_was l (row_there l p hp).0 p q hp hq i in h was.0 r (sym was.1 ∙ e)) to moves

  pub by_names : (f : Name → Option X) (xs ys : List (Row Name X)) → names xs ≡ names ys → ((i : ℕ) (r : Row Name X) → slice_get xs i ≡ Some r → f r.name ≡ Some r.value)
      → ((i : ℕ) (r : Row Name X) → slice_get ys i ≡ Some r → f r.name ≡ Some r.value) → xs ≡ ys
  by_names f [] [] e h k = refl
  by_names f [] (y ∷ ys) e h k = absurd (let n : [] ≡ y.name ∷ names ys = e in cc)
  by_names f (x ∷ xs) [] e h k = absurd (let n : x.name ∷ names xs ≡ [] = e in cc)
  by_names f (x ∷ xs) (y ∷ ys) e h k =
      let name : x.name ≡ y.name = cc in
      let others : names xs ≡ names ys = cc in
      let value : x.value ≡ y.value = some_value x.value y.value (sym (h 0 x refl) ∙ ap f name ∙ k 0 y refl) in
      let rest = by_names f xs ys others (λ i. h (suc i)) (λ i. k (suc i)) in
      λ i. row (name i) (value i) ∷ rest i

  -- a chain that is relinked by the names in order
  module _ (less : X → X → Bool) (k : Chained X) (sound : IsSound k) (order : List Name) (s : IsSortedOrder less k.rows order) where
    name_there : (i : ℕ) (a : Name) → slice_get order i ≡ Some a → name_at s.to i ≡ Some a
    name_there i a e = sym (slice_get-map (λ (r : Row Name X). r.name) s.to i) ∙ ap (λ o. slice_get o i) (sym s.named) ∙ e

    pub order_of : IsOrderOf order k
    order_of = record {
      live = λ i a e. has_live a k.rows (moved_had k.rows s.to s.moves a (name_at_has s.to i a (name_there i a e)));
      once = λ i j a ei ej. once_moved k.rows s.to (once_from k.rows sound.once) s.moves i j a (name_there i a ei) (name_there j a ej);
      all = ap length s.named ∙ length-map s.to (λ (r : Row Name X). r.name) ∙ length_permutation k.rows s.to s.moves;
    }

    pub relinked_rows : (now : Chained X) → IsSound now → names now.rows ≡ order → Reorders k now → now.rows ≡ s.to
    relinked_rows now t e same = by_names (value_of k) now.rows s.to (e ∙ s.named)
        (λ i r q. sym (same.values r.name) ∙ own_values now (once_from now.rows t.once) i r q) (moved_values k s.to (once_from k.rows sound.once) s.moves)
