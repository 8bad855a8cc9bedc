-- Other values under an array's names: one written, two exchanged, all of them.
use Rattle.std.proofs.Common.{◌≡◌, ℕ, ◌<◌, ◌≤◌, List, [], ◌∷◌, length, get_or, set, Some, refl, sym, ap, ◌∙◌, subst, inl, inr, arith, if◌then◌else◌, suc}
use Rattle.std.specs.List.{swap}
use Rattle.std.specs.Option.{option_map}
use Rattle.std.proofs.Math.Seq.{map-set_same}
use Rattle.std.proofs.lemmas.List.{map-set, set-get_or, length-map}
use Rattle.std.proofs.lemmas.List.Edits.{swap_is}
use Rattle.std.proofs.lemmas.Option.{get_or_from_slice_get, slice_get-map, slice_get_cases}
use Rattle.ac_base.specs.declared.name.Name.{Name}
use Rattle.ac_base.specs.Rows.{Row, row, names, values}
use Rattle.ac_pool.specs.Contents.{Contents, slot_count}
use Rattle.ac_pool.specs.Names.{name_cmp}
use Rattle.std.specs.Ordering.{eq_by_cmp}
use Rattle.ac_chain.specs.Rows.{Chained, chained, IsLive, value_of, with_rows, with_value, values_swapped, values_exchanged}
use Rattle.ac_pool.specs.NamedRows.{index_of, name_at}
use Rattle.ac_pool.proofs.Cuts.{live_has, has_live, name_at_has, Cut, cut, cut-row}
use Rattle.ac_model.specs.Rows.{over}
use Rattle.ac_vector.specs.ArrayFields.{IsArray}
use Rattle.ac_vector.proofs.Arrays.{view_of, Leaves, leaves, old_stands, rewritten, length_values, once_at}
use Rattle.ac_vector.proofs.NamesAt.{at_index}

module _ {X : Type 0} where
  -- a name's place is the same in rows of the same names
  pub index_of-names : (a : Name) (xs ys : List (Row Name X)) → names xs ≡ names ys → index_of a xs ≡ index_of a ys
  index_of-names a [] [] e = refl
  index_of-names a [] (y ∷ ys) e = absurd (let n : [] ≡ y.name ∷ names ys = e in cc)
  index_of-names a (x ∷ xs) [] e = absurd (let n : x.name ∷ names xs ≡ [] = e in cc)
  index_of-names a (x ∷ xs) (y ∷ ys) e =
      let k : x.name ∷ names xs ≡ y.name ∷ names ys = e in
      let first : x.name ≡ y.name = cc in
      let rest : names xs ≡ names ys = cc in
      let more = index_of-names a xs ys rest in
      λ i. if eq_by_cmp name_cmp a (first i) then 0 else suc (more i)

  length-names : (xs ys : List (Row Name X)) → names xs ≡ names ys → length xs ≡ length ys
  length-names xs ys e = sym (length-map xs (λ (r : Row Name X). r.name)) ∙ ap length e ∙ length-map ys (λ (r : Row Name X). r.name)

  -- a write under a name leaves the names
  module _ (rs : List (Row Name X)) (a : Name) (k : Cut a rs) (w : X) where
    there : get_or rs (index_of a rs) (row a w) ≡ k.at
    there = get_or_from_slice_get rs (index_of a rs) k.at (row a w) (cut-row a rs k)

    pub names-set : names (set rs (index_of a rs) (row a w)) ≡ names rs
    names-set = map-set_same (λ (r : Row Name X). r.name) rs (index_of a rs) (row a w) (row a w) (k.named ∙ ap (λ (r : Row Name X). r.name) (sym there))

    pub values-set : values (set rs (index_of a rs) (row a w)) ≡ set (values rs) (index_of a rs) w
    values-set = map-set (λ (r : Row Name X). r.value) rs (index_of a rs) (row a w)

  pub names-over : (rs : List (Row Name X)) (ws : List X) → names (over rs ws) ≡ names rs
  names-over [] ws = refl
  names-over (r ∷ rs) [] = refl
  names-over (r ∷ rs) (w ∷ ws) = ap (λ ns. r.name ∷ ns) (names-over rs ws)

  pub values-over : (rs : List (Row Name X)) (ws : List X) → length ws ≡ length rs → values (over rs ws) ≡ ws
  values-over [] [] e = refl
  values-over [] (w ∷ ws) e = absurd (omega arith)
  values-over (r ∷ rs) [] e = absurd (omega arith)
  values-over (r ∷ rs) (w ∷ ws) e = ap (λ vs. w ∷ vs) (values-over rs ws (omega arith))

  module _ {ns : List Name} {vs : List X} {p : Contents ℕ} {m n : ℕ} {old : Chained X} (h : IsArray ns vs p m n) (is : view_of ns vs p ≡ old) where
    fields : chained old.rows p.next_serial p.spare ≡ old
    fields = λ i. chained old.rows ((is i).next_serial) ((is i).spare)

    -- a place that was found in the fields is that in the rows
    pub place_seen : (a : Name) (i : ℕ) → i ≡ index_of a (view_of ns vs p).rows → i ≡ index_of a old.rows
    place_seen a i at = at ∙ ap (λ (c : Chained X). index_of a c.rows) is

    -- the rows have other values
    pub rewritten_array : (ws : List X) (l : ℕ) (zs : List (Row Name X)) → names zs ≡ names old.rows → ws ≡ values zs → l ≡ n → Leaves ns ws p m l (with_rows old zs)
    rewritten_array ws l zs same are room =
        leaves (rewritten (old_stands h is) ws zs same are) m l h.names (subst (λ k. slot_count p ≤ k) (sym room) h.values) (with_rows old zs) (ap (λ (c : Chained X). with_rows c zs) fields)

    pub written_array : (a : Name) (i : ℕ) (w : X) → i ≡ index_of a old.rows → IsLive old a → Leaves ns (set vs i w) p m n (with_value old a w)
    written_array a i w at live =
        let k = cut a old.rows (live_has a old.rows live) in
        let s = old_stands h is in
        rewritten_array (set vs i w) n (set old.rows (index_of a old.rows) (row a w)) (names-set old.rows a k w) ((λ j. set (s.valued j) (at j) w) ∙ sym (values-set old.rows a k w)) refl

    -- another value in the row at a place, whose name this is
    pub placed_array : (a : Name) (i : ℕ) (w : X) → Some a ≡ name_at old.rows i → Leaves ns (set vs i w) p m n (with_value old a w)
    placed_array a i w e =
        let there = name_at_has old.rows i a (sym e) in
        written_array a i w (once_at (old_stands h is) i (index_of a old.rows) a (sym e) (at_index old.rows a there)) (has_live a old.rows there)

    -- there is a name at the place
    pub there_array : (i : ℕ) (w : X) → i < length old.rows → (a : Name) × Leaves ns (set vs i w) p m n (with_value old a w)
    there_array i w less = elim (slice_get_cases old.rows i).1 [
      | inl at ↦ (at.0.name, placed_array at.0.name i w (sym (ap (option_map (λ (r : Row Name X). r.name)) at.2)))
      | inr past ↦ absurd (omega (arith, past.0))
    ]

    pub over_array : (ws us : List X) (l : ℕ) → ws ≡ us → length us ≡ length old.rows → l ≡ n → Leaves ns ws p m l (with_rows old (over old.rows us))
    over_array ws us l are long room = rewritten_array ws l (over old.rows us) (names-over old.rows us) (are ∙ sym (values-over old.rows us long)) room

    -- the value under a name stands at its place
    module _ (a : Name) (live : IsLive old a) where
      pub here : Cut a old.rows
      here = cut a old.rows (live_has a old.rows live)

      pub value_is : value_of old a ≡ Some here.at.value
      value_is = ap (option_map (λ (r : Row Name X). r.value)) (cut-row a old.rows here)

      got_here : (i : ℕ) (d : X) → i ≡ index_of a old.rows → get_or vs i d ≡ here.at.value
      got_here i d at =
          (λ j. get_or ((old_stands h is).valued j) (at j) d)
          ∙ get_or_from_slice_get (values old.rows) (index_of a old.rows) here.at.value d (slice_get-map (λ (r : Row Name X). r.value) old.rows (index_of a old.rows) ∙ value_is)

      pub value_got : (i : ℕ) (d : X) → i ≡ index_of a old.rows → Some (get_or vs i d) ≡ value_of old a
      value_got i d at = ap Some (got_here i d at) ∙ sym value_is

  -- two values are exchanged
  module _ {ns : List Name} {vs : List X} {p : Contents ℕ} {m n : ℕ} {old : Chained X} (h : IsArray ns vs p m n) (is : view_of ns vs p ≡ old) (a b : Name) (i j : ℕ)
      (at_a : i ≡ index_of a old.rows) (at_b : j ≡ index_of b old.rows) (live_a : IsLive old a) (live_b : IsLive old b) (ws : List X) (l : ℕ) (are : ws ≡ swap vs i j) (room : l ≡ n) where
    x : X
    x = (here h is a live_a).at.value

    y : X
    y = (here h is b live_b).at.value

    long : length vs ≡ length old.rows
    long = length_values (old_stands h is)

    first : Chained X
    first = with_value old a y

    same_names : names first.rows ≡ names old.rows
    unfolding first
    same_names = names-set old.rows a (here h is a live_a) y

    both : Leaves ns (set (set vs i y) j x) p m n (with_value first b x)
    unfolding first
    both =
        let one = written_array h is a i y at_a live_a in
        let same = index_of-names b first.rows old.rows same_names in
        let less : index_of b first.rows < length first.rows = (let many : length first.rows ≡ length old.rows = length-names first.rows old.rows same_names in omega arith) in
        written_array one.invariant one.view b j x (at_b ∙ sym same) less

    swapped_is : set (set vs i y) j x ≡ ws
    unfolding x y here
    swapped_is =
        let ex = got_here h is a live_a i x at_a in
        let ey = got_here h is b live_b j x at_b in
        (λ k. set (set vs i (sym ey k)) j (sym ex k)) ∙ swap_is vs i j x (omega (arith, long)) (omega (arith, long)) ∙ sym are

    pub swapped_array : Leaves ns ws p m l (values_swapped old a b)
    unfolding first x y here
    swapped_array =
        let told : values_swapped old a b ≡ with_value first b x = (λ k. values_exchanged old a b (value_is h is a live_a k) (value_is h is b live_b k)) in
        subst (λ k. Leaves ns ws p m k (values_swapped old a b)) (sym room)
        (subst (λ us. Leaves ns us p m n (values_swapped old a b)) swapped_is (subst (λ c. Leaves ns (set (set vs i y) j x) p m n c) (sym told) both))

    pub swapped_itself : a ≡ b → view_of ns ws p ≡ old
    swapped_itself same =
        let at : j ≡ i = at_b ∙ ap (λ k. index_of k old.rows) (sym same) ∙ sym at_a in
        let kept : ws ≡ vs = are ∙ ap (λ k. swap vs i k) at ∙ sym (swap_is vs i i x (omega (arith, long)) (omega (arith, long))) ∙ ap (λ us. set us i (get_or vs i x)) (set-get_or vs i x) ∙ set-get_or vs i x in
        ap (λ us. view_of ns us p) kept ∙ is
