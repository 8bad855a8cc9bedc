-- An array whose last rows went before a place: the same names, with new places behind it.
use Rattle.std.proofs.Common.{◌≡◌, ℕ, ◌+◌, ◌-◌, ◌≤◌, List, ◌++◌, length, map, take, drop, Some, is_some, refl, sym, ap, ◌∙◌, subst, inl, inr, arith, append_assoc, length-append}
use Rattle.std.proofs.Math.Seq.{drop-append_seam}
use Rattle.std.proofs.lemmas.List.{map-append, take-map, drop-map, length-map, take-append-drop, drop-drop, length-take-le}
use Rattle.ac_base.specs.declared.name.Name.{Name}
use Rattle.ac_base.specs.Rows.{Row, names, values}
use Rattle.ac_pool.specs.Contents.{Contents, value_of, IsLive, slot_count}
use Rattle.ac_chain.specs.Rows.{Chained, chained, with_rows}
use Rattle.ac_pool.specs.NamedRows.{name_at, HasName, IsOnce}
use Rattle.ac_pool.proofs.Cuts.{name_at_has, HasName-left, HasName-right, HasName-either, once_left, once_right, once-append, apart}
use Rattle.ac_vector.specs.ArrayFields.{StandsFor, IsArray, renumbered}
use Rattle.ac_vector.specs.Turn.{turned}
use Rattle.ac_vector.proofs.NamesAt.{same_number, at_left, at_either, at_index}
use Rattle.ac_vector.proofs.Renumbers.{KeepsNames, renumbered-keeps, renumbered-other, renumbered-at}
use Rattle.ac_vector.proofs.Arrays.{view_of, Leaves, leaves, old_stands, once, has_of, place_at}

pub map-turned : {A B : Type 0} (f : A → B) (xs : List A) (place count : ℕ) → map f (turned xs place count) ≡ turned (map f xs) place count
map-turned f xs place count =
    let long = length-map xs f in
    let front = take place xs in let last = drop (length xs - count) xs in let mid = take (length xs - count - place) (drop place xs) in
    map-append f (front ++ last) mid ∙ ap (λ zs. zs ++ map f mid) (map-append f front last)
    ∙ (λ i. sym (take-map f place xs) i ++ sym (drop-map f (length xs - count) xs) i ++ (sym (take-map f (length xs - count - place) (drop place xs)) ∙ ap (take (length xs - count - place)) (sym (drop-map f place xs))) i)
    ∙ (λ i. take place (map f xs) ++ drop (sym long i - count) (map f xs) ++ take (sym long i - count - place) (drop place (map f xs)))

module _ {X : Type 0} where
  -- other rows behind some that stay, with the same names in another order
  module _ {ns : List Name} {vs : List X} {p : Contents ℕ} (front back other : List (Row Name X)) (s : StandsFor ns vs p (front ++ back)) (long : length other ≡ length back)
      (there : (a : Name) → HasName a back → HasName a other) (from : (a : Name) → HasName a other → HasName a back) (alone : IsOnce (front ++ other)) where
    moved : Contents ℕ
    moved = renumbered (names other) (length front) p

    keeps : KeepsNames p moved
    unfolding moved
    keeps = renumbered-keeps other (length front) p

    placed : (i : ℕ) (a : Name) → name_at (front ++ other) i ≡ Some a → value_of moved a ≡ Some i
    unfolding moved
    placed i a e = elim (at_either front other i a e) [
      | inl h ↦ renumbered-other other (length front) p a (λ t. apart front other alone a (name_at_has front i a h) t) ∙ s.placed i a (at_left front back i a h)
      | inr h ↦ let live : IsLive p a = ap is_some (place_at s a (HasName-right a front back (from a (name_at_has other h.0 a h.2)))) in
          renumbered-at other (once_right front other alone) (length front) p h.0 a h.2 live ∙ ap Some (sym h.1)
    ]

    has : (a : Name) → IsLive moved a → HasName a (front ++ other)
    has a live = elim (HasName-either a front back (has_of s a (sym (keeps.live a) ∙ live))) [
      | inl h ↦ HasName-left a front other h
      | inr h ↦ HasName-right a front other (there a h)
    ]

    pub renumbered_stands : StandsFor (names (front ++ other)) (values (front ++ other)) (renumbered (names other) (length front) p) (front ++ other)
    unfolding moved
    renumbered_stands = record {
      named = refl;
      valued = refl;
      placed = placed;
      all = λ i a e.
          let at = at_index (front ++ other) a (has a (ap is_some e)) in
          let same = same_number _ i (sym (placed _ a at) ∙ e) in ap (λ k. name_at (front ++ other) k) (sym same) ∙ at;
      count = let old = s.count in let kept = keeps.count in omega (arith, length-append front other, length-append front back);
      sound = keeps.sound s.sound;
    }

  -- the rows in three pieces, of which the last two change places
  module _ {ns : List Name} {vs : List X} {p : Contents ℕ} (front mid last : List (Row Name X)) (s : StandsFor ns vs p (front ++ (mid ++ last))) where
    from_turned : (a : Name) → HasName a (last ++ mid) → HasName a (mid ++ last)
    from_turned a h = elim (HasName-either a last mid h) [ inl t ↦ HasName-right a mid last t | inr t ↦ HasName-left a mid last t ]

    to_turned : (a : Name) → HasName a (mid ++ last) → HasName a (last ++ mid)
    to_turned a h = elim (HasName-either a mid last h) [ inl t ↦ HasName-right a last mid t | inr t ↦ HasName-left a last mid t ]

    alone_turned : IsOnce (front ++ (last ++ mid))
    alone_turned =
        let all = once s in
        let back = once_right front (mid ++ last) all in
        once-append front (last ++ mid) (once_left front (mid ++ last) all) (once-append last mid (once_right mid last back) (once_left mid last back) (λ a h t. apart mid last back a t h))
        (λ a h t. apart front (mid ++ last) all a h (from_turned a t))

    pub turned_pieces : StandsFor (names (front ++ (last ++ mid))) (values (front ++ (last ++ mid))) (renumbered (names (last ++ mid)) (length front) p) (front ++ (last ++ mid))
    turned_pieces = renumbered_stands front (mid ++ last) (last ++ mid) s (omega (arith, length-append last mid, length-append mid last)) to_turned from_turned alone_turned

  module _ (rs : List (Row Name X)) (place count : ℕ) (fits : place + count ≤ length rs) where
    mid_of : List (Row Name X)
    mid_of = take (length rs - count - place) (drop place rs)

    last_of : List (Row Name X)
    last_of = drop (length rs - count) rs

    pieces : rs ≡ take place rs ++ (mid_of ++ last_of)
    unfolding mid_of last_of
    pieces =
        let at : place + (length rs - count - place) ≡ length rs - count = omega arith in
        sym (take-append-drop place rs) ∙ ap (λ zs. take place rs ++ zs) (sym (take-append-drop (length rs - count - place) (drop place rs)) ∙ ap (λ zs. take (length rs - count - place) (drop place rs) ++ zs) (drop-drop (length rs - count - place) place rs ∙ ap (λ k. drop k rs) at))

    turned-pieces : turned rs place count ≡ take place rs ++ (last_of ++ mid_of)
    unfolding mid_of last_of
    turned-pieces = append_assoc (take place rs) (drop (length rs - count) rs) (take (length rs - count - place) (drop place rs))

    behind : drop place (names (turned rs place count)) ≡ names (last_of ++ mid_of)
    behind =
        let long : length (take place rs) ≡ place = length-take-le place rs (omega arith) in
        drop-map (λ (r : Row Name X). r.name) place (turned rs place count)
        ∙ ap names (ap (drop place) turned-pieces ∙ ap (λ k. drop k (take place rs ++ (last_of ++ mid_of))) (sym long) ∙ drop-append_seam (take place rs) (last_of ++ mid_of))

    pub turned_stands : {ns : List Name} {vs : List X} {p : Contents ℕ} → StandsFor ns vs p rs
        → StandsFor (names (turned rs place count)) (values (turned rs place count)) (renumbered (drop place (names (turned rs place count))) place p) (turned rs place count)
    turned_stands {ns} {vs} {p} s =
        let long : length (take place rs) ≡ place = length-take-le place rs (omega arith) in
        let t = turned_pieces (take place rs) mid_of last_of (subst (λ zs. StandsFor ns vs p zs) pieces s) in
        let u : StandsFor (names (turned rs place count)) (values (turned rs place count)) (renumbered (names (last_of ++ mid_of)) (length (take place rs)) p) (turned rs place count) =
        subst (λ zs. StandsFor (names zs) (values zs) (renumbered (names (last_of ++ mid_of)) (length (take place rs)) p) zs) (sym turned-pieces) t in
        subst (λ q. StandsFor (names (turned rs place count)) (values (turned rs place count)) q (turned rs place count)) (λ i. renumbered (sym behind i) (long i) p) u

  module _ {ns : List Name} {vs : List X} {p : Contents ℕ} {m n : ℕ} {old : Chained X} (h : IsArray ns vs p m n) (is : view_of ns vs p ≡ old) where
    pub turned_array : (place count : ℕ) → place + count ≤ length old.rows → (ks : List Name) (ws : List X) (q : Contents ℕ) (k l : ℕ) → ks ≡ turned ns place count → ws ≡ turned vs place count
        → q ≡ renumbered (drop place ks) place p → k ≡ m → l ≡ n → Leaves ks ws q k l (with_rows old (turned old.rows place count))
    turned_array place count fits ks ws q k l names_are values_are places_are names_room values_room =
        let s = old_stands h is in
        let zs = turned old.rows place count in
        let same_names : ks ≡ names zs = names_are ∙ ap (λ us. turned us place count) s.named ∙ sym (map-turned (λ (r : Row Name X). r.name) old.rows place count) in
        let same_values : ws ≡ values zs = values_are ∙ ap (λ us. turned us place count) s.valued ∙ sym (map-turned (λ (r : Row Name X). r.value) old.rows place count) in
        let all : q ≡ renumbered (drop place (names zs)) place p = places_are ∙ ap (λ us. renumbered (drop place us) place p) same_names in
        let t = turned_stands old.rows place count fits s in
        let u : StandsFor ks ws q zs = subst (λ c. StandsFor ks ws c zs) (sym all) (subst (λ us. StandsFor ks us (renumbered (drop place (names zs)) place p) zs) (sym same_values) (subst (λ us. StandsFor us (values zs) (renumbered (drop place (names zs)) place p) zs) (sym same_names) t)) in
        let kept : KeepsNames p q = subst (λ c. KeepsNames p c) (sym all) (subst (λ us. KeepsNames p (renumbered us place p)) (sym (drop-map (λ (r : Row Name X). r.name) place zs)) (renumbered-keeps (drop place zs) place p)) in
        let next : q.next_serial ≡ old.next_serial = kept.next ∙ ap (λ (c : Chained X). c.next_serial) is in
        let spare : q.spare ≡ old.spare = kept.spare ∙ ap (λ (c : Chained X). c.spare) is in
        let slots : slot_count q ≡ slot_count p = (λ i. kept.count i + kept.spare i) in
        leaves u k l (omega (arith, h.names)) (omega (arith, h.values)) (with_rows old zs) (λ i. chained zs (next i) (spare i))
