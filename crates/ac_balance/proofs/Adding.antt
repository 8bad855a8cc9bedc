-- A node that stands alone goes to the place that a search found.
use Rattle.std.proofs.Common.{◌≡◌, ◌≢◌, ℕ, suc, ◌+◌, ◌-◌, ◌<◌, ◌^◌, ◌⊎◌, Bool, true, false, not, List, [], ◌∷◌, ◌++◌, length, Option, Some, None, is_some, refl, sym, ap, ◌∙◌, subst, inl, inr, arith}
use Rattle.std.specs.List.{prefix_len, insert}
use Rattle.std.proofs.lemmas.Bool.{cond-true, cond-false}
use Rattle.ac_base.specs.declared.name.Name.{Name}
use Rattle.ac_base.specs.Rows.{Row, row}
use Rattle.ac_base.specs.Order.{IsWeakOrder}
use Rattle.ac_pool.specs.Contents.{Contents, value_of, IsLive, live_count, IsFresh, added, IsSound}
use Rattle.ac_pool.proofs.NameLaws.{cases_name}
use Rattle.ac_pool.proofs.ContentsLaws.{value_of-added_same, value_of-added_other, live_count-added, fresh_is_dead}
use Rattle.ac_balance.specs.declared.entry.Entry.{Entry}
use Rattle.ac_balance.specs.declared.links.Node.{Node}
use Rattle.ac_balance.specs.declared.links.Links.{Links}
use Rattle.ac_balance.specs.declared.search.Spot.{Spot}
use Rattle.ac_balance.specs.Trees.{Tree, leaf, node, in_order, Balanced, Step, plugged, before, after}
use Rattle.ac_balance.specs.TreeFields.{alone, root, Stands, place, links}
use Rattle.ac_balance.specs.Climbing.{Has, above_in, Climbing, Closed, Closes}
use Rattle.ac_pool.specs.NamedRows.{HasName}
use Rattle.ac_balance.specs.Probes.{IsProbe, probed}
use Rattle.ac_balance.specs.Seeking.{Seeking, Seeks}
use Rattle.ac_balance.specs.Indexed.{Each, IsAscending, Indexed, indexed, entry, with_row}
use Rattle.ac_balance.specs.Indexed as index
use Rattle.ac_balance.specs.IndexFields.{StandsFor, rows_in, IsOrderIndex}
use Rattle.ac_balance.proofs.Names.{IsAround, once_added, around_has, named}
use Rattle.ac_pool.proofs.Cuts.{HasName-right, insert-cut, HasName-put}
use Rattle.ac_balance.proofs.Opening.{added_opens}
use Rattle.ac_balance.proofs.Climbs.{plugged-order}
use Rattle.ac_balance.proofs.Sides.{led-sides, each-weaker}
use Rattle.ac_balance.proofs.Indexes.{view_of, index_from, view-is, named_live, live_in}

-- rows with one more in between
module _ {X : Type 0} where
  pub ascending-put : (less : X → X → Bool) (xs : List (Row Name X)) (x : Row Name X) (ys : List (Row Name X)) → IsAscending less (xs ++ ys) → Each (λ v. less v x.value) xs → Each (less x.value) ys → IsAscending less (xs ++ x ∷ ys)
  ascending-put less [] x ys h low high = (high, h)
  ascending-put less (z ∷ xs) x ys h low high = (between xs h.0, ascending-put less xs x ys h.1 low.1 high)
    where
      between : (zs : List (Row Name X)) → Each (less z.value) (zs ++ ys) → Each (less z.value) (zs ++ x ∷ ys)
      between [] e = (low.0, e)
      between (y ∷ zs) e = (e.0, between zs e.1)

  prefix_at : (test : X → Bool) (xs ys : List (Row Name X)) → Each test xs → Each (λ v. not (test v)) ys → prefix_len (λ (r : Row Name X). test r.value) (xs ++ ys) ≡ length xs
  prefix_at test [] [] low high = refl
  prefix_at test [] (y ∷ ys) low high = cond-false _ _ _ (fails (test y.value) high.0)
    where
      fails : (b : Bool) → not b ≡ true → b ≡ false
      fails true e = cc
      fails false e = refl
  prefix_at test (x ∷ xs) ys low high = let rest = prefix_at test xs ys low.1 high in let here = cond-true (test x.value) (1 + prefix_len (λ (r : Row Name X). test r.value) (xs ++ ys)) 0 low.0 in omega (arith, rest, here)

  length-put : (xs : List (Row Name X)) (x : Row Name X) (ys : List (Row Name X)) → length (xs ++ x ∷ ys) ≡ suc (length (xs ++ ys))
  length-put [] x ys = refl
  length-put (z ∷ xs) x ys = ap suc (length-put xs x ys)

module _ {K V : Type 0} (less : K → K → Bool) (weak : IsWeakOrder less) where
  abbrev pub by_key : Entry K V → Entry K V → Bool
  by_key e f = less e.key f.key

  -- the rows with one more, and how they lie beside those before
  pub record Put (rows : List (Row Name (Entry K V))) (a : Name) (k : K) (v : V) : Type 0 where
    pub front : List (Row Name (Entry K V))
    pub back : List (Row Name (Entry K V))
    pub were : rows ≡ front ++ back
    pub are : with_row less rows a k v ≡ front ++ row a (entry k v) ∷ back
    pub ascending : IsAscending by_key (with_row less rows a k v)

  pub put_has : (rows : List (Row Name (Entry K V))) (a : Name) (k : K) (v : V) → Put rows a k v → (b : Name) → (b ≡ a) ⊎ HasName b rows → HasName b (with_row less rows a k v)
  put_has rows a k v p b h = subst (HasName b) (sym p.are) (elim h [
    | inl e ↦ HasName-right b p.front (row a (entry k v) ∷ p.back) (inl e)
    | inr t ↦ HasName-put b p.front (row a (entry k v)) p.back (subst (HasName b) p.were t)
  ])

  pub put_length : (rows : List (Row Name (Entry K V))) (a : Name) (k : K) (v : V) → Put rows a k v → length (with_row less rows a k v) ≡ length rows + 1
  put_length rows a k v p = let n = length-put p.front (row a (entry k v)) p.back in let m = ap length p.are in let o = ap length p.were in omega (arith, n, m, o)

  -- what the search found, and the node, begin a climb
  pub record Vacant (d : Contents (Node (Entry K V))) (base : Option Name) (rows : List (Row Name (Entry K V))) (s : Spot) (a : Name) (k : K) (v : V) : Type 0 where
    pub put : Put rows a k v
    pub climbing : Climbing d (place s.parent s.is_left (Some a)) base (with_row less rows a k v)

  module _ (l : Links (Entry K V)) (rows : List (Row Name (Entry K V))) (closed : Closed l rows) (asc : IsAscending by_key rows) (a : Name) (k : K) (v : V) (d : Contents (Node (Entry K V)))
      (here : value_of d a ≡ Some (alone (entry k v))) (same : (b : Name) → b ≢ a → value_of d b ≡ value_of l.nodes b) (sound : IsSound d) (new : HasName a rows → ⊥) (few : length rows < 2 ^ 30) where
    abbrev pub low : Entry K V → Bool
    low e = less e.key k

    abbrev pub high : Entry K V → Bool
    high e = less k e.key

    probe : IsProbe by_key low high
    probe = probed by_key less (λ (e : Entry K V). e.key) (λ x y. refl) weak k

    vacant_at : (s : Spot) (steps : List (Step (Entry K V))) (u : Tree (Entry K V)) → s.part ≡ None → Seeking l.nodes closed.tree low high s steps u → Vacant d l.root rows s a k v
    vacant_at s steps (node p x q) none seek = let bad = sym none ∙ seek.part in cc
    vacant_at s steps leaf none seek =
        let c = l.nodes in let x = row a (entry k v) in let t = closed.tree in
        let front = before steps in let back = after steps in
        let order_old : in_order t ≡ front ++ back = ap in_order (sym seek.whole) ∙ plugged-order steps leaf in
        let were : rows ≡ front ++ back = sym closed.ordered ∙ order_old in
        let asc_t : IsAscending by_key (in_order (plugged steps leaf)) = subst (IsAscending by_key) (sym closed.ordered ∙ ap in_order (sym seek.whole)) asc in
        let sides = led-sides by_key low high probe steps leaf asc_t seek.led in
        let not_low = each-not back sides.1 in
        let at : prefix_len (λ (r : Row Name (Entry K V)). less r.value.key k) rows ≡ length front = ap (prefix_len (λ (r : Row Name (Entry K V)). less r.value.key k)) were ∙ prefix_at low front back sides.0 not_low in
        let are : with_row less rows a k v ≡ front ++ x ∷ back = ap (λ i. insert rows i x) at ∙ ap (λ zs. insert zs (length front) x) were ∙ insert-cut front x back in
        let no_name : Has a t → ⊥ = λ h. new (subst (HasName a) closed.ordered (named a t h)) in
        let stands : Stands (value_of c) None (plugged steps leaf) = subst (λ z. Stands (value_of c) None z) (sym seek.whole) closed.stands in
        let balanced : Balanced (plugged steps leaf) = subst (λ z. Balanced z) (sym seek.whole) closed.balanced in
        let once = once_added t (plugged steps (node leaf x leaf)) front x back order_old (plugged-order steps (node leaf x leaf)) closed.once no_name in
        let kept : (b : Name) → IsAround b steps → value_of d b ≡ value_of c b = λ b h.
        same b (λ e. no_name (subst (λ z. Has a z) seek.whole (around_has steps leaf a (subst (λ z. IsAround z steps) e h)))) in
        let len = ap length were in let put = length-put front x back in
        let it = added_opens c d steps x None s.is_left stands balanced kept here seek.side sound once (omega (arith, len, put, few)) in
        record {
          put = record { front = front; back = back; were = were; are = are; ascending = subst (IsAscending by_key) (sym are) (ascending-put by_key front x back (subst (IsAscending by_key) were asc) sides.0 sides.1) };
          climbing =
              subst (λ zs. Climbing d (place s.parent s.is_left (Some a)) l.root zs) (sym are)
              (subst (λ o. Climbing d (place o s.is_left (Some a)) l.root (front ++ x ∷ back)) (sym seek.parent)
              (subst (λ o. Climbing d (place (above_in steps) s.is_left (Some a)) o (front ++ x ∷ back)) (ap root seek.whole ∙ sym closed.top) it));
        }
      where
        each-not : (ys : List (Row Name (Entry K V))) → Each high ys → Each (λ e. not (low e)) ys
        each-not ys h = each-weaker high (λ e. not (low e)) ys (λ e f. ap not (probe.apart e f)) h

    pub vacant : (s : Spot) → s.part ≡ None → Seeks l.nodes closed.tree low high s → Vacant d l.root rows s a k v
    vacant s none h = vacant_at s h.steps h.rest none h.seeking

  -- a fresh node in the pool
  module _ (l : Links (Entry K V)) (i : IsOrderIndex less l) (a : Name) (k : K) (v : V) (d : Contents (Node (Entry K V))) (fresh : IsFresh l.nodes a) (is : d ≡ added l.nodes a (alone (entry k v))) (sound : IsSound d) (spare : 0 < l.nodes.spare) where
    no_row : HasName a (rows_in l) → ⊥
    no_row h = let live = named_live l (rows_in l) i.closed a h in let dead : is_some {T = Node (Entry K V)} None ≡ is_some (value_of l.nodes a) = ap is_some (sym (fresh_is_dead l.nodes a fresh)) in cc

    pub fresh_vacant : (s : Spot) → s.part ≡ None → Seeks l.nodes i.closed.tree (λ e. less e.key k) (λ e. less k e.key) s → Vacant d l.root (rows_in l) s a k v
    fresh_vacant s none h =
        let n = i.count in let most = i.closed.sound.few in
        vacant l (rows_in l) i.closed i.ascending a k v d (ap (λ c. value_of c a) is ∙ value_of-added_same l.nodes a (alone (entry k v)))
        (λ b ne. ap (λ c. value_of c b) is ∙ value_of-added_other l.nodes a b (alone (entry k v)) ne) sound no_row (omega (arith, n, most, spare)) s none h

    pub added_index : (s : Spot) → Vacant d l.root (rows_in l) s a k v → (m : Links (Entry K V)) (high_before : ℕ) → Closes (links d l.root) m (with_row less (rows_in l) a k v) high_before
        → IsOrderIndex less m × (view_of m ≡ index.added less (view_of l) a k v)
    added_index s w m high_before closes =
        let rows = with_row less (rows_in l) a k v in let keeps = closes.relinks.keeps in
        let all : (b : Name) → IsLive m.nodes b → HasName b rows = λ b live. put_has (rows_in l) a k v w.put b (go b (sym (keeps.live b) ∙ live)) in
        let count : length rows ≡ live_count m.nodes =
        let n = put_length (rows_in l) a k v w.put in let o = i.count in let p = ap live_count is ∙ live_count-added l.nodes a (alone (entry k v)) (fresh_is_dead l.nodes a fresh) in let q = keeps.count in omega (arith, n, o, p, q) in
        let stands : StandsFor less m rows = record { closed = closes.closed; ascending = w.put.ascending; all = all; count = count } in
        let next : m.nodes.next_serial ≡ l.nodes.next_serial + 1 = keeps.next ∙ ap (λ (c : Contents (Node (Entry K V))). c.next_serial) is in
        let room : m.nodes.spare ≡ l.nodes.spare - 1 = keeps.spare ∙ ap (λ (c : Contents (Node (Entry K V))). c.spare) is in
        (index_from less m rows stands, view-is less m rows stands ∙ (λ j. indexed rows (next j) (room j)))
      where
        go : (b : Name) → IsLive d b → (b ≡ a) ⊎ HasName b (rows_in l)
        go b live = elim (cases_name b a) [
          | inl e ↦ inl e
          | inr ne ↦ inr (i.all b (ap is_some (sym (ap (λ c. value_of c b) is ∙ value_of-added_other l.nodes a b (alone (entry k v)) ne)) ∙ live))
        ]

    pub fresh_name : index.IsFresh (view_of l) a
    fresh_name = record {
      slot = λ b h. fresh.slot b (live_in less l i b h);
      serials = λ b h e.
          let live = live_in less l i b h in
          let apart_b : b ≢ a = λ same. fresh.slot b live (ap (λ (n : Name). n.slot) same) in
          let live_b : IsLive d b = ap (λ c. is_some (value_of c b)) is ∙ ap is_some (value_of-added_other l.nodes a b (alone (entry k v)) apart_b) ∙ live in
          let live_a : IsLive d a = ap (λ c. is_some (value_of c a)) is ∙ ap is_some (value_of-added_same l.nodes a (alone (entry k v))) in
          apart_b (sound.serials b a live_b live_a e);
      serial = fresh.serial;
    }
