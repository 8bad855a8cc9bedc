-- Values that are put into a forest one after another.
use Rattle.std.proofs.Common.{◌≡◌, ℕ, zero, suc, ◌+◌, ◌-◌, ◌^◌, ◌<◌, ◌≤◌, List, [], ◌∷◌, ◌++◌, length, reverse, replicate, Option, Some, None, refl, sym, ap, ◌∙◌, subst, inl, inr, arith}
use Rattle.std.specs.Prelude.{max}
use Rattle.std.proofs.lemmas.Bool.{cases_eq}
use Rattle.std.proofs.lemmas.List.{map-append, length-map, length-reverse, length-append, length-replicate}
use Rattle.ac_base.specs.declared.name.Name.{Name}
use Rattle.ac_base.specs.Growth.{pow8}
use Rattle.ac_base.specs.Rows.{Row, row}
use Rattle.ac_pool.specs.Contents.{live_count}
use Rattle.ac_chain.specs.Rows.{Chained, IsSound, inserted, reserved, IsLive, slots_in}
use Rattle.ac_chain.specs.ChainFields.{first_or}
use Rattle.ac_pool.specs.NamedRows.{HasName}
use Rattle.ac_chain.specs.Put.{IsPut, IsFirst, HasFirst}
use Rattle.ac_pool.proofs.Cuts.{has_live, HasName-right}
use Rattle.ac_chain.proofs.Puts.{Putting, putting_start, putting_more, putting_end, putting_count, putting_serials, put_none, first_start, first_more, copies_put, copies_slots, copies_grown, first_put, reserved_enough}
use Rattle.ac_model.specs.Rows.{Node, node}
use Rattle.ac_tree.specs.declared.links.Links.{Links}
use Rattle.ac_tree.specs.Forests.{outline, plugged, depth_in, before_in, after_in}
use Rattle.ac_tree.specs.TreeFields.{IsForest, forest_in}
use Rattle.ac_tree.specs.TreeRows.{rows_of}
use Rattle.ac_tree.specs.Inserting.{Hole, depth_at, place_at, Inserts, nodes_at, PutEach, Reserves}
use Rattle.ac_tree.proofs.Places.{outline_plugged, size_is}
use Rattle.ac_tree.proofs.Forests.{is_forest, forest-is}
use Rattle.ac_tree.proofs.Objects.{sound_of}

module _ {X : Type 0} where
  pub hole_sound : (l : Links X) (parent before : Option Name) → Hole l parent before → IsSound (rows_of l)
  hole_sound l parent before h = sound_of l (forest_in l) (is_forest l (plugged h.steps h.rest) h.stands)

  -- the row before which new ones stand is there
  pub place_live : (l : Links X) (parent before : Option Name) (h : Hole l parent before) → (a : Name) → place_at h ≡ Some a → IsLive (rows_of l) a
  place_live l parent before h a e =
      let rows : outline 2 (forest_in l) ≡ before_in h.steps ++ (outline (depth_in h.steps) h.rest ++ after_in h.steps) = ap (outline 2) (forest-is l (plugged h.steps h.rest) h.stands) ∙ outline_plugged h.steps h.rest in
      has_live a (outline 2 (forest_in l)) (subst (λ z. HasName a z) (sym rows) (HasName-right a (before_in h.steps) (outline (depth_in h.steps) h.rest ++ after_in h.steps) (first_has a (outline (depth_in h.steps) h.rest ++ after_in h.steps) e)))
    where
      first_has : (a : Name) (rows : List (Row Name (Node X))) → first_or rows None ≡ Some a → HasName a rows
      first_has a [] e = absurd (let k : None ≡ Some a = e in cc)
      first_has a (r ∷ rows) e = inl (let k : Some r.name ≡ Some a = e in let n : a ≡ r.name = cc in n)

  -- so far: some were put into the hole, and the others are left
  pub record Growing (from : Links X) (parent before : Option Name) (h : Hole from parent before) (all left : List (Node X)) (now : Links X) (a : Name) : Type 0 where
    pub hole : Hole now parent before
    pub place : place_at hole ≡ place_at h
    pub depth : depth_at hole ≡ depth_at h
    pub putting : Putting (rows_of from) (place_at h) all left (rows_of now)
    pub first : IsFirst (rows_of from).next_serial (rows_of now) a

  pub growing_start : (from : Links X) (parent before : Option Name) (first : X) (others : List X) (now : Links X) (a : Name) → 0 < from.nodes.spare → Inserts from parent before first now a
      → (h : Hole from parent before) → Growing from parent before h (node (depth_at h) first ∷ reverse (nodes_at (depth_at h) others)) (nodes_at (depth_at h) others) now a
  growing_start from parent before first others now a room done h =
      let i = done h in let d = depth_at h in
      record {
        hole = i.hole;
        place = i.place;
        depth = i.depth;
        putting = putting_start (rows_of from) (place_at h) (node d first) (nodes_at d others) (rows_of now) a (place_live from parent before h) (hole_sound from parent before h) room i.fresh i.rows (hole_sound now parent before i.hole);
        first = first_start (rows_of from) (rows_of now) (place_at h) a (node d first) (place_live from parent before h) i.fresh i.rows;
      }

  pub growing_more : (from : Links X) (parent before : Option Name) (h : Hole from parent before) (all : List (Node X)) (left rest : List X) (now then_now : Links X) (a b : Name) (v : X)
      → Growing from parent before h all (nodes_at (depth_at h) left) now a → left ≡ rest ++ v ∷ [] → 0 < now.nodes.spare → Inserts now parent before v then_now b
      → Growing from parent before h all (nodes_at (depth_at h) rest) then_now a
  growing_more from parent before h all left rest now then_now a b v g split room done =
      let i = done g.hole in let d = depth_at h in
      let rows : rows_of then_now ≡ inserted (rows_of now) (place_at h) (row b (node d v)) = i.rows ∙ (λ j. inserted (rows_of now) (g.place j) (row b (node (g.depth j) v))) in
      let parts : nodes_at d left ≡ nodes_at d rest ++ node d v ∷ [] = ap (nodes_at d) split ∙ map-append (λ w. node d w) rest (v ∷ []) in
      let live : (c : Name) → place_at h ≡ Some c → IsLive (rows_of now) c = λ c e. place_live now parent before g.hole c (g.place ∙ e) in
      record {
        hole = i.hole;
        place = i.place ∙ g.place;
        depth = i.depth ∙ g.depth;
        putting = putting_more (rows_of from) (place_at h) all (nodes_at d left) (nodes_at d rest) (rows_of now) (rows_of then_now) b (node d v) g.putting parts room i.fresh rows (hole_sound then_now parent before i.hole);
        first = first_more (rows_of from).next_serial (rows_of now) (rows_of then_now) (place_at h) a b (node d v) live rows g.first;
      }

  -- while some are left there is room for one more
  pub growing_room : (from : Links X) (parent before : Option Name) (h : Hole from parent before) (first v : X) (others left rest : List X) (now : Links X) (a : Name)
      → Growing from parent before h (node (depth_at h) first ∷ reverse (nodes_at (depth_at h) others)) (nodes_at (depth_at h) left) now a → left ≡ rest ++ v ∷ []
      → length others < from.nodes.spare → from.nodes.next_serial + length others + 1 < 2 ^ 64 → (0 < now.nodes.spare) × (now.nodes.next_serial < 2 ^ 64 - 1)
  growing_room from parent before h first v others left rest now a g split room serials =
      let d = depth_at h in
      let count : now.nodes.spare + suc (length (reverse (nodes_at d others))) ≡ from.nodes.spare + length (nodes_at d left) = putting_count (rows_of from) (place_at h) (node d first ∷ reverse (nodes_at d others)) (nodes_at d left) (rows_of now) g.putting in
      let risen : now.nodes.next_serial + length (nodes_at d left) ≡ from.nodes.next_serial + suc (length (reverse (nodes_at d others))) = putting_serials (rows_of from) (place_at h) (node d first ∷ reverse (nodes_at d others)) (nodes_at d left) (rows_of now) g.putting in
      let all : length (reverse (nodes_at d others)) ≡ length others = length-reverse (nodes_at d others) ∙ length-map others (λ w. node d w) in
      let same : length (nodes_at d left) ≡ length left = length-map left (λ w. node d w) in
      let some : length left ≡ length rest + 1 = ap length split ∙ length-append rest (v ∷ []) in
      (omega arith, omega arith)

  pub growing_end : (from : Links X) (parent before : Option Name) (h : Hole from parent before) (all : List (Node X)) (left : List X) (now : Links X) (a : Name) → Growing from parent before h all (nodes_at (depth_at h) left) now a → left ≡ [] → PutEach from parent before h all now a
  growing_end from parent before h all left now a g none =
      let d = depth_at h in
      let empty : nodes_at d left ≡ [] = ap (nodes_at d) none in
      let count : now.nodes.spare + length all ≡ from.nodes.spare + length (nodes_at d left) = putting_count (rows_of from) (place_at h) all (nodes_at d left) (rows_of now) g.putting in
      let no_more : length (nodes_at d left) ≡ 0 = ap length empty in
      record {
        forest = is_forest now (plugged g.hole.steps g.hole.rest) g.hole.stands;
        put = putting_end (rows_of from) (place_at h) all (nodes_at d left) (rows_of now) g.putting empty;
        first = g.first;
        spare = omega (arith, count, no_more);
      }

  nodes_replicated : (d n : ℕ) (e : X) → nodes_at d (replicate n e) ≡ replicate n (node d e)
  nodes_replicated d zero e = refl
  nodes_replicated d (suc n) e = ap (λ vs. node d e ∷ vs) (nodes_replicated d n e)

  -- after slots were reserved the hole is where it was
  pub record Readied (l : Links X) (parent before : Option Name) (h : Hole l parent before) (m : Links X) (n : ℕ) : Type 0 where
    pub hole : Hole m parent before
    pub place : place_at hole ≡ place_at h
    pub depth : depth_at hole ≡ depth_at h
    pub rows : rows_of m ≡ reserved (rows_of l) n

  pub readied : (l m : Links X) (parent before : Option Name) (n : ℕ) → Reserves l n m → (h : Hole l parent before) → Readied l parent before h m n
  readied l m parent before n r h =
      let s = r (plugged h.steps h.rest) h.stands in
      record { hole = record { steps = h.steps; rest = h.rest; stands = s.stands; parent_is = h.parent_is; before_is = h.before_is }; place = refl; depth = refl; rows = s.rows }

  -- copies that were put, in the words of the rows
  pub record Copied (l : Links X) (parent before : Option Name) (h : Hole l parent before) (e : X) (n : ℕ) (m : Links X) (a : Name) : Type 0 where
    pub put : IsPut (rows_of l).rows (rows_of l).next_serial (place_at h) (replicate n (node (depth_at h) e)) (rows_of m)
    pub first : HasFirst (rows_of l).next_serial n (rows_of m) (Some a)
    pub forest : IsForest m
    pub kept : n ≤ l.nodes.spare → slots_in (rows_of m) ≡ slots_in (rows_of l)
    pub grown : slots_in (rows_of m) ≤ max (slots_in (rows_of l)) (pow8 (length (rows_of m).rows))

  pub copied : (l k m : Links X) (parent before : Option Name) (e : X) (n : ℕ) (others : List X) (a : Name) → (n ≡ 0 → ⊥) → Reserves l n k → others ≡ replicate (n - 1) e
      → ((h : Hole k parent before) → PutEach k parent before h (node (depth_at h) e ∷ reverse (nodes_at (depth_at h) others)) m a) → (h : Hole l parent before) → Copied l parent before h e n m a
  copied l k m parent before e n others a some r copies each h =
      let y = readied l k parent before n r h in let d = depth_at y.hole in
      let p = each y.hole in
      let more : nodes_at d others ≡ replicate (n - 1) (node d e) = ap (nodes_at d) copies ∙ nodes_replicated d (n - 1) e in
      let count : length (node d e ∷ reverse (nodes_at d others)) ≡ length (nodes_at d others) + 1 = let x = length-reverse (nodes_at d others) in omega arith in
      let left : m.nodes.spare + length (nodes_at d others) + 1 ≡ k.nodes.spare = let x = p.spare in omega (arith, x, count) in
      let put : IsPut (rows_of l).rows (rows_of l).next_serial (place_at y.hole) (replicate n (node d e)) (rows_of m) = copies_put (rows_of l) (rows_of k) (rows_of m) n (place_at y.hole) (node d e) (nodes_at d others) some y.rows more p.put in
      record {
        put = subst (λ z. IsPut (rows_of l).rows (rows_of l).next_serial (place_at h) (replicate n (node z e)) (rows_of m)) y.depth (subst (λ z. IsPut (rows_of l).rows (rows_of l).next_serial z (replicate n (node d e)) (rows_of m)) y.place put);
        first = first_put (rows_of l) (rows_of k) (rows_of m) n a some y.rows p.first;
        forest = p.forest;
        kept = copies_slots (rows_of l) (rows_of k) (rows_of m) n (place_at y.hole) (node d e) (nodes_at d others) some y.rows more p.put left;
        grown = copies_grown (rows_of l) (rows_of k) (rows_of m) n (place_at y.hole) (node d e) (nodes_at d others) some y.rows more p.put left;
      }

  pub enough : (l k : Links X) (parent before : Option Name) (n : ℕ) (e : X) (others : List X) → Hole l parent before → (n ≡ 0 → ⊥) → Reserves l n k → others ≡ replicate (n - 1) e → length others < k.nodes.spare
  enough l k parent before n e others h some r copies =
      let y = readied l k parent before n r h in
      let has = (reserved_enough (rows_of l) (rows_of k) n y.rows).enough in
      let count : length others ≡ n - 1 = ap length copies ∙ length-replicate (n - 1) e in
      elim (cases_eq n 0) [ inl z ↦ absurd (some z) | inr more ↦ omega arith ]

  pub next_kept : (l k : Links X) (parent before : Option Name) (n : ℕ) → Hole l parent before → Reserves l n k → k.nodes.next_serial ≡ l.nodes.next_serial
  next_kept l k parent before n h r = let y = readied l k parent before n r h in (reserved_enough (rows_of l) (rows_of k) n y.rows).next

  pub none_put : (l : Links X) (parent before : Option Name) (e : X) (n : ℕ) → n ≡ 0 → (h : Hole l parent before) → IsPut (rows_of l).rows (rows_of l).next_serial (place_at h) (replicate n (node (depth_at h) e)) (rows_of l)
  none_put l parent before e n none h = subst (λ m. IsPut (rows_of l).rows (rows_of l).next_serial (place_at h) (replicate m (node (depth_at h) e)) (rows_of l)) (sym none) (put_none (rows_of l) (place_at h) (place_live l parent before h))

  pub no_first : (next n : ℕ) (now : Chained (Node X)) → n ≡ 0 → HasFirst next n now None
  no_first next n now none = subst (λ m. HasFirst next m now None) (sym none) refl

  pub row_count : (l : Links X) → IsForest l → length (rows_of l).rows ≡ live_count l.nodes
  row_count l s = size_is 2 (forest_in l) ∙ s.count
