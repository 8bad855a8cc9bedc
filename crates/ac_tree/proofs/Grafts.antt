-- Values that are put as a forest below a node, in preorder, each at its depth.
use Rattle.std.proofs.Common.{◌≡◌, ℕ, suc, ◌+◌, ◌-◌, ◌<◌, ◌≤◌, ◌^◌, true, true≢false, List, [], ◌∷◌, ◌++◌, length, reverse, Option, Some, None, refl, sym, ap, ◌∙◌, subst, inl, inr, arith, append-nil, append_assoc, eqb-true, eq-eqb}
use Rattle.std.specs.Prelude.{◌==◌, nat_le, map, if◌then◌else◌}
use Rattle.std.proofs.lemmas.Bool.{leb-true, cases_Bool, cases_eq, cond-true, cond-false}
use Rattle.std.proofs.lemmas.List.{length-append, length-map, reverse-append, length-reverse}
use Rattle.ac_base.specs.declared.name.Name.{Name}
use Rattle.ac_base.specs.Rows.{Row, row}
use Rattle.ac_pool.specs.Contents.{live_count}
use Rattle.ac_chain.specs.Rows as chain
use Rattle.ac_chain.specs.Rows.{Chained, IsFresh, inserted}
use Rattle.ac_chain.specs.ChainFields.{first_or}
use Rattle.ac_chain.specs.Put.{IsPut, HasFirst, HasGrown}
use Rattle.ac_chain.proofs.Puts.{put_none, put_one, put_length, first_start, first_more, reserved_put, reserved_enough, reserved_grown}
use Rattle.ac_model.specs.Rows.{Node, node}
use Rattle.ac_model.specs.Objects.{plains}
use Rattle.ac_model.specs.Outline.{follows, depths}
use Rattle.ac_model.proofs.Depths.{AllFrom}
use Rattle.ac_tree.specs.declared.copying.Leveled.{Leveled}
use Rattle.ac_tree.specs.declared.links.Links.{Links}
use Rattle.ac_tree.specs.Copying.{in_node, nodes_in, levels_in, up_of, raised_by, IsForestOf, HoleAt, Grafted, Planted}
use Rattle.ac_tree.specs.Forests.{Forest, bare, grove, Step, under, after, or_name, outline, first_in, plugged, parent_in, depth_in, after_in}
use Rattle.ac_tree.specs.Inserting.{Hole, place_at, depth_at, Inserts, Reserves}
use Rattle.ac_tree.specs.TreeFields.{StandsFor}
use Rattle.ac_tree.specs.TreeRows.{rows_of}
use Rattle.ac_tree.proofs.Forests.{is_forest, links_at}
use Rattle.ac_tree.proofs.Following.{plugged-append}
use Rattle.ac_tree.proofs.Counting.{depth_size, depth_low}
use Rattle.ac_tree.proofs.Outlines.{outline_follows, all_from}
use Rattle.ac_tree.proofs.Assigning.{levels_are, depths_are}
use Rattle.ac_tree.proofs.Putting.{place_live, hole_sound, readied}
use Rattle.ac_tree.proofs.Refilling.{Ending, raised_ends, more, and_parts}

module _ {X : Type 0} where
  -- no higher than the place from which it goes down
  lower : (inner outer : List (Step X)) → depth_in outer ≤ depth_in (inner ++ outer)
  lower [] outer = omega arith
  lower (under x rest ∷ inner) outer = let up = lower inner outer in omega (arith, up)
  lower (after x below ∷ inner) outer = lower inner outer

  -- places of one depth, of which one is below the other's parent, have one parent
  level_parent : (inner outer : List (Step X)) → depth_in (inner ++ outer) ≡ depth_in outer → parent_in (inner ++ outer) ≡ parent_in outer
  level_parent [] outer e = refl
  level_parent (under x rest ∷ inner) outer e = absurd (let up = lower inner outer in omega (arith, up, e))
  level_parent (after x below ∷ inner) outer e = level_parent inner outer e

  -- the depths of a forest's values
  forest_levels : (depth : ℕ) (items : List (Leveled X)) (f : IsForestOf depth items) → levels_in (reverse items) ≡ depths (plains (outline depth f.forest))
  forest_levels depth items f = levels_are (reverse items) ∙ ap (map (λ (n : Node X). n.depth)) f.nodes ∙ depths_are (outline depth f.forest)

module _ {X : Type 0} (l : Links X) (parent before : Option Name) (h : Hole l parent before) (all : List (Leveled X)) where
  -- some of the topmost are put, the last of them this one, and the node is below it or is it
  pub record Topped (m : Links X) (node_name : Option Name) (depth : ℕ) : Type 0 where
    pub top : Row Name X
    pub rest : Forest X
    pub steps : List (Step X)
    pub level : depth_in steps ≡ depth_at h
    pub parent_is : parent ≡ parent_in steps
    pub before_is : before ≡ first_in rest
    pub behind : first_or (outline (depth_in steps) rest ++ after_in steps) None ≡ place_at h
    pub ending : Ending m (under top rest ∷ steps) node_name depth

  -- a place for another of the topmost, which is so many levels up from the node
  pub record Level (m : Links X) (node_name : Option Name) (depth : ℕ) : Type 0 where
    pub hole : Hole m parent before
    pub place : place_at hole ≡ place_at h
    pub deep : depth_at hole ≡ depth_at h
    pub up : raised_by m ((depth + 1) - depth_at h) node_name ≡ parent
    pub low : depth_at h ≤ depth + 1
    pub small : depth ≤ live_count m.nodes + 1
    pub topped : depth_at h ≤ depth → Topped m node_name depth

  leveled : (m : Links X) (o : Option Name) (depth : ℕ) → Topped m o depth → Level m o depth
  leveled m o depth k =
      let outer = under k.top k.rest ∷ k.steps in let e = k.ending in let part = plugged e.inner bare in
      let stands : StandsFor m (plugged k.steps (grove k.top part k.rest)) = subst (λ z. StandsFor m z) (plugged-append e.inner outer bare) e.stands in
      let is = e.depth_is in let over = lower e.inner outer in let level = k.level in let most = depth_size (e.inner ++ outer) bare in let count = e.stands.count in
      let many : (depth + 1) - depth_at h ≡ suc (depth - depth_at h) = omega (arith, is, over, level) in
      let sum : depth ≡ depth_at h + (depth - depth_at h) = omega (arith, is, over, level) in
      let top = raised_ends m outer o (depth - depth_at h) (depth_at h) (omega (arith, level)) (subst (λ d. Ending m outer o d) sum e) in
      let at = top.depth_is in
      let here : raised_by m (depth - depth_at h) o ≡ Some k.top.name = sym top.parent_is ∙ level_parent top.inner outer (omega (arith, at, level)) in
      record {
        hole = record { steps = after k.top part ∷ k.steps; rest = k.rest; stands = stands; parent_is = k.parent_is; before_is = k.before_is };
        place = k.behind;
        deep = k.level;
        up = ap (λ n. raised_by m n o) many ∙ ap (up_of m) here ∙ (links_at m k.steps k.top part k.rest stands).parent ∙ sym k.parent_is;
        low = omega (arith, is, over, level);
        small = omega (arith, is, most, count);
        topped = λ _. k;
      }

  -- so far: these values are put, and those on the stack are still to come
  pub record Grafting (m : Links X) (node_name : Option Name) (depth : ℕ) (made : Option Name) (left : List (Leveled X)) : Type 0 where
    pub level : Level m node_name depth
    pub legal : follows depth (levels_in (reverse left)) ≡ true
    pub deep : AllFrom (depth_at h) (levels_in (reverse left))
    pub done : List (Node X)
    pub put : IsPut (rows_of l).rows (rows_of l).next_serial (place_at h) done (rows_of m)
    pub first : HasFirst (rows_of l).next_serial (length done) (rows_of m) made
    pub whole : done ++ nodes_in (reverse left) ≡ nodes_in (reverse all)
    pub spare : m.nodes.spare + length done ≡ l.nodes.spare

  pub graft_start : (first : ℕ) → depth_at h ≡ first → IsForestOf first all → Grafting l parent (first - 1) None all
  graft_start first is f =
      let low = depth_low h.steps in let levels = forest_levels first all f in let most = depth_size h.steps h.rest in let count = h.stands.count in
      let none : (first - 1 + 1) - depth_at h ≡ 0 = omega (arith, is, low) in
      record {
        level = record { hole = h; place = refl; deep = refl; up = ap (λ n. raised_by l n parent) none; low = omega (arith, is, low); small = omega (arith, is, most, count); topped = λ le. absurd (omega (arith, le, is, low)) };
        legal = ap (follows (first - 1)) levels ∙ outline_follows (first - 1) first f.forest (omega (arith, is, low)) (omega (arith, is, low));
        deep = subst (λ ds. AllFrom (depth_at h) ds) (sym levels) (all_from (depth_at h) first f.forest (omega (arith, is)));
        done = [];
        put = put_none (rows_of l) (place_at h) (place_live l parent before h);
        first = refl;
        whole = refl;
        spare = omega arith;
      }

  -- the value that comes off the stack
  record Off (depth : ℕ) (v : Leveled X) (rest left : List (Leveled X)) : Type 0 where
    pub turned : reverse left ≡ v ∷ reverse rest
    pub low : depth_at h ≤ v.depth
    pub few : v.depth ≤ depth + 1
    pub legal : follows v.depth (levels_in (reverse rest)) ≡ true
    pub deep : AllFrom (depth_at h) (levels_in (reverse rest))

  -- the row that is put
  record Next (m now : Links X) (v : Leveled X) (a : Name) : Type 0 where
    pub topped : Topped now (Some a) v.depth
    pub rows : rows_of now ≡ inserted (rows_of m) (place_at h) (row a (in_node v))
    pub fresh : IsFresh (rows_of m) a

  module _ (m : Links X) (o : Option Name) (depth : ℕ) (made : Option Name) (left rest : List (Leveled X)) (v : Leveled X) (k : Grafting m o depth made left) (split : left ≡ rest ++ v ∷ []) where
    off : Off depth v rest left
    off =
        let turned : reverse left ≡ v ∷ reverse rest = ap reverse split ∙ reverse-append rest (v ∷ []) in
        let parts = and_parts (nat_le 2 v.depth) (nat_le v.depth (depth + 1)) (follows v.depth (levels_in (reverse rest))) (ap (λ z. follows depth (levels_in z)) (sym turned) ∙ k.legal) in
        let deep : AllFrom (depth_at h) (levels_in (v ∷ reverse rest)) = subst (λ z. AllFrom (depth_at h) (levels_in z)) turned k.deep in
        record { turned = turned; low = deep.0; few = leb-true v.depth (depth + 1) parts.1; legal = parts.2; deep = deep.1 }

    pub graft_few : v.depth ≤ depth + 1
    graft_few = off.few

    pub graft_small : depth ≤ live_count m.nodes + 1
    graft_small = k.level.small

    pub graft_room : length all ≤ l.nodes.spare → l.nodes.next_serial + length all < 2 ^ 64 → (0 < m.nodes.spare) × (m.nodes.next_serial < 2 ^ 64 - 1)
    graft_room room serials =
        let spare = k.spare in let next = k.put.risen in
        let some = ap length split in let one = length-append rest (v ∷ []) in
        let whole = ap length k.whole in let both = length-append k.done (nodes_in (reverse left)) in
        let a = length-map (reverse left) in_node in let b = length-reverse left in let c = length-map (reverse all) in_node in let d = length-reverse all in
        (omega (arith, spare, some, one, whole, both, a, b, c, d, room), omega (arith, next, some, one, whole, both, a, b, c, d, serials))

    -- another of the topmost
    beside_top : (now : Links X) (a : Name) → depth_at h ≡ v.depth → Inserts m parent before v.value now a → Next m now v a
    beside_top now a is ins =
        let w = k.level.hole in let i = ins w in let deep = k.level.deep in
        record {
          topped = record {
            top = row a v.value;
            rest = w.rest;
            steps = w.steps;
            level = deep;
            parent_is = w.parent_is;
            before_is = w.before_is;
            behind = k.level.place;
            ending = record { inner = []; stands = i.stands; tail = tt; parent_is = refl; depth_is = omega (arith, is, deep) };
          };
          rows = i.rows ∙ (λ j. inserted (rows_of m) (k.level.place j) (row a (node ((deep ∙ is) j) v.value)));
          fresh = i.fresh;
        }

    -- one below the topmost
    below_top : (now : Links X) (above : Option Name) (a : Name) → depth_at h < v.depth → above ≡ raised_by m ((depth + 1) - v.depth) o → Inserts m above None v.value now a → Next m now v a
    below_top now above a over up ins =
        let few = off.few in let t = k.level.topped (omega (arith, over, few)) in let outer = under t.top t.rest ∷ t.steps in let level = t.level in
        let sum : depth ≡ (v.depth - 1) + ((depth + 1) - v.depth) = omega (arith, over, few) in
        let place : Ending m outer above (v.depth - 1) =
        subst (λ p. Ending m outer p (v.depth - 1)) (sym up) (raised_ends m outer o ((depth + 1) - v.depth) (v.depth - 1) (omega (arith, over, level)) (subst (λ z. Ending m outer o z) sum t.ending)) in
        let w = more m now outer above (v.depth - 1) v.value a place ins in
        let deep : (v.depth - 1) + 1 ≡ v.depth = omega (arith, over) in
        record {
          topped = record {
            top = t.top;
            rest = t.rest;
            steps = t.steps;
            level = t.level;
            parent_is = t.parent_is;
            before_is = t.before_is;
            behind = t.behind;
            ending = subst (λ d. Ending now outer (Some a) d) deep w.ending;
          };
          rows = w.rows ∙ (λ j. inserted (rows_of m) (t.behind j) (row a (node (deep j) v.value)));
          fresh = w.fresh;
        }

    next_row : (now : Links X) (first : ℕ) → depth_at h ≡ first → (above next : Option Name) (a : Name) → above ≡ raised_by m ((depth + 1) - v.depth) o → next ≡ (if v.depth == first then before else None) → Inserts m above next v.value now a → Next m now v a
    next_row now first is above next a up at ins = elim (cases_Bool (v.depth == first)) [
      | inl t ↦
          let same : v.depth ≡ first = eqb-true v.depth first t in
          let top : above ≡ parent = up ∙ ap (λ d. raised_by m ((depth + 1) - d) o) (same ∙ sym is) ∙ k.level.up in
          beside_top now a (is ∙ sym same) (subst (λ p. Inserts m p before v.value now a) top (subst (λ b. Inserts m above b v.value now a) (at ∙ cond-true _ _ _ t) ins))
      | inr f ↦
          let low = off.low in
          let over : depth_at h < v.depth = elim (cases_eq v.depth first) [ inl e ↦ absurd (true≢false (sym (eq-eqb v.depth first e) ∙ f)) | inr ne ↦ omega (arith, low, is, ne) ] in
          below_top now above a over up (subst (λ b. Inserts m above b v.value now a) (at ∙ cond-false _ _ _ f) ins)
    ]

    pub graft_more : (now : Links X) (first : ℕ) → depth_at h ≡ first → (above next : Option Name) (a : Name) → above ≡ raised_by m ((depth + 1) - v.depth) o → next ≡ (if v.depth == first then before else None) → Inserts m above next v.value now a
        → (since : Option Name) → since ≡ Some (or_name a made) → 0 < m.nodes.spare → Grafting now (Some a) v.depth since rest
    graft_more now first is above next a up at ins since made_is room =
        let x = off in let w = next_row now first is above next a up at ins in
        let spare = k.spare in let less = ap (λ (c : Chained (Node X)). c.spare) w.rows in let longer = length-append k.done (in_node v ∷ []) in
        record {
          level = leveled now (Some a) v.depth w.topped;
          legal = x.legal;
          deep = x.deep;
          done = k.done ++ in_node v ∷ [];
          put = put_one (rows_of l).rows (rows_of l).next_serial (place_at h) k.done (rows_of m) (rows_of now) a (in_node v) (hole_sound m parent before k.level.hole) k.put w.fresh w.rows;
          first = subst (λ z. HasFirst (rows_of l).next_serial (length (k.done ++ in_node v ∷ [])) (rows_of now) z) (sym made_is) (first_name k.done made k.first k.put.risen w);
          whole = append_assoc k.done (in_node v ∷ []) (nodes_in (reverse rest)) ∙ ap (λ z. k.done ++ nodes_in z) (sym x.turned) ∙ k.whole;
          spare = omega (arith, spare, less, longer, room);
        }
      where
        lives : (b : Name) → place_at h ≡ Some b → chain.IsLive (rows_of m) b
        lives b e = place_live m parent before k.level.hole b (k.level.place ∙ e)

        first_name : (done : List (Node X)) (made : Option Name) → HasFirst (rows_of l).next_serial (length done) (rows_of m) made → (rows_of m).next_serial ≡ (rows_of l).next_serial + length done → Next m now v a
            → HasFirst (rows_of l).next_serial (length (done ++ in_node v ∷ [])) (rows_of now) (Some (or_name a made))
        first_name [] made none risen w =
            let start = first_start (rows_of m) (rows_of now) (place_at h) a (in_node v) lives w.fresh w.rows in
            let same : (rows_of m).next_serial ≡ (rows_of l).next_serial = omega (arith, risen) in
            subst (λ z. HasFirst (rows_of l).next_serial 1 (rows_of now) (Some (or_name a z))) (sym none) (subst (λ n. HasFirst n 1 (rows_of now) (Some a)) same start)
        first_name (d ∷ done) None has risen w = absurd has
        first_name (d ∷ done) (Some b) has risen w = first_more (rows_of l).next_serial (rows_of m) (rows_of now) (place_at h) b a (in_node v) lives w.rows has

  pub graft_end : (m : Links X) (o : Option Name) (depth : ℕ) (made : Option Name) (left : List (Leveled X)) → Grafting m o depth made left → left ≡ [] → Grafted l parent before h (nodes_in (reverse all)) m made
  graft_end m o depth made left k none =
      let whole : k.done ≡ nodes_in (reverse all) = sym (append-nil k.done) ∙ ap (λ z. k.done ++ nodes_in (reverse z)) (sym none) ∙ k.whole in
      record {
        forest = is_forest m (plugged k.level.hole.steps k.level.hole.rest) k.level.hole.stands;
        put = subst (λ vs. IsPut (rows_of l).rows (rows_of l).next_serial (place_at h) vs (rows_of m)) whole k.put;
        first = subst (λ (vs : List (Node X)). HasFirst (rows_of l).next_serial (length vs) (rows_of m) made) whole k.first;
        spare = subst (λ (vs : List (Node X)). m.nodes.spare + length vs ≡ l.nodes.spare) whole k.spare;
      }

module _ {X : Type 0} (l k : Links X) (parent before : Option Name) (n first : ℕ) (items : List (Leveled X)) (r : Reserves l n k) (count : n ≡ length items) where
  pub graft_fits : Hole l parent before → (length items ≤ k.nodes.spare) × (k.nodes.next_serial ≡ l.nodes.next_serial)
  graft_fits h =
      let e = reserved_enough (rows_of l) (rows_of k) n (readied l k parent before n r h).rows in let enough = e.enough in
      (omega (arith, enough, count), e.next)

  -- the place in which the nodes go is the same after memory was taken
  pub hole_ready : HoleAt l parent before first → HoleAt k parent before first
  hole_ready h = let y = readied l k parent before n r h.hole in record { hole = y.hole; deep = y.depth ∙ h.deep }

  pub planted : (m : Links X) (made : Option Name) → ((h : Hole k parent before) → depth_at h ≡ first → Grafted k parent before h (nodes_in (reverse items)) m made) → (h : Hole l parent before) → depth_at h ≡ first
      → Planted l parent before h (nodes_in (reverse items)) m made
  planted m made each h is =
      let y = readied l k parent before n r h in let g = each y.hole (y.depth ∙ is) in let vs = nodes_in (reverse items) in
      let e = reserved_enough (rows_of l) (rows_of k) n y.rows in
      let put : IsPut (rows_of l).rows (rows_of l).next_serial (place_at h) vs (rows_of m) =
      subst (λ z. IsPut (rows_of l).rows (rows_of l).next_serial z vs (rows_of m)) y.place (reserved_put (rows_of l) (rows_of k) (rows_of m) n (place_at y.hole) vs y.rows g.put) in
      let longer = put_length (rows_of k).rows (rows_of k).next_serial (place_at y.hole) vs (rows_of m) g.put in
      let spare = g.spare in let long : length vs ≡ n = length-map (reverse items) in_node ∙ length-reverse items ∙ sym count in
      let more = put_length (rows_of l).rows (rows_of l).next_serial (place_at h) vs (rows_of m) put in
      record {
        put = put;
        first = subst (λ z. HasFirst z (length vs) (rows_of m) made) e.next g.first;
        grown = subst (λ z. HasGrown (rows_of l) z (rows_of m)) (sym long) (reserved_grown (rows_of l) (rows_of k) (rows_of m) n y.rows (omega (arith, more, long)) (omega (arith, longer, spare)));
      }
