-- A walk in preorder backwards: where the last node is, and the one before another.
use Rattle.std.proofs.Common.{◌≡◌, ◌+◌, ◌-◌, ◌<◌, List, [], ◌∷◌, Option, Some, None, refl, sym, ap, ◌∙◌, subst, inl, arith, append-nil}
use Rattle.std.proofs.lemmas.Option.{none-some}
use Rattle.ac_base.specs.declared.name.Name.{Name}
use Rattle.ac_base.specs.Rows.{Row, row}
use Rattle.ac_pool.specs.Contents.{IsLive, live_count}
use Rattle.ac_chain.specs.ChainFields.{last_or}
use Rattle.ac_chain.proofs.Ends.{last_or-append}
use Rattle.ac_model.specs.Rows.{node}
use Rattle.ac_tree.specs.declared.links.Links.{Links}
use Rattle.ac_tree.specs.Backward.{Ends, Precedes}
use Rattle.ac_tree.specs.Forests.{Forest, bare, grove, Step, under, after, outline, last_in, or_name, plugged, parent_in, prev_in, depth_in, before_in}
use Rattle.ac_tree.specs.TreeFields.{StandsFor, forest_in, IsForest, last_of, prev_of, parent_of}
use Rattle.ac_tree.proofs.Counting.{node_depth, deeper}
use Rattle.ac_tree.proofs.Forests.{links_at, live_of, prev_has}
use Rattle.ac_tree.proofs.Looking.{at_place}
use Rattle.ac_tree.proofs.Places.{plugged_has, around_has}
use Rattle.ac_tree.proofs.Standing.{some_name}

module _ {X : Type 0} where
  -- the place of the last of the topmost rows
  record Last_place (l : Links X) (steps : List (Step X)) (t : Forest X) (a : Name) : Type 0 where
    pub up : List (Step X)
    pub at : Row Name X
    pub below : Forest X
    pub stands : StandsFor l (plugged up (grove at below bare))
    pub named : at.name ≡ a
    pub depth : depth_in up ≡ depth_in steps
    pub parent : parent_in up ≡ parent_in steps
    pub end : (o : Option Name) → last_or o (outline (depth_in steps) t) ≡ last_or (Some at.name) (outline (depth_in up + 1) below)

  last_place : (l : Links X) (steps : List (Step X)) (x : Row Name X) (below rest : Forest X) → StandsFor l (plugged steps (grove x below rest)) →
      Last_place l steps (grove x below rest) (or_name x.name (last_in rest))
  last_place l steps x below bare s = record {
    up = steps;
    at = x;
    below = below;
    stands = s;
    named = refl;
    depth = refl;
    parent = refl;
    end = λ o. ap (last_or (Some x.name)) (append-nil (outline (depth_in steps + 1) below));
  }
  last_place l steps x below (grove y c r) s =
      let k = last_place l (after x below ∷ steps) y c r s in
      let d = depth_in steps in
      record {
        up = k.up;
        at = k.at;
        below = k.below;
        stands = k.stands;
        named = k.named;
        depth = k.depth;
        parent = k.parent;
        end = λ o. last_or-append (Some x.name) (outline (d + 1) below) (outline d (grove y c r)) ∙ k.end (last_or (Some x.name) (outline (d + 1) below));
      }

  -- what is looked for is the end of a node, and so of this one
  abbrev pub Descends : Links X → Name → Name → Type 0
  Descends l a place = IsLive l.nodes place × ((result : Name) → Ends l place result → Ends l a result)

  pub descends_start : (l : Links X) (a : Name) → IsLive l.nodes a → Descends l a a
  descends_start l a live = (live, λ result e. e)

  -- a child that is the last one
  record Last_child (l : Links X) (place child : Name) : Type 0 where
    pub live : IsLive l.nodes child
    pub deep : node_depth l (Some child) ≡ node_depth l (Some place) + 1
    pub ends : (result : Name) → Ends l child result → Ends l place result

  by_below : (l : Links X) → IsForest l → (place child : Name) (steps : List (Step X)) (x : Row Name X) (below rest : Forest X) →
      StandsFor l (plugged steps (grove x below rest)) → x.name ≡ place → last_in below ≡ Some child → (result : Name) → Ends l child result →
      Some result ≡ last_or (Some x.name) (outline (depth_in steps + 1) below)
  by_below l s place child steps x bare rest h named last result e = absurd (none-some child last)
  by_below l s place child steps x (grove y c r) rest h named last result e =
      let k = last_place l (under x rest ∷ steps) y c r h in
      e k.up k.at k.below bare k.stands (k.named ∙ some_name (or_name y.name (last_in r)) child last) ∙ sym (k.end (Some x.name))

  last_child : (l : Links X) → IsForest l → (place child : Name) → IsLive l.nodes place → Some child ≡ last_of l (Some place) → Last_child l place child
  last_child l s place child live is = let k = at_place l s place live in go k.steps k.at k.below k.rest k.stands k.named
    where
      ends : (result : Name) → Ends l child result → Ends l place result
      ends result e steps x below rest h named =
          by_below l s place child steps x below rest h named
          (sym (links_at l steps x below rest h).last ∙ (ap (λ n. last_of l (Some n)) named ∙ sym is)) result e

      go : (steps : List (Step X)) (x : Row Name X) (below rest : Forest X) → StandsFor l (plugged steps (grove x below rest)) → x.name ≡ place →
          Last_child l place child
      go steps x bare rest h named =
          absurd (none-some child (sym (links_at l steps x bare rest h).last ∙ (ap (λ n. last_of l (Some n)) named ∙ sym is)))
      go steps x (grove y c r) rest h named =
          let last : last_in (grove y c r) ≡ Some child =
          sym (links_at l steps x (grove y c r) rest h).last ∙ (ap (λ n. last_of l (Some n)) named ∙ sym is) in
          let k = last_place l (under x rest ∷ steps) y c r h in
          let own : k.at.name ≡ child = k.named ∙ some_name (or_name y.name (last_in r)) child last in
          let t = grove k.at k.below bare in
          let lives : IsLive l.nodes child =
          subst (λ n. IsLive l.nodes n) own (live_of l (plugged k.up t) k.stands k.at.name (plugged_has k.up t k.at.name (inl refl))) in
          let up : parent_of l child ≡ Some place =
          ap (parent_of l) (sym own) ∙ ((links_at l k.up k.at k.below bare k.stands).parent ∙ (k.parent ∙ ap Some named)) in
          record {
            live = lives;
            deep = (deeper l s child lives).one ∙ ap (λ p. node_depth l p + 1) up;
            ends = ends;
          }

  pub descends_more : (l : Links X) → IsForest l → (a place child : Name) → Descends l a place → Some child ≡ last_of l (Some place) →
      Descends l a child
  descends_more l s a place child k is =
      let c = last_child l s place child k.0 is in (c.live, λ result e. k.1 result (c.ends result e))

  pub descends_less : (l : Links X) → IsForest l → (a place child : Name) → Descends l a place → Some child ≡ last_of l (Some place) →
      live_count l.nodes + 1 - node_depth l (Some child) < live_count l.nodes + 1 - node_depth l (Some place)
  descends_less l s a place child k is =
      let c = last_child l s place child k.0 is in
      let few = (deeper l s child c.live).few in let deep = c.deep in omega (arith, few, deep)

  -- nothing is below it
  pub descends_end : (l : Links X) (a place : Name) → Descends l a place → None ≡ last_of l (Some place) → Ends l a place
  descends_end l a place k none = k.1 place own
    where
      go : (steps : List (Step X)) (x : Row Name X) (below : Forest X) → x.name ≡ place → last_in below ≡ None →
          Some place ≡ last_or (Some x.name) (outline (depth_in steps + 1) below)
      go steps x bare named e = ap Some (sym named)
      go steps x (grove y c r) named e = absurd (none-some (or_name y.name (last_in r)) (sym e))

      own : Ends l place place
      own steps x below rest h named =
          go steps x below named (sym (links_at l steps x below rest h).last ∙ (ap (λ n. last_of l (Some n)) named ∙ sym none))

  -- The node before one

  elder_place : (l : Links X) (a elder : Name) (steps : List (Step X)) (x : Row Name X) (below rest : Forest X) →
      StandsFor l (plugged steps (grove x below rest)) → prev_in steps ≡ Some elder → (end : Name) → Ends l elder end →
      Some end ≡ last_or None (before_in steps)
  elder_place l a elder [] x below rest h e end ends = absurd (none-some elder e)
  elder_place l a elder (under y r ∷ steps) x below rest h e end ends = absurd (none-some elder e)
  elder_place l a elder (after y c ∷ steps) x below rest h e end ends =
      let d = depth_in steps in
      ends steps y c (grove x below rest) h (some_name y.name elder e)
      ∙ sym (last_or-append None (before_in steps) (row y.name (node d y.value) ∷ outline (d + 1) c))

  pub precedes_elder : (l : Links X) (a elder end : Name) → Some elder ≡ prev_of l a → Ends l elder end → Precedes l a (Some end)
  precedes_elder l a elder end is ends steps x below rest h named =
      elder_place l a elder steps x below rest h (sym (links_at l steps x below rest h).prev ∙ (ap (prev_of l) named ∙ sym is)) end ends

  pub elder_live : (l : Links X) → IsForest l → (a elder : Name) → IsLive l.nodes a → Some elder ≡ prev_of l a → IsLive l.nodes elder
  elder_live l s a elder live is =
      let k = at_place l s a live in
      let t = grove k.at k.below k.rest in
      live_of l (plugged k.steps t) k.stands elder
      (around_has k.steps t elder (prev_has k.steps elder (sym k.links.prev ∙ (ap (prev_of l) k.named ∙ sym is))))

  no_elder : (steps : List (Step X)) → prev_in steps ≡ None → parent_in steps ≡ last_or None (before_in steps)
  no_elder [] e = refl
  no_elder (under y r ∷ steps) e = sym (last_or-append None (before_in steps) (row y.name (node (depth_in steps) y.value) ∷ []))
  no_elder (after y c ∷ steps) e = absurd (none-some y.name (sym e))

  pub precedes_parent : (l : Links X) (a : Name) (up : Option Name) → None ≡ prev_of l a → up ≡ parent_of l a → Precedes l a up
  precedes_parent l a up none is steps x below rest h named =
      let k = links_at l steps x below rest h in
      is ∙ (ap (parent_of l) (sym named) ∙ (k.parent ∙ no_elder steps (sym k.prev ∙ (ap (prev_of l) named ∙ sym none))))

  -- The last of all

  pub last_live : (l : Links X) → IsForest l → (name : Name) → Some name ≡ last_of l None → IsLive l.nodes name
  last_live l s name is = go (forest_in l) s
    where
      go : (t : Forest X) → StandsFor l t → IsLive l.nodes name
      go bare h = absurd (none-some name (sym h.framed.1 ∙ sym is))
      go (grove y c r) h =
          let k = last_place l [] y c r h in
          let own : k.at.name ≡ name = k.named ∙ some_name (or_name y.name (last_in r)) name (sym h.framed.1 ∙ sym is) in
          let t = grove k.at k.below bare in
          subst (λ n. IsLive l.nodes n) own (live_of l (plugged k.up t) k.stands k.at.name (plugged_has k.up t k.at.name (inl refl)))

  pub last_end : (l : Links X) → IsForest l → (name end : Name) → Some name ≡ last_of l None → Ends l name end →
      Some end ≡ last_or None (outline 2 (forest_in l))
  last_end l s name end is ends = go (forest_in l) s
    where
      go : (t : Forest X) → StandsFor l t → Some end ≡ last_or None (outline 2 t)
      go bare h = absurd (none-some name (sym h.framed.1 ∙ sym is))
      go (grove y c r) h =
          let k = last_place l [] y c r h in
          ends k.up k.at k.below bare k.stands (k.named ∙ some_name (or_name y.name (last_in r)) name (sym h.framed.1 ∙ sym is)) ∙ sym (k.end None)

  pub last_none : (l : Links X) → IsForest l → None ≡ last_of l None → None ≡ last_or None (outline 2 (forest_in l))
  last_none l s none = go (forest_in l) s
    where
      go : (t : Forest X) → StandsFor l t → None ≡ last_or None (outline 2 t)
      go bare h = refl
      go (grove y c r) h = absurd (none-some (or_name y.name (last_in r)) (none ∙ h.framed.1))
