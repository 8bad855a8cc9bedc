-- Where a node goes with all below it, once it is gone from where it stood: the place among the links is that among the rows.
use Rattle.std.proofs.Common.{◌≡◌, ℕ, ◌+◌, ◌⊎◌, List, [], ◌∷◌, ◌++◌, length, Option, Some, None, refl, sym, ap, ◌∙◌, subst, inl, inr, arith}
use Rattle.std.specs.Option.{ForSome, option_map}
use Rattle.std.proofs.lemmas.List.{length-append}
use Rattle.ac_base.specs.declared.name.Name.{Name}
use Rattle.ac_base.specs.Rows.{Row, row}
use Rattle.ac_pool.specs.Contents.{Contents, value_of, IsLive, IsSound}
use Rattle.ac_pool.specs.Link.{link_of, name_in}
use Rattle.ac_pool.proofs.NameLaws.{cases_name}
use Rattle.ac_pool.proofs.SlotNames.{linked_name}
use Rattle.ac_model.specs.Rows.{Node, node, place_of}
use Rattle.ac_model.specs.Objects.{plains}
use Rattle.ac_model.specs.Outline.{depth_of, run_of, run_start}
use Rattle.ac_tree.specs.declared.links.TreeNode.{TreeNode}
use Rattle.ac_tree.specs.declared.links.Links.{Links}
use Rattle.ac_tree.specs.Forests.{Forest, bare, grove, Step, under, outline, size, first_in, Has, Once, plugged, parent_in, prev_in, depth_in, before_in}
use Rattle.ac_tree.specs.TreeCursors.{serial_in}
use Rattle.ac_tree.specs.TreeFields.{StandsFor, IsForest, parent_link, parent_of, first_put, last_put, prev_put, next_put, written_at, with_next, with_prev, closed}
use Rattle.ac_tree.proofs.Places.{Place, placed, plugged_has, around_has, plugged_either, size_is, to_end, plugged_end, parent_end}
use Rattle.ac_tree.proofs.Writes.{Keeps, writes}
use Rattle.ac_tree.proofs.Standing.{Open, opened}
use Rattle.ac_tree.proofs.Forests.{live_of, is_forest, links_at, parent_has}
use Rattle.ac_tree.proofs.Following.{plugged-append, parent_top, parent_within}
use Rattle.ac_tree.proofs.Outlines.{AllAlone, parent_spot, parent_depth, parent_position, family, position_depth, position_run, root_position, node_position, root_start, node_start}
use Rattle.ac_tree.proofs.Looking.{alone_in, all_alone_in, parent_serial, at_place}
use Rattle.ac_tree.proofs.Holes.{before_end, place_at_place, length_seen}
use Rattle.ac_tree.proofs.Splices.{around_live, cut_open, cut_keeps, left_once}

module _ {X : Type 0} where
  mapped_parent : (w : TreeNode X → TreeNode X) → ((n : TreeNode X) → (w n).parent ≡ n.parent) → (o : Option (TreeNode X)) → parent_link (option_map w o) ≡ parent_link o
  mapped_parent w same None = refl
  mapped_parent w same (Some n) = same n

  written_parent : (c : Contents (TreeNode X)) (b : Name) (w : TreeNode X → TreeNode X) → ((n : TreeNode X) → (w n).parent ≡ n.parent) → (a : Name) → parent_link (value_of (written_at c b w) a) ≡ parent_link (value_of c a)
  written_parent c b w same a = elim (cases_name a b) [
    | inl e ↦ ap (λ k. parent_link (value_of (written_at c b w) k)) e ∙ ap parent_link (writes c b w).here ∙ mapped_parent w same (value_of c b) ∙ sym (ap (λ k. parent_link (value_of c k)) e)
    | inr ne ↦ ap parent_link ((writes c b w).there a ne)
  ]

  next_parent : (l : Links X) (p q to : Option Name) (a : Name) → parent_link (value_of (with_next l p q to).nodes a) ≡ parent_link (value_of l.nodes a)
  unfolding with_next
  next_parent l p (Some q) to a = written_parent l.nodes q (next_put to) (λ n. refl) a
  next_parent l (Some p) None to a = written_parent l.nodes p (first_put to) (λ n. refl) a
  next_parent l None None to a = refl

  prev_parent : (l : Links X) (p q to : Option Name) (a : Name) → parent_link (value_of (with_prev l p q to).nodes a) ≡ parent_link (value_of l.nodes a)
  unfolding with_prev
  prev_parent l p (Some q) to a = written_parent l.nodes q (prev_put to) (λ n. refl) a
  prev_parent l (Some p) None to a = written_parent l.nodes p (last_put to) (λ n. refl) a
  prev_parent l None None to a = refl

  -- nodes keep their parents where another one is cut off
  pub closed_parent : (l : Links X) (p q n : Option Name) (a : Name) → parent_link (value_of (closed l p q n).nodes a) ≡ parent_link (value_of l.nodes a)
  closed_parent l p q n a = prev_parent (with_next l p q n) p n q a ∙ next_parent l p q n a

  -- the place of children among rows
  abbrev pub row_place : List (Row ℕ (Node X)) → Option Name → Option Name → ℕ
  row_place rows parent None = run_start rows (serial_in parent) + length (run_of rows (serial_in parent))
  row_place rows parent (Some b) = place_of rows b.serial

  -- a place for children in a forest
  pub record New_place (whole : Forest X) (parent before : Option Name) : Type 0 where
    pub to : List (Step X)
    pub rest : Forest X
    pub same : plugged to rest ≡ whole
    pub parent_is : parent ≡ parent_in to
    pub before_is : before ≡ first_in rest
    pub place : row_place (plains (outline 2 whole)) parent before ≡ length (before_in to)
    pub depth : depth_of (plains (outline 2 whole)) (serial_in parent) + 1 ≡ depth_in to

  depth_above : (steps : List (Step X)) (t : Forest X) → AllAlone steps → depth_of (plains (outline 2 (plugged steps t))) (serial_in (parent_in steps)) + 1 ≡ depth_in steps
  depth_above steps t all =
      let rows = outline 2 (plugged steps t) in let sp = parent_spot steps in
      ap (λ n. depth_of (plains rows) n + 1) (sym (parent_serial steps)) ∙ ap (λ d. d + 1) (position_depth rows sp.name sp.depth (family steps t) (parent_position steps t all)) ∙ sym (parent_depth steps)

  module _ (c : Contents (TreeNode X)) (sound : IsSound c) (whole : Forest X) (once : Once whole) (lives : (a : Name) → Has a whole → IsLive c a) where
    made : (to : List (Step X)) (rest : Forest X) (parent before : Option Name) → plugged to rest ≡ whole → parent ≡ parent_in to → before ≡ first_in rest → row_place (plains (outline 2 whole)) parent before ≡ length (before_in to) → New_place whole parent before
    made to rest parent before same pe be place = record {
      to = to;
      rest = rest;
      same = same;
      parent_is = pe;
      before_is = be;
      place = place;
      depth = ap (λ p. depth_of (plains (outline 2 whole)) (serial_in p) + 1) pe ∙ ap (λ z. depth_of (plains (outline 2 z)) (serial_in (parent_in to)) + 1) (sym same)
          ∙ depth_above to rest (all_alone_in c sound to rest (subst (λ z. Once z) (sym same) once) (λ a h. lives a (subst (λ z. Has a z) same h)));
    }

    pub root_end : New_place whole None None
    root_end =
        let run : length (run_of (plains (outline 2 whole)) 0) ≡ size whole = ap length (position_run (outline 2 whole) 0 1 whole (root_position whole)) ∙ length_seen (outline 2 whole) ∙ size_is 2 whole in
        let start = root_start whole in let end = before_end [] whole in
        made (to_end [] whole) bare None None (plugged_end [] whole) (sym (parent_end [] whole)) refl (omega (arith, start, run, end))

    pub node_end : (a : Name) → Has a whole → New_place whole (Some a) None
    node_end a h =
        let p = placed a [] whole h in let t = grove p.at p.below p.rest in
        let up = under p.at p.rest ∷ p.steps in let d = depth_in p.steps in let rows = outline 2 (plugged p.steps t) in let n = p.at.name.serial in
        let alone = alone_in c sound p.steps p.at p.below p.rest (subst (λ z. Once z) (sym p.is) once) (λ b k. lives b (subst (λ z. Has b z) p.is k)) in
        let back : row_place (plains (outline 2 whole)) (Some a) None ≡ run_start (plains rows) n + length (run_of (plains rows) n) = λ i. row_place (plains (outline 2 (sym p.is i))) (Some (sym p.named i)) None in
        let start = node_start p.steps p.at p.below p.rest alone in
        let run : length (run_of (plains rows) n) ≡ size p.below =
        ap length (position_run rows n d p.below (node_position p.steps p.at p.below p.rest alone)) ∙ length_seen (outline (d + 1) p.below) ∙ size_is (d + 1) p.below in
        let end = before_end up p.below in let front = length-append (before_in p.steps) (row p.at.name (node d p.at.value) ∷ []) in
        made (to_end up p.below) bare (Some a) None (plugged_end up p.below ∙ p.is) (sym (parent_end up p.below ∙ ap Some p.named)) refl (omega (arith, back, start, run, end, front))

    pub before_node : (parent : Option Name) (b : Name) (p : Place b whole) → parent_in p.steps ≡ parent → New_place whole parent (Some b)
    before_node parent b p up =
        let alone = alone_in c sound p.steps p.at p.below p.rest (subst (λ z. Once z) (sym p.is) once) (λ a k. lives a (subst (λ z. Has a z) p.is k)) in
        made p.steps (grove p.at p.below p.rest) parent (Some b) p.is (sym up) (ap Some (sym p.named))
        ((λ i. place_of (plains (outline 2 (sym p.is i))) (sym p.named i).serial) ∙ place_at_place p.steps p.at p.below p.rest alone)

  -- nodes that are left keep their parents where others are cut off
  pub parent_kept : (l : Links X) → IsForest l → (d : Links X) (whole : Forest X) → Open d [] whole → Keeps l.nodes d.nodes → ((a : Name) → parent_link (value_of d.nodes a) ≡ parent_link (value_of l.nodes a))
      → (b : Name) → IsLive l.nodes b → (k : Place b whole) → parent_in k.steps ≡ parent_of l b
  parent_kept l s d whole cut keeps parents b live k =
      let t = grove k.at k.below k.rest in
      let o : Open d [] (plugged k.steps t) = subst (λ z. Open d [] z) (sym k.is) cut in
      let m = at_place l s b live in
      let link : link_of (parent_in k.steps) ≡ link_of (parent_in m.steps) =
      sym (ap parent_link (opened d k.steps t o).stands.0) ∙ parents k.at.name
      ∙ ap (λ n. parent_link (value_of l.nodes n)) (k.named ∙ sym m.named) ∙ ap parent_link m.links.node in
      sym (linked_name d.nodes (keeps.sound s.sound) (parent_in k.steps) (λ a e. around_live d k.steps t o a (parent_has k.steps a e)))
      ∙ ap (name_in d.nodes) link
      ∙ linked_name d.nodes (keeps.sound s.sound) (parent_in m.steps) (λ a e. keeps.live a ∙ live_of l (plugged m.steps (grove m.at m.below m.rest)) m.stands a (around_has m.steps (grove m.at m.below m.rest) a (parent_has m.steps a e)))
      ∙ sym m.links.parent ∙ ap (parent_of l) m.named

  module _ (l : Links X) (from : List (Step X)) (x : Row Name X) (below rest : Forest X) (s : StandsFor l (plugged from (grove x below rest))) where
    -- the node that goes, or one below it
    abbrev pub Goes : Name → Type 0
    Goes a = (a ≡ x.name) ⊎ Has a below

    pub still_has : (a : Name) → Has a (plugged from rest) → Has a (plugged from (grove x below rest))
    still_has a h = elim (plugged_either from rest a h) [ inl r ↦ plugged_has from (grove x below rest) a (inr (inr r)) | inr m ↦ around_has from (grove x below rest) a m ]

    left_has : (a : Name) → IsLive l.nodes a → (Goes a → ⊥) → Has a (plugged from rest)
    left_has a live out = elim (plugged_either from (grove x below rest) a (s.all a live)) [
      | inl z ↦ elim z [ inl e ↦ absurd (out (inl e)) | inr q ↦ elim q [ inl b ↦ absurd (out (inr b)) | inr r ↦ plugged_has from rest a r ] ]
      | inr m ↦ around_has from rest a m
    ]

    -- the parent of a node that is below goes with it
    below_up : (b : Name) → Has b below → (p : Option Name) → parent_of l b ≡ p → (q : Name) × (p ≡ Some q) × Goes q
    below_up b h p up =
        let k = placed b [] below h in let outer = under x rest ∷ from in let t = grove k.at k.below k.rest in
        let inside : StandsFor l (plugged (k.steps ++ outer) t) = subst (λ z. StandsFor l z) (sym (plugged-append k.steps outer t ∙ ap (plugged outer) k.is)) s in
        by_parent k (parent_in k.steps) refl (sym up ∙ ap (parent_of l) (sym k.named) ∙ (links_at l (k.steps ++ outer) k.at k.below k.rest inside).parent)
      where
        by_parent : (k : Place b below) (o : Option Name) → parent_in k.steps ≡ o → p ≡ parent_in (k.steps ++ under x rest ∷ from) → (q : Name) × (p ≡ Some q) × Goes q
        by_parent k None e lead = (x.name, lead ∙ parent_top k.steps (under x rest ∷ from) e, inl refl)
        by_parent k (Some q) e lead = (q, lead ∙ parent_within k.steps (under x rest ∷ from) q e, inr (subst (λ z. Has q z) k.is (around_has k.steps (grove k.at k.below k.rest) q (parent_has k.steps q e))))

    -- a node that stays keeps its parent
    parent_left : (b : Name) → IsLive l.nodes b → (k : Place b (plugged from rest)) → parent_in k.steps ≡ parent_of l b
    parent_left b live k =
        parent_kept l (is_forest l (plugged from (grove x below rest)) s) (closed l (parent_in from) (prev_in from) (first_in rest)) (plugged from rest) (cut_open l from from x below rest rest s refl) (cut_keeps l from from x below rest rest s refl)
        (closed_parent l (parent_in from) (prev_in from) (first_in rest)) b live k

    -- what a parent and a child before which a node goes must be
    pub record Stays (parent before : Option Name) : Type 0 where
      pub parent_live : ForSome parent (IsLive l.nodes)
      pub parent_stays : ForSome parent (λ a. Goes a → ⊥)
      pub before_live : ForSome before (IsLive l.nodes)
      pub before_up : ForSome before (λ b. parent_of l b ≡ parent)
      pub before_other : ForSome before (λ b. b ≡ x.name → ⊥)

    pub new_place : (parent before : Option Name) → Stays parent before → New_place (plugged from rest) parent before
    new_place parent before k = by_before before parent k
      where
        whole : Forest X
        whole = plugged from rest

        once : Once (plugged from rest)
        once = left_once l from from x below rest rest s refl

        lives : (a : Name) → Has a (plugged from rest) → IsLive l.nodes a
        lives a h = live_of l (plugged from (grove x below rest)) s a (still_has a h)

        by_parent : (parent : Option Name) → Stays parent None → New_place (plugged from rest) parent None
        by_parent None k = root_end l.nodes s.sound (plugged from rest) once lives
        by_parent (Some a) k = node_end l.nodes s.sound (plugged from rest) once lives a (left_has a (k.parent_live a refl) (k.parent_stays a refl))

        by_before : (before parent : Option Name) → Stays parent before → New_place (plugged from rest) parent before
        by_before None parent k = by_parent parent k
        by_before (Some b) parent k =
            let out : Goes b → ⊥ = λ h. elim h [ inl e ↦ k.before_other b refl e | inr low ↦ let u = below_up b low parent (k.before_up b refl) in k.parent_stays u.0 u.1 u.2 ] in
            let p = placed b [] (plugged from rest) (left_has b (k.before_live b refl) out) in
            before_node l.nodes s.sound (plugged from rest) once lives parent b p (parent_left b (k.before_live b refl) p ∙ k.before_up b refl)
