-- Walks that count: the children of a node, and what is above it.
use Rattle.std.proofs.Common.{◌≡◌, ℕ, ◌+◌, ◌-◌, ◌<◌, ◌≤◌, List, [], ◌∷◌, length, Option, Some, None, refl, sym, ap, ◌∙◌, arith, append-nil}
use Rattle.std.specs.Option.{ForSome}
use Rattle.std.proofs.lemmas.Option.{none-some}
use Rattle.std.proofs.lemmas.List.{length-append}
use Rattle.ac_base.specs.declared.name.Name.{Name}
use Rattle.ac_pool.specs.Contents.{IsLive, live_count}
use Rattle.ac_model.specs.Objects.{plains}
use Rattle.ac_model.specs.Outline.{children_of, depth_of}
use Rattle.ac_tree.specs.declared.links.Links.{Links}
use Rattle.ac_tree.specs.Forests.{Forest, bare, grove, Step, under, after, outline, size, first_in, plugged, parent_in, prev_in, depth_in}
use Rattle.ac_tree.specs.TreeFields.{StandsFor, forest_in, IsForest, first_of, next_of, parent_of}
use Rattle.ac_tree.specs.TreeCursors.{serial_in}
use Rattle.ac_tree.proofs.Places.{around_has}
use Rattle.ac_tree.proofs.Standing.{some_name}
use Rattle.ac_tree.proofs.Forests.{links_at, live_of, forest-is, parent_has}
use Rattle.ac_tree.proofs.Outlines.{tops, family, family_tops, elders, at_depth, parent_spot, parent_depth, parent_position, position_children, position_depth, root_position, node_position}
use Rattle.ac_tree.proofs.Looking.{all_alone, parent_serial, at_place}
use Rattle.ac_tree.proofs.Holes.{under_of}

module _ {X : Type 0} where
  pub elder_size : (steps : List (Step X)) (t : Forest X) → length (elders steps) + size t ≤ size (plugged steps t)
  elder_size [] t = omega arith
  elder_size (under x rest ∷ steps) t = let up = elder_size steps (grove x t rest) in omega arith
  elder_size (after x below ∷ steps) t = let up = elder_size steps (grove x below t) in let e = length-append (elders steps) (at_depth (depth_in steps) x.name.serial ∷ []) in omega (arith, up, e)

  no_elders : (steps : List (Step X)) → prev_in steps ≡ None → elders steps ≡ []
  no_elders [] e = refl
  no_elders (under x rest ∷ steps) e = refl
  no_elders (after x below ∷ steps) e = absurd (none-some x.name (sym e))

  -- how many children the node has
  abbrev pub children_in : Links X → Option Name → ℕ
  children_in l parent = length (children_of (plains (outline 2 (forest_in l))) (serial_in parent))

  -- so many children of the node stand before the place
  pub record Children_counted (l : Links X) (parent place : Option Name) (count : ℕ) : Type 0 where
    pub steps : List (Step X)
    pub rest : Forest X
    pub stands : StandsFor l (plugged steps rest)
    pub parent_is : parent_in steps ≡ parent
    pub place_is : place ≡ first_in rest
    pub count_is : count ≡ length (elders steps)

  pub children_start : (l : Links X) → IsForest l → (parent : Option Name) → ForSome parent (IsLive l.nodes) → (place : Option Name) → place ≡ first_of l parent → Children_counted l parent place 0
  children_start l s parent live place is =
      let u = under_of l s parent live in
      record { steps = u.steps; rest = u.below; stands = u.stands; parent_is = u.parent_is; place_is = is ∙ u.first; count_is = sym (ap length (no_elders u.steps u.none_before)) }

  pub children_more : (l : Links X) (parent place : Option Name) (count : ℕ) → Children_counted l parent place count → (name : Name) → place ≡ Some name → (next : Option Name) → next ≡ next_of l name
      → Children_counted l parent next (count + 1) × (count < live_count l.nodes) × (live_count l.nodes - (count + 1) < live_count l.nodes - count)
  children_more l parent place count k name at next is = by_rest k.steps k.rest k.stands k.parent_is (sym k.place_is ∙ at) k.count_is
    where
      by_rest : (steps : List (Step X)) (rest : Forest X) → StandsFor l (plugged steps rest) → parent_in steps ≡ parent → first_in rest ≡ Some name → count ≡ length (elders steps)
          → Children_counted l parent next (count + 1) × (count < live_count l.nodes) × (live_count l.nodes - (count + 1) < live_count l.nodes - count)
      by_rest steps bare s up first counted = absurd (none-some name first)
      by_rest steps (grove x below rest) s up first counted =
          let e = length-append (elders steps) (at_depth (depth_in steps) x.name.serial ∷ []) in
          let few = elder_size steps (grove x below rest) in
          let all = s.count in (
            record {
              steps = after x below ∷ steps;
              rest = rest;
              stands = s;
              parent_is = up;
              place_is = is ∙ ap (next_of l) (sym (some_name x.name name first)) ∙ (links_at l steps x below rest s).next;
              count_is = omega (arith, counted, e);
            },
            omega (arith, counted, few, all),
            omega (arith, counted, few, all),
          )

  pub children_most : (l : Links X) (parent place : Option Name) (count : ℕ) → Children_counted l parent place count → count ≤ live_count l.nodes
  children_most l parent place count k = let few = elder_size k.steps k.rest in let all = k.stands.count in let counted = k.count_is in omega (arith, counted, few, all)

  pub children_end : (l : Links X) (parent : Option Name) (count : ℕ) → Children_counted l parent None count → count ≡ children_in l parent
  children_end l parent count k = by_rest k.steps k.rest k.stands k.parent_is (sym k.place_is) k.count_is
    where
      by_rest : (steps : List (Step X)) (rest : Forest X) → StandsFor l (plugged steps rest) → parent_in steps ≡ parent → first_in rest ≡ None → count ≡ length (elders steps) → count ≡ children_in l parent
      by_rest steps (grove x below rest) s up first counted = absurd (none-some x.name (sym first))
      by_rest steps bare s up first counted =
          let sp = parent_spot steps in
          let rows = outline 2 (plugged steps bare) in
          let kids : children_of (plains rows) sp.name ≡ elders steps =
          position_children rows sp.name sp.depth (family steps bare) (parent_position steps bare (all_alone l steps bare s))
          ∙ ap (λ d. tops d (family steps bare)) (sym (parent_depth steps)) ∙ family_tops steps bare ∙ append-nil (elders steps) in
          counted ∙ sym (ap length kids) ∙ ap (λ n. length (children_of (plains rows) n)) (parent_serial steps ∙ ap serial_in up)
          ∙ sym (ap (λ t. length (children_of (plains (outline 2 t)) (serial_in parent))) (forest-is l (plugged steps bare) s))

  pub depth_low : (steps : List (Step X)) → 2 ≤ depth_in steps
  depth_low [] = omega arith
  depth_low (under x rest ∷ steps) = let up = depth_low steps in omega arith
  depth_low (after x below ∷ steps) = depth_low steps

  pub depth_size : (steps : List (Step X)) (t : Forest X) → depth_in steps + size t ≤ size (plugged steps t) + 2
  depth_size [] t = omega arith
  depth_size (under x rest ∷ steps) t = let up = depth_size steps (grove x t rest) in omega arith
  depth_size (after x below ∷ steps) t = let up = depth_size steps (grove x below t) in omega arith

  -- the depth of a node, or of the root
  abbrev pub node_depth : Links X → Option Name → ℕ
  node_depth l node = depth_of (plains (outline 2 (forest_in l))) (serial_in node)

  pub root_depth : (l : Links X) → node_depth l None ≡ 1
  root_depth l = position_depth (outline 2 (forest_in l)) 0 1 (forest_in l) (root_position (forest_in l))

  -- a node is one deeper than its parent
  pub record Deeper (l : Links X) (name : Name) : Type 0 where
    pub one : node_depth l (Some name) ≡ node_depth l (parent_of l name) + 1
    pub low : 2 ≤ node_depth l (Some name)
    pub few : node_depth l (Some name) ≤ live_count l.nodes + 1
    pub live : ForSome (parent_of l name) (IsLive l.nodes)

  pub deeper : (l : Links X) → IsForest l → (name : Name) → IsLive l.nodes name → Deeper l name
  deeper l s name live =
      let k = at_place l s name live in
      let t = grove k.at k.below k.rest in let rows = outline 2 (plugged k.steps t) in
      let sp = parent_spot k.steps in
      let up : parent_of l name ≡ parent_in k.steps = ap (parent_of l) (sym k.named) ∙ k.links.parent in
      let here : node_depth l (Some name) ≡ depth_in k.steps =
      sym (ap (λ z. depth_of (plains (outline 2 z)) name.serial) k.is) ∙ sym (ap (λ (n : Name). depth_of (plains rows) n.serial) k.named)
      ∙ position_depth rows k.at.name.serial (depth_in k.steps) k.below (node_position k.steps k.at k.below k.rest k.alone) in
      let above : node_depth l (parent_of l name) ≡ sp.depth =
      ap (node_depth l) up ∙ sym (ap (λ z. depth_of (plains (outline 2 z)) (serial_in (parent_in k.steps))) k.is) ∙ sym (ap (depth_of (plains rows)) (parent_serial k.steps))
      ∙ position_depth rows sp.name sp.depth (family k.steps t) (parent_position k.steps t k.all) in
      let one = parent_depth k.steps in
      let low = depth_low k.steps in
      let most = depth_size k.steps t in
      let all = k.stands.count in
      record {
        one = here ∙ one ∙ sym (ap (λ d. d + 1) above);
        low = omega (arith, here, low);
        few = omega (arith, here, most, all);
        live = λ b e. live_of l (plugged k.steps t) k.stands b (around_has k.steps t b (parent_has k.steps b (sym up ∙ e)));
      }

  -- so many nodes from this one up, the place not among them
  pub record Depth_counted (l : Links X) (node place : Option Name) (count : ℕ) : Type 0 where
    pub live : ForSome place (IsLive l.nodes)
    pub sum : count + node_depth l place ≡ node_depth l node + 1

  pub depth_start : (l : Links X) (node : Option Name) → ForSome node (IsLive l.nodes) → Depth_counted l node node 1
  depth_start l from live = record { live = live; sum = omega arith }

  pub depth_more : (l : Links X) → IsForest l → (node : Option Name) → ForSome node (IsLive l.nodes) → (place : Option Name) (count : ℕ) → Depth_counted l node place count → (name : Name) → place ≡ Some name
      → (next : Option Name) → next ≡ parent_of l name → Depth_counted l node next (count + 1) × (count < node_depth l node) × (node_depth l node - (count + 1) < node_depth l node - count)
  depth_more l s from live place count k name at next is =
      let d = deeper l s name (k.live name at) in
      let here : node_depth l place ≡ node_depth l (Some name) = ap (node_depth l) at in
      let above : node_depth l next ≡ node_depth l (parent_of l name) = ap (node_depth l) is in
      let sum = k.sum in let one = d.one in let low = d.low in (
        record { live = λ b e. d.live b (sym is ∙ e); sum = omega (arith, here, above, sum, one) },
        omega (arith, here, sum, low),
        omega (arith, here, sum, low),
      )

  pub depth_few : (l : Links X) → IsForest l → (node : Option Name) → ForSome node (IsLive l.nodes) → node_depth l node ≤ live_count l.nodes + 1
  depth_few l s None live = let e = root_depth l in omega (arith, e)
  depth_few l s (Some a) live = (deeper l s a (live a refl)).few

  pub depth_end : (l : Links X) (node : Option Name) (count : ℕ) → Depth_counted l node None count → count ≡ node_depth l node
  depth_end l from count k = let e = root_depth l in let sum = k.sum in omega (arith, e, sum)
