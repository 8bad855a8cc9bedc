-- Nodes that give way to copies of another tree's.
use Rattle.std.proofs.Common.{◌≡◌, ℕ, ◌+◌, ◌-◌, ◌<◌, ◌≤◌, ◌^◌, true, List, [], ◌∷◌, length, reverse, None, refl, sym, ap, ◌∙◌, subst, arith}
use Rattle.std.specs.Prelude.{map, max}
use Rattle.std.proofs.lemmas.List.{length-map, length-reverse, reverse-reverse}
use Rattle.ac_base.specs.Growth.{pow8}
use Rattle.ac_base.specs.declared.name.Name.{Name}
use Rattle.ac_base.specs.declared.limit.TheConstants.{GREATEST_LENGTH}
use Rattle.ac_base.specs.Rows.{Row, values}
use Rattle.ac_pool.specs.Contents.{live_count}
use Rattle.ac_chain.specs.Rows.{chained, cleared}
use Rattle.ac_chain.proofs.Refills.{Ready, ready, Refilled}
use Rattle.ac_model.specs.Rows.{Node, fresh}
use Rattle.ac_model.specs.Objects.{plains}
use Rattle.ac_model.specs.Outline.{follows, depths}
use Rattle.ac_model.proofs.Lengths.{length-fresh}
use Rattle.ac_model.proofs.Plains.{length-plains}
use Rattle.ac_tree.specs.declared.copying.Leveled.{Leveled}
use Rattle.ac_tree.specs.declared.links.Links.{Links}
use Rattle.ac_tree.specs.Copying.{in_node, nodes_in, levels_in}
use Rattle.ac_tree.specs.Forests.{bare, outline}
use Rattle.ac_tree.specs.Inserting.{Reserves}
use Rattle.ac_tree.specs.Removing.{Clears}
use Rattle.ac_tree.specs.TreeFields.{StandsFor, forest_in, IsForest}
use Rattle.ac_tree.specs.TreeRows.{rows_of}
use Rattle.ac_tree.proofs.Places.{size_is}
use Rattle.ac_tree.proofs.Forests.{forest-is, is_forest}
use Rattle.ac_tree.proofs.Outlines.{is_outlined}
use Rattle.ac_tree.proofs.Levels.{nodes_reverse}

module _ {X : Type 0} where
  pub levels_are : (items : List (Leveled X)) → levels_in items ≡ map (λ (n : Node X). n.depth) (nodes_in items)
  levels_are [] = refl
  levels_are (i ∷ items) = ap (λ z. i.depth ∷ z) (levels_are items)

  pub depths_are : (rows : List (Row Name (Node X))) → map (λ (n : Node X). n.depth) (values rows) ≡ depths (plains rows)
  depths_are [] = refl
  depths_are (r ∷ rows) = ap (λ z. r.value.depth ∷ z) (depths_are rows)

  turned_back : (items : List (Leveled X)) (rows : List (Row Name (Node X))) → nodes_in items ≡ reverse (values rows) → nodes_in (reverse items) ≡ values rows
  turned_back items rows copies = nodes_reverse items ∙ ap reverse copies ∙ reverse-reverse (values rows)

  count_items : (items : List (Leveled X)) (rows : List (Row Name (Node X))) → nodes_in items ≡ reverse (values rows) → length items ≡ length rows
  count_items items rows copies =
      sym (length-map items in_node) ∙ ap length copies ∙ length-reverse (values rows) ∙ length-map rows (λ (r : Row Name (Node X)). r.value)

  pub outline_legal : (source : Links X) (items : List (Leveled X)) → nodes_in items ≡ reverse (values (rows_of source).rows) → follows 1 (levels_in (reverse items)) ≡ true
  outline_legal source items copies =
      ap (follows 1) (levels_are (reverse items) ∙ ap (map (λ (n : Node X). n.depth)) (turned_back items (rows_of source).rows copies) ∙ depths_are (rows_of source).rows) ∙ is_outlined (forest_in source)

  pub reserved_forest : (l m : Links X) (n : ℕ) → IsForest l → Reserves l n m → IsForest m
  reserved_forest l m n s r = is_forest m (forest_in l) (r (forest_in l) s).stands

  pub emptied : (m p : Links X) → IsForest m → Clears m None p → StandsFor p bare
  emptied m p s c = (c [] (forest_in m) s refl refl).stands

  pub cleared_rows : (m p : Links X) → IsForest m → Clears m None p → rows_of p ≡ cleared (rows_of m)
  cleared_rows m p s c =
      let r = c [] (forest_in m) s refl refl in
      let count = size_is 2 (forest_in m) in let spare = r.spare in
      let slots : p.nodes.spare ≡ length (outline 2 (forest_in m)) + m.nodes.spare = omega (arith, count, spare) in
      (λ i. chained (outline 2 (forest-is p bare r.stands i)) (r.next i) (slots i))

  are_ready : (l m p : Links X) (n count : ℕ) → IsForest l → Reserves l n m → n ≡ count - length (rows_of l).rows → Clears m None p → Ready (rows_of l) (rows_of p) count
  are_ready l m p n count s res need clear = ready (rows_of l) (rows_of m) (rows_of p) n count (res (forest_in l) s).rows need (cleared_rows m p (reserved_forest l m n s res) clear)

  pub needs_few : (l source : Links X) (n : ℕ) → IsForest l → n ≡ live_count source.nodes - live_count l.nodes → IsForest source → length (rows_of source).rows ≤ GREATEST_LENGTH → live_count l.nodes + n ≤ 2 ^ 30
  needs_few l source n s is t few =
      let a = s.sound.few in let b = t.count in let c = size_is 2 (forest_in source) in omega (arith, is, few, a, b, c)

  need_is : (l source : Links X) (n : ℕ) → IsForest l → IsForest source → n ≡ live_count source.nodes - live_count l.nodes → n ≡ length (rows_of source).rows - length (rows_of l).rows
  need_is l source n s t is =
      let a = s.count in let b = t.count in let c = size_is 2 (forest_in source) in let d = size_is 2 (forest_in l) in omega (arith, is, a, b, c, d)

  pub items_fit : (l m p source : Links X) (n : ℕ) (items : List (Leveled X)) → IsForest l → IsForest source → Reserves l n m → n ≡ live_count source.nodes - live_count l.nodes → Clears m None p → nodes_in items ≡ reverse (values (rows_of source).rows)
      → l.nodes.next_serial + length (rows_of source).rows < 2 ^ 64 → (length items ≤ p.nodes.spare) × (p.nodes.next_serial + length items < 2 ^ 64)
  items_fit l m p source n items s t res is clear copies serials =
      let k = are_ready l m p n (length (rows_of source).rows) s res (need_is l source n s t is) clear in
      let count = count_items items (rows_of source).rows copies in let enough = k.enough in let next = k.next in
      (omega (arith, count, enough), omega (arith, count, next, serials))

  pub refilled_is : (l m p q source : Links X) (n : ℕ) (items : List (Leveled X)) → IsForest l → IsForest source → Reserves l n m → n ≡ live_count source.nodes - live_count l.nodes → Clears m None p → nodes_in items ≡ reverse (values (rows_of source).rows)
      → plains (rows_of q).rows ≡ fresh p.nodes.next_serial (nodes_in (reverse items)) → q.nodes.next_serial ≡ p.nodes.next_serial + length items → q.nodes.spare + length items ≡ p.nodes.spare → Refilled (rows_of l) (rows_of source).rows (rows_of q)
  refilled_is l m p q source n items s t res is clear copies rows next spare =
      let all = (rows_of source).rows in
      let k = are_ready l m p n (length all) s res (need_is l source n s t is) clear in
      let count = count_items items all copies in
      let same = turned_back items all copies in
      let now : length (rows_of q).rows ≡ length items =
      sym (length-plains (rows_of q).rows) ∙ ap length rows ∙ length-fresh p.nodes.next_serial (nodes_in (reverse items)) ∙ length-map (reverse items) in_node ∙ length-reverse items in
      let sum : length (rows_of q).rows + q.nodes.spare ≡ p.nodes.spare = omega (arith, now, spare) in
      let total : length all ≡ length (rows_of q).rows = omega (arith, now, count) in
      let slots_l = length (rows_of l).rows + l.nodes.spare in
      record {
        refilled = record {
          rows = rows ∙ (λ i. fresh (k.next i) (same i));
          next = next ∙ (λ i. k.next i + (count ∙ sym (length-map all (λ (r : Row Name (Node X)). r.value))) i);
        };
        slots = λ few. sum ∙ k.kept few;
        grown = subst (λ z. z ≤ max slots_l (pow8 (length (rows_of q).rows))) (sym sum) (subst (λ z. p.nodes.spare ≤ max slots_l (pow8 z)) total k.bound);
      }

  pub emptied_forest : (m p : Links X) → IsForest m → Clears m None p → IsForest p
  emptied_forest m p s c = is_forest p bare (emptied m p s c)
