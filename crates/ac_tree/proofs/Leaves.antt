-- What a tree is after a leaf went, or all that stands at a place.
use Rattle.std.proofs.Common.{◌≡◌, ℕ, ◌+◌, ◌<◌, true, false, true≢false, List, [], ◌∷◌, ◌++◌, length, Option, Some, None, is_some, is_none, IsTrue, refl, sym, ap, ◌∙◌, subst, inl, inr, arith, append_assoc}
use Rattle.std.proofs.Math.Seq.{take-append_seam, drop-append_seam, drop-append-add}
use Rattle.ac_base.specs.declared.limit.Limit.{Limit}
use Rattle.ac_base.specs.declared.limit.Limit.TheVariants.{Unbounded, Bounded}
use Rattle.ac_base.specs.declared.name.Name.{Name}
use Rattle.ac_base.specs.declared.cursor.Cursor.{Cursor}
use Rattle.ac_base.specs.Guards.{GuardCounts}
use Rattle.ac_base.specs.Rows.{Row, row, names}
use Rattle.ac_pool.specs.Contents as pool
use Rattle.ac_pool.specs.Contents.{Contents, taken, IsLive}
use Rattle.ac_pool.proofs.ContentsLaws.{taken_live}
use Rattle.ac_pool.specs.NamedRows.{HasName}
use Rattle.ac_pool.proofs.Cuts.{HasName-left, HasName-right, HasName-either}
use Rattle.ac_chain.proofs.Grows.{all_from}
use Rattle.ac_chain.proofs.Marks.{has_among}
use Rattle.ac_model.specs.Containers.{HasSlots}
use Rattle.ac_model.specs.Rows.{Node, node, cut, place_of}
use Rattle.ac_model.specs.Objects.{Object, plain, plains, with_rows}
use Rattle.ac_model.specs.Letters.{name_of, is_among}
use Rattle.ac_model.specs.Cursors.{name_in}
use Rattle.ac_model.specs.Calls.{IsAfter}
use Rattle.ac_model.proofs.Plains.{plains-append, length-plains}
use Rattle.ac_model.specs.Trees as trees
use Rattle.ac_model.specs.Trees.{tree_mark, needs_element}
use Rattle.ac_tree.specs.declared.links.TreeNode.{TreeNode}
use Rattle.ac_tree.specs.declared.links.Links.{Links}
use Rattle.ac_tree.specs.Forests.{Forest, bare, grove, Step, outline, size, first_in, plugged, parent_in, prev_in, depth_in, before_in, after_in}
use Rattle.ac_tree.specs.TreeFields.{links, StandsFor, forest_in, IsForest, closed, with_next, first_of}
use Rattle.ac_tree.specs.TreeRows.{rows_of, tree_object, IsTree}
use Rattle.ac_tree.specs.TreeCursors.{node_in}
use Rattle.ac_tree.specs.Removing.{Removed}
use Rattle.ac_tree.proofs.Places.{outline_plugged, plugged_has, plugged_size, size_is}
use Rattle.ac_tree.proofs.Writes.{keeps_then, keeps_next, keeps_prev}
use Rattle.ac_tree.proofs.Forests.{live_of, removed_stands, forest-is}
use Rattle.ac_tree.proofs.Objects.{tree_from}
use Rattle.ac_tree.proofs.Holes.{place_at_place}
use Rattle.ac_tree.proofs.Judging.{at_element}
use Rattle.ac_tree.proofs.Looking.{at_place, leaf_here}

some_none : (o : Option Name) → is_none o ≡ true → is_some o ≡ false
some_none None h = refl
some_none (Some a) h = sym h

module _ {X : Type 0} where
  pub removed_is : (l : Links X) (steps : List (Step X)) (x : Row Name X) (rest : Forest X) (u : Links X) (d : Contents (TreeNode X)) (p q n : Option Name) → StandsFor l (plugged steps (grove x bare rest))
      → p ≡ parent_in steps → q ≡ prev_in steps → n ≡ first_in rest → u ≡ closed l p q n → d ≡ taken u.nodes x.name → pool.IsSound d → Removed l steps rest 1 (links d u.first u.last)
  removed_is l steps x rest u d p q n s pe qe ne is gone sound =
      let k = closed l (parent_in steps) (prev_in steps) (first_in rest) in
      let same : u ≡ k = is ∙ (λ i. closed l (pe i) (qe i) (ne i)) in
      let d_is : d ≡ taken k.nodes x.name = gone ∙ ap (λ (z : Links X). taken z.nodes x.name) same in
      let keeps = keeps_then l.nodes _ k.nodes (keeps_next l (parent_in steps) (prev_in steps) (first_in rest)) (keeps_prev (with_next l (parent_in steps) (prev_in steps) (first_in rest)) (parent_in steps) (first_in rest) (prev_in steps)) in
      let live : IsLive k.nodes x.name = keeps.live x.name ∙ live_of l (plugged steps (grove x bare rest)) s x.name (plugged_has steps (grove x bare rest) x.name (inl refl)) in
      let less = d_is ∙ taken_live k.nodes x.name live in
      record {
        stands = subst (λ (z : Links X). StandsFor (links d z.first z.last) (plugged steps rest)) (sym same) (removed_stands l steps x rest d s d_is sound);
        next = ap (λ (c : Contents (TreeNode X)). c.next_serial) less ∙ keeps.next;
        spare = ap (λ (c : Contents (TreeNode X)). c.spare) less ∙ ap (λ z. z + 1) keeps.spare;
      }

  bare_if : (t : Forest X) → is_some (first_in t) ≡ false → t ≡ bare
  bare_if bare h = refl
  bare_if (grove x below rest) h = absurd (true≢false h)

  -- a leaf at a cursor
  pub record Leaf (l : Links X) (o : Object Name (Node X)) (c : Cursor) (a : Name) : Type 0 where
    pub steps : List (Step X)
    pub at : Row Name X
    pub rest : Forest X
    pub stands : StandsFor l (plugged steps (grove at bare rest))
    pub named : at.name ≡ a
    pub place : place_of (plain o).rows (name_of (tree_mark o c)) ≡ length (before_in steps)

  pub leaf : (l : Links X) (s : IsForest l) (o : Object Name (Node X)) (rows_is : o.rows ≡ outline 2 (forest_in l)) (c : Cursor) (a : Name) → needs_element (plain o) (tree_mark o c) ≡ None → a ≡ name_in c → trees.is_leaf (plain o) (tree_mark o c) ≡ true → Leaf l o c a
  leaf l s o rows_is c a h is no_child =
      let e = at_element l s o rows_is c h in
      let childless = some_none (first_of l (node_in c)) (leaf_here l s o rows_is c (node_in c) (first_of l (node_in c)) e.needs refl refl ∙ no_child) in
      let k = at_place l s e.name e.live in
      let none : k.below ≡ bare = bare_if k.below (sym (ap is_some (ap (first_of l) (e.node ∙ ap Some (sym k.named)) ∙ k.links.first)) ∙ childless) in
      record {
        steps = k.steps;
        at = k.at;
        rest = k.rest;
        stands = subst (λ z. StandsFor l (plugged k.steps (grove k.at z k.rest))) none k.stands;
        named = k.named ∙ sym (is ∙ e.is);
        place = ap (λ m. place_of (plain o).rows (name_of m)) e.mark ∙ ap (λ z. place_of (plains z) e.name.serial) (rows_is ∙ ap (outline 2) (sym k.is))
            ∙ ap (λ (n : Name). place_of (plains (outline 2 (plugged k.steps (grove k.at k.below k.rest)))) n.serial) (sym k.named) ∙ place_at_place k.steps k.at k.below k.rest k.alone;
      }

  -- the sizes before and after nodes went
  record Sizes (l m : Links X) (t u : Forest X) (steps : List (Step X)) (count : ℕ) : Type 0 where
    pub old : length (outline 2 (forest_in l)) ≡ size (plugged steps t)
    pub new : length (outline 2 (forest_in m)) ≡ size (plugged steps u)
    pub less : size (plugged steps t) ≡ size (plugged steps u) + count

  sizes : (l m : Links X) (t u : Forest X) (steps : List (Step X)) (count : ℕ) → StandsFor l (plugged steps t) → size t ≡ size u + count → Removed l steps u count m → Sizes l m t u steps count
  sizes l m t u steps count s less r = record {
    old = ap (λ (z : Forest X). length (outline 2 z)) (forest-is l (plugged steps t) s) ∙ size_is 2 (plugged steps t);
    new = ap (λ (z : Forest X). length (outline 2 z)) (forest-is m (plugged steps u) r.stands) ∙ size_is 2 (plugged steps u);
    less = plugged_size steps u t count less;
  }

  -- a tree from which nodes went
  pub thinned_tree : (limit : Limit) (l m : Links X) (steps : List (Step X)) (t u : Forest X) (count : ℕ) → IsTree limit l → StandsFor l (plugged steps t) → size t ≡ size u + count → Removed l steps u count m → IsTree limit m
  thinned_tree limit l m steps t u count is s less r =
      let k = sizes l m t u steps count s less r in
      let old = k.old in let fewer = k.less in let few = is.sequence.within_greatest in
      tree_from limit m (plugged steps u) r.stands is.sequence.is_limit (omega (arith, old, fewer, few)) (slots limit is.sequence.has_slots r.spare)
    where
      slots : (limit : Limit) → HasSlots limit (length (rows_of l).rows) l.nodes.spare → m.nodes.spare ≡ l.nodes.spare + count → HasSlots limit (size (plugged steps u)) m.nodes.spare
      slots Unbounded h e = tt
      slots (Bounded most) h e =
          let k = sizes l m t u steps count s less r in
          let old = k.old in let fewer = k.less in
          let sum : length (rows_of l).rows + l.nodes.spare ≡ most = h in
          omega (arith, old, fewer, sum, e)

  pub thinned_slots : (l m : Links X) (steps : List (Step X)) (t u : Forest X) (count : ℕ) → StandsFor l (plugged steps t) → size t ≡ size u + count → Removed l steps u count m
      → length (outline 2 (forest_in m)) + m.nodes.spare ≡ length (outline 2 (forest_in l)) + l.nodes.spare
  thinned_slots l m steps t u count s less r =
      let k = sizes l m t u steps count s less r in
      let old = k.old in let new = k.new in let fewer = k.less in let spare = r.spare in omega (arith, old, new, fewer, spare)

  pub cut_middle : (xs mid ys : List (Row ℕ (Node X))) → cut (xs ++ (mid ++ ys)) (length xs) (length mid) ≡ xs ++ ys
  cut_middle xs mid ys = λ i. take-append_seam xs (mid ++ ys) i ++ (drop-append-add xs (mid ++ ys) (length mid) ∙ drop-append_seam mid ys) i

  -- the rows that went stood side by side at the place
  pub thinned_after : (g : GuardCounts) (limit : Limit) (l m : Links X) (steps : List (Step X)) (t u : Forest X) (count : ℕ) (mid : List (Row Name (Node X))) (at n : ℕ) → StandsFor l (plugged steps t) → Removed l steps u count m
      → outline (depth_in steps) t ≡ mid ++ outline (depth_in steps) u → at ≡ length (before_in steps) → n ≡ length mid
      → IsAfter (tree_object g limit l) (tree_object g limit m) (with_rows (plain (tree_object g limit l)) (cut (plain (tree_object g limit l)).rows at n))
  thinned_after g limit l m steps t u count mid at n s r parts place long =
      let d = depth_in steps in let ys = outline d u ++ after_in steps in
      let old : outline 2 (forest_in l) ≡ before_in steps ++ (mid ++ ys) =
      ap (outline 2) (forest-is l (plugged steps t) s) ∙ outline_plugged steps t ∙ ap (λ z. before_in steps ++ (z ++ after_in steps)) parts ∙ ap (λ z. before_in steps ++ z) (append_assoc mid (outline d u) (after_in steps)) in
      let new : outline 2 (forest_in m) ≡ before_in steps ++ ys = ap (outline 2) (forest-is m (plugged steps u) r.stands) ∙ outline_plugged steps u in
      let rows : plains (outline 2 (forest_in m)) ≡ cut (plains (outline 2 (forest_in l))) at n =
      ap plains new ∙ plains-append (before_in steps) ys ∙ sym (cut_middle (plains (before_in steps)) (plains mid) (plains ys))
      ∙ sym ((λ i. cut (plains (old i)) ((place ∙ sym (length-plains (before_in steps))) i) ((long ∙ sym (length-plains mid)) i))
      ∙ ap (λ z. cut z (length (plains (before_in steps))) (length (plains mid))) (plains-append (before_in steps) (mid ++ ys) ∙ ap (λ z. plains (before_in steps) ++ z) (plains-append mid ys))) in
      record {
        plainly = λ i. record { number = g.number; limit = limit; capacity = None; next = r.next i; rows = rows i; cursor_guards = g.cursor_guards; element_guards = g.element_guards };
        slots = all_from (λ name. name.serial < l.nodes.next_serial → IsTrue (is_among (names (outline 2 (forest_in l))) name)) (outline 2 (forest_in m)) (λ a h lt.
            has_among a (outline 2 (forest_in l)) (subst (λ z. HasName a z) (sym old) (had a (subst (λ z. HasName a z) new h))));
      }
    where
      had : (a : Name) → HasName a (before_in steps ++ (outline (depth_in steps) u ++ after_in steps)) → HasName a (before_in steps ++ (mid ++ (outline (depth_in steps) u ++ after_in steps)))
      had a h = elim (HasName-either a (before_in steps) (outline (depth_in steps) u ++ after_in steps) h) [
        | inl p ↦ HasName-left a (before_in steps) (mid ++ (outline (depth_in steps) u ++ after_in steps)) p
        | inr q ↦ HasName-right a (before_in steps) (mid ++ (outline (depth_in steps) u ++ after_in steps)) (HasName-right a mid (outline (depth_in steps) u ++ after_in steps) q)
      ]

  -- of a leaf
  pub leaf_tree : (limit : Limit) (l m : Links X) (steps : List (Step X)) (x : Row Name X) (rest : Forest X) → IsTree limit l → StandsFor l (plugged steps (grove x bare rest)) → Removed l steps rest 1 m → IsTree limit m
  leaf_tree limit l m steps x rest is s r = thinned_tree limit l m steps (grove x bare rest) rest 1 is s (omega arith) r

  pub leaf_after : (g : GuardCounts) (limit : Limit) (l m : Links X) (steps : List (Step X)) (x : Row Name X) (rest : Forest X) (at : ℕ) → StandsFor l (plugged steps (grove x bare rest)) → Removed l steps rest 1 m
      → at ≡ length (before_in steps) → IsAfter (tree_object g limit l) (tree_object g limit m) (with_rows (plain (tree_object g limit l)) (cut (plain (tree_object g limit l)).rows at 1))
  leaf_after g limit l m steps x rest at s r place = thinned_after g limit l m steps (grove x bare rest) rest 1 (row x.name (node (depth_in steps) x.value) ∷ []) at 1 s r refl place refl

  pub leaf_slots : (l m : Links X) (steps : List (Step X)) (x : Row Name X) (rest : Forest X) → StandsFor l (plugged steps (grove x bare rest)) → Removed l steps rest 1 m
      → length (outline 2 (forest_in m)) + m.nodes.spare ≡ length (outline 2 (forest_in l)) + l.nodes.spare
  leaf_slots l m steps x rest s r = thinned_slots l m steps (grove x bare rest) rest 1 s (omega arith) r
