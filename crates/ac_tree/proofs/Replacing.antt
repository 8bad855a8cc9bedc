-- What a tree is after an element was set.
use Rattle.std.proofs.Common.{◌≡◌, ◌≢◌, ℕ, ◌+◌, ◌<◌, ◌⊎◌, false, true≢false, ◌||◌, List, [], ◌∷◌, ◌++◌, length, Some, None, IsTrue, refl, sym, ap, ◌∙◌, subst, inl, inr, arith, eq-eqb}
use Rattle.std.specs.Prelude.{◌==◌}
use Rattle.std.specs.Option.{option_map}
use Rattle.std.proofs.lemmas.Bool.{cond-true, cond-false, cases_Bool}
use Rattle.ac_base.specs.declared.limit.Limit.{Limit}
use Rattle.ac_base.specs.declared.name.Name.{Name}
use Rattle.ac_base.specs.declared.cursor.Cursor.{Cursor}
use Rattle.ac_base.specs.Guards.{GuardCounts}
use Rattle.ac_base.specs.Rows.{Row, row, names}
use Rattle.ac_pool.specs.Contents as pool
use Rattle.ac_pool.specs.Contents.{Contents, value_of, IsLive}
use Rattle.ac_pool.proofs.ContentsLaws.{live_value}
use Rattle.ac_pool.specs.NamedRows.{HasName}
use Rattle.ac_chain.proofs.Grows.{all_from}
use Rattle.ac_chain.proofs.Marks.{has_among}
use Rattle.ac_model.specs.Containers.{HasSlots}
use Rattle.ac_model.specs.Rows.{Node, node, with_value, with_some_value}
use Rattle.ac_model.specs.Objects.{plain, plains, with_rows}
use Rattle.ac_model.specs.Letters.{name_of, is_among}
use Rattle.ac_model.specs.Cursors.{name_in}
use Rattle.ac_model.specs.Calls.{IsAfter}
use Rattle.ac_model.specs.Outline.{is_in}
use Rattle.ac_model.specs.Trees as trees
use Rattle.ac_model.specs.Trees.{tree_mark, needs_element}
use Rattle.ac_tree.specs.declared.links.TreeNode.{TreeNode}
use Rattle.ac_tree.specs.declared.links.Links.{Links}
use Rattle.ac_tree.specs.Forests.{Forest, grove, Step, under, after, outline, size, Has, plugged, depth_in, before_in, after_in}
use Rattle.ac_tree.specs.TreeFields.{links, StandsFor, forest_in, written, written_at, value_put}
use Rattle.ac_tree.specs.TreeRows.{rows_of, tree_object, IsTree}
use Rattle.ac_tree.proofs.Places.{IsAround, outline_plugged, plugged_has, around_has, plugged_either, plugged_size, size_is, parted, has}
use Rattle.ac_tree.proofs.Places as places
use Rattle.ac_tree.proofs.Writes.{keeps_at}
use Rattle.ac_tree.proofs.Forests.{live_of, revalued_stands, forest-is}
use Rattle.ac_tree.proofs.Objects.{tree_from}
use Rattle.ac_tree.proofs.Outlines.{seen, seen-append, before_out, forest_out, IsAlone}
use Rattle.ac_tree.proofs.Spots.{out-append}
use Rattle.ac_tree.proofs.Judging.{at_element}
use Rattle.ac_tree.proofs.Looking.{at_place, value_at_place}

module _ {X : Type 0} where
  pub written_is : (c : Contents (TreeNode X)) (a : Name) (w : TreeNode X → TreeNode X) (n : TreeNode X) → value_of c a ≡ Some n → written_at c a w ≡ pool.with_value c a (w n)
  unfolding written_at
  written_is c a w n is = ap (written c a w) is

  -- the forest with another value at a place
  pub record Revalued (l : Links X) (w : X) (a : Name) (steps : List (Step X)) (x : Row Name X) (below rest : Forest X) : Type 0 where
    pub stands : StandsFor (links (written_at l.nodes a (value_put w)) l.first l.last) (plugged steps (grove (row x.name w) below rest))
    pub next : (written_at l.nodes a (value_put w)).next_serial ≡ l.nodes.next_serial
    pub spare : (written_at l.nodes a (value_put w)).spare ≡ l.nodes.spare

  pub revalued_is : (l : Links X) (w : X) (a : Name) (steps : List (Step X)) (x : Row Name X) (below rest : Forest X) → StandsFor l (plugged steps (grove x below rest)) → x.name ≡ a → Revalued l w a steps x below rest
  revalued_is l w a steps x below rest s e =
      let n = live_value (value_of l.nodes x.name) (live_of l (plugged steps (grove x below rest)) s x.name (plugged_has steps (grove x below rest) x.name (inl refl))) in
      let is = written_is l.nodes x.name (value_put w) n.0 n.1 in
      subst (λ k. Revalued l w k steps x below rest) e (record {
        stands = subst (λ (d : Contents (TreeNode X)). StandsFor (links d l.first l.last) (plugged steps (grove (row x.name w) below rest))) (sym is) (revalued_stands l steps x below rest w n.0 s n.1);
        next = ap (λ (d : Contents (TreeNode X)). d.next_serial) is;
        spare = ap (λ (d : Contents (TreeNode X)). d.spare) is;
      })

  pub revalued_tree : (limit : Limit) (l : Links X) (w : X) (a : Name) (steps : List (Step X)) (x : Row Name X) (below rest : Forest X) → IsTree limit l → StandsFor l (plugged steps (grove x below rest)) → Revalued l w a steps x below rest
      → IsTree limit (links (written_at l.nodes a (value_put w)) l.first l.last)
  revalued_tree limit l w a steps x below rest t s r =
      let all = size_is 2 (plugged steps (grove x below rest)) in
      let were = ap (λ (z : Forest X). length (outline 2 z)) (forest-is l (plugged steps (grove x below rest)) s) in
      let same = plugged_size steps (grove x below rest) (grove (row x.name w) below rest) 0 (omega arith) in
      let count : size (plugged steps (grove (row x.name w) below rest)) ≡ length (rows_of l).rows = omega (arith, all, were, same) in
      let few = t.sequence.within_greatest in
      tree_from limit (links (written_at l.nodes a (value_put w)) l.first l.last) (plugged steps (grove (row x.name w) below rest)) r.stands t.sequence.is_limit (omega (arith, count, few))
      (subst (λ n. HasSlots limit n (written_at l.nodes a (value_put w)).spare) (sym count) (subst (λ n. HasSlots limit (length (rows_of l).rows) n) (sym r.spare) t.sequence.has_slots))

  value_aside : (n : ℕ) (v : Node X) (rows : List (Row Name (Node X))) → is_in n (seen rows) ≡ false → with_value (plains rows) n v ≡ plains rows
  value_aside n v [] out = refl
  value_aside n v (r ∷ rows) out = elim (cases_Bool (r.name.serial == n)) [
    | inl t ↦ absurd (true≢false (sym (ap (λ b. b || is_in n (seen rows)) t) ∙ out))
    | inr f ↦ (λ i. cond-false (r.name.serial == n) (row n v) (row r.name.serial r.value) f i ∷ value_aside n v rows (sym (ap (λ b. b || is_in n (seen rows)) f) ∙ out) i)
  ]

  value_set : (front : List (Row Name (Node X))) (a : Name) (u v : Node X) (rest : List (Row Name (Node X))) → is_in a.serial (seen front) ≡ false → is_in a.serial (seen rest) ≡ false
      → with_value (plains (front ++ row a u ∷ rest)) a.serial v ≡ plains (front ++ row a v ∷ rest)
  value_set [] a u v rest before behind = (λ i. cond-true (a.serial == a.serial) (row a.serial v) (row a.serial u) (eq-eqb a.serial a.serial refl) i ∷ value_aside a.serial v rest behind i)
  value_set (f ∷ front) a u v rest before behind = elim (cases_Bool (f.name.serial == a.serial)) [
    | inl t ↦ absurd (true≢false (sym (ap (λ b. b || is_in a.serial (seen front)) t) ∙ before))
    | inr n ↦ (λ i. cond-false (f.name.serial == a.serial) (row a.serial v) (row f.name.serial f.value) n i ∷ value_set front a u v rest (sym (ap (λ b. b || is_in a.serial (seen front)) n) ∙ before) behind i)
  ]

  after_out : (n : ℕ) (steps : List (Step X)) → ((a : Name) → IsAround a steps → a.serial ≢ n) → is_in n (seen (after_in steps)) ≡ false
  after_out n [] other = refl
  after_out n (under x rest ∷ steps) other =
      ap (is_in n) (seen-append (outline (depth_in steps) rest) (after_in steps))
      ∙ out-append n (seen (outline (depth_in steps) rest)) (seen (after_in steps)) (forest_out n (depth_in steps) rest (λ a h. other a (inr (inl h)))) (after_out n steps (λ a h. other a (inr (inr h))))
  after_out n (after x below ∷ steps) other = after_out n steps (λ a h. other a (inr (inr h)))

  -- the names below a node and behind it have other serials than its own
  part_out : (l : Links X) (steps : List (Step X)) (x : Row Name X) (below rest : Forest X) → StandsFor l (plugged steps (grove x below rest)) → (a : Name) → Has a below ⊎ Has a rest → a.serial ≢ x.name.serial
  part_out l steps x below rest s a h e =
      let t = grove x below rest in
      let live = live_of l (plugged steps t) s x.name (plugged_has steps t x.name (inl refl)) in
      let same : a ≡ x.name = s.sound.serials a x.name (live_of l (plugged steps t) s a (plugged_has steps t a (inr h))) live e in
      let once = (parted steps t s.once).once in
      elim h [ inl b ↦ once.0 (subst (λ n. Has n below) same b) | inr r ↦ once.1 (subst (λ n. Has n rest) same r) ]

  rows_set : (l : Links X) (steps : List (Step X)) (x : Row Name X) (below rest : Forest X) (w : X) → StandsFor l (plugged steps (grove x below rest)) → IsAlone steps x.name.serial
      → with_value (plains (outline 2 (plugged steps (grove x below rest)))) x.name.serial (node (depth_in steps) w) ≡ plains (outline 2 (plugged steps (grove (row x.name w) below rest)))
  rows_set l steps x below rest w s alone =
      let d = depth_in steps in let n = x.name.serial in
      let ys = (outline (d + 1) below ++ outline d rest) ++ after_in steps in
      let behind : is_in n (seen ys) ≡ false =
      ap (is_in n) (seen-append (outline (d + 1) below ++ outline d rest) (after_in steps))
      ∙ out-append n (seen (outline (d + 1) below ++ outline d rest)) (seen (after_in steps))
      (ap (is_in n) (seen-append (outline (d + 1) below) (outline d rest))
      ∙ out-append n (seen (outline (d + 1) below)) (seen (outline d rest)) (forest_out n (d + 1) below (λ a h. part_out l steps x below rest s a (inl h))) (forest_out n d rest (λ a h. part_out l steps x below rest s a (inr h))))
      (after_out n steps alone.around) in
      ap (λ z. with_value (plains z) n (node d w)) (outline_plugged steps (grove x below rest))
      ∙ value_set (before_in steps) x.name (node d x.value) (node d w) ys (before_out n steps alone.around) behind
      ∙ sym (ap plains (outline_plugged steps (grove (row x.name w) below rest)))

  names_kept : (a : Name) (steps : List (Step X)) (x : Row Name X) (below rest : Forest X) (w : X) → Has a (plugged steps (grove (row x.name w) below rest)) → Has a (plugged steps (grove x below rest))
  names_kept a steps x below rest w h = elim (plugged_either steps (grove (row x.name w) below rest) a h) [ inl k ↦ plugged_has steps (grove x below rest) a k | inr k ↦ around_has steps (grove x below rest) a k ]

  -- the tree with another value under the name
  pub record Reset (g : GuardCounts) (limit : Limit) (l : Links X) (a : Name) (w : X) (m : Links X) : Type 0 where
    pub tree : IsTree limit m
    pub plainly : plain (tree_object g limit m) ≡ with_rows (plain (tree_object g limit l)) (trees.with_element (plain (tree_object g limit l)).rows a.serial (Some w))
    pub kept : (b : Name) → HasName b (outline 2 (forest_in m)) → HasName b (outline 2 (forest_in l))
    pub live : (b : Name) → IsLive l.nodes b → IsLive m.nodes b
    pub spare : m.nodes.spare ≡ l.nodes.spare

  pub reset : (g : GuardCounts) (limit : Limit) (l : Links X) → IsTree limit l → (a : Name) → IsLive l.nodes a → (w : X) → Reset g limit l a w (links (written_at l.nodes a (value_put w)) l.first l.last)
  reset g limit l t a live w =
      let k = at_place l t.forest a live in
      let r = revalued_is l w a k.steps k.at k.below k.rest k.stands k.named in
      let m = links (written_at l.nodes a (value_put w)) l.first l.last in
      let old : outline 2 (forest_in l) ≡ outline 2 (plugged k.steps (grove k.at k.below k.rest)) = ap (outline 2) (sym k.is) in
      let new : outline 2 (forest_in m) ≡ outline 2 (plugged k.steps (grove (row k.at.name w) k.below k.rest)) = ap (outline 2) (forest-is m _ r.stands) in
      let serial : a.serial ≡ k.at.name.serial = ap (λ (n : Name). n.serial) (sym k.named) in
      let rows : plains (outline 2 (forest_in m)) ≡ trees.with_element (plains (outline 2 (forest_in l))) a.serial (Some w) =
      ap plains new ∙ sym (rows_set l k.steps k.at k.below k.rest w k.stands k.alone)
      ∙ sym (ap (λ v. with_some_value (plains (outline 2 (plugged k.steps (grove k.at k.below k.rest)))) k.at.name.serial (option_map (λ (n : Node X). node n.depth w) v)) (value_at_place k.steps k.at k.below k.rest k.alone))
      ∙ sym (λ i. trees.with_element (plains (old i)) (serial i) (Some w)) in record {
        tree = revalued_tree limit l w a k.steps k.at k.below k.rest t k.stands r;
        plainly = λ i. record { number = g.number; limit = limit; capacity = None; next = r.next i; rows = rows i; cursor_guards = g.cursor_guards; element_guards = g.element_guards };
        kept = λ b q. places.named b 2 (forest_in l) (subst (λ z. Has b z) k.is (names_kept b k.steps k.at k.below k.rest w (has b 2 _ (subst (λ z. HasName b z) new q))));
        live = λ b h. (keeps_at l.nodes a (value_put w)).live b ∙ h;
        spare = r.spare;
      }

  pub revalued_after : (g : GuardCounts) (limit : Limit) (l : Links X) (t : IsTree limit l) (w : X) (c : Cursor) (h : needs_element (plain (tree_object g limit l)) (tree_mark (tree_object g limit l) c) ≡ None) (a : Name) → a ≡ name_in c
      → IsTree limit (links (written_at l.nodes a (value_put w)) l.first l.last)
      × IsAfter (tree_object g limit l) (tree_object g limit (links (written_at l.nodes a (value_put w)) l.first l.last))
      (with_rows (plain (tree_object g limit l)) (trees.with_element (plain (tree_object g limit l)).rows (name_of (tree_mark (tree_object g limit l) c)) (Some w)))
      × ((written_at l.nodes a (value_put w)).spare ≡ l.nodes.spare)
  revalued_after g limit l t w c h a is =
      let o = tree_object g limit l in
      let e = at_element l t.forest o refl c h in
      let named : e.name ≡ a = sym (is ∙ e.is) in
      let r = reset g limit l t a (subst (λ n. IsLive l.nodes n) named e.live) w in
      let m = links (written_at l.nodes a (value_put w)) l.first l.last in
      let serial : name_of (tree_mark o c) ≡ a.serial = ap name_of e.mark ∙ ap (λ (n : Name). n.serial) named in (
        r.tree,
        record {
          plainly = r.plainly ∙ sym (ap (λ n. with_rows (plain o) (trees.with_element (plain o).rows n (Some w))) serial);
          slots = all_from (λ name. name.serial < l.nodes.next_serial → IsTrue (is_among (names (outline 2 (forest_in l))) name)) (outline 2 (forest_in m)) (λ b q lt. has_among b (outline 2 (forest_in l)) (r.kept b q));
        },
        r.spare,
      )
