-- What a tree is after two elements changed places.
use Rattle.std.proofs.Common.{◌≡◌, ◌≢◌, ℕ, Some, None, IsTrue, refl, sym, ap, ◌∙◌, subst, inl, inr}
use Rattle.std.specs.Prelude.{◌<◌}
use Rattle.ac_base.specs.declared.limit.Limit.{Limit}
use Rattle.ac_base.specs.declared.name.Name.{Name}
use Rattle.ac_base.specs.declared.cursor.Cursor.{Cursor}
use Rattle.ac_base.specs.Guards.{GuardCounts}
use Rattle.ac_base.specs.Rows.{names}
use Rattle.ac_pool.specs.Contents.{Contents, contents, value_of, with_value, swapped}
use Rattle.ac_pool.proofs.NameLaws.{cases_name, same_names}
use Rattle.ac_pool.proofs.ContentsLaws.{value_of-with_value_same, value_of-with_value_other, with_value-same, swapped_live, swapped_itself}
use Rattle.ac_chain.proofs.Grows.{all_from}
use Rattle.ac_chain.proofs.Marks.{has_among}
use Rattle.ac_model.specs.Rows.{Node}
use Rattle.ac_model.specs.Objects.{Object, plain, with_rows}
use Rattle.ac_model.specs.Letters.{name_of, is_among}
use Rattle.ac_model.specs.Cursors.{name_in}
use Rattle.ac_model.specs.Calls.{IsAfter}
use Rattle.ac_model.specs.Trees as trees
use Rattle.ac_model.specs.Trees.{tree_mark, needs_element}
use Rattle.ac_tree.specs.declared.links.TreeNode.{TreeNode}
use Rattle.ac_tree.specs.declared.links.Links.{Links}
use Rattle.ac_tree.specs.Forests.{outline}
use Rattle.ac_tree.specs.TreeFields.{links, forest_in, written_at, value_put, links_in, links_put, exchanged_in}
use Rattle.ac_tree.specs.TreeRows.{tree_object, IsTree}
use Rattle.ac_tree.proofs.Judging.{at_element}
use Rattle.ac_tree.proofs.Looking.{at_place, value_of_name}
use Rattle.ac_tree.proofs.Replacing.{written_is, reset}

module _ {X : Type 0} where
  -- two nodes that changed places and took their links back
  abbrev nodes_exchanged : Contents (TreeNode X) → Name → Name → Contents (TreeNode X)
  nodes_exchanged c a b = written_at (written_at (swapped c a b) a (links_put (links_in (value_of c a)))) b (links_put (links_in (value_of c b)))

  own_links : (c : Contents (TreeNode X)) (a : Name) (m : TreeNode X) → value_of c a ≡ Some m → written_at c a (links_put (links_in (value_of c a))) ≡ c
  own_links c a m is = ap (λ o. written_at c a (links_put (links_in o))) is ∙ written_is c a (links_put (links_in (Some m))) m is ∙ with_value-same c a m is

  own_value : (c : Contents (TreeNode X)) (a : Name) (m : TreeNode X) → value_of c a ≡ Some m → written_at c a (value_put m.value) ≡ c
  own_value c a m is = written_is c a (value_put m.value) m is ∙ with_value-same c a m is

  with_itself : (c : Contents (TreeNode X)) (a : Name) (m : TreeNode X) → value_of c a ≡ Some m → nodes_exchanged c a a ≡ written_at (written_at c a (value_put m.value)) a (value_put m.value)
  with_itself c a m is =
      let own = own_links c a m is in let put = links_put (links_in (value_of c a)) in
      ap (λ z. written_at (written_at z a put) a put) (swapped_itself c a) ∙ ap (λ z. written_at z a put) own ∙ own
      ∙ sym (ap (λ z. written_at z a (value_put m.value)) (own_value c a m is) ∙ own_value c a m is)

  four_two : (c : Contents (TreeNode X)) (a b : Name) (m n p q : TreeNode X) → a ≢ b → with_value (with_value (with_value (with_value c a n) b m) a p) b q ≡ with_value (with_value c a p) b q
  four_two c a b m n p q apart =
      let two = with_value (with_value c a n) b m in
      let four = with_value (with_value two a p) b q in
      let short = with_value (with_value c a p) b q in
      let each : (k : Name) → value_of four k ≡ value_of short k = λ k. elim (cases_name k b) [
        | inl at ↦ ap (value_of four) at ∙ value_of-with_value_same (with_value two a p) b q ∙ sym (value_of-with_value_same (with_value c a p) b q) ∙ ap (value_of short) (sym at)
        | inr nb ↦ value_of-with_value_other (with_value two a p) b k q nb ∙ elim (cases_name k a) [
          | inl at ↦ ap (value_of (with_value two a p)) at ∙ value_of-with_value_same two a p ∙ sym (value_of-with_value_same c a p) ∙ ap (value_of (with_value c a p)) (sym at)
          | inr na ↦ value_of-with_value_other two a k p na ∙ value_of-with_value_other (with_value c a n) b k m nb ∙ value_of-with_value_other c a k n na ∙ sym (value_of-with_value_other c a k p na)
        ] ∙ sym (value_of-with_value_other (with_value c a p) b k q nb)
      ] in
      let entries = same_names four.entries short.entries each in λ i. contents (entries i) c.next_serial c.spare

  apart_exchanged : (c : Contents (TreeNode X)) (a b : Name) (m n : TreeNode X) → a ≢ b → value_of c a ≡ Some m → value_of c b ≡ Some n
      → nodes_exchanged c a b ≡ written_at (written_at c a (value_put n.value)) b (value_put m.value)
  apart_exchanged c a b m n apart at_a at_b =
      let p = value_put n.value m in let q = value_put m.value n in
      let two = with_value (with_value c a n) b m in
      let back = λ (e : b ≡ a). apart (sym e) in
      let two_a : value_of two a ≡ Some n = value_of-with_value_other (with_value c a n) b a m apart ∙ value_of-with_value_same c a n in
      let two_b : value_of (with_value two a p) b ≡ Some m = value_of-with_value_other two a b p back ∙ value_of-with_value_same (with_value c a n) b m in
      let one_b : value_of (with_value c a p) b ≡ Some n = value_of-with_value_other c a b p back ∙ at_b in
      (λ i. written_at (written_at (swapped_live c a b m n at_a at_b i) a (links_put (links_in (at_a i)))) b (links_put (links_in (at_b i))))
      ∙ ap (λ z. written_at z b (links_put (links_in (Some n)))) (written_is two a (links_put (links_in (Some m))) n two_a)
      ∙ written_is (with_value two a p) b (links_put (links_in (Some n))) m two_b
      ∙ four_two c a b m n p q apart
      ∙ sym (ap (λ z. written_at z b (value_put m.value)) (written_is c a (value_put n.value) m at_a) ∙ written_is (with_value c a p) b (value_put m.value) n one_b)

  exchanged_nodes : (c : Contents (TreeNode X)) (a b : Name) (m n : TreeNode X) → value_of c a ≡ Some m → value_of c b ≡ Some n → nodes_exchanged c a b ≡ written_at (written_at c a (value_put n.value)) b (value_put m.value)
  exchanged_nodes c a b m n at_a at_b = elim (cases_name a b) [
    | inl e ↦
        let same : m ≡ n = (let some : Some m ≡ Some n = sym at_a ∙ ap (value_of c) e ∙ at_b in cc) in
        subst (λ z. nodes_exchanged c a z ≡ written_at (written_at c a (value_put n.value)) z (value_put m.value)) e
        (subst (λ (k : TreeNode X). nodes_exchanged c a a ≡ written_at (written_at c a (value_put k.value)) a (value_put m.value)) same (with_itself c a m at_a))
    | inr apart ↦ apart_exchanged c a b m n apart at_a at_b
  ]

  exchanged_links : (l : Links X) (a b : Name) (m n : TreeNode X) → value_of l.nodes a ≡ Some m → value_of l.nodes b ≡ Some n
      → exchanged_in l a b ≡ links (written_at (written_at l.nodes a (value_put n.value)) b (value_put m.value)) l.first l.last
  unfolding exchanged_in
  exchanged_links l a b m n at_a at_b = ap (λ c. links c l.first l.last) (exchanged_nodes l.nodes a b m n at_a at_b)

  -- the tree with two elements in each other's place
  pub record Swapped (g : GuardCounts) (limit : Limit) (l : Links X) (c d : Cursor) (m : Links X) : Type 0 where
    pub tree : IsTree limit m
    pub after : IsAfter (tree_object g limit l) (tree_object g limit m) (trees.swap_call (plain (tree_object g limit l)) (tree_mark (tree_object g limit l) c) (tree_mark (tree_object g limit l) d)).after
    pub spare : m.nodes.spare ≡ l.nodes.spare

  pub swapped_after : (g : GuardCounts) (limit : Limit) (l : Links X) (t : IsTree limit l) (c d : Cursor) → needs_element (plain (tree_object g limit l)) (tree_mark (tree_object g limit l) c) ≡ None
      → needs_element (plain (tree_object g limit l)) (tree_mark (tree_object g limit l) d) ≡ None → (a b : Name) → a ≡ name_in c → b ≡ name_in d → Swapped g limit l c d (exchanged_in l a b)
  swapped_after g limit l t c d hc hd a b is_a is_b =
      let o = tree_object g limit l in
      let e = at_element l t.forest o refl c hc in let f = at_element l t.forest o refl d hd in
      let k = at_place l t.forest e.name e.live in let j = at_place l t.forest f.name f.live in
      let x = k.at.value in let y = j.at.value in
      let r = reset g limit l t e.name e.live y in
      let one = links (written_at l.nodes e.name (value_put y)) l.first l.last in
      let q = reset g limit one r.tree f.name (r.live f.name f.live) x in
      let two = links (written_at one.nodes f.name (value_put x)) one.first one.last in
      let node_a = ap (value_of l.nodes) (sym k.named) ∙ k.links.node in
      let node_b = ap (value_of l.nodes) (sym j.named) ∙ j.links.node in
      let are : exchanged_in l a b ≡ two = (λ i. exchanged_in l ((is_a ∙ e.is) i) ((is_b ∙ f.is) i)) ∙ exchanged_links l e.name f.name _ _ node_a node_b in
      let at_c = value_of_name l t.forest o refl c e k in let at_d = value_of_name l t.forest o refl d f j in
      let by : (trees.swap_call (plain o) (tree_mark o c) (tree_mark o d)).after
      ≡ with_rows (plain o) (trees.with_element (trees.with_element (plain o).rows e.name.serial (Some y)) f.name.serial (Some x)) =
      (λ i. with_rows (plain o) (trees.with_element (trees.with_element (plain o).rows (name_of (e.mark i)) (at_d i)) (name_of (f.mark i)) (at_c i))) in
      subst (λ z. Swapped g limit l c d z) (sym are) (record {
        tree = q.tree;
        after = record {
          plainly = q.plainly ∙ ap (λ (p : Object ℕ (Node X)). with_rows p (trees.with_element p.rows f.name.serial (Some x))) r.plainly ∙ sym by;
          slots = all_from (λ name. name.serial < l.nodes.next_serial → IsTrue (is_among (names (outline 2 (forest_in l))) name)) (outline 2 (forest_in two)) (λ n s lt.
              has_among n (outline 2 (forest_in l)) (r.kept n (q.kept n s)));
        };
        spare = q.spare ∙ r.spare;
      })
