-- Both links of a node, written at once.
use Rattle.std.proofs.Common.{◌≡◌, ◌≢◌, ℕ, Option, Some, None, refl, sym, ap, ◌∙◌, inl, inr}
use Rattle.std.specs.FinMap as map
use Rattle.ac_base.specs.declared.name.Name.{Name}
use Rattle.ac_pool.specs.Contents.{Contents, contents, value_of, with_value}
use Rattle.ac_pool.proofs.NameLaws.{cases_name, same_names}
use Rattle.ac_pool.proofs.ContentsLaws.{value_of-with_value_same, value_of-with_value_other, with_value-same}
use Rattle.ac_chain.specs.declared.links.Node.{Node}
use Rattle.ac_chain.specs.declared.links.Links.{Links}
use Rattle.ac_pool.specs.Link.{link_of, name_in}
use Rattle.ac_chain.specs.ChainFields.{node, node_with, links, prev_written, next_written, links_written, with_next, with_prev, with_links, joined, before_in, linked_before, attached}

module _ {X : Type 0} where
  written_twice : (c : Contents (Node X)) (a : Name) (m k : Node X) → with_value (with_value c a m) a k ≡ with_value c a k
  written_twice c a m k =
      let one = with_value c a m in
      let each : (q : Name) → value_of (with_value one a k) q ≡ value_of (with_value c a k) q = λ q. elim (cases_name q a) [
        | inl at ↦ ap (value_of (with_value one a k)) at ∙ value_of-with_value_same one a k ∙ sym (value_of-with_value_same c a k) ∙ ap (value_of (with_value c a k)) (sym at)
        | inr ne ↦ value_of-with_value_other one a q k ne ∙ value_of-with_value_other c a q m ne ∙ sym (value_of-with_value_other c a q k ne)
      ] in
      let entries = same_names (map.insert one.entries a k) (map.insert c.entries a k) each in λ i. contents (entries i) c.next_serial c.spare

  both_nodes : (c : Contents (Node X)) (a : Name) (prev next : Option Name) (o : Option (Node X)) → value_of c a ≡ o
      → links_written c a (link_of prev) (link_of next) o ≡ next_written (prev_written c a prev o) a next (value_of (prev_written c a prev o) a)
  both_nodes c a prev next None is = ap (next_written c a next) (sym is)
  both_nodes c a prev next (Some n) is =
      let m = node_with n.value (link_of prev) n.next in
      sym (ap (next_written (with_value c a m) a next) (value_of-with_value_same c a m) ∙ written_twice c a m (node_with n.value (link_of prev) (link_of next)))

  both_written : (l : Links X) (a : Name) (prev next : Option Name) → with_links l a (link_of prev) (link_of next) ≡ with_next (with_prev l (Some a) prev) (Some a) next
  unfolding with_links with_next with_prev
  both_written l a prev next = ap (λ c. links c l.first l.last) (both_nodes l.nodes a prev next (value_of l.nodes a) refl)

  pub linked_before-is : (l : Links X) (place : Option Name) (a : Name) (before : Option Name) → before ≡ before_in l place
      → with_prev (with_links (with_next l before (Some a)) a (link_of before) (link_of place)) place (Some a) ≡ linked_before l place a
  unfolding linked_before joined
  linked_before-is l place a before is =
      ap (λ m. with_prev m place (Some a)) (both_written (with_next l before (Some a)) a before place)
      ∙ ap (λ o. with_prev (with_next (with_prev (with_next l o (Some a)) (Some a) o) (Some a) place) place (Some a)) is

  -- a node that has its links already
  links_kept : (l : Links X) (a : Name) (v : X) (prev next : ℕ) → value_of l.nodes a ≡ Some (node_with v prev next) → with_links l a prev next ≡ l
  unfolding with_links
  links_kept l a v prev next is = ap (λ c. links c l.first l.last) (ap (links_written l.nodes a prev next) is ∙ with_value-same l.nodes a (node_with v prev next) is)

  node_kept : (c : Contents (Node X)) (a b : Name) (to : Option Name) (n : Node X) (o : Option (Node X)) → a ≢ b → value_of c a ≡ Some n → value_of (next_written c b to o) a ≡ Some n
  node_kept c a b to n None ne is = is
  node_kept c a b to n (Some m) ne is = value_of-with_value_other c b a (node_with m.value m.prev (link_of to)) ne ∙ is

  next_kept : (l : Links X) (o to : Option Name) (a : Name) (n : Node X) → ((b : Name) → o ≡ Some b → a ≢ b) → value_of l.nodes a ≡ Some n → value_of (with_next l o to).nodes a ≡ Some n
  unfolding with_next
  next_kept l None to a n apart is = is
  next_kept l (Some b) to a n apart is = node_kept l.nodes a b to n (value_of l.nodes b) (apart b refl) is

  pub attached-is : (l : Links X) (place : Option Name) (a : Name) (v : X) (link : ℕ) (before : Option Name) → name_in l.nodes link ≡ before → before ≡ before_in l place → ((b : Name) → before ≡ Some b → a ≢ b)
      → value_of l.nodes a ≡ Some (node v before place) → attached l link place a ≡ linked_before l place a
  unfolding attached
  attached-is l place a v link before leads is apart at =
      let one = with_next l before (Some a) in
      ap (λ o. with_prev (with_next l o (Some a)) place (Some a)) leads
      ∙ ap (λ m. with_prev m place (Some a)) (sym (links_kept one a v (link_of before) (link_of place) (next_kept l before (Some a) a (node v before place) apart at)))
      ∙ linked_before-is l place a before is
