-- What a write of a value leaves of a chain, and the exchange of two values.
use Rattle.std.proofs.Common.{◌≡◌, ◌≢◌, ℕ, suc, List, ◌∷◌, ◌++◌, length, set, Option, Some, None, is_some, refl, sym, ap, ◌∙◌, subst, inl, inr, []}
use Rattle.std.proofs.lemmas.List.{set_at}
use Rattle.ac_base.specs.declared.name.Name.{Name}
use Rattle.ac_pool.specs.Contents as pool
use Rattle.ac_pool.specs.Contents.{Contents, contents, swapped}
use Rattle.ac_pool.proofs.NameLaws.{cases_name, same_names}
use Rattle.ac_pool.proofs.ContentsLaws.{live_value, value_of-with_value_same, value_of-with_value_other, live_count-with_value, IsSound-with_value, swapped_live}
use Rattle.ac_chain.specs.declared.links.Node.{Node}
use Rattle.ac_chain.specs.declared.links.Links.{Links}
use Rattle.ac_base.specs.Rows.{Row, row}
use Rattle.ac_chain.specs.Rows.{chained, IsLive, with_value, values_swapped, values_exchanged}
use Rattle.ac_pool.specs.NamedRows.{index_of, HasName, IsOnce}
use Rattle.ac_chain.specs.ChainFields.{node, node_with, links, first_or, last_or, Linked, StandsFor, rows_in, IsChain, next_link, prev_link, value_written, with_node_value, links_written, with_links, exchanged_in}
use Rattle.ac_chain.proofs.Ends.{last_or-append}
use Rattle.ac_pool.proofs.Cuts.{HasName-cut, HasName-put, HasName-right, once_cut, once_gone, once_put, live_has, cut}
use Rattle.ac_chain.proofs.Linking.{Nodes, Linked-same}
use Rattle.ac_chain.proofs.Chains.{view_of, rows_in-is, IsChain-from, node_at, value_at, live_in, live_from}

module _ {X : Type 0} where
  Linked-value : (f g : Nodes X) (p : Option Name) (xs : List (Row Name X)) (r : Row Name X) (ys : List (Row Name X)) (n : Option Name) (w : X) → IsOnce (xs ++ r ∷ ys)
      → ((b : Name) → b ≢ r.name → g b ≡ f b) → g r.name ≡ Some (node w (last_or p xs) (first_or ys n)) → Linked f p (xs ++ r ∷ ys) n → Linked g p (xs ++ row r.name w ∷ ys) n
  Linked-value f g p [] r ys n w once there here h = (here, Linked-same f g (Some r.name) ys n (λ b t. there b (λ e. once.0 (subst (λ k. HasName k ys) e t))) h.1)
  Linked-value f g p (x ∷ []) r ys n w once there here h = (there x.name (λ e. once.0 (inl e)) ∙ h.0, Linked-value f g (Some x.name) [] r ys n w once.1 there here h.1)
  Linked-value f g p (x ∷ y ∷ xs) r ys n w once there here h =
      (there x.name (λ e. once.0 (HasName-right x.name (y ∷ xs) (r ∷ ys) (inl e))) ∙ h.0, Linked-value f g (Some x.name) (y ∷ xs) r ys n w once.1 there here h.1)

  first-value : (xs : List (Row Name X)) (r : Row Name X) (ys : List (Row Name X)) (w : X) → first_or (xs ++ r ∷ ys) None ≡ first_or (xs ++ row r.name w ∷ ys) None
  first-value [] r ys w = refl
  first-value (x ∷ xs) r ys w = refl

  length-value : (xs : List (Row Name X)) (r : Row Name X) (ys : List (Row Name X)) (w : X) → length (xs ++ row r.name w ∷ ys) ≡ length (xs ++ r ∷ ys)
  length-value [] r ys w = refl
  length-value (x ∷ xs) r ys w = ap suc (length-value xs r ys w)

  written_stands : (l : Links X) (xs : List (Row Name X)) (r : Row Name X) (ys : List (Row Name X)) (w : X) (p q : Option Name) → StandsFor l (xs ++ r ∷ ys) → pool.value_of l.nodes r.name ≡ Some (node r.value p q)
      → p ≡ last_or None xs → q ≡ first_or ys None → StandsFor (links (pool.with_value l.nodes r.name (node w p q)) l.first l.last) (xs ++ row r.name w ∷ ys)
  written_stands l xs r ys w p q s is p_is q_is =
      let d = pool.with_value l.nodes r.name (node w p q) in
      let live : pool.IsLive l.nodes r.name = ap is_some is in
      let there = λ (b : Name) (ne : b ≢ r.name). value_of-with_value_other l.nodes r.name b (node w p q) ne in
      let here : pool.value_of d r.name ≡ Some (node w (last_or None xs) (first_or ys None)) = value_of-with_value_same l.nodes r.name (node w p q) ∙ (λ i. Some (node w (p_is i) (q_is i))) in
      record {
        linked = Linked-value (pool.value_of l.nodes) (pool.value_of d) None xs r ys None w s.once there here s.linked;
        first = s.first ∙ first-value xs r ys w;
        last = s.last ∙ last_or-append None xs (r ∷ ys) ∙ sym (last_or-append None xs (row r.name w ∷ ys));
        once = once_put xs (row r.name w) ys (once_cut xs r ys s.once) (once_gone xs r ys s.once);
        all = λ b h. elim (cases_name b r.name) [
          | inl e ↦ HasName-right b xs (row r.name w ∷ ys) (inl e)
          | inr ne ↦ elim (HasName-cut b xs r ys (s.all b (ap is_some (sym (there b ne)) ∙ h))) [ inl e ↦ absurd (ne e) | inr t ↦ HasName-put b xs (row r.name w) ys t ]
        ];
        count = length-value xs r ys w ∙ s.count ∙ sym (live_count-with_value l.nodes r.name (node w p q) live);
        sound = IsSound-with_value l.nodes r.name (node w p q) live s.sound;
      }

  with_node_value-is : (l : Links X) (a : Name) (w : X) (n : Node X) → pool.value_of l.nodes a ≡ Some n → with_node_value l a w ≡ links (pool.with_value l.nodes a (node_with w n.prev n.next)) l.first l.last
  with_node_value-is l a w n is = ap (λ o. links (value_written l.nodes a w o) l.first l.last) is

  pub written_chain : (l : Links X) → IsChain l → (a : Name) (w : X) → IsLive (view_of l) a → IsChain (with_node_value l a w) × (view_of (with_node_value l a w) ≡ with_value (view_of l) a w)
  written_chain l s a w h =
      let rows = rows_in l in
      let k = cut a rows (live_has a rows h) in
      let r = k.at in
      let p = last_or None k.before in
      let q = first_or k.after None in
      let at = node_at l rows s a k in
      let stands : StandsFor l (k.before ++ r ∷ k.after) = subst (λ zs. StandsFor l zs) k.is s in
      let is_r : pool.value_of l.nodes r.name ≡ Some (node r.value p q) = ap (pool.value_of l.nodes) (sym k.named) ∙ at in
      let d = pool.with_value l.nodes r.name (node w p q) in
      let m = links d l.first l.last in
      let t = written_stands l k.before r k.after w p q stands is_r refl refl in
      let is : with_node_value l a w ≡ m = with_node_value-is l a w (node r.value p q) at ∙ ap (λ b. links (pool.with_value l.nodes b (node w p q)) l.first l.last) k.named in
      let all : rows_in m ≡ set rows (index_of a rows) (row a w) = rows_in-is m (k.before ++ row r.name w ∷ k.after) t
      ∙ ap (λ b. k.before ++ row b w ∷ k.after) (sym k.named) ∙ sym (set_at k.before r k.after (row a w) (length k.before) refl) ∙ ap (λ zs. set zs (length k.before) (row a w)) (sym k.is) ∙ ap (λ i. set rows i (row a w)) (sym k.place) in (
        subst (λ (x : Links X). IsChain x) (sym is) (IsChain-from m (k.before ++ row r.name w ∷ k.after) t),
        subst (λ (x : Links X). view_of x ≡ with_value (view_of l) a w) (sym is) (ap (λ zs. chained zs l.nodes.next_serial l.nodes.spare) all),
      )

  -- d is c but for the node of a
  record Puts (c d : Contents (Node X)) (a : Name) (n : Node X) : Type 0 where
    here : pool.value_of d a ≡ Some n
    there : (b : Name) → b ≢ a → pool.value_of d b ≡ pool.value_of c b
    next : d.next_serial ≡ c.next_serial
    spare : d.spare ≡ c.spare

  puts-with_value : (c : Contents (Node X)) (a : Name) (n : Node X) → Puts c (pool.with_value c a n) a n
  puts-with_value c a n = record { here = value_of-with_value_same c a n; there = λ b ne. value_of-with_value_other c a b n ne; next = refl; spare = refl }

  puts-links : (c : Contents (Node X)) (a : Name) (p q : ℕ) (m : Node X) → pool.value_of c a ≡ Some m → Puts c (links_written c a p q (pool.value_of c a)) a (node_with m.value p q)
  puts-links c a p q m is = subst (λ o. Puts c (links_written c a p q o) a (node_with m.value p q)) (sym is) (puts-with_value c a (node_with m.value p q))

  puts-value : (c : Contents (Node X)) (a : Name) (w : X) (m : Node X) → pool.value_of c a ≡ Some m → Puts c (value_written c a w (pool.value_of c a)) a (node_with w m.prev m.next)
  puts-value c a w m is = subst (λ o. Puts c (value_written c a w o) a (node_with w m.prev m.next)) (sym is) (puts-with_value c a (node_with w m.prev m.next))

  same_contents : (c d : Contents (Node X)) → ((q : Name) → pool.value_of c q ≡ pool.value_of d q) → c.next_serial ≡ d.next_serial → c.spare ≡ d.spare → c ≡ d
  same_contents c d each next spare = let entries = same_names c.entries d.entries each in λ i. contents (entries i) (next i) (spare i)

  -- the two ways to write both nodes
  exchanged_nodes : (c : Contents (Node X)) (a b : Name) (m n : Node X) → pool.value_of c a ≡ Some m → pool.value_of c b ≡ Some n → (d e f g : Contents (Node X))
      → Puts (swapped c a b) d a (node_with n.value m.prev m.next) → Puts d e b (node_with m.value n.prev n.next)
      → Puts c f a (node_with n.value m.prev m.next) → Puts f g b (node_with m.value n.prev n.next) → e ≡ g
  exchanged_nodes c a b m n is_a is_b d e f g one two three four =
      let sw = swapped_live c a b m n is_a is_b in
      let between = λ (q : Name) (na : q ≢ a) (nb : q ≢ b). ap (λ x. pool.value_of x q) sw ∙ value_of-with_value_other (pool.with_value c a n) b q m nb ∙ value_of-with_value_other c a q n na in
      same_contents e g (λ q. elim (cases_name q b) [
        | inl at ↦ ap (pool.value_of e) at ∙ two.here ∙ sym four.here ∙ ap (pool.value_of g) (sym at)
        | inr nb ↦ two.there q nb ∙ elim (cases_name q a) [
          | inl at ↦ ap (pool.value_of d) at ∙ one.here ∙ sym three.here ∙ ap (pool.value_of f) (sym at)
          | inr na ↦ one.there q na ∙ between q na nb ∙ sym (three.there q na)
        ] ∙ sym (four.there q nb)
      ]) (two.next ∙ one.next ∙ ap (λ (x : Contents (Node X)). x.next_serial) sw ∙ sym (four.next ∙ three.next)) (two.spare ∙ one.spare ∙ ap (λ (x : Contents (Node X)). x.spare) sw ∙ sym (four.spare ∙ three.spare))

  -- what stands under a after the exchange, before its links are written back
  swapped_at_a : (c : Contents (Node X)) (a b : Name) (m n : Node X) → pool.value_of c a ≡ Some m → pool.value_of c b ≡ Some n → pool.value_of (swapped c a b) a ≡ Some n
  swapped_at_a c a b m n is_a is_b = ap (λ x. pool.value_of x a) (swapped_live c a b m n is_a is_b) ∙ elim (cases_name a b) [
    | inl same ↦ ap (pool.value_of (pool.with_value (pool.with_value c a n) b m)) same ∙ value_of-with_value_same (pool.with_value c a n) b m ∙ sym is_a ∙ ap (pool.value_of c) same ∙ is_b
    | inr ne ↦ value_of-with_value_other (pool.with_value c a n) b a m ne ∙ value_of-with_value_same c a n
  ]

  swapped_at_b : (c : Contents (Node X)) (a b : Name) (m n : Node X) → pool.value_of c a ≡ Some m → pool.value_of c b ≡ Some n → pool.value_of (swapped c a b) b ≡ Some m
  swapped_at_b c a b m n is_a is_b = ap (λ x. pool.value_of x b) (swapped_live c a b m n is_a is_b) ∙ value_of-with_value_same (pool.with_value c a n) b m

  some_node : (m n : Node X) → Some m ≡ Some n → m ≡ n
  some_node m n e = cc

  links_same : (c d : Contents (Node X)) (first last : Option Name) → c ≡ d → links c first last ≡ links d first last
  links_same c d first last e = ap (λ x. links x first last) e

  -- the parts of an exchange of the values of two nodes
  pub exchanged-is : (l : Links X) (a b : Name) (m n : Node X) → pool.value_of l.nodes a ≡ Some m → pool.value_of l.nodes b ≡ Some n → exchanged_in l a b ≡ with_node_value (with_node_value l a n.value) b m.value
  unfolding exchanged_in with_links
  exchanged-is l a b m n is_a is_b =
      let c = l.nodes in
      let sw = swapped c a b in
      let d = links_written sw a (prev_link (pool.value_of c a)) (next_link (pool.value_of c a)) (pool.value_of sw a) in
      let e = links_written d b (prev_link (pool.value_of c b)) (next_link (pool.value_of c b)) (pool.value_of d b) in
      let f = value_written c a n.value (pool.value_of c a) in
      let g = value_written f b m.value (pool.value_of f b) in
      let one : Puts sw d a (node_with n.value m.prev m.next) = subst (λ o. Puts sw d a (node_with n.value (prev_link o) (next_link o))) is_a (puts-links sw a (prev_link (pool.value_of c a)) (next_link (pool.value_of c a)) n (swapped_at_a c a b m n is_a is_b)) in
      let three : Puts c f a (node_with n.value m.prev m.next) = puts-value c a n.value m is_a in
      let two : Puts d e b (node_with m.value n.prev n.next) = elim (cases_name b a) [
        | inl at ↦
            let same : n ≡ m = some_node n m (sym is_b ∙ ap (pool.value_of c) at ∙ is_a) in
            let k = node_with n.value m.prev m.next in
            subst (λ o. Puts d e b (node_with m.value (prev_link o) (next_link o))) is_b
            (subst (λ (j : Node X). Puts d e b (node_with j.value (prev_link (pool.value_of c b)) (next_link (pool.value_of c b)))) same
            (puts-links d b (prev_link (pool.value_of c b)) (next_link (pool.value_of c b)) k (ap (pool.value_of d) at ∙ one.here)))
        | inr ne ↦ subst (λ o. Puts d e b (node_with m.value (prev_link o) (next_link o))) is_b
            (puts-links d b (prev_link (pool.value_of c b)) (next_link (pool.value_of c b)) m (one.there b ne ∙ swapped_at_b c a b m n is_a is_b))
      ] in
      let four : Puts f g b (node_with m.value n.prev n.next) = elim (cases_name b a) [
        | inl at ↦
            let same : n ≡ m = some_node n m (sym is_b ∙ ap (pool.value_of c) at ∙ is_a) in
            subst (λ (j : Node X). Puts f g b (node_with m.value j.prev j.next)) (sym same) (puts-value f b m.value (node_with n.value m.prev m.next) (ap (pool.value_of f) at ∙ three.here))
        | inr ne ↦ puts-value f b m.value n (three.there b ne ∙ is_b)
      ] in
      links_same e g l.first l.last (exchanged_nodes c a b m n is_a is_b d e f g one two three four)

  values_swapped-is : (l : Links X) → IsChain l → (a b : Name) (m n : Node X) → pool.value_of l.nodes a ≡ Some m → pool.value_of l.nodes b ≡ Some n
      → values_swapped (view_of l) a b ≡ with_value (with_value (view_of l) a n.value) b m.value
  values_swapped-is l s a b m n is_a is_b =
      let x = value_at l (rows_in l) l.nodes.next_serial l.nodes.spare s a m is_a in
      let y = value_at l (rows_in l) l.nodes.next_serial l.nodes.spare s b n is_b in
      λ i. values_exchanged (view_of l) a b (sym x i) (sym y i)

  pub exchanged_chain : (l : Links X) → IsChain l → (a b : Name) → IsLive (view_of l) a → IsLive (view_of l) b → IsChain (exchanged_in l a b) × (view_of (exchanged_in l a b) ≡ values_swapped (view_of l) a b)
  exchanged_chain l s a b ha hb =
      let m = live_value (pool.value_of l.nodes a) (live_in l s a ha) in
      let n = live_value (pool.value_of l.nodes b) (live_in l s b hb) in
      let one = with_node_value l a n.0.value in
      let first = written_chain l s a n.0.value ha in
      let puts = puts-value l.nodes a n.0.value m.0 m.1 in
      let live_b : pool.IsLive one.nodes b = elim (cases_name b a) [ inl at ↦ ap (λ k. is_some (pool.value_of one.nodes k)) at ∙ ap is_some puts.here | inr ne ↦ ap is_some (puts.there b ne ∙ n.1) ] in
      let second = written_chain one first.0 b m.0.value (live_from one first.0 b live_b) in
      let is = exchanged-is l a b m.0 n.0 m.1 n.1 in (
        subst (λ (x : Links X). IsChain x) (sym is) second.0,
        ap (λ (x : Links X). view_of x) is ∙ second.1 ∙ ap (λ x. with_value x b m.0.value) first.1 ∙ sym (values_swapped-is l s a b m.0 n.0 m.1 n.1),
      )

  -- of a name with itself
  pub exchanged_itself : (l : Links X) → IsChain l → (a b : Name) → IsLive (view_of l) a → a ≡ b → exchanged_in l a b ≡ l
  exchanged_itself l s a b ha same =
      let m = live_value (pool.value_of l.nodes a) (live_in l s a ha) in
      let c = l.nodes in
      let f = value_written c a m.0.value (pool.value_of c a) in
      let g = value_written f a m.0.value (pool.value_of f a) in
      let three = puts-value c a m.0.value m.0 m.1 in
      let four = puts-value f a m.0.value m.0 three.here in
      let nodes : g ≡ c = same_contents g c (λ q. elim (cases_name q a) [
        | inl at ↦ ap (pool.value_of g) at ∙ four.here ∙ sym m.1 ∙ ap (pool.value_of c) (sym at)
        | inr ne ↦ four.there q ne ∙ three.there q ne
      ]) (four.next ∙ three.next) (four.spare ∙ three.spare) in
      ap (exchanged_in l a) (sym same) ∙ exchanged-is l a a m.0 m.0 m.1 m.1 ∙ links_same g c l.first l.last nodes
