-- Links that stand for a tree, and what fastening two sides to a node leaves.
use Rattle.std.proofs.Common.{◌≡◌, ◌≢◌, ℕ, ◌+◌, ◌^◌, ◌<◌, max, Option, Some, None, is_some, IsSome, refl, sym, ap, ◌∙◌, subst, inl, inr, arith}
use Rattle.std.specs.Option.{option_map}
use Rattle.ac_base.specs.declared.name.Name.{Name}
use Rattle.ac_pool.specs.Contents.{Contents, contents, value_of, with_value, IsSound}
use Rattle.ac_pool.specs.PoolFields.{name_at}
use Rattle.ac_pool.proofs.NameLaws.{cases_name, same_names}
use Rattle.ac_pool.proofs.ContentsLaws.{value_of-with_value_same, value_of-with_value_other, with_value-same}
use Rattle.ac_balance.specs.declared.links.Node.{Node}
use Rattle.ac_base.specs.Rows.{Row}
use Rattle.ac_balance.specs.Trees.{Tree, leaf, node, height}
use Rattle.ac_balance.specs.TreeFields.{node_with, linked, left_link, right_link, left_of, right_of, root, Stands, height_of, high, parent_written, sides_written, links_written, with_parent, with_sides, with_links, above, fastened_at, fastened}
use Rattle.ac_pool.specs.Link.{link_of, name_in}
use Rattle.ac_balance.specs.Climbing.{Has, Once, Hangs, Keeps}
use Rattle.ac_pool.proofs.SlotNames.{linked_name}
use Rattle.ac_balance.proofs.Keeping.{keeps_fastened}

abbrev pub Nodes : Type 0 → Type 0
Nodes X = Name → Option (Node X)

pub some_name : (a b : Name) → Some a ≡ Some b → a ≡ b
some_name a b e = cc

-- some name in the slot
abbrev pub in_slot : ℕ → Option Name
in_slot slot = Some (name_at slot 0)

module _ {X : Type 0} where
  abbrev pub parent_put : Option Name → Node X → Node X
  parent_put to n = node_with n.value (link_of to) n.left n.right n.height

  abbrev pub sides_put : Option Name → Option Name → ℕ → Node X → Node X
  sides_put l r h n = node_with n.value n.parent (link_of l) (link_of r) h

  -- each name of the tree is live
  pub Stands-live : (f : Nodes X) (p : Option Name) (t : Tree X) → Stands f p t → (a : Name) → Has a t → IsSome (f a)
  Stands-live f p leaf h a k = absurd k
  Stands-live f p (node l x r) h a k = elim k [
    | inl e ↦ ap (λ z. is_some (f z)) e ∙ ap is_some h.0
    | inr m ↦ elim m [ inl q ↦ Stands-live f (Some x.name) l h.1 a q | inr q ↦ Stands-live f (Some x.name) r h.2 a q ]
  ]

  -- nodes of no other name are read
  pub Stands-same : (f g : Nodes X) (p : Option Name) (t : Tree X) → ((a : Name) → Has a t → g a ≡ f a) → Stands f p t → Stands g p t
  Stands-same f g p leaf same h = tt
  Stands-same f g p (node l x r) same h =
      (same x.name (inl refl) ∙ h.0, Stands-same f g (Some x.name) l (λ a k. same a (inr (inl k))) h.1, Stands-same f g (Some x.name) r (λ a k. same a (inr (inr k))) h.2)

  -- the topmost node has another parent
  pub Stands-moved : (f g : Nodes X) (p q : Option Name) (t : Tree X) → Once t → ((a : Name) → root t ≡ Some a → g a ≡ option_map (parent_put q) (f a))
      → ((a : Name) → Has a t → (root t ≡ Some a → ⊥) → g a ≡ f a) → Stands f p t → Stands g q t
  Stands-moved f g p q leaf once here there h = tt
  Stands-moved f g p q (node l x r) once here there h = (
    here x.name refl ∙ ap (option_map (parent_put q)) h.0,
    Stands-same f g (Some x.name) l (λ a k. there a (inr (inl k)) (λ e. once.0 (subst (λ n. Has n l) (sym (some_name x.name a e)) k))) h.1,
    Stands-same f g (Some x.name) r (λ a k. there a (inr (inr k)) (λ e. once.1 (subst (λ n. Has n r) (sym (some_name x.name a e)) k))) h.2,
  )

  -- g is f, but the node x has the sides l and r, and they have the parent x
  pub record Fastens (f g : Nodes X) (x : Name) (l r : Option Name) (h : ℕ) : Type 0 where
    pub here : g x ≡ option_map (sides_put l r h) (f x)
    pub left : (a : Name) → l ≡ Some a → g a ≡ option_map (parent_put (Some x)) (f a)
    pub right : (a : Name) → r ≡ Some a → g a ≡ option_map (parent_put (Some x)) (f a)
    pub there : (a : Name) → a ≢ x → (l ≡ Some a → ⊥) → (r ≡ Some a → ⊥) → g a ≡ f a

  -- a write at one name, or at none
  pub record Writes (f g : Nodes X) (o : Option Name) (w : Node X → Node X) : Type 0 where
    pub here : (a : Name) → o ≡ Some a → g a ≡ option_map w (f a)
    pub there : (a : Name) → (o ≡ Some a → ⊥) → g a ≡ f a

  parent_written-writes : (c : Contents (Node X)) (a : Name) (to : Option Name) (o : Option (Node X)) → value_of c a ≡ o → Writes (value_of c) (value_of (parent_written c a to o)) (Some a) (parent_put to)
  parent_written-writes c a to None is = record { here = λ b e. let none : value_of c b ≡ None = ap (value_of c) (sym (some_name a b e)) ∙ is in none ∙ ap (option_map (parent_put to)) (sym none); there = λ b n. refl }
  parent_written-writes c a to (Some n) is = record {
    here = λ b e. let same = some_name a b e in
        subst (λ k. value_of (parent_written c a to (Some n)) k ≡ option_map (parent_put to) (value_of c k)) same (value_of-with_value_same c a (parent_put to n) ∙ ap (option_map (parent_put to)) (sym is));
    there = λ b ne. value_of-with_value_other c a b (parent_put to n) (λ e. ne (ap Some (sym e)));
  }

  pub with_parent-writes : (c : Contents (Node X)) (o to : Option Name) → Writes (value_of c) (value_of (with_parent c o to)) o (parent_put to)
  unfolding with_parent
  with_parent-writes c None to = record { here = λ b e. cc; there = λ b n. refl }
  with_parent-writes c (Some a) to = parent_written-writes c a to (value_of c a) refl

  pub no_parent : (c : Contents (Node X)) (to : Option Name) → with_parent c None to ≡ c
  unfolding with_parent
  no_parent c to = refl

  -- a tree has the parent already
  pub with_parent-already : (c : Contents (Node X)) (p : Name) (t : Tree X) → Stands (value_of c) (Some p) t → with_parent c (root t) (Some p) ≡ c
  unfolding with_parent
  with_parent-already c p leaf h = refl
  with_parent-already c p (node l x r) h = ap (parent_written c x.name (Some p)) h.0 ∙ with_value-same c x.name _ h.0

  sides_written-writes : (c : Contents (Node X)) (a : Name) (l r : Option Name) (h : ℕ) (o : Option (Node X)) → value_of c a ≡ o → Writes (value_of c) (value_of (sides_written c a l r h o)) (Some a) (sides_put l r h)
  sides_written-writes c a l r h None is = record { here = λ b e. let none : value_of c b ≡ None = ap (value_of c) (sym (some_name a b e)) ∙ is in none ∙ ap (option_map (sides_put l r h)) (sym none); there = λ b n. refl }
  sides_written-writes c a l r h (Some n) is = record {
    here = λ b e. let same = some_name a b e in
        subst (λ k. value_of (sides_written c a l r h (Some n)) k ≡ option_map (sides_put l r h) (value_of c k)) same (value_of-with_value_same c a (sides_put l r h n) ∙ ap (option_map (sides_put l r h)) (sym is));
    there = λ b ne. value_of-with_value_other c a b (sides_put l r h n) (λ e. ne (ap Some (sym e)));
  }

  pub with_sides-writes : (c : Contents (Node X)) (a : Name) (l r : Option Name) (h : ℕ) → Writes (value_of c) (value_of (with_sides c a l r h)) (Some a) (sides_put l r h)
  unfolding with_sides
  with_sides-writes c a l r h = sides_written-writes c a l r h (value_of c a) refl

  -- what is written later under a name stands
  written_twice : (c : Contents (Node X)) (a : Name) (v w : Node X) → with_value (with_value c a v) a w ≡ with_value c a w
  written_twice c a v w =
      let d = with_value c a v in
      ap (λ m. contents m c.next_serial c.spare) (same_names (with_value d a w).entries (with_value c a w).entries (λ q. elim (cases_name q a) [
        | inl e ↦ ap (value_of (with_value d a w)) e ∙ value_of-with_value_same d a w ∙ sym (value_of-with_value_same c a w) ∙ ap (value_of (with_value c a w)) (sym e)
        | inr n ↦ value_of-with_value_other d a q w n ∙ value_of-with_value_other c a q v n ∙ sym (value_of-with_value_other c a q w n)
      ]))

  links_written-is : (c : Contents (Node X)) (a p : Name) (l r : Option Name) (h : ℕ) (o : Option (Node X)) → value_of c a ≡ o
      → let d = sides_written c a l r h o in parent_written d a (Some p) (value_of d a) ≡ links_written c a p l r h o
  links_written-is c a p l r h None e = ap (parent_written c a (Some p)) e
  links_written-is c a p l r h (Some n) e =
      let v = sides_put l r h n in ap (parent_written (with_value c a v) a (Some p)) (value_of-with_value_same c a v) ∙ written_twice c a v (linked n.value (Some p) l r h)

  pub with_links-is : (c : Contents (Node X)) (a p : Name) (l r : Option Name) (h : ℕ) → with_parent (with_sides c a l r h) (Some a) (Some p) ≡ with_links c a p l r h
  unfolding with_parent with_sides with_links
  with_links-is c a p l r h = links_written-is c a p l r h (value_of c a) refl

  fastened-fastens : (c : Contents (Node X)) (x : Name) (l r : Option Name) (h : ℕ) → (l ≡ Some x → ⊥) → (r ≡ Some x → ⊥) → ((a : Name) → l ≡ Some a → r ≡ Some a → ⊥)
      → Fastens (value_of c) (value_of (fastened_at c x l r h)) x l r h
  unfolding fastened_at
  fastened-fastens c x l r h nl nr n =
      let d = with_parent c l (Some x) in let e = with_parent d r (Some x) in
      let one = with_parent-writes c l (Some x) in let two = with_parent-writes d r (Some x) in let three = with_sides-writes e x l r h in
      record {
        here = three.here x refl ∙ ap (option_map (sides_put l r h)) (two.there x nr ∙ one.there x nl);
        left = λ a is. three.there a (λ k. nl (is ∙ sym k)) ∙ two.there a (n a is) ∙ one.here a is;
        right = λ a is. three.there a (λ k. nr (is ∙ sym k)) ∙ two.here a is ∙ ap (option_map (parent_put (Some x))) (one.there a (λ k. n a k is));
        there = λ a ne ml mr. three.there a (λ k. ne (sym (some_name x a k))) ∙ two.there a mr ∙ one.there a ml;
      }

  -- the height of one side while the other has got its parent
  high-still : (c : Contents (Node X)) (l r to : Option Name) → ((a : Name) → l ≡ Some a → r ≡ Some a → ⊥) → high (with_parent c l to) r ≡ high c r
  high-still c l None to n = refl
  high-still c l (Some b) to n = ap height_of ((with_parent-writes c l to).there b (λ e. n b e refl))

  pub root_has : (t : Tree X) (a : Name) → root t ≡ Some a → Has a t
  root_has leaf a e = cc
  root_has (node l x r) a e = inl (sym (some_name x.name a e))

  -- a link to the topmost node leads there
  pub linked_root : (c : Contents (Node X)) → IsSound c → (p : Option Name) (t : Tree X) → Stands (value_of c) p t → name_in c (link_of (root t)) ≡ root t
  linked_root c sound p t h = linked_name c sound (root t) (λ a e. Stands-live (value_of c) p t h a (root_has t a e))

  pub left-is : (c : Contents (Node X)) → IsSound c → (l : Tree X) (x : Row Name X) (r : Tree X) → Hangs (value_of c) (node l x r) → left_of c x.name ≡ root l
  left-is c sound l x r h = ap (λ o. name_in c (left_link o)) h.stands.0 ∙ linked_root c sound (Some x.name) l h.stands.1

  pub right-is : (c : Contents (Node X)) → IsSound c → (l : Tree X) (x : Row Name X) (r : Tree X) → Hangs (value_of c) (node l x r) → right_of c x.name ≡ root r
  right-is c sound l x r h = ap (λ o. name_in c (right_link o)) h.stands.0 ∙ linked_root c sound (Some x.name) r h.stands.2

  -- the row's node, wherever it hangs
  pub record IsAt (f : Nodes X) (x : Row Name X) : Type 0 where
    pub node : Node X
    pub found : f x.name ≡ Some node
    pub value : node.value ≡ x.value

  pub high-is : (c : Contents (Node X)) (t : Tree X) → Hangs (value_of c) t → high c (root t) ≡ height t
  high-is c leaf h = refl
  high-is c (node l x r) h = ap height_of h.stands.0

  -- the tree stands in d, and d is c elsewhere
  pub record Becomes (c d : Contents (Node X)) (t : Tree X) : Type 0 where
    pub hangs : Hangs (value_of d) t
    pub aside : (a : Name) → (Has a t → ⊥) → value_of d a ≡ value_of c a
    pub keeps : Keeps c d

  pub IsAt-same : (f g : Nodes X) (x : Row Name X) → g x.name ≡ f x.name → IsAt f x → IsAt g x
  IsAt-same f g x e h = record { node = h.node; found = e ∙ h.found; value = h.value }

  pub Hangs-same : (f g : Nodes X) (t : Tree X) → ((a : Name) → Has a t → g a ≡ f a) → Hangs f t → Hangs g t
  Hangs-same f g t same h = record { parent = h.parent; stands = Stands-same f g h.parent t same h.stands }

  pub fastened_at-becomes : (c : Contents (Node X)) (l : Tree X) (x : Row Name X) (r : Tree X) (h : ℕ) → Once (node l x r) → h ≡ max (height l) (height r) + 1
      → IsAt (value_of c) x → Hangs (value_of c) l → Hangs (value_of c) r → Becomes c (fastened_at c x.name (root l) (root r) h) (node l x r)
  fastened_at-becomes c l x r h once is at hl hr =
      let d = fastened_at c x.name (root l) (root r) h in
      let w = fastened-fastens c x.name (root l) (root r) h (λ e. once.0 (root_has l x.name e)) (λ e. once.1 (root_has r x.name e)) (λ a e k. once.2 a (root_has l a e) (root_has r a k)) in
      record {
        hangs = record {
          parent = in_slot at.node.parent;
          stands = (
            w.here ∙ ap (option_map (sides_put (root l) (root r) h)) at.found ∙ (λ i. Some (linked (at.value i) (in_slot at.node.parent) (root l) (root r) (is i))),
            Stands-moved (value_of c) (value_of d) hl.parent (Some x.name) l once.3 w.left
                (λ a k n. w.there a (λ e. once.0 (subst (λ m. Has m l) e k)) n (λ e. once.2 a k (root_has r a e))) hl.stands,
            Stands-moved (value_of c) (value_of d) hr.parent (Some x.name) r once.4 w.right
                (λ a k n. w.there a (λ e. once.1 (subst (λ m. Has m r) e k)) (λ e. once.2 a (root_has l a e) k) n) hr.stands,
          );
        };
        keeps = keeps_fastened c x.name (root l) (root r) h;
        aside = λ a n. w.there a (λ e. n (inl e)) (λ e. n (inr (inl (root_has l a e)))) (λ e. n (inr (inr (root_has r a e))));
      }

  pub fastened-becomes : (c : Contents (Node X)) (l : Tree X) (x : Row Name X) (r : Tree X) → Once (node l x r) → max (height l) (height r) + 1 < 2 ^ 32
      → IsAt (value_of c) x → Hangs (value_of c) l → Hangs (value_of c) r → Becomes c (fastened c x.name (root l) (root r)) (node l x r)
  unfolding fastened
  fastened-becomes c l x r once few at hl hr =
      let d = with_parent c (root l) (Some x.name) in
      let el = high-is c l hl in let er = high-still c (root l) (root r) (Some x.name) (λ a e k. once.2 a (root_has l a e) (root_has r a k)) ∙ high-is c r hr in
      let h : above (high c (root l)) (high d (root r)) ≡ max (height l) (height r) + 1 = omega (arith, el, er, few) in
      fastened_at-becomes c l x r _ once h at hl hr
