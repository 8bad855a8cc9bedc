-- Links that stand for rows: parts of a chain, what the rest keeps, and the joining of two parts.
use Rattle.std.proofs.Common.{◌≡◌, ℕ, zero, suc, ◌≤◌, ◌⊎◌, List, [], ◌∷◌, ◌++◌, length, Option, Some, None, IsSome, is_some, refl, sym, ap, ◌∙◌, subst, inl, inr, arith}
use Rattle.std.specs.Option.{option_map}
use Rattle.ac_base.specs.declared.name.Name.{Name}
use Rattle.ac_pool.specs.Contents.{Contents, value_of, IsSound}
use Rattle.ac_pool.specs.PoolFields.{name_at}
use Rattle.ac_chain.specs.declared.links.Node.{Node}
use Rattle.ac_base.specs.Rows.{Row}
use Rattle.ac_pool.specs.Link.{link_of}
use Rattle.ac_chain.specs.ChainFields.{node, node_with, first_or, last_or, Linked, walked, walked_on, next_of, prev_of}
use Rattle.ac_pool.specs.NamedRows.{HasName, IsOnce}
use Rattle.ac_pool.proofs.Cuts.{HasName-left, HasName-right, once_left, once_right, apart}
use Rattle.ac_pool.proofs.SlotNames.{linked_name}

abbrev pub Nodes : Type 0 → Type 0
Nodes X = Name → Option (Node X)

some_name : (a b : Name) → Some a ≡ Some b → a ≡ b
some_name a b e = cc

-- a name of the slot
abbrev pub in_slot : ℕ → Option Name
in_slot slot = Some (name_at slot 0)

module _ {X : Type 0} where
  -- nodes of no other name are read
  pub Linked-same : (f g : Nodes X) (p : Option Name) (rows : List (Row Name X)) (n : Option Name) → ((a : Name) → HasName a rows → g a ≡ f a) → Linked f p rows n → Linked g p rows n
  Linked-same f g p [] n same h = tt
  Linked-same f g p (r ∷ rows) n same h = (same r.name (inl refl) ∙ h.0, Linked-same f g (Some r.name) rows n (λ a t. same a (inr t)) h.1)

  pub Linked-left : (f : Nodes X) (p : Option Name) (xs ys : List (Row Name X)) (n : Option Name) → Linked f p (xs ++ ys) n → Linked f p xs (first_or ys n)
  Linked-left f p [] ys n h = tt
  Linked-left f p (x ∷ []) ys n h = (h.0, tt)
  Linked-left f p (x ∷ y ∷ xs) ys n h = (h.0, Linked-left f (Some x.name) (y ∷ xs) ys n h.1)

  pub Linked-right : (f : Nodes X) (p : Option Name) (xs ys : List (Row Name X)) (n : Option Name) → Linked f p (xs ++ ys) n → Linked f (last_or p xs) ys n
  Linked-right f p [] ys n h = h
  Linked-right f p (x ∷ xs) ys n h = Linked-right f (Some x.name) xs ys n h.1

  pub Linked-append : (f : Nodes X) (p : Option Name) (xs ys : List (Row Name X)) (n : Option Name) → Linked f p xs (first_or ys n) → Linked f (last_or p xs) ys n → Linked f p (xs ++ ys) n
  Linked-append f p [] ys n h k = k
  Linked-append f p (x ∷ []) ys n h k = (h.0, k)
  Linked-append f p (x ∷ y ∷ xs) ys n h k = (h.0, Linked-append f (Some x.name) (y ∷ xs) ys n h.1 k)

  pub Linked-at : (f : Nodes X) (p : Option Name) (xs : List (Row Name X)) (r : Row Name X) (ys : List (Row Name X)) (n : Option Name) → Linked f p (xs ++ r ∷ ys) n → f r.name ≡ Some (node r.value (last_or p xs) (first_or ys n))
  Linked-at f p xs r ys n h = (Linked-right f p xs (r ∷ ys) n h).0

  pub Linked-live : (f : Nodes X) (p : Option Name) (rows : List (Row Name X)) (n : Option Name) → Linked f p rows n → (a : Name) → HasName a rows → IsSome (f a)
  Linked-live f p [] n h a t = absurd t
  Linked-live f p (r ∷ rows) n h a t = elim t [
    | inl e ↦ ap (λ k. is_some (f k)) e ∙ ap is_some h.0
    | inr q ↦ Linked-live f (Some r.name) rows n h.1 a q
  ]

  pub last_named : (p : Name) (rows : List (Row Name X)) → (a : Name) × (last_or (Some p) rows ≡ Some a) × ((a ≡ p) ⊎ HasName a rows)
  last_named p [] = (p, refl, inl refl)
  last_named p (r ∷ rows) = let k = last_named r.name rows in (k.0, k.1, inr k.2)

  pub first_has : (rows : List (Row Name X)) (a : Name) → first_or rows None ≡ Some a → HasName a rows
  first_has [] a e = cc
  first_has (r ∷ rows) a e = inl (some_name a r.name (sym e))

  pub last_has : (rows : List (Row Name X)) (a : Name) → last_or None rows ≡ Some a → HasName a rows
  last_has [] a e = cc
  last_has (r ∷ rows) a e = let k = last_named r.name rows in subst (λ b. HasName b (r ∷ rows)) (some_name k.0 a (sym k.1 ∙ e)) k.2

  -- the rows are those that a walk by the links to the next one meets
  pub walked-is : (c : Contents (Node X)) → IsSound c → (p : Option Name) (rows : List (Row Name X)) (many : ℕ) → Linked (value_of c) p rows None → length rows ≤ many → walked many c (first_or rows None) ≡ rows
  walked-is c sound p [] zero h le = refl
  walked-is c sound p [] (suc many) h le = refl
  walked-is c sound p (r ∷ rows) zero h le = absurd (omega arith)
  walked-is c sound p (r ∷ rows) (suc many) h le =
      let live = λ (a : Name) (e : first_or rows None ≡ Some a). Linked-live (value_of c) (Some r.name) rows None h.1 a (first_has rows a e) in
      ap (λ o. walked_on c r.name o (λ next. walked many c next)) h.0 ∙ ap (λ o. r ∷ walked many c o) (linked_name c sound (first_or rows None) live)
      ∙ ap (λ zs. r ∷ zs) (walked-is c sound (Some r.name) rows many h.1 (omega arith))

  -- the links of a row's node lead to the rows beside it
  pub next_linked : (c : Contents (Node X)) → IsSound c → (xs : List (Row Name X)) (r : Row Name X) (ys : List (Row Name X)) → Linked (value_of c) None (xs ++ r ∷ ys) None
      → next_of c (value_of c r.name) ≡ first_or ys None
  next_linked c sound xs r ys h =
      let live = λ (a : Name) (e : first_or ys None ≡ Some a). Linked-live (value_of c) None (xs ++ r ∷ ys) None h a (HasName-right a xs (r ∷ ys) (inr (first_has ys a e))) in
      ap (next_of c) (Linked-at (value_of c) None xs r ys None h) ∙ linked_name c sound (first_or ys None) live

  pub prev_linked : (c : Contents (Node X)) → IsSound c → (xs : List (Row Name X)) (r : Row Name X) (ys : List (Row Name X)) → Linked (value_of c) None (xs ++ r ∷ ys) None
      → prev_of c (value_of c r.name) ≡ last_or None xs
  prev_linked c sound xs r ys h =
      let live = λ (a : Name) (e : last_or None xs ≡ Some a). Linked-live (value_of c) None (xs ++ r ∷ ys) None h a (HasName-left a xs (r ∷ ys) (last_has xs a e)) in
      ap (prev_of c) (Linked-at (value_of c) None xs r ys None h) ∙ linked_name c sound (last_or None xs) live

  abbrev pub next_put : Option Name → Node X → Node X
  next_put to n = node_with n.value n.prev (link_of to)

  abbrev pub prev_put : Option Name → Node X → Node X
  prev_put to n = node_with n.value (link_of to) n.next

  -- g is f but for the node of the name o, if there is one
  pub record Writes (f g : Nodes X) (o : Option Name) (w : Node X → Node X) : Type 0 where
    pub here : (a : Name) → o ≡ Some a → g a ≡ option_map w (f a)
    pub there : (a : Name) → (o ≡ Some a → ⊥) → g a ≡ f a

  -- the last of the rows is linked with another
  pub Linked-last : (f g : Nodes X) (p : Option Name) (rows : List (Row Name X)) (n to : Option Name) → IsOnce rows → Writes f g (last_or None rows) (next_put to) → Linked f p rows n → Linked g p rows to
  Linked-last f g p [] n to once w h = tt
  Linked-last f g p (r ∷ []) n to once w h = (w.here r.name refl ∙ ap (option_map (next_put to)) h.0, tt)
  Linked-last f g p (r ∷ s ∷ rows) n to once w h =
      let k = last_named s.name rows in
      let n_r : last_or (Some s.name) rows ≡ Some r.name → ⊥ = λ e. let same : k.0 ≡ r.name = some_name k.0 r.name (sym k.1 ∙ e) in once.0 (subst (λ a. HasName a (s ∷ rows)) same k.2) in
      (w.there r.name n_r ∙ h.0, Linked-last f g (Some r.name) (s ∷ rows) n to once.1 w h.1)

  -- the first of the rows is linked with another
  pub Linked-first : (f g : Nodes X) (p to : Option Name) (rows : List (Row Name X)) (n : Option Name) → IsOnce rows → Writes f g (first_or rows None) (prev_put to) → Linked f p rows n → Linked g to rows n
  Linked-first f g p to [] n once w h = tt
  Linked-first f g p to (r ∷ rows) n once w h =
      (w.here r.name refl ∙ ap (option_map (prev_put to)) h.0, Linked-same f g (Some r.name) rows n (λ a t. w.there a (λ e. once.0 (subst (λ k. HasName k rows) (sym (some_name r.name a e)) t))) h.1)

  -- two parts become one
  pub Linked-join : (f g h : Nodes X) (xs ys : List (Row Name X)) (n p q to : Option Name) → IsOnce (xs ++ ys)
      → Writes f g (last_or None xs) (next_put to) → Writes g h (first_or ys None) (prev_put (last_or None xs)) → to ≡ first_or ys q
      → Linked f None xs n → Linked f p ys q → Linked h None (xs ++ ys) q
  Linked-join f g h xs ys n p q to once w v is left right =
      let left_g = Linked-last f g None xs n to (once_left xs ys once) w left in
      let left_h = Linked-same g h None xs to (λ a t. v.there a (λ e. apart xs ys once a t (first_has ys a e))) left_g in
      let right_g = Linked-same f g p ys q (λ a t. w.there a (λ e. apart xs ys once a (last_has xs a e) t)) right in
      let right_h = Linked-first g h p (last_or None xs) ys q (once_right xs ys once) v right_g in
      Linked-append h None xs ys q (subst (λ o. Linked h None xs o) is left_h) right_h

  -- the joining touches no node of another part
  pub Linked-aside : (f g h : Nodes X) (xs ys zs : List (Row Name X)) (p n to of : Option Name)
      → ((a : Name) → HasName a xs → HasName a zs → ⊥) → ((a : Name) → HasName a ys → HasName a zs → ⊥)
      → Writes f g (last_or None xs) (next_put to) → Writes g h (first_or ys None) (prev_put of)
      → Linked f p zs n → Linked h p zs n
  Linked-aside f g h xs ys zs p n to of nx ny w v k =
      Linked-same f h p zs n (λ a t. v.there a (λ e. ny a (first_has ys a e) t) ∙ w.there a (λ e. nx a (last_has xs a e) t)) k
