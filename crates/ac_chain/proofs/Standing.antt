-- What the writes of single links leave: the rows without one, and with one more.
use Rattle.std.proofs.Common.{◌≡◌, List, ◌∷◌, ◌++◌, Option, Some, None, is_some, refl, sym, ap, ◌∙◌, subst, inl, inr, append-nil, append_assoc, []}
use Rattle.std.specs.Option.{option_map}
use Rattle.ac_base.specs.declared.name.Name.{Name}
use Rattle.ac_pool.specs.Contents as pool
use Rattle.ac_pool.specs.Contents.{Contents, value_of, IsLive, live_count, IsSound}
use Rattle.ac_pool.proofs.NameLaws.{cases_name}
use Rattle.ac_pool.proofs.ContentsLaws.{value_of-with_value_same, value_of-with_value_other, live_count-with_value, IsSound-with_value}
use Rattle.ac_chain.specs.declared.links.Node.{Node}
use Rattle.ac_chain.specs.declared.links.Links.{Links}
use Rattle.ac_base.specs.Rows.{Row}
use Rattle.ac_pool.specs.Link.{link_of}
use Rattle.ac_chain.specs.ChainFields.{node, first_or, last_or, Linked, next_of, prev_of, next_written, prev_written, with_next, with_prev, joined, prev_link, before_in, link_before, linked_before, unlinked}
use Rattle.ac_pool.specs.NamedRows.{HasName, IsOnce}
use Rattle.ac_chain.proofs.Ends.{last_or-append}
use Rattle.ac_pool.proofs.Cuts.{HasName-left, HasName-right, once_left, apart, once-append, once_cut, once_put}
use Rattle.ac_chain.proofs.Linking.{in_slot, Linked-at, Linked-left, Linked-right, next_put, prev_put, Writes, last_named, next_linked, prev_linked, Linked-join, Linked-aside}

value_in : {X : Type 0} → Option (Node X) → Option X
value_in None = None
value_in (Some n) = Some n.value

-- the nodes of d are those of c but for their links
pub record Keeps {X : Type 0} (c d : Contents (Node X)) : Type 0 where
  pub live : (a : Name) → IsLive d a → IsLive c a
  pub count : live_count d ≡ live_count c
  pub next : d.next_serial ≡ c.next_serial
  pub spare : d.spare ≡ c.spare
  pub sound : IsSound c → IsSound d
  pub value : (a : Name) (n : Node X) → value_of c a ≡ Some n → (p : Option Name) × (q : Option Name) × (value_of d a ≡ Some (node n.value p q))

some_name : (a b : Name) → Some a ≡ Some b → a ≡ b
some_name a b e = cc

module _ {X : Type 0} where
  keeps_all : (c : Contents (Node X)) → Keeps c c
  keeps_all c = record { live = λ a h. h; count = refl; next = refl; spare = refl; sound = λ s. s; value = λ a n e. (in_slot n.prev, in_slot n.next, e) }

  keeps_both : (c d e : Contents (Node X)) → Keeps c d → Keeps d e → Keeps c e
  keeps_both c d e k l = record {
    live = λ a h. k.live a (l.live a h);
    count = l.count ∙ k.count;
    next = l.next ∙ k.next;
    spare = l.spare ∙ k.spare;
    sound = λ s. l.sound (k.sound s);
    value = λ a n is. let one = k.value a n is in l.value a (node n.value one.0 one.1) one.2;
  }

  keeps-write : (c : Contents (Node X)) (a : Name) (n : Node X) (p q : Option Name) → value_of c a ≡ Some n → Keeps c (pool.with_value c a (node n.value p q))
  keeps-write c a n p q is = record {
    live = λ b h. elim (cases_name b a) [
      | inl e ↦ ap (λ k. is_some (value_of c k)) e ∙ ap is_some is
      | inr ne ↦ ap is_some (sym (value_of-with_value_other c a b (node n.value p q) ne)) ∙ h
    ];
    count = live_count-with_value c a (node n.value p q) (ap is_some is);
    next = refl;
    spare = refl;
    sound = λ s. IsSound-with_value c a (node n.value p q) (ap is_some is) s;
    value = λ b m e. elim (cases_name b a) [
      | inl same ↦ (
        p,
        q,
        ap (value_of (pool.with_value c a (node n.value p q))) same ∙ value_of-with_value_same c a (node n.value p q)
            ∙ ap (λ v. Some (node v p q)) (let both : Some n ≡ Some m = sym is ∙ ap (value_of c) (sym same) ∙ e in let it : n ≡ m = cc in ap (λ (k : Node X). k.value) it),
      )
      | inr ne ↦ (in_slot m.prev, in_slot m.next, value_of-with_value_other c a b (node n.value p q) ne ∙ e)
    ];
  }

  next_written-keeps : (c : Contents (Node X)) (a : Name) (to : Option Name) (o : Option (Node X)) → value_of c a ≡ o → Keeps c (next_written c a to o)
  next_written-keeps c a to None is = keeps_all c
  next_written-keeps c a to (Some n) is = keeps-write c a n (in_slot n.prev) to is

  prev_written-keeps : (c : Contents (Node X)) (a : Name) (to : Option Name) (o : Option (Node X)) → value_of c a ≡ o → Keeps c (prev_written c a to o)
  prev_written-keeps c a to None is = keeps_all c
  prev_written-keeps c a to (Some n) is = keeps-write c a n to (in_slot n.next) is

  next_written-writes : (c : Contents (Node X)) (a : Name) (to : Option Name) (o : Option (Node X)) → value_of c a ≡ o → Writes (value_of c) (value_of (next_written c a to o)) (Some a) (next_put to)
  next_written-writes c a to None is = record { here = λ b e. let none : value_of c b ≡ None = ap (value_of c) (sym (some_name a b e)) ∙ is in none ∙ ap (option_map (next_put to)) (sym none); there = λ b n. refl }
  next_written-writes c a to (Some n) is = record {
    here = λ b e. let same = some_name a b e in
        subst (λ k. value_of (next_written c a to (Some n)) k ≡ option_map (next_put to) (value_of c k)) same (value_of-with_value_same c a (next_put to n) ∙ ap (option_map (next_put to)) (sym is));
    there = λ b ne. value_of-with_value_other c a b (next_put to n) (λ e. ne (ap Some (sym e)));
  }

  prev_written-writes : (c : Contents (Node X)) (a : Name) (to : Option Name) (o : Option (Node X)) → value_of c a ≡ o → Writes (value_of c) (value_of (prev_written c a to o)) (Some a) (prev_put to)
  prev_written-writes c a to None is = record { here = λ b e. let none : value_of c b ≡ None = ap (value_of c) (sym (some_name a b e)) ∙ is in none ∙ ap (option_map (prev_put to)) (sym none); there = λ b n. refl }
  prev_written-writes c a to (Some n) is = record {
    here = λ b e. let same = some_name a b e in
        subst (λ k. value_of (prev_written c a to (Some n)) k ≡ option_map (prev_put to) (value_of c k)) same (value_of-with_value_same c a (prev_put to n) ∙ ap (option_map (prev_put to)) (sym is));
    there = λ b ne. value_of-with_value_other c a b (prev_put to n) (λ e. ne (ap Some (sym e)));
  }

  pub with_next-keeps : (l : Links X) (o to : Option Name) → Keeps l.nodes (with_next l o to).nodes
  unfolding with_next
  with_next-keeps l None to = keeps_all l.nodes
  with_next-keeps l (Some a) to = next_written-keeps l.nodes a to (value_of l.nodes a) refl

  with_prev-keeps : (l : Links X) (o to : Option Name) → Keeps l.nodes (with_prev l o to).nodes
  unfolding with_prev
  with_prev-keeps l None to = keeps_all l.nodes
  with_prev-keeps l (Some a) to = prev_written-keeps l.nodes a to (value_of l.nodes a) refl

  pub joined-keeps : (l : Links X) (left right : Option Name) → Keeps l.nodes (joined l left right).nodes
  unfolding joined
  joined-keeps l left right = keeps_both l.nodes (with_next l left right).nodes (with_prev (with_next l left right) right left).nodes (with_next-keeps l left right) (with_prev-keeps (with_next l left right) right left)

  pub unlinked-keeps : (l : Links X) (a : Name) → Keeps l.nodes (unlinked l a).nodes
  unfolding unlinked
  unlinked-keeps l a = joined-keeps l (prev_of l.nodes (value_of l.nodes a)) (next_of l.nodes (value_of l.nodes a))

  pub linked_before-keeps : (l : Links X) (place : Option Name) (a : Name) → Keeps l.nodes (linked_before l place a).nodes
  unfolding linked_before
  linked_before-keeps l place a = keeps_both l.nodes (joined l (before_in l place) (Some a)).nodes (linked_before l place a).nodes
      (joined-keeps l (before_in l place) (Some a)) (joined-keeps (joined l (before_in l place) (Some a)) (Some a) place)

  with_next-writes : (l : Links X) (o to : Option Name) → Writes (value_of l.nodes) (value_of (with_next l o to).nodes) o (next_put to)
  unfolding with_next
  with_next-writes l None to = record { here = λ b e. cc; there = λ b n. refl }
  with_next-writes l (Some a) to = next_written-writes l.nodes a to (value_of l.nodes a) refl

  with_prev-writes : (l : Links X) (o to : Option Name) → Writes (value_of l.nodes) (value_of (with_prev l o to).nodes) o (prev_put to)
  unfolding with_prev
  with_prev-writes l None to = record { here = λ b e. cc; there = λ b n. refl }
  with_prev-writes l (Some a) to = prev_written-writes l.nodes a to (value_of l.nodes a) refl

  first-at_none : (l : Links X) (right : Option Name) → (joined l None right).first ≡ right
  unfolding joined with_next with_prev
  first-at_none l None = refl
  first-at_none l (Some b) = refl

  first-at_some : (l : Links X) (a : Name) (right : Option Name) → (joined l (Some a) right).first ≡ l.first
  unfolding joined with_next with_prev
  first-at_some l a None = refl
  first-at_some l a (Some b) = refl

  last-at_none : (l : Links X) (left : Option Name) → (joined l left None).last ≡ left
  unfolding joined with_next with_prev
  last-at_none l None = refl
  last-at_none l (Some b) = refl

  last-at_some : (l : Links X) (left : Option Name) (b : Name) → (joined l left (Some b)).last ≡ l.last
  unfolding joined with_next with_prev
  last-at_some l None b = refl
  last-at_some l (Some a) b = refl

  joined-linked : (l : Links X) (xs ys : List (Row Name X)) (n p q to : Option Name) → IsOnce (xs ++ ys) → to ≡ first_or ys q → to ≡ first_or ys None
      → Linked (value_of l.nodes) None xs n → Linked (value_of l.nodes) p ys q → Linked (value_of (joined l (last_or None xs) to).nodes) None (xs ++ ys) q
  unfolding joined
  joined-linked l xs ys n p q to once is at left right =
      let m = with_next l (last_or None xs) to in
      Linked-join (value_of l.nodes) (value_of m.nodes) (value_of (with_prev m to (last_or None xs)).nodes) xs ys n p q to once
      (with_next-writes l (last_or None xs) to)
      (subst (λ o. Writes (value_of m.nodes) (value_of (with_prev m to (last_or None xs)).nodes) o (prev_put (last_or None xs))) at (with_prev-writes m to (last_or None xs)))
      is left right

  joined-aside : (l : Links X) (xs ys zs : List (Row Name X)) (p n to : Option Name) → to ≡ first_or ys None
      → ((a : Name) → HasName a xs → HasName a zs → ⊥) → ((a : Name) → HasName a ys → HasName a zs → ⊥)
      → Linked (value_of l.nodes) p zs n → Linked (value_of (joined l (last_or None xs) to).nodes) p zs n
  unfolding joined
  joined-aside l xs ys zs p n to at nx ny h =
      let m = with_next l (last_or None xs) to in
      Linked-aside (value_of l.nodes) (value_of m.nodes) (value_of (with_prev m to (last_or None xs)).nodes) xs ys zs p n to (last_or None xs) nx ny
      (with_next-writes l (last_or None xs) to)
      (subst (λ o. Writes (value_of m.nodes) (value_of (with_prev m to (last_or None xs)).nodes) o (prev_put (last_or None xs))) at (with_prev-writes m to (last_or None xs))) h

  -- the links of the rows, and the two ends
  pub record Ends (l : Links X) (rows : List (Row Name X)) : Type 0 where
    pub linked : Linked (value_of l.nodes) None rows None
    pub first : l.first ≡ first_or rows None
    pub last : l.last ≡ last_or None rows

  first-joined : (l : Links X) (xs ys : List (Row Name X)) (to : Option Name) → to ≡ first_or ys None → l.first ≡ first_or xs l.first → (joined l (last_or None xs) to).first ≡ first_or (xs ++ ys) None
  first-joined l [] ys to at first = first-at_none l to ∙ at
  first-joined l (x ∷ xs) ys to at first = let k = last_named x.name xs in ap (λ o. (joined l o to).first) k.1 ∙ first-at_some l k.0 to ∙ first

  last-joined : (l : Links X) (xs ys : List (Row Name X)) (to : Option Name) → to ≡ first_or ys None → l.last ≡ last_or l.last ys → (joined l (last_or None xs) to).last ≡ last_or None (xs ++ ys)
  last-joined l xs [] to at last = ap (λ o. (joined l (last_or None xs) o).last) at ∙ last-at_none l (last_or None xs) ∙ sym (last_or-append None xs [])
  last-joined l xs (y ∷ ys) to at last = ap (λ o. (joined l (last_or None xs) o).last) at ∙ last-at_some l (last_or None xs) y.name ∙ last ∙ sym (last_or-append None xs (y ∷ ys))

  first-kept : (l : Links X) (xs ys : List (Row Name X)) → l.first ≡ first_or (xs ++ ys) None → l.first ≡ first_or xs l.first
  first-kept l [] ys h = refl
  first-kept l (x ∷ xs) ys h = h

  last-kept : (l : Links X) (xs ys : List (Row Name X)) → l.last ≡ last_or None (xs ++ ys) → l.last ≡ last_or l.last ys
  last-kept l xs [] h = refl
  last-kept l xs (y ∷ ys) h = h ∙ last_or-append None xs (y ∷ ys)

  pub unlinked-is : (l : Links X) → IsSound l.nodes → (xs : List (Row Name X)) (r : Row Name X) (ys : List (Row Name X)) → Linked (value_of l.nodes) None (xs ++ r ∷ ys) None → unlinked l r.name ≡ joined l (last_or None xs) (first_or ys None)
  unfolding unlinked
  unlinked-is l sound xs r ys h = let prev = prev_linked l.nodes sound xs r ys h in let next = next_linked l.nodes sound xs r ys h in λ i. joined l (prev i) (next i)

  -- the rows without one
  pub unlinked-ends : (l : Links X) → IsSound l.nodes → (xs : List (Row Name X)) (r : Row Name X) (ys : List (Row Name X)) → IsOnce (xs ++ r ∷ ys) → Ends l (xs ++ r ∷ ys) → Ends (unlinked l r.name) (xs ++ ys)
  unlinked-ends l sound xs r ys once e =
      let left = Linked-left (value_of l.nodes) None xs (r ∷ ys) None e.linked in
      let right = (Linked-right (value_of l.nodes) None xs (r ∷ ys) None e.linked).1 in
      subst (λ m. Ends m (xs ++ ys)) (sym (unlinked-is l sound xs r ys e.linked)) (record {
        linked = joined-linked l xs ys (Some r.name) (Some r.name) None (first_or ys None) (once_cut xs r ys once) refl refl left right;
        first = first-joined l xs ys (first_or ys None) refl (first-kept l xs (r ∷ ys) e.first);
        last = last-joined l xs ys (first_or ys None) refl (last_after l xs r ys e.last);
      })
    where
      last_after : (l : Links X) (xs : List (Row Name X)) (r : Row Name X) (ys : List (Row Name X)) → l.last ≡ last_or None (xs ++ r ∷ ys) → l.last ≡ last_or l.last ys
      last_after l xs r [] h = refl
      last_after l xs r (y ∷ ys) h = h ∙ last_or-append None xs (r ∷ y ∷ ys)

  pub before_in-is : (l : Links X) → IsSound l.nodes → (xs ys : List (Row Name X)) → Ends l (xs ++ ys) → before_in l (first_or ys None) ≡ last_or None xs
  before_in-is l sound xs [] e = e.last ∙ last_or-append None xs []
  before_in-is l sound xs (y ∷ ys) e = prev_linked l.nodes sound xs y ys e.linked

  pub link_before-is : (l : Links X) (xs ys : List (Row Name X)) → Ends l (xs ++ ys) → link_before l (first_or ys None) ≡ link_of (last_or None xs)
  link_before-is l xs [] e = ap link_of (e.last ∙ last_or-append None xs [])
  link_before-is l xs (y ∷ ys) e = ap prev_link (Linked-at (value_of l.nodes) None xs y ys None e.linked)

  -- the rows with one more
  pub linked_before-ends : (l : Links X) → IsSound l.nodes → (xs : List (Row Name X)) (r : Row Name X) (ys : List (Row Name X)) (place p q : Option Name) → IsOnce (xs ++ ys) → (HasName r.name (xs ++ ys) → ⊥)
      → value_of l.nodes r.name ≡ Some (node r.value p q) → place ≡ first_or ys None → Ends l (xs ++ ys) → Ends (linked_before l place r.name) (xs ++ r ∷ ys)
  unfolding linked_before
  linked_before-ends l sound xs r ys place p q once new is at e =
      let before : before_in l place ≡ last_or None xs = ap (before_in l) at ∙ before_in-is l sound xs ys e in
      let one = joined l (last_or None xs) (Some r.name) in
      let two = joined one (Some r.name) place in
      let n_left : (a : Name) → HasName a xs → a ≡ r.name → ⊥ = λ a t same. new (HasName-left r.name xs ys (subst (λ k. HasName k xs) same t)) in
      let n_right : (a : Name) → HasName a ys → a ≡ r.name → ⊥ = λ a t same. new (HasName-right r.name xs ys (subst (λ k. HasName k ys) same t)) in
      let once_one : IsOnce (xs ++ r ∷ []) = once-append xs (r ∷ []) (once_left xs ys once) (λ t. t, tt) (λ a t h. elim h [ inl same ↦ n_left a t same | inr gone ↦ gone ]) in
      let once_all : IsOnce (xs ++ r ∷ ys) = once_put xs r ys once new in
      let assoc : (xs ++ r ∷ []) ++ ys ≡ xs ++ r ∷ ys = append_assoc xs (r ∷ []) ys in
      let left = Linked-left (value_of l.nodes) None xs ys None e.linked in
      let right = Linked-right (value_of l.nodes) None xs ys None e.linked in
      let one_left = joined-linked l xs (r ∷ []) (first_or ys None) p q (Some r.name) once_one refl refl left (is, tt) in
      let one_right = joined-aside l xs (r ∷ []) ys (last_or None xs) None (Some r.name) refl (apart xs ys once) (λ a h t. elim h [ inl same ↦ n_right a t same | inr gone ↦ gone ]) right in
      let last_is : last_or None (xs ++ r ∷ []) ≡ Some r.name = last_or-append None xs (r ∷ []) in
      let once_two : IsOnce ((xs ++ r ∷ []) ++ ys) = subst (λ rows. IsOnce rows) (sym assoc) once_all in
      let two_linked = joined-linked one (xs ++ r ∷ []) ys q (last_or None xs) None place once_two at at one_left one_right in
      let first_one : one.first ≡ first_or (xs ++ r ∷ []) None = first-joined l xs (r ∷ []) (Some r.name) refl (first-kept l xs ys e.first) in
      let last_one : one.last ≡ l.last = last-at_some l (last_or None xs) r.name in
      let last_kept : one.last ≡ last_or one.last ys = last_one ∙ last-kept l xs ys e.last ∙ ap (λ o. last_or o ys) (sym last_one) in
      let whole : Ends (joined one (last_or None (xs ++ r ∷ [])) place) ((xs ++ r ∷ []) ++ ys) = record {
        linked = two_linked;
        first = first-joined one (xs ++ r ∷ []) ys place at (first-kept one (xs ++ r ∷ []) [] (first_one ∙ ap (λ rows. first_or rows None) (sym (append-nil (xs ++ r ∷ [])))));
        last = last-joined one (xs ++ r ∷ []) ys place at last_kept;
      } in
      let ends_two : Ends two (xs ++ r ∷ ys) = subst (λ rows. Ends two rows) assoc (subst (λ o. Ends (joined one o place) ((xs ++ r ∷ []) ++ ys)) last_is whole) in
      subst (λ o. Ends (joined (joined l o (Some r.name)) (Some r.name) place) (xs ++ r ∷ ys)) (sym before) ends_two
