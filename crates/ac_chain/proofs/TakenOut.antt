-- A row is taken out: its node first, and then the nodes on both sides are linked with each other.
use Rattle.std.proofs.Common.{◌≡◌, ◌≢◌, ◌+◌, ◌∷◌, ◌++◌, Option, Some, None, is_some, refl, sym, ap, ◌∙◌, subst, inl, inr}
use Rattle.std.specs.FinMap as map
use Rattle.ac_base.specs.declared.name.Name.{Name}
use Rattle.ac_pool.specs.Contents.{Contents, contents, value_of, IsLive, with_value, taken, IsSound}
use Rattle.ac_pool.proofs.NameLaws.{cases_name, same_names, get-insert_same, get-insert_other, get-remove_same, get-remove_other}
use Rattle.ac_pool.proofs.ContentsLaws.{live_value, value_of-with_value_other, value_of-taken_other, taken_live}
use Rattle.ac_chain.specs.declared.links.Node.{Node}
use Rattle.ac_chain.specs.declared.links.Links.{Links}
use Rattle.ac_chain.specs.Rows as chain
use Rattle.ac_pool.specs.Link.{link_of, name_in}
use Rattle.ac_chain.specs.ChainFields.{node, node_with, links, first_or, last_or, Linked, rows_in, IsChain, next_written, prev_written, with_next, with_prev, joined, closed, unlinked}
use Rattle.ac_pool.specs.NamedRows.{HasName, IsOnce}
use Rattle.ac_pool.proofs.Cuts.{cut, live_has, HasName-left, HasName-right, once_gone}
use Rattle.ac_chain.proofs.Linking.{last_has, first_has}
use Rattle.ac_pool.proofs.SlotNames.{linked_name}
use Rattle.ac_chain.proofs.Standing.{joined-keeps, with_next-keeps, unlinked-is}
use Rattle.ac_chain.proofs.Chains.{view_of, node_at, named_live, removed_chain}

-- the name is not this one
abbrev IsNot : Name → Option Name → Type 0
IsNot a o = (b : Name) → o ≡ Some b → a ≢ b

module _ {X : Type 0} where
  abbrev without : Links X → Name → Links X
  without l a = links (taken l.nodes a) l.first l.last

  with_value-taken : (c : Contents (Node X)) (a b : Name) (n : Node X) → a ≢ b → IsLive c a → with_value (taken c a) b n ≡ taken (with_value c b n) a
  with_value-taken c a b n ne live =
      let one = map.insert (map.remove c.entries a) b n in
      let two = map.remove (map.insert c.entries b n) a in
      let each : (q : Name) → map.get one q ≡ map.get two q = λ q. elim (cases_name q a) [
        | inl at ↦ ap (map.get one) at ∙ get-insert_other (map.remove c.entries a) b a n ne ∙ get-remove_same c.entries a ∙ sym (ap (map.get two) at ∙ get-remove_same (map.insert c.entries b n) a)
        | inr off ↦ elim (cases_name q b) [
          | inl at ↦ ap (map.get one) at ∙ get-insert_same (map.remove c.entries a) b n ∙ sym (get-remove_other (map.insert c.entries b n) a q off ∙ ap (map.get (map.insert c.entries b n)) at ∙ get-insert_same c.entries b n)
          | inr other ↦ get-insert_other (map.remove c.entries a) b q n other ∙ get-remove_other c.entries a q off ∙ sym (get-remove_other (map.insert c.entries b n) a q off ∙ get-insert_other c.entries b q n other)
        ]
      ] in
      let entries = same_names one two each in
      ap (λ d. with_value d b n) (taken_live c a live) ∙ (λ i. contents (entries i) c.next_serial (c.spare + 1)) ∙ sym (taken_live (with_value c b n) a (ap is_some (value_of-with_value_other c b a n ne) ∙ live))

  next_written-taken : (c : Contents (Node X)) (a b : Name) (to : Option Name) (o : Option (Node X)) → a ≢ b → IsLive c a → next_written (taken c a) b to o ≡ taken (next_written c b to o) a
  next_written-taken c a b to None ne live = refl
  next_written-taken c a b to (Some n) ne live = with_value-taken c a b (node_with n.value n.prev (link_of to)) ne live

  prev_written-taken : (c : Contents (Node X)) (a b : Name) (to : Option Name) (o : Option (Node X)) → a ≢ b → IsLive c a → prev_written (taken c a) b to o ≡ taken (prev_written c b to o) a
  prev_written-taken c a b to None ne live = refl
  prev_written-taken c a b to (Some n) ne live = with_value-taken c a b (node_with n.value (link_of to) n.next) ne live

  with_next-without : (l : Links X) (a : Name) (o to : Option Name) → IsNot a o → IsLive l.nodes a → with_next (without l a) o to ≡ without (with_next l o to) a
  unfolding with_next
  with_next-without l a None to apart live = refl
  with_next-without l a (Some b) to apart live =
      let ne = apart b refl in
      ap (λ c. links c l.first l.last) (ap (next_written (taken l.nodes a) b to) (value_of-taken_other l.nodes a b (λ e. ne (sym e))) ∙ next_written-taken l.nodes a b to (value_of l.nodes b) ne live)

  with_prev-without : (l : Links X) (a : Name) (o to : Option Name) → IsNot a o → IsLive l.nodes a → with_prev (without l a) o to ≡ without (with_prev l o to) a
  unfolding with_prev
  with_prev-without l a None to apart live = refl
  with_prev-without l a (Some b) to apart live =
      let ne = apart b refl in
      ap (λ c. links c l.first l.last) (ap (prev_written (taken l.nodes a) b to) (value_of-taken_other l.nodes a b (λ e. ne (sym e))) ∙ prev_written-taken l.nodes a b to (value_of l.nodes b) ne live)

  joined-without : (l : Links X) (a : Name) (left right : Option Name) → IsNot a left → IsNot a right → IsLive l.nodes a → joined (without l a) left right ≡ without (joined l left right) a
  unfolding joined
  joined-without l a left right nl nr live =
      let one = with_next l left right in
      let x = live_value (value_of l.nodes a) live in
      let still : IsLive one.nodes a = ap is_some ((with_next-keeps l left right).value a x.0 x.1).2 in
      ap (λ m. with_prev m right left) (with_next-without l a left right nl live) ∙ with_prev-without one a right left nr still

  pub closed_chain : (l : Links X) → IsChain l → (a : Name) → chain.IsLive (view_of l) a → (n : Node X) → value_of l.nodes a ≡ Some n → (d : Contents (Node X)) → d ≡ taken l.nodes a → IsSound d
      → IsChain (closed (links d l.first l.last) n.prev n.next) × (view_of (closed (links d l.first l.last) n.prev n.next) ≡ chain.removed (view_of l) a)
  closed_chain l s a h n at d is sound =
      let rows = rows_in l in
      let k = cut a rows (live_has a rows h) in
      let left = last_or None k.before in
      let right = first_or k.after None in
      let u = unlinked l a in
      let both : Some n ≡ Some (node k.at.value left right) = sym at ∙ node_at l rows s a k in
      let same : n ≡ node k.at.value left right = cc in
      let whole = λ (b : Name) (t : HasName b (k.before ++ k.at ∷ k.after)). subst (λ zs. HasName b zs) (sym k.is) t in
      let gone : HasName a (k.before ++ k.after) → ⊥ = λ t. once_gone k.before k.at k.after (subst (λ zs. IsOnce zs) k.is s.once) (subst (λ b. HasName b (k.before ++ k.after)) k.named t) in
      let has_left : (b : Name) → left ≡ Some b → HasName b (k.before ++ k.after) = λ b e. HasName-left b k.before k.after (last_has k.before b e) in
      let has_right : (b : Name) → right ≡ Some b → HasName b (k.before ++ k.after) = λ b e. HasName-right b k.before k.after (first_has k.after b e) in
      let not_left : IsNot a left = λ b e q. gone (subst (λ z. HasName z (k.before ++ k.after)) (sym q) (has_left b e)) in
      let not_right : IsNot a right = λ b e q. gone (subst (λ z. HasName z (k.before ++ k.after)) (sym q) (has_right b e)) in
      let lives : (b : Name) → a ≢ b → HasName b (k.before ++ k.at ∷ k.after) → IsLive d b =
      λ b ne t. ap (λ c. is_some (value_of c b)) is ∙ ap is_some (value_of-taken_other l.nodes a b (λ e. ne (sym e))) ∙ named_live l rows s b (whole b t) in
      let live_left : (b : Name) → left ≡ Some b → IsLive d b = λ b e. lives b (not_left b e) (HasName-left b k.before (k.at ∷ k.after) (last_has k.before b e)) in
      let live_right : (b : Name) → right ≡ Some b → IsLive d b = λ b e. lives b (not_right b e) (HasName-right b k.before (k.at ∷ k.after) (inr (first_has k.after b e))) in
      let leads_left : name_in d n.prev ≡ left = ap (λ (m : Node X). name_in d m.prev) same ∙ linked_name d sound left live_left in
      let leads_right : name_in d n.next ≡ right = ap (λ (m : Node X). name_in d m.next) same ∙ linked_name d sound right live_right in
      let linked = subst (λ zs. Linked (value_of l.nodes) None zs None) k.is s.linked in
      let unlinks : u ≡ joined l left right = ap (unlinked l) k.named ∙ unlinked-is l s.sound k.before k.at k.after linked in
      let live : IsLive l.nodes a = ap is_some at in
      let all : closed (links d l.first l.last) n.prev n.next ≡ without u a =
      (λ i. joined (links d l.first l.last) (leads_left i) (leads_right i)) ∙ ap (λ c. joined (links c l.first l.last) left right) is
      ∙ joined-without l a left right not_left not_right live ∙ ap (λ m. without m a) (sym unlinks) in
      let sound_u : IsSound (taken u.nodes a) = subst (λ (m : Links X). IsSound m.nodes) all ((joined-keeps (links d l.first l.last) (name_in d n.prev) (name_in d n.next)).sound sound) in
      let r = removed_chain l s a h (taken u.nodes a) refl sound_u in
      (subst (λ (m : Links X). IsChain m) (sym all) r.0, ap (λ (m : Links X). view_of m) all ∙ r.1)
