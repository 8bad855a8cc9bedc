-- Links that stand for a forest, after all children of a node went to another place in it.
use Rattle.std.proofs.Common.{◌≡◌, ◌≢◌, ℕ, suc, ◌+◌, ◌-◌, ◌<◌, ◌≤◌, ◌⊎◌, List, [], ◌∷◌, ◌++◌, length, Option, Some, None, is_none, true, true≢false, refl, sym, ap, ◌∙◌, subst, inl, inr, arith, append_assoc}
use Rattle.std.specs.Option.{ForSome, option_map}
use Rattle.std.proofs.lemmas.Option.{none-some}
use Rattle.std.proofs.lemmas.List.{length-append}
use Rattle.ac_base.specs.declared.name.Name.{Name}
use Rattle.ac_base.specs.Rows.{Row, row}
use Rattle.ac_pool.specs.Contents.{value_of, IsLive}
use Rattle.ac_pool.specs.Link.{name_in}
use Rattle.ac_pool.specs.NamedRows.{IsOnce}
use Rattle.ac_pool.proofs.SlotNames.{linked_name}
use Rattle.ac_chain.specs.Rows as chain
use Rattle.ac_chain.proofs.Puts.{place_cut}
use Rattle.ac_model.specs.Rows.{node}
use Rattle.ac_tree.specs.declared.links.TreeNode.{TreeNode}
use Rattle.ac_tree.specs.declared.links.Links.{Links}
use Rattle.ac_tree.specs.Forests.{Forest, bare, grove, beside, Step, under, after, outline, size, first_in, last_in, or_name, Has, Once, plugged, parent_in, prev_in, depth_in, before_in, after_in}
use Rattle.ac_tree.specs.TreeFields.{links, Stands, Framed, StandsFor, forest_in, IsForest, next_link, next_of, first_of, last_of, prev_before, parent_put, prev_put, next_put, written_at, with_next, with_prev, closed}
use Rattle.ac_tree.specs.Splicing.{Moved, reparented}
use Rattle.ac_tree.proofs.Places.{IsAround, OnceAround, Parted, parted, joint, plugged_has, around_has, plugged_either, plugged_size, outline_plugged, once_rows, size_is}
use Rattle.ac_tree.proofs.Writes.{Nodes, Keeps, keeps_itself, keeps_then, keeps_at, Writes, writes}
use Rattle.ac_tree.proofs.Standing.{some_name, Stands-same, Stands-behind, Framed-same, Open, opened, shut, framed-next, framed-last, next-aside, last-aside, last_some, last_none, closed-aside}
use Rattle.ac_tree.proofs.Forests.{open_of, links_at, first_has, last_has, live_of, forest-is}
use Rattle.ac_tree.proofs.Holes.{Under, under_of}
use Rattle.ac_tree.proofs.Splices.{keeps_closed, prev_open}

module _ {X : Type 0} where
  -- one of the topmost
  abbrev IsTop : Name → Forest X → Type 0
  IsTop a bare = ⊥
  IsTop a (grove x below rest) = (a ≡ x.name) ⊎ IsTop a rest

  top_has : (a : Name) (t : Forest X) → IsTop a t → Has a t
  top_has a bare h = h
  top_has a (grove x below rest) h = elim h [ inl e ↦ inl e | inr k ↦ inr (inr (top_has a rest k)) ]

  abbrev with_parent : Links X → Name → Option Name → Links X
  with_parent l a p = links (written_at l.nodes a (parent_put p)) l.first l.last

  reparent_aside : (t : Forest X) (p : Option Name) (l : Links X) (a : Name) → (IsTop a t → ⊥) → value_of (reparented t p l).nodes a ≡ value_of l.nodes a
  reparent_aside bare p l a out = refl
  reparent_aside (grove x below rest) p l a out = reparent_aside rest p (with_parent l x.name p) a (λ k. out (inr k)) ∙ (writes l.nodes x.name (parent_put p)).there a (λ e. out (inl e))

  reparent_keeps : (t : Forest X) (p : Option Name) (l : Links X) → Keeps l.nodes (reparented t p l).nodes
  reparent_keeps bare p l = keeps_itself l.nodes
  reparent_keeps (grove x below rest) p l = keeps_then l.nodes (with_parent l x.name p).nodes (reparented rest p (with_parent l x.name p)).nodes (keeps_at l.nodes x.name (parent_put p)) (reparent_keeps rest p (with_parent l x.name p))

  reparent_ends : (t : Forest X) (p : Option Name) (l : Links X) → ((reparented t p l).first ≡ l.first) × ((reparented t p l).last ≡ l.last)
  reparent_ends bare p l = (refl, refl)
  reparent_ends (grove x below rest) p l = reparent_ends rest p (with_parent l x.name p)

  reparent_stands : (t : Forest X) (p o q : Option Name) (l : Links X) → Once t → Stands (value_of l.nodes) o q t → Stands (value_of (reparented t p l).nodes) p q t
  reparent_stands bare p o q l once h = tt
  reparent_stands (grove x below rest) p o q l once h =
      let k = with_parent l x.name p in let w = writes l.nodes x.name (parent_put p) in let m = reparented rest p k in (
        reparent_aside rest p k x.name (λ t. once.1 (top_has x.name rest t)) ∙ w.here ∙ ap (option_map (parent_put p)) h.0,
        Stands-same (value_of l.nodes) (value_of m.nodes) (Some x.name) None below
            (λ a b. reparent_aside rest p k a (λ t. once.2 a b (top_has a rest t)) ∙ w.there a (λ e. once.0 (subst (λ n. Has n below) e b))) h.1,
        reparent_stands rest p o (Some x.name) k once.4 (Stands-same (value_of l.nodes) (value_of k.nodes) o (Some x.name) rest (λ a r. w.there a (λ e. once.1 (subst (λ n. Has n rest) e r))) h.2),
      )

  -- a loop over the children: those on the left have the parent, and those from the place on are still as they were
  pub record ReparentsOn (l : Links X) (p : Option Name) (below : Forest X) (m : Links X) (place : Option Name) : Type 0 where
    pub done : List (Step X)
    pub left : Forest X
    pub stands : StandsFor l (plugged done left)
    pub place_is : place ≡ first_in left
    pub same : reparented left p m ≡ reparented below p l
    pub there : (a : Name) → Has a left → value_of m.nodes a ≡ value_of l.nodes a
    pub keeps : Keeps l.nodes m.nodes

  top_first : (l : Links X) (steps : List (Step X)) (below : Forest X) → StandsFor l (plugged steps below) → prev_in steps ≡ None → first_of l (parent_in steps) ≡ first_in below
  top_first l [] below s e = s.framed.0
  top_first l (under x rest ∷ steps) below s e = (links_at l steps x below rest s).first
  top_first l (after x c ∷ steps) below s e = absurd (none-some x.name (sym e))

  top_last : (l : Links X) (steps : List (Step X)) (below : Forest X) → StandsFor l (plugged steps below) → prev_in steps ≡ None → last_of l (parent_in steps) ≡ last_in below
  top_last l [] below s e = s.framed.1
  top_last l (under x rest ∷ steps) below s e = (links_at l steps x below rest s).last
  top_last l (after x c ∷ steps) below s e = absurd (none-some x.name (sym e))

  pub reparent_start : (l : Links X) (from p place : Option Name) → place ≡ first_of l from → (steps : List (Step X)) (below : Forest X) → StandsFor l (plugged steps below) → parent_in steps ≡ from → prev_in steps ≡ None → ReparentsOn l p below l place
  reparent_start l from p place is steps below s up none = record {
    done = steps;
    left = below;
    stands = s;
    place_is = is ∙ ap (first_of l) (sym up) ∙ top_first l steps below s none;
    same = refl;
    there = λ a h. refl;
    keeps = keeps_itself l.nodes;
  }

  -- the child that is met
  record Child (l m : Links X) (p : Option Name) (below : Forest X) (name : Name) (next : Option Name) : Type 0 where
    pub done : List (Step X)
    pub at : Row Name X
    pub part : Forest X
    pub rest : Forest X
    pub stands : StandsFor l (plugged done (grove at part rest))
    pub named : at.name ≡ name
    pub next_is : next ≡ first_in rest
    pub same : reparented (grove at part rest) p m ≡ reparented below p l
    pub there : (a : Name) → Has a (grove at part rest) → value_of m.nodes a ≡ value_of l.nodes a

  child : (l m : Links X) (p place next : Option Name) (below : Forest X) (name : Name) → ReparentsOn l p below m place → place ≡ Some name → next ≡ next_of m name → Child l m p below name next
  child l m p place next below name k at is = by_left k.done k.left k.stands (sym k.place_is ∙ at) k.same k.there
    where
      by_left : (done : List (Step X)) (left : Forest X) → StandsFor l (plugged done left) → first_in left ≡ Some name → reparented left p m ≡ reparented below p l → ((a : Name) → Has a left → value_of m.nodes a ≡ value_of l.nodes a) → Child l m p below name next
      by_left done bare s first same there = absurd (none-some name first)
      by_left done (grove x c rest) s first same there =
          let named : x.name ≡ name = some_name x.name name first in
          let live = λ (a : Name) (e : first_in rest ≡ Some a). k.keeps.live a ∙ live_of l (plugged done (grove x c rest)) s a (plugged_has done (grove x c rest) a (inr (inr (first_has rest a e)))) in
          record {
            done = done;
            at = x;
            part = c;
            rest = rest;
            stands = s;
            named = named;
            next_is = is ∙ ap (next_of m) (sym named) ∙ ap (λ v. name_in m.nodes (next_link v)) (there x.name (inl refl) ∙ (links_at l done x c rest s).node) ∙ linked_name m.nodes (k.keeps.sound s.sound) (first_in rest) live;
            same = same;
            there = there;
          }

  pub reparent_more : (l m n : Links X) (p place next : Option Name) (below : Forest X) (name : Name) → ReparentsOn l p below m place → place ≡ Some name → next ≡ next_of m name → n ≡ with_parent m name p → ReparentsOn l p below n next
  reparent_more l m n p place next below name k at is now =
      let h = child l m p place next below name k at is in
      let part = parted h.done (grove h.at h.part h.rest) h.stands.once in
      let w = writes m.nodes name (parent_put p) in
      let kept : n.nodes ≡ written_at m.nodes name (parent_put p) = ap (λ (z : Links X). z.nodes) now in
      record {
        done = after h.at h.part ∷ h.done;
        left = h.rest;
        stands = h.stands;
        place_is = h.next_is;
        same = ap (reparented h.rest p) (now ∙ ap (λ a. with_parent m a p) (sym h.named)) ∙ h.same;
        there = λ a q. ap (λ d. value_of d a) kept ∙ w.there a (λ e. part.once.1 (subst (λ z. Has z h.rest) (e ∙ sym h.named) q)) ∙ h.there a (inr (inr q));
        keeps = keeps_then l.nodes m.nodes n.nodes k.keeps (subst (λ d. Keeps m.nodes d) (sym kept) (keeps_at m.nodes name (parent_put p)));
      }

  -- a sibling stands further on
  sibling_further : (l : Links X) (done : List (Step X)) (x : Row Name X) (c rest : Forest X) → StandsFor l (plugged done (grove x c rest))
      → length (outline 2 (forest_in l)) - chain.place_of (first_in rest) (outline 2 (forest_in l)) < length (outline 2 (forest_in l)) - chain.place_of (Some x.name) (outline 2 (forest_in l))
  sibling_further l done x c rest s = by_rest rest s
    where
      cut_at : (steps : List (Step X)) (t : Forest X) → StandsFor l (plugged steps t) → (a : Name) → first_in t ≡ Some a → chain.place_of (Some a) (outline 2 (forest_in l)) ≡ length (before_in steps)
      cut_at steps t s a first =
          let rows : outline 2 (forest_in l) ≡ before_in steps ++ (outline (depth_in steps) t ++ after_in steps) = ap (outline 2) (forest-is l (plugged steps t) s) ∙ outline_plugged steps t in
          let once : IsOnce (before_in steps ++ (outline (depth_in steps) t ++ after_in steps)) = subst (λ z. IsOnce z) (outline_plugged steps t) (once_rows 2 (plugged steps t) s.once) in
          ap (chain.place_of (Some a)) rows ∙ by_first t first once
        where
          by_first : (t : Forest X) → first_in t ≡ Some a → IsOnce (before_in steps ++ (outline (depth_in steps) t ++ after_in steps)) → chain.place_of (Some a) (before_in steps ++ (outline (depth_in steps) t ++ after_in steps)) ≡ length (before_in steps)
          by_first bare e once = absurd (none-some a e)
          by_first (grove y b r) e once = place_cut (Some a) (before_in steps) (outline (depth_in steps) (grove y b r) ++ after_in steps) once (sym e)

      long : (rest : Forest X) → StandsFor l (plugged done (grove x c rest)) → length (before_in done) + (suc (size c) + size rest) ≤ length (outline 2 (forest_in l))
      long rest s =
          let d = depth_in done in let t = grove x c rest in
          let all = ap (λ z. length (outline 2 z)) (forest-is l (plugged done t) s) ∙ ap length (outline_plugged done t) in
          let a = length-append (before_in done) (outline d t ++ after_in done) in let b = length-append (outline d t) (after_in done) in let e = size_is d t in
          omega (arith, all, a, b, e)

      by_rest : (rest : Forest X) → StandsFor l (plugged done (grove x c rest))
          → length (outline 2 (forest_in l)) - chain.place_of (first_in rest) (outline 2 (forest_in l)) < length (outline 2 (forest_in l)) - chain.place_of (Some x.name) (outline 2 (forest_in l))
      by_rest bare s = let here = cut_at done (grove x c bare) s x.name refl in let many = long bare s in omega (arith, here, many)
      by_rest (grove y b r) s =
          let here = cut_at done (grove x c (grove y b r)) s x.name refl in let next = cut_at (after x c ∷ done) (grove y b r) s y.name refl in let many = long (grove y b r) s in
          let more = length-append (before_in done) (row x.name (node (depth_in done) x.value) ∷ outline (depth_in done + 1) c) in
          omega (arith, here, next, many, more)

  pub reparent_less : (l m : Links X) (p place next : Option Name) (below : Forest X) (name : Name) → ReparentsOn l p below m place → place ≡ Some name → next ≡ next_of m name
      → length (outline 2 (forest_in l)) - chain.place_of next (outline 2 (forest_in l)) < length (outline 2 (forest_in l)) - chain.place_of place (outline 2 (forest_in l))
  reparent_less l m p place next below name k at is =
      let h = child l m p place next below name k at is in let rows = outline 2 (forest_in l) in
      let at_place : Some h.at.name ≡ place = ap Some h.named ∙ sym at in
      subst (λ n. length rows - chain.place_of n rows < length rows - chain.place_of place rows) (sym h.next_is)
      (subst (λ n. length rows - chain.place_of (first_in h.rest) rows < length rows - chain.place_of n rows) at_place (sibling_further l h.done h.at h.part h.rest h.stands))

  pub reparent_end : (l m : Links X) (p place : Option Name) (below : Forest X) → ReparentsOn l p below m place → place ≡ None → m ≡ reparented below p l
  reparent_end l m p place below k none = by_left k.left (sym k.place_is ∙ none) k.same
    where
      by_left : (left : Forest X) → first_in left ≡ None → reparented left p m ≡ reparented below p l → m ≡ reparented below p l
      by_left bare e same = same
      by_left (grove x c r) e same = absurd (none-some x.name (sym e))

  -- one place of children, for a loop that asks for one
  pub some_children : (l : Links X) → IsForest l → (from : Option Name) → ForSome from (IsLive l.nodes) → Under l from
  some_children l s from live = under_of l s from live

  -- all that stands at a place is cut off
  pub emptied-open : (l : Links X) (steps : List (Step X)) (o e : Option Name) → OnceAround steps → Framed l steps o e → Open (closed l (parent_in steps) (prev_in steps) None) steps bare
  emptied-open l steps o e once h =
      let m = with_next l (parent_in steps) (prev_in steps) None in
      record {
        framed = subst (λ z. Framed (with_prev m (parent_in steps) None z) steps None None) (last_none steps) (framed-last m steps None e None once (framed-next l steps o e None once h));
        stands = tt;
      }

  pub outline_beside : (depth : ℕ) (a t : Forest X) → outline depth (beside a t) ≡ outline depth a ++ outline depth t
  outline_beside depth bare t = refl
  outline_beside depth (grove x below rest) t =
      ap (λ z. row x.name (node depth x.value) ∷ (outline (depth + 1) below ++ z)) (outline_beside depth rest t) ∙ ap (λ z. row x.name (node depth x.value) ∷ z) (sym (append_assoc (outline (depth + 1) below) (outline depth rest) (outline depth t)))

  pub size_beside : (a t : Forest X) → size (beside a t) ≡ size t + size a
  size_beside bare t = omega arith
  size_beside (grove x below rest) t = let e = size_beside rest t in omega (arith, e)

  pub beside_either : (a t : Forest X) (n : Name) → Has n (beside a t) → Has n a ⊎ Has n t
  beside_either bare t n h = inr h
  beside_either (grove x below rest) t n h = elim h [
    | inl e ↦ inl (inl e)
    | inr k ↦ elim k [ inl b ↦ inl (inr (inl b)) | inr r ↦ elim (beside_either rest t n r) [ inl q ↦ inl (inr (inr q)) | inr q ↦ inr q ] ]
  ]

  beside_first : (a t : Forest X) (n : Name) → Has n a → Has n (beside a t)
  beside_first bare t n h = absurd h
  beside_first (grove x below rest) t n h = elim h [ inl e ↦ inl e | inr k ↦ elim k [ inl b ↦ inr (inl b) | inr r ↦ inr (inr (beside_first rest t n r)) ] ]

  beside_second : (a t : Forest X) (n : Name) → Has n t → Has n (beside a t)
  beside_second bare t n h = h
  beside_second (grove x below rest) t n h = inr (inr (beside_second rest t n h))

  beside_once : (a t : Forest X) → Once a → Once t → ((n : Name) → Has n a → Has n t → ⊥) → Once (beside a t)
  beside_once bare t p q apart = q
  beside_once (grove x below rest) t p q apart = (
    p.0,
    (λ h. elim (beside_either rest t x.name h) [ inl r ↦ p.1 r | inr k ↦ apart x.name (inl refl) k ]),
    (λ n b h. elim (beside_either rest t n h) [ inl r ↦ p.2 n b r | inr k ↦ apart n (inr (inl b)) k ]),
    p.3,
    beside_once rest t p.4 q (λ n h k. apart n (inr (inr h)) k),
  )

  beside_bare : (a : Forest X) → beside a bare ≡ a
  beside_bare bare = refl
  beside_bare (grove x below rest) = ap (grove x below) (beside_bare rest)

  last_beside : (a : Forest X) (y : Row Name X) (b r : Forest X) → last_in (beside a (grove y b r)) ≡ last_in (grove y b r)
  last_beside bare y b r = refl
  last_beside (grove x below bare) y b r = refl
  last_beside (grove x below (grove z c rest)) y b r = ap (λ o. Some (or_name x.name o)) (last_beside (grove z c rest) y b r)

  -- the nodes of a forest are linked with those of another behind them
  linked_beside : (f g : Nodes X) (p q : Option Name) (a t : Forest X) (last : Name) → Once a → last_in a ≡ Some last → g last ≡ option_map (next_put (first_in t)) (f last) → ((n : Name) → Has n a → n ≢ last → g n ≡ f n)
      → Stands f p q a → Stands g p (Some last) t → Stands g p q (beside a t)
  linked_beside f g p q bare t last once is here there h behind = absurd (none-some last is)
  linked_beside f g p q (grove x c bare) t last once is here there h behind =
      let same : x.name ≡ last = some_name x.name last is in (
        ap g same ∙ here ∙ ap (λ n. option_map (next_put (first_in t)) (f n)) (sym same) ∙ ap (option_map (next_put (first_in t))) h.0,
        Stands-same f g (Some x.name) None c (λ n k. there n (inr (inl k)) (λ e. once.0 (subst (λ z. Has z c) (e ∙ sym same) k))) h.1,
        subst (λ n. Stands g p (Some n) t) (sym same) behind,
      )
  linked_beside f g p q (grove x c (grove y d r)) t last once is here there h behind =
      let in_rest : Has last (grove y d r) = last_has (grove y d r) last is in (
        there x.name (inl refl) (λ e. once.1 (subst (λ n. Has n (grove y d r)) (sym e) in_rest)) ∙ h.0,
        Stands-same f g (Some x.name) None c (λ n k. there n (inr (inl k)) (λ e. once.2 n k (subst (λ z. Has z (grove y d r)) (sym e) in_rest))) h.1,
        linked_beside f g p (Some x.name) (grove y d r) t last once.4 is here (λ n k ne. there n (inr (inr k)) ne) h.2 behind,
      )

  -- a write of one link of a node
  record One_write (l m : Links X) (a : Name) (w : TreeNode X → TreeNode X) : Type 0 where
    pub writes : Writes (value_of l.nodes) (value_of m.nodes) a w
    pub first : m.first ≡ l.first
    pub last : m.last ≡ l.last

  prev_node : (l : Links X) (p : Option Name) (q : Name) (o : Option Name) → One_write l (with_prev l p (Some q) o) q (prev_put o)
  unfolding with_prev
  prev_node l p q o = record { writes = writes l.nodes q (prev_put o); first = refl; last = refl }

  next_node : (l : Links X) (p : Option Name) (q : Name) (o : Option Name) → One_write l (with_next l p (Some q) o) q (next_put o)
  unfolding with_next
  next_node l p q o = record { writes = writes l.nodes q (next_put o); first = refl; last = refl }

  written_frame : (l m : Links X) (a : Name) (w : TreeNode X → TreeNode X) → One_write l m a w → (steps : List (Step X)) (o e : Option Name) → (IsAround a steps → ⊥) → Framed l steps o e → Framed m steps o e
  written_frame l m a w k steps o e out h = Framed-same l m steps o e (λ b r. k.writes.there b (λ q. out (subst (λ n. IsAround n steps) q r))) k.first k.last h

  -- the last of the topmost, where those at the place come behind this one
  abbrev last_or : Name → Forest X → Option Name
  last_or last bare = Some last
  last_or last (grove y b r) = last_in (grove y b r)

  last_beside_is : (x : Row Name X) (c rest t : Forest X) → last_in (beside (grove x c rest) t) ≡ last_or (or_name x.name (last_in rest)) t
  last_beside_is x c rest bare = ap last_in (beside_bare (grove x c rest))
  last_beside_is x c rest (grove y b r) = last_beside (grove x c rest) y b r

  -- what stands at the place has this node before it
  record Behind (l m : Links X) (steps : List (Step X)) (o : Option Name) (t : Forest X) (last : Name) : Type 0 where
    pub framed : Framed m steps o (last_or last t)
    pub stands : Stands (value_of m.nodes) (parent_in steps) (Some last) t
    pub aside : (a : Name) → (IsAround a steps → ⊥) → (Has a t → ⊥) → value_of m.nodes a ≡ value_of l.nodes a

  behind : (l : Links X) (steps : List (Step X)) (o : Option Name) (t : Forest X) (last : Name) → OnceAround steps → Once t → ((a : Name) → Has a t → IsAround a steps → ⊥) → Framed l steps o (last_in t) → Stands (value_of l.nodes) (parent_in steps) (prev_in steps) t
      → Behind l (with_prev l (parent_in steps) (first_in t) (Some last)) steps o t last
  behind l steps o bare last around once out framed stands =
      let m = with_prev l (parent_in steps) None (Some last) in
      record {
        framed = subst (λ z. Framed (with_prev l (parent_in steps) None z) steps o (Some last)) (last_some steps last) (framed-last l steps o None (Some last) around framed);
        stands = tt;
        aside = λ a off not_in. last-aside l steps (Some last) a off;
      }
  behind l steps o (grove y b r) last around once out framed stands =
      let k = prev_node l (parent_in steps) y.name (Some last) in let m = with_prev l (parent_in steps) (Some y.name) (Some last) in
      record {
        framed = written_frame l m y.name (prev_put (Some last)) k steps o (last_in (grove y b r)) (out y.name (inl refl)) framed;
        stands = Stands-behind (value_of l.nodes) (value_of m.nodes) (parent_in steps) (prev_in steps) (Some last) y b r once k.writes stands;
        aside = λ a off not_in. k.writes.there a (λ e. not_in (inl e));
      }

  -- nodes that are linked with each other come to a place
  joined-open : (u : Links X) (to : List (Step X)) (x : Row Name X) (c rest t : Forest X) → OnceAround to → Once (grove x c rest) → Once t → ((a : Name) → Has a (grove x c rest) → IsAround a to → ⊥) → ((a : Name) → Has a t → IsAround a to → ⊥)
      → ((a : Name) → Has a (grove x c rest) → Has a t → ⊥) → Open u to t → Stands (value_of u.nodes) (parent_in to) None (grove x c rest)
      → Open (closed (closed u (parent_in to) (prev_in to) (Some x.name)) (parent_in to) (Some (or_name x.name (last_in rest))) (first_in t)) to (beside (grove x c rest) t)
  joined-open u to x c rest t around once once_t out out_t apart o chain =
      let a = grove x c rest in let last = or_name x.name (last_in rest) in let p = parent_in to in let q = prev_in to in
      let m1 = with_next u p q (Some x.name) in let m2 = with_prev m1 p (Some x.name) q in let m3 = with_next m2 p (Some last) (first_in t) in let m4 = with_prev m3 p (first_in t) (Some last) in
      let w2 = prev_node m1 p x.name q in let w3 = next_node m2 p last (first_in t) in
      let in_last : Has last a = last_has a last refl in
      let f1 = framed-next u to (first_in t) (last_in t) (Some x.name) around o.framed in
      let f2 = written_frame m1 m2 x.name (prev_put q) w2 to (Some x.name) (last_in t) (out x.name (inl refl)) f1 in
      let f3 = written_frame m2 m3 last (next_put (first_in t)) w3 to (Some x.name) (last_in t) (out last in_last) f2 in
      let c1 = Stands-same (value_of u.nodes) (value_of m1.nodes) p None a (λ n h. next-aside u to (Some x.name) n (out n h)) chain in
      let c2 = Stands-behind (value_of m1.nodes) (value_of m2.nodes) p None q x c rest once w2.writes c1 in
      let kept = λ (n : Name) (h : Has n t). w3.writes.there n (λ e. apart last in_last (subst (λ z. Has z t) e h)) ∙ w2.writes.there n (λ e. apart x.name (inl refl) (subst (λ z. Has z t) e h)) ∙ next-aside u to (Some x.name) n (out_t n h) in
      let t3 = Stands-same (value_of u.nodes) (value_of m3.nodes) p q t kept o.stands in
      let b = behind m3 to (Some x.name) t last around once_t out_t f3 t3 in
      record {
        framed = subst (λ e. Framed m4 to (Some x.name) e) (sym (last_beside_is x c rest t)) b.framed;
        stands = linked_beside (value_of m2.nodes) (value_of m4.nodes) p q a t last once refl (b.aside last (out last in_last) (apart last in_last) ∙ w3.writes.here)
            (λ n h ne. b.aside n (out n h) (apart n h) ∙ w3.writes.there n ne) c2 b.stands;
      }

  module _ (l : Links X) (from to : List (Step X)) (x : Row Name X) (c rest t : Forest X) (s : StandsFor l (plugged from (grove x c rest))) (none : prev_in from ≡ None) (same : plugged to t ≡ plugged from bare) where
    abbrev all : Forest X
    all = grove x c rest

    -- the children have their new parent, are cut off, and are then led to from there
    abbrev children_joined : Links X
    children_joined = reparented all (parent_in to) l

    abbrev cut_away : Links X
    cut_away = closed children_joined (parent_in from) None None

    abbrev joined_there : Links X
    joined_there = closed (closed cut_away (parent_in to) (prev_in to) (Some x.name)) (parent_in to) (Some (or_name x.name (last_in rest))) (first_in t)

    part : Parted from all
    part = parted from all s.once

    was : Open l from all
    was = opened l from all (open_of l (plugged from all) s)

    cut_here : Open cut_away from bare
    cut_here =
        let ends = reparent_ends all (parent_in to) l in
        let framed = Framed-same l children_joined from (first_in all) (last_in all) (λ a m. reparent_aside all (parent_in to) l a (λ h. part.apart a (top_has a all h) m)) ends.0 ends.1 was.framed in
        subst (λ q. Open (closed children_joined (parent_in from) q None) from bare) none (emptied-open children_joined from (first_in all) (last_in all) part.around framed)

    cut_there : Open cut_away [] (plugged to t)
    cut_there = subst (λ z. Open cut_away [] z) (sym same) (shut cut_away from bare cut_here)

    chain_there : Stands (value_of cut_away.nodes) (parent_in to) None all
    chain_there =
        let r = reparent_stands all (parent_in to) (parent_in from) None l part.once (subst (λ q. Stands (value_of l.nodes) (parent_in from) q all) none was.stands) in
        Stands-same (value_of children_joined.nodes) (value_of cut_away.nodes) (parent_in to) None all
        (λ a h. ap (λ q. value_of (closed children_joined (parent_in from) q None).nodes a) (sym none) ∙ closed-aside children_joined from bare a (part.apart a h) (λ k. k)) r

    cut_keeps : Keeps l.nodes cut_away.nodes
    cut_keeps = keeps_then l.nodes children_joined.nodes cut_away.nodes (reparent_keeps all (parent_in to) l) (keeps_closed children_joined (parent_in from) None None)

    left_once : Once (plugged to t)
    left_once = subst (λ z. Once z) (sym same) (joint from bare (record { once = tt; around = part.around; apart = λ a h m. h }))

    -- a child, or what is below one, isn't left
    gone : (a : Name) → Has a all → Has a (plugged to t) → ⊥
    gone a h k = elim (plugged_either from bare a (subst (λ z. Has a z) same k)) [ inl b ↦ b | inr m ↦ part.apart a h m ]

    there_part : Parted to (beside all t)
    there_part =
        let p = parted to t left_once in
        record {
          once = beside_once all t part.once p.once (λ a h k. gone a h (plugged_has to t a k));
          around = p.around;
          apart = λ a h m. elim (beside_either all t a h) [ inl k ↦ gone a k (around_has to t a m) | inr k ↦ p.apart a k m ];
        }

    joined_keeps : Keeps l.nodes joined_there.nodes
    joined_keeps =
        keeps_then l.nodes cut_away.nodes joined_there.nodes cut_keeps
        (keeps_then cut_away.nodes (closed cut_away (parent_in to) (prev_in to) (Some x.name)).nodes joined_there.nodes (keeps_closed cut_away (parent_in to) (prev_in to) (Some x.name))
        (keeps_closed (closed cut_away (parent_in to) (prev_in to) (Some x.name)) (parent_in to) (Some (or_name x.name (last_in rest))) (first_in t)))

    joined_stands : StandsFor joined_there (plugged to (beside all t))
    joined_stands =
        let p = parted to t left_once in
        let o = shut joined_there to (beside all t) (joined-open cut_away to x c rest t p.around part.once p.once (λ a h m. gone a h (around_has to t a m)) p.apart (λ a h k. gone a h (plugged_has to t a k)) (opened cut_away to t cut_there) chain_there) in
        let more = plugged_size to t (beside all t) (size all) (size_beside all t) in let were = plugged_size from bare all (size all) (omega arith) in
        let left = ap size same in let count = s.count in let kept = joined_keeps.count in
        record {
          framed = o.framed;
          stands = o.stands;
          once = joint to (beside all t) there_part;
          all = λ a h. elim (plugged_either from all a (s.all a (sym (joined_keeps.live a) ∙ h))) [
            | inl k ↦ plugged_has to (beside all t) a (beside_first all t a k)
            | inr m ↦ elim (plugged_either to t a (subst (λ z. Has a z) (sym same) (around_has from bare a m))) [
              | inl k ↦ plugged_has to (beside all t) a (beside_second all t a k)
              | inr k ↦ around_has to (beside all t) a k
            ]
          ];
          count = omega (arith, more, were, left, count, kept);
          sound = joined_keeps.sound s.sound;
        }

    joined_is : (source parent before first last : Option Name) (r u m : Links X) → parent_in from ≡ source → parent ≡ parent_in to → before ≡ first_in t → first ≡ first_of l source → last ≡ last_of l source
        → r ≡ reparented all parent l → u ≡ closed r source None None → m ≡ closed (closed u parent (prev_before u parent before) first) parent last before → Moved l m (plugged to (beside all t))
    joined_is source parent before first last r u m up pe be first_is last_is r_is u_is m_is =
        let same_u : u ≡ cut_away = u_is ∙ (λ i. closed ((r_is ∙ ap (λ p. reparented all p l) pe) i) (sym up i) None None) in
        let prev : prev_before u parent before ≡ prev_in to = (λ i. prev_before (same_u i) (pe i) (be i)) ∙ prev_open cut_away (cut_keeps.sound s.sound) to t cut_there in
        let f : first ≡ Some x.name = first_is ∙ ap (first_of l) (sym up) ∙ top_first l from all s none in
        let e : last ≡ Some (or_name x.name (last_in rest)) = last_is ∙ ap (last_of l) (sym up) ∙ top_last l from all s none in
        let same_m : m ≡ joined_there = m_is ∙ (λ i. closed (closed (same_u i) (pe i) (prev i) (f i)) (pe i) (e i) (be i)) in
        subst (λ (z : Links X). Moved l z (plugged to (beside all t))) (sym same_m) (record { stands = joined_stands; live = joined_keeps.live; next = joined_keeps.next; spare = joined_keeps.spare })

  -- all children of a node went to another place
  pub children_moved : (l : Links X) (from to : List (Step X)) (below t : Forest X) → StandsFor l (plugged from below) → prev_in from ≡ None → plugged to t ≡ plugged from bare → (source parent before first last : Option Name) (r u m : Links X) → parent_in from ≡ source → parent ≡ parent_in to
      → before ≡ first_in t → first ≡ first_of l source → (first ≡ None → ⊥) → last ≡ last_of l source → r ≡ reparented below parent l → u ≡ closed r source None None → m ≡ closed (closed u parent (prev_before u parent before) first) parent last before
      → Moved l m (plugged to (beside below t))
  children_moved l from to bare t s none same source parent before first last r u m up pe be first_is some last_is r_is u_is m_is = absurd (some (first_is ∙ ap (first_of l) (sym up) ∙ top_first l from bare s none))
  children_moved l from to (grove x c rest) t s none same source parent before first last r u m up pe be first_is some last_is r_is u_is m_is =
      joined_is l from to x c rest t s none same source parent before first last r u m up pe be first_is last_is r_is u_is m_is

  -- where there are none nothing changes
  pub none_moved : (l : Links X) (from to : List (Step X)) (below t : Forest X) → StandsFor l (plugged from below) → prev_in from ≡ None → plugged to t ≡ plugged from bare → (source first : Option Name) → parent_in from ≡ source → first ≡ first_of l source → first ≡ None → Moved l l (plugged to (beside below t))
  none_moved l from to below t s none same source first up is nothing = by_below below s (sym (top_first l from below s none) ∙ ap (first_of l) up ∙ sym is ∙ nothing)
    where
      by_below : (below : Forest X) → StandsFor l (plugged from below) → first_in below ≡ None → Moved l l (plugged to (beside below t))
      by_below (grove x c r) s e = absurd (none-some x.name (sym e))
      by_below bare s e = record { stands = subst (λ z. StandsFor l z) (sym same) s; live = λ a. refl; next = refl; spare = refl }

pub none_first : (o : Option Name) → is_none o ≡ true → o ≡ None
none_first None e = refl
none_first (Some a) e = absurd (true≢false (sym e))
