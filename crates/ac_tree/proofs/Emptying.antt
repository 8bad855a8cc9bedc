-- Nodes that go leaf after leaf: which leaf is next, and what is left.
use Rattle.std.proofs.Common.{◌≡◌, ℕ, ◌+◌, ◌-◌, ◌<◌, List, [], ◌∷◌, ◌++◌, true, false, true≢false, Option, Some, None, is_some, refl, sym, ap, ◌∙◌, subst, inl, inr, arith}
use Rattle.std.specs.Option.{ForSome}
use Rattle.std.proofs.lemmas.Option.{none-some}
use Rattle.ac_base.specs.declared.name.Name.{Name}
use Rattle.ac_base.specs.Rows.{Row}
use Rattle.ac_pool.specs.Contents.{IsLive, live_count}
use Rattle.ac_tree.specs.declared.links.Links.{Links}
use Rattle.ac_tree.specs.Forests.{Forest, bare, grove, Step, under, after, size, first_in, or_name, plugged, parent_in, prev_in}
use Rattle.ac_tree.specs.TreeFields.{StandsFor, IsForest, first_of, next_of, parent_of}
use Rattle.ac_tree.specs.Removing.{Removed, Removes, first_leaf, pruned, Leads, Succeeds, Clears, Uproots}
use Rattle.ac_tree.proofs.Places.{parted, plugged_has, around_has, plugged_size}
use Rattle.ac_tree.proofs.Standing.{some_name}
use Rattle.ac_tree.proofs.Forests.{links_at, live_of, is_forest, first_has, parent_has}
use Rattle.ac_tree.proofs.Counting.{node_depth, deeper}
use Rattle.ac_tree.proofs.Holes.{under_of}
use Rattle.ac_tree.proofs.Looking.{at_place}
use Rattle.ac_tree.proofs.Following.{plugged-append, parent_top, parent_within}

-- the later of two that were met, where there is one
abbrev pub later : Option Name → Option Name → Option Name
later leaf None = leaf
later leaf (Some a) = Some a

later_none : (o : Option Name) → later None o ≡ o
later_none None = refl
later_none (Some a) = refl

later_name : (a : Name) (o : Option Name) → later (Some a) o ≡ Some (or_name a o)
later_name a None = refl
later_name a (Some b) = refl

module _ {X : Type 0} where
  -- how far down a walk by first children can still go
  abbrev pub still_below : Links X → Option Name → ℕ
  still_below l None = 0
  still_below l (Some a) = (live_count l.nodes + 2) - node_depth l (Some a)

  -- from a node down by first children: the last one that was met, and the place
  pub record Descending (l : Links X) (from leaf place : Option Name) : Type 0 where
    pub live : ForSome place (IsLive l.nodes)
    pub leads : (steps : List (Step X)) (t : Forest X) → StandsFor l (plugged steps t) → first_in t ≡ from
        → (outer : List (Step X)) × (u : Forest X) × StandsFor l (plugged outer u) × (first_in u ≡ place) × (first_leaf t ≡ later leaf (first_leaf u))

  pub descend_start : (l : Links X) (from : Option Name) → ForSome from (IsLive l.nodes) → Descending l from None from
  descend_start l from live = record { live = live; leads = λ steps t s e. (steps, t, s, e, sym (later_none (first_leaf t))) }

  -- the first child of a node is one deeper, and live
  record Below (l : Links X) (name : Name) (next : Option Name) : Type 0 where
    pub live : ForSome next (IsLive l.nodes)
    pub less : still_below l next < still_below l (Some name)

  below_is : (l : Links X) → IsForest l → (name : Name) → IsLive l.nodes name → (next : Option Name) → next ≡ first_of l (Some name) → Below l name next
  below_is l s name live next is =
      let k = at_place l s name live in
      by_below k.steps k.at k.below k.rest k.stands k.named
    where
      by_below : (steps : List (Step X)) (x : Row Name X) (below rest : Forest X) → StandsFor l (plugged steps (grove x below rest)) → x.name ≡ name → Below l name next
      by_below steps x bare rest h named =
          let none : next ≡ None = is ∙ ap (λ n. first_of l (Some n)) (sym named) ∙ (links_at l steps x bare rest h).first in
          let few = (deeper l s name live).few in
          subst (λ n. Below l name n) (sym none) (record { live = λ b e. absurd (none-some b e); less = omega (arith, few) })
      by_below steps x (grove y c r) rest h named =
          let t = grove y c r in
          let child : next ≡ Some y.name = is ∙ ap (λ n. first_of l (Some n)) (sym named) ∙ (links_at l steps x t rest h).first in
          let lives = live_of l (plugged (under x rest ∷ steps) t) h y.name (plugged_has (under x rest ∷ steps) t y.name (inl refl)) in
          let up : parent_of l y.name ≡ Some name = (links_at l (under x rest ∷ steps) y c r h).parent ∙ ap Some named in
          let d = deeper l s y.name lives in
          let one = d.one in let few = d.few in
          let same : node_depth l (parent_of l y.name) ≡ node_depth l (Some name) = ap (node_depth l) up in
          subst (λ n. Below l name n) (sym child) (record { live = λ b e. subst (λ n. IsLive l.nodes n) (some_name y.name b e) lives; less = omega (arith, one, few, same) })

  pub descend_less : (l : Links X) → IsForest l → (from leaf place : Option Name) → Descending l from leaf place → (name : Name) → place ≡ Some name → (next : Option Name) → next ≡ first_of l (Some name) → still_below l next < still_below l place
  descend_less l s from leaf place k name at next is = subst (λ p. still_below l next < still_below l p) (sym at) (below_is l s name (k.live name at) next is).less

  pub descend_more : (l : Links X) → IsForest l → (from leaf place : Option Name) → Descending l from leaf place → (name : Name) → place ≡ Some name → (next : Option Name) → next ≡ first_of l (Some name) → Descending l from (Some name) next
  descend_more l s from leaf place k name at next is = record {
    live = (below_is l s name (k.live name at) next is).live;
    leads = λ steps t h e. let m = k.leads steps t h e in by_part steps t m.0 m.1 m.2 (m.3 ∙ at) m.4;
  }
    where
      by_part : (steps : List (Step X)) (t : Forest X) (outer : List (Step X)) (u : Forest X) → StandsFor l (plugged outer u) → first_in u ≡ Some name → first_leaf t ≡ later leaf (first_leaf u)
          → (outer : List (Step X)) × (u : Forest X) × StandsFor l (plugged outer u) × (first_in u ≡ next) × (first_leaf t ≡ later (Some name) (first_leaf u))
      by_part steps t outer bare h first leads = absurd (none-some name first)
      by_part steps t outer (grove x below rest) h first leads =
          let named = some_name x.name name first in (
            under x rest ∷ outer,
            below,
            h,
            sym (is ∙ ap (λ n. first_of l (Some n)) (sym named) ∙ (links_at l outer x below rest h).first),
            leads ∙ sym (ap (λ p. later (Some p) (first_leaf below)) (sym named) ∙ later_name x.name (first_leaf below)),
          )

  pub descend_end : (l : Links X) (from leaf place : Option Name) → Descending l from leaf place → place ≡ None → Leads l from leaf
  descend_end l from leaf place k none = λ steps t h e. let m = k.leads steps t h e in by_part t m.1 (m.3 ∙ none) m.4
    where
      by_part : (t u : Forest X) → first_in u ≡ None → first_leaf t ≡ later leaf (first_leaf u) → leaf ≡ first_leaf t
      by_part t bare first leads = sym leads
      by_part t (grove x below rest) first leads = absurd (none-some x.name (sym first))

  -- the first leaf, where it stands
  record At_leaf (t : Forest X) (part : Forest X) (a : Name) : Type 0 where
    pub inner : List (Step X)
    pub at : Row Name X
    pub rest : Forest X
    pub is : plugged inner (grove at bare rest) ≡ t
    pub named : at.name ≡ a
    pub left : plugged inner rest ≡ part
    pub next : (u : Forest X) → first_leaf (plugged inner u) ≡ later (parent_in inner) (first_leaf u)

  at_leaf : (inner : List (Step X)) (t : Forest X) (a : Name) → ((u : Forest X) → first_leaf (plugged inner u) ≡ later (parent_in inner) (first_leaf u)) → first_leaf t ≡ Some a → At_leaf (plugged inner t) (plugged inner (pruned t)) a
  at_leaf inner bare a next e = absurd (none-some a e)
  at_leaf inner (grove x bare rest) a next e = record { inner = inner; at = x; rest = rest; is = refl; named = some_name x.name a e; left = refl; next = next }
  at_leaf inner (grove x (grove y c r) rest) a next e =
      at_leaf (under x rest ∷ inner) (grove y c r) a (λ u. next (grove x u rest) ∙ sym (later_name x.name (first_leaf u))) e

  leaf_of : (t : Forest X) (a : Name) → first_leaf t ≡ Some a → At_leaf t (pruned t) a
  leaf_of t a e = at_leaf [] t a (λ u. sym (later_none (first_leaf u))) e

  -- the sibling of a live node is live
  pub sibling_live : (l : Links X) → IsForest l → (name : Name) → IsLive l.nodes name → (sibling : Option Name) → sibling ≡ next_of l name → ForSome sibling (IsLive l.nodes)
  sibling_live l s name live sibling is = λ b e.
      let k = at_place l s name live in
      let next : first_in k.rest ≡ Some b = sym k.links.next ∙ ap (next_of l) k.named ∙ sym is ∙ e in
      live_of l (plugged k.steps (grove k.at k.below k.rest)) k.stands b (plugged_has k.steps (grove k.at k.below k.rest) b (inr (inr (first_has k.rest b next))))

  -- what follows a leaf: the first leaf from its sibling on
  pub goes_on : (l : Links X) (top : Option Name) (name : Name) (sibling result : Option Name) → sibling ≡ next_of l name → is_some sibling ≡ true → Leads l sibling result → Succeeds l top name result
  goes_on l top name sibling result is found leads steps t s up e = let k = leaf_of t name e in by_rest k k.rest k.left (subst (λ z. StandsFor l (plugged steps z)) (sym k.is) s)
    where
      by_rest : (k : At_leaf t (pruned t) name) (rest : Forest X) → plugged k.inner rest ≡ pruned t → StandsFor l (plugged steps (plugged k.inner (grove k.at bare rest))) → result ≡ first_leaf (pruned t)
      by_rest k rest left h =
          let inside : StandsFor l (plugged (k.inner ++ steps) (grove k.at bare rest)) = subst (λ z. StandsFor l z) (sym (plugged-append k.inner steps (grove k.at bare rest))) h in
          let next : sibling ≡ first_in rest = is ∙ ap (next_of l) (sym k.named) ∙ (links_at l (k.inner ++ steps) k.at bare rest inside).next in
          let here : result ≡ first_leaf rest = leads (after k.at bare ∷ (k.inner ++ steps)) rest inside (sym next) in
          here ∙ some_last rest next ∙ sym (k.next rest) ∙ ap first_leaf left
        where
          some_last : (rest : Forest X) → sibling ≡ first_in rest → first_leaf rest ≡ later (parent_in k.inner) (first_leaf rest)
          some_last bare next = absurd (true≢false (sym found ∙ ap is_some next))
          some_last (grove y c r) next = refl

  -- or its parent, unless that is the top
  pub goes_up : (l : Links X) (top : Option Name) (name : Name) (sibling result : Option Name) → sibling ≡ next_of l name → is_some sibling ≡ false
      → (parent_of l name ≡ top → result ≡ None) → ((parent_of l name ≡ top → ⊥) → result ≡ parent_of l name) → Succeeds l top name result
  goes_up l top name sibling result is none at_top within steps t s up e = let k = leaf_of t name e in by_rest k k.rest k.left (subst (λ z. StandsFor l (plugged steps z)) (sym k.is) s)
    where
      by_rest : (k : At_leaf t (pruned t) name) (rest : Forest X) → plugged k.inner rest ≡ pruned t → StandsFor l (plugged steps (plugged k.inner (grove k.at bare rest))) → result ≡ first_leaf (pruned t)
      by_rest k (grove y c r) left h =
          let inside : StandsFor l (plugged (k.inner ++ steps) (grove k.at bare (grove y c r))) = subst (λ z. StandsFor l z) (sym (plugged-append k.inner steps (grove k.at bare (grove y c r)))) h in
          absurd (true≢false (sym (ap is_some (is ∙ ap (next_of l) (sym k.named) ∙ (links_at l (k.inner ++ steps) k.at bare (grove y c r) inside).next)) ∙ none))
      by_rest k bare left h =
          let u = grove k.at bare bare in
          let inside : StandsFor l (plugged (k.inner ++ steps) u) = subst (λ z. StandsFor l z) (sym (plugged-append k.inner steps u)) h in
          let lead : parent_of l name ≡ parent_in (k.inner ++ steps) = ap (parent_of l) (sym k.named) ∙ (links_at l (k.inner ++ steps) k.at bare bare inside).parent in
          by_parent (parent_in k.inner) refl lead ∙ sym (k.next bare) ∙ ap first_leaf left
        where
          by_parent : (p : Option Name) → parent_in k.inner ≡ p → parent_of l name ≡ parent_in (k.inner ++ steps) → result ≡ parent_in k.inner
          by_parent None q lead = at_top (lead ∙ parent_top k.inner steps q ∙ up) ∙ sym q
          by_parent (Some b) q lead =
              let u = grove k.at bare bare in
              let to : parent_of l name ≡ Some b = lead ∙ parent_within k.inner steps b q in
              let apart = (parted steps (plugged k.inner u) h.once).apart b (around_has k.inner u b (parent_has k.inner b q)) in
              within (λ w. apart (parent_has steps b (up ∙ sym w ∙ to))) ∙ to ∙ sym q

  -- the first child of the top begins what is below it
  top_first : (l : Links X) (steps : List (Step X)) (below : Forest X) → StandsFor l (plugged steps below) → prev_in steps ≡ None → first_of l (parent_in steps) ≡ first_in below
  top_first l [] below s e = s.framed.0
  top_first l (under x rest ∷ steps) below s e = (links_at l steps x below rest s).first
  top_first l (after x c ∷ steps) below s e = absurd (none-some x.name (sym e))

  -- what is left at a place of which nodes go
  pub record Left_at (l m : Links X) (steps : List (Step X)) (below : Forest X) (place : Option Name) : Type 0 where
    pub left : Forest X
    pub stands : StandsFor m (plugged steps left)
    pub first : place ≡ first_leaf left
    pub next : m.nodes.next_serial ≡ l.nodes.next_serial
    pub spare : m.nodes.spare + size left ≡ l.nodes.spare + size below

  abbrev pub Emptying : Links X → Option Name → Links X → Option Name → Type 0
  Emptying l top m place = (steps : List (Step X)) (below : Forest X) → StandsFor l (plugged steps below) → parent_in steps ≡ top → prev_in steps ≡ None → Left_at l m steps below place

  pub top_live : (l : Links X) → IsForest l → (top : Option Name) → ForSome top (IsLive l.nodes) → (first : Option Name) → first ≡ first_of l top → ForSome first (IsLive l.nodes)
  top_live l s top live first is = λ b e.
      let u = under_of l s top live in
      live_of l (plugged u.steps u.below) u.stands b (plugged_has u.steps u.below b (first_has u.below b (sym u.first ∙ sym is ∙ e)))

  pub empty_start : (l : Links X) (top first place : Option Name) → first ≡ first_of l top → Leads l first place → Emptying l top l place
  empty_start l top first place is leads = λ steps below s up none. record {
    left = below;
    stands = s;
    first = leads steps below s (sym (top_first l steps below s none) ∙ ap (first_of l) up ∙ sym is);
    next = refl;
    spare = refl;
  }

  -- one leaf more
  pub record Leaf_gone (l m : Links X) (top : Option Name) (name : Name) : Type 0 where
    pub forest : IsForest m
    pub live : IsLive m.nodes name
    pub less : (n : Links X) → Removes m name n → live_count n.nodes < live_count m.nodes

  pub empty_now : (l : Links X) → IsForest l → (top : Option Name) → ForSome top (IsLive l.nodes) → (m : Links X) (place : Option Name) → Emptying l top m place → (name : Name) → place ≡ Some name → Leaf_gone l m top name
  empty_now l s top live m place k name at =
      let u = under_of l s top live in
      let now = k u.steps u.below u.stands u.parent_is u.none_before in
      let leaf = leaf_of now.left name (sym now.first ∙ at) in
      let steps = leaf.inner ++ u.steps in let t = grove leaf.at bare leaf.rest in
      let stands : StandsFor m (plugged steps t) = subst (λ z. StandsFor m z) (sym (plugged-append leaf.inner u.steps t)) (subst (λ z. StandsFor m (plugged u.steps z)) (sym leaf.is) now.stands) in
      record {
        forest = is_forest m (plugged steps t) stands;
        live = subst (λ z. IsLive m.nodes z) leaf.named (live_of m (plugged steps t) stands leaf.at.name (plugged_has steps t leaf.at.name (inl refl)));
        less = λ n gone.
            let r = gone steps leaf.at leaf.rest stands leaf.named in
            let sizes : size (plugged steps t) ≡ size (plugged steps leaf.rest) + 1 = plugged_size steps leaf.rest t 1 (omega arith) in
            let old = stands.count in let new = r.stands.count in omega (arith, sizes, old, new);
      }

  pub empty_more : (l m n : Links X) (top place next : Option Name) (name : Name) → Emptying l top m place → place ≡ Some name → Succeeds m top name next → Removes m name n → Emptying l top n next
  empty_more l m n top place next name k at follows gone = λ steps below s up none.
      let now = k steps below s up none in
      let first : first_leaf now.left ≡ Some name = sym now.first ∙ at in
      let leaf = leaf_of now.left name first in
      let t = grove leaf.at bare leaf.rest in
      let stands : StandsFor m (plugged (leaf.inner ++ steps) t) = subst (λ z. StandsFor m z) (sym (plugged-append leaf.inner steps t)) (subst (λ z. StandsFor m (plugged steps z)) (sym leaf.is) now.stands) in
      let r = gone (leaf.inner ++ steps) leaf.at leaf.rest stands leaf.named in
      let fewer : size now.left ≡ size (pruned now.left) + 1 = ap size (sym leaf.is) ∙ plugged_size leaf.inner leaf.rest t 1 (omega arith) ∙ ap (λ z. size z + 1) leaf.left in
      let were = now.spare in let are = r.spare in
      record {
        left = pruned now.left;
        stands = subst (λ z. StandsFor n (plugged steps z)) leaf.left (subst (λ z. StandsFor n z) (plugged-append leaf.inner steps leaf.rest) r.stands);
        first = follows steps now.left now.stands up first;
        next = r.next ∙ now.next;
        spare = omega (arith, fewer, were, are);
      }

  pub empty_end : (l m : Links X) (top place : Option Name) → Emptying l top m place → place ≡ None → Clears l top m
  empty_end l m top place k none = λ steps below s up before. let now = k steps below s up before in by_left steps below now.left now.stands (sym none ∙ now.first) now.next now.spare
    where
      by_left : (steps : List (Step X)) (below left : Forest X) → StandsFor m (plugged steps left) → None ≡ first_leaf left → m.nodes.next_serial ≡ l.nodes.next_serial → m.nodes.spare + size left ≡ l.nodes.spare + size below → Removed l steps bare (size below) m
      by_left steps below bare s first next spare = record { stands = s; next = next; spare = omega (arith, spare) }
      by_left steps below (grove x c r) s first next spare = absurd (none-some (or_name x.name (first_leaf c)) first)

  -- the node goes after all below it
  pub uprooted : (l m n : Links X) (a : Name) → Clears l (Some a) m → Removes m a n → Uproots l a n
  uprooted l m n a cleared gone = λ steps x below rest s named.
      let c = cleared (under x rest ∷ steps) below s (ap Some named) refl in
      let r = gone steps x rest c.stands named in
      let some = c.spare in let one = r.spare in
      record { stands = r.stands; next = r.next ∙ c.next; spare = omega (arith, some, one) }

  pub cleared_forest : (l m : Links X) → IsForest l → (top : Option Name) → ForSome top (IsLive l.nodes) → Clears l top m → IsForest m
  cleared_forest l m s top live cleared =
      let u = under_of l s top live in
      is_forest m (plugged u.steps bare) (cleared u.steps u.below u.stands u.parent_is u.none_before).stands
