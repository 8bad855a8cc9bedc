-- Links that stand for a forest: what each leads to, that the forest is read off them, and the forest after each change.
use Rattle.std.proofs.Common.{◌≡◌, ◌≢◌, ℕ, zero, suc, ◌+◌, ◌-◌, ◌≤◌, List, [], ◌∷◌, Option, Some, None, is_some, refl, sym, ap, ◌∙◌, subst, inl, inr, arith}
use Rattle.std.specs.FinMap as map
use Rattle.ac_base.specs.declared.name.Name.{Name}
use Rattle.ac_base.specs.Rows.{Row, row}
use Rattle.ac_pool.specs.Names.{name_cmp}
use Rattle.ac_pool.specs.Contents.{Contents, value_of, with_value, IsLive, live_count, added, taken, IsFresh, IsSound}
use Rattle.ac_pool.proofs.NameLaws.{cases_name}
use Rattle.ac_pool.proofs.ContentsLaws.{value_of-added_same, value_of-added_other, value_of-taken_same, value_of-taken_other, live_count-added, live_count-taken, fresh_is_dead, value_of-with_value_same, value_of-with_value_other}
use Rattle.ac_pool.specs.Link.{name_in}
use Rattle.ac_pool.proofs.SlotNames.{linked_name}
use Rattle.ac_tree.specs.declared.links.TreeNode.{TreeNode}
use Rattle.ac_tree.specs.declared.links.Links.{Links}
use Rattle.ac_tree.specs.Forests.{Forest, bare, grove, Step, under, after, size, first_in, last_in, Has, plugged, parent_in, prev_in}
use Rattle.ac_tree.specs.TreeFields.{linked, node_with, links, Stands, StandsFor, read, read_on, forest_in, IsForest, parent_link, first_link, last_link, prev_link, next_link, parent_of, prev_of, next_of, first_of, last_of, with_next, tied, closed}
use Rattle.ac_tree.proofs.Places.{IsAround, Parted, parted, joint, plugged_has, around_has, plugged_either, plugged_size}
use Rattle.ac_tree.proofs.Writes.{keeps_then, keeps_next, keeps_prev, keeps_value}
use Rattle.ac_tree.proofs.Standing.{some_name, Stands-live, Stands-same, Framed-same, Open, opened, shut, closed-open, tied-open}

module _ {X : Type 0} where
  pub first_has : (t : Forest X) (a : Name) → first_in t ≡ Some a → Has a t
  first_has bare a e = cc
  first_has (grove x below rest) a e = inl (sym (some_name x.name a e))

  pub last_has : (t : Forest X) (a : Name) → last_in t ≡ Some a → Has a t
  last_has bare a e = cc
  last_has (grove x below bare) a e = inl (sym (some_name x.name a e))
  last_has (grove x below (grove y c r)) a e = inr (inr (last_has (grove y c r) a e))

  pub parent_has : (steps : List (Step X)) (a : Name) → parent_in steps ≡ Some a → IsAround a steps
  parent_has [] a e = cc
  parent_has (under x rest ∷ steps) a e = inl (sym (some_name x.name a e))
  parent_has (after x below ∷ steps) a e = inr (inr (parent_has steps a e))

  pub prev_has : (steps : List (Step X)) (a : Name) → prev_in steps ≡ Some a → IsAround a steps
  prev_has [] a e = cc
  prev_has (under x rest ∷ steps) a e = cc
  prev_has (after x below ∷ steps) a e = inl (sym (some_name x.name a e))

  pub live_of : (l : Links X) (t : Forest X) → StandsFor l t → (a : Name) → Has a t → IsLive l.nodes a
  live_of l t s a h = Stands-live (value_of l.nodes) None None t s.stands a h

  pub open_of : (l : Links X) (t : Forest X) → StandsFor l t → Open l [] t
  open_of l t s = record { framed = s.framed; stands = s.stands }

  -- the links of a node at a place
  pub record Links_at (l : Links X) (steps : List (Step X)) (x : Row Name X) (below rest : Forest X) : Type 0 where
    pub node : value_of l.nodes x.name ≡ Some (linked x.value (parent_in steps) (first_in below) (last_in below) (prev_in steps) (first_in rest))
    pub parent : parent_of l x.name ≡ parent_in steps
    pub first : first_of l (Some x.name) ≡ first_in below
    pub last : last_of l (Some x.name) ≡ last_in below
    pub prev : prev_of l x.name ≡ prev_in steps
    pub next : next_of l x.name ≡ first_in rest

  pub links_at : (l : Links X) (steps : List (Step X)) (x : Row Name X) (below rest : Forest X) → StandsFor l (plugged steps (grove x below rest)) → Links_at l steps x below rest
  links_at l steps x below rest s =
      let t = grove x below rest in
      let c = l.nodes in
      let o = opened l steps t (open_of l (plugged steps t) s) in
      let inside = λ (a : Name) (h : Has a t). live_of l (plugged steps t) s a (plugged_has steps t a h) in
      let around = λ (a : Name) (h : IsAround a steps). live_of l (plugged steps t) s a (around_has steps t a h) in
      record {
        node = o.stands.0;
        parent = ap (λ n. name_in c (parent_link n)) o.stands.0 ∙ linked_name c s.sound (parent_in steps) (λ a e. around a (parent_has steps a e));
        first = ap (λ n. name_in c (first_link n)) o.stands.0 ∙ linked_name c s.sound (first_in below) (λ a e. inside a (inr (inl (first_has below a e))));
        last = ap (λ n. name_in c (last_link n)) o.stands.0 ∙ linked_name c s.sound (last_in below) (λ a e. inside a (inr (inl (last_has below a e))));
        prev = ap (λ n. name_in c (prev_link n)) o.stands.0 ∙ linked_name c s.sound (prev_in steps) (λ a e. around a (prev_has steps a e));
        next = ap (λ n. name_in c (next_link n)) o.stands.0 ∙ linked_name c s.sound (first_in rest) (λ a e. inside a (inr (inr (first_has rest a e))));
      }

  -- the forest that the links are read as is the one that they stand for
  read-is : (c : Contents (TreeNode X)) → IsSound c → (p q : Option Name) (t : Forest X) (many : ℕ) → Stands (value_of c) p q t → size t ≤ many → read many c (first_in t) ≡ t
  read-is c sound p q bare zero h le = refl
  read-is c sound p q bare (suc many) h le = refl
  read-is c sound p q (grove x below rest) zero h le = absurd (omega arith)
  read-is c sound p q (grove x below rest) (suc many) h le =
      let n = Some x.name in
      let eb = linked_name c sound (first_in below) (λ a e. Stands-live (value_of c) n None below h.1 a (first_has below a e)) in
      let er = linked_name c sound (first_in rest) (λ a e. Stands-live (value_of c) p n rest h.2 a (first_has rest a e)) in
      let b_is = ap (read many c) eb ∙ read-is c sound n None below many h.1 (omega arith) in
      let r_is = ap (read many c) er ∙ read-is c sound p n rest many h.2 (omega arith) in
      ap (λ o. read_on c x.name o (λ k. read many c k)) h.0 ∙ (λ i. grove x (b_is i) (r_is i))

  pub forest-is : (l : Links X) (t : Forest X) → StandsFor l t → forest_in l ≡ t
  unfolding forest_in
  forest-is l t s = ap (read (live_count l.nodes) l.nodes) s.framed.0 ∙ read-is l.nodes s.sound None None t (live_count l.nodes) s.stands (omega (arith, s.count))

  pub is_forest : (l : Links X) (t : Forest X) → StandsFor l t → IsForest l
  is_forest l t s = subst (λ u. StandsFor l u) (sym (forest-is l t s)) s

  new_name : (l : Links X) (t : Forest X) (a : Name) → StandsFor l t → IsFresh l.nodes a → Has a t → ⊥
  new_name l t a s fresh h = let e : is_some {T = TreeNode X} None ≡ is_some (value_of l.nodes a) = ap is_some (sym (fresh_is_dead l.nodes a fresh)) in let live = live_of l t s a h in cc

  -- a new node, without children
  pub inserted_stands : (l : Links X) (steps : List (Step X)) (t : Forest X) (a : Name) (v : X) (d : Contents (TreeNode X)) → StandsFor l (plugged steps t) → IsFresh l.nodes a
      → d ≡ added l.nodes a (linked v (parent_in steps) None None (prev_in steps) (first_in t)) → IsSound d
      → StandsFor (tied (links d l.first l.last) (parent_in steps) (prev_in steps) (first_in t) a) (plugged steps (grove (row a v) bare t))
  inserted_stands l steps t a v d s fresh is sound =
      let n = linked v (parent_in steps) None None (prev_in steps) (first_in t) in
      let k = links d l.first l.last in
      let m = tied k (parent_in steps) (prev_in steps) (first_in t) a in
      let u = grove (row a v) bare t in
      let new = new_name l (plugged steps t) a s fresh in
      let others = λ (b : Name) (ne : b ≢ a). ap (λ c. value_of c b) is ∙ value_of-added_other l.nodes a b n ne in
      let kept = λ (b : Name) (h : Has b (plugged steps t)). others b (λ e. new (subst (λ z. Has z (plugged steps t)) e h)) in
      let here : value_of d a ≡ Some n = ap (λ c. value_of c a) is ∙ value_of-added_same l.nodes a n in
      let p = parted steps t s.once in
      let part : Parted steps u = record {
        once = ((λ h. h), (λ h. new (plugged_has steps t a h)), (λ b h g. h), tt, p.once);
        around = p.around;
        apart = λ b h m. elim h [
          | inl e ↦ new (subst (λ z. Has z (plugged steps t)) e (around_has steps t b m))
          | inr q ↦ elim q [ inl z ↦ z | inr z ↦ p.apart b z m ]
        ];
      } in
      let before : Open k [] (plugged steps t) = record { framed = s.framed; stands = Stands-same (value_of l.nodes) (value_of d) None None (plugged steps t) kept s.stands } in
      let o = shut m steps u (tied-open k steps (row a v) bare t part (opened k steps t before) here tt) in
      let keeps = keeps_then d _ m.nodes (keeps_next k (parent_in steps) (prev_in steps) (Some a)) (keeps_prev (with_next k (parent_in steps) (prev_in steps) (Some a)) (parent_in steps) (first_in t) (Some a)) in
      let more : live_count d ≡ live_count l.nodes + 1 = ap live_count is ∙ live_count-added l.nodes a n (fresh_is_dead l.nodes a fresh) in
      let sizes : size (plugged steps u) ≡ size (plugged steps t) + 1 = plugged_size steps t u 1 (omega arith) in
      record {
        framed = o.framed;
        stands = o.stands;
        once = joint steps u part;
        all = λ b h. elim (cases_name b a) [
          | inl e ↦ plugged_has steps u b (inl e)
          | inr ne ↦ elim (plugged_either steps t b (s.all b (ap is_some (sym (others b ne)) ∙ sym (keeps.live b) ∙ h))) [
            | inl z ↦ plugged_has steps u b (inr (inr z))
            | inr z ↦ around_has steps u b z
          ]
        ];
        count = omega (arith, s.count, more, keeps.count, sizes);
        sound = keeps.sound sound;
      }

  -- a node without children goes
  pub removed_stands : (l : Links X) (steps : List (Step X)) (x : Row Name X) (t : Forest X) (d : Contents (TreeNode X)) → StandsFor l (plugged steps (grove x bare t))
      → d ≡ taken (closed l (parent_in steps) (prev_in steps) (first_in t)).nodes x.name → IsSound d
      → StandsFor (links d (closed l (parent_in steps) (prev_in steps) (first_in t)).first (closed l (parent_in steps) (prev_in steps) (first_in t)).last) (plugged steps t)
  removed_stands l steps x t d s is sound =
      let u = grove x bare t in
      let k = closed l (parent_in steps) (prev_in steps) (first_in t) in
      let m = links d k.first k.last in
      let part = parted steps u s.once in
      let o = closed-open l steps x bare t part (opened l steps u (open_of l (plugged steps u) s)) in
      let others = λ (b : Name) (ne : b ≢ x.name). ap (λ c. value_of c b) is ∙ value_of-taken_other k.nodes x.name b ne in
      let not_in = λ (h : Has x.name t). part.once.1 h in
      let not_round = λ (h : IsAround x.name steps). part.apart x.name (inl refl) h in
      let after : Open m steps t = record {
        framed = Framed-same k m steps (first_in t) (last_in t) (λ b h. others b (λ e. not_round (subst (λ z. IsAround z steps) e h))) refl refl o.framed;
        stands = Stands-same (value_of k.nodes) (value_of d) (parent_in steps) (prev_in steps) t (λ b h. others b (λ e. not_in (subst (λ z. Has z t) e h))) o.stands;
      } in
      let now = shut m steps t after in
      let keeps = keeps_then l.nodes _ k.nodes (keeps_next l (parent_in steps) (prev_in steps) (first_in t)) (keeps_prev (with_next l (parent_in steps) (prev_in steps) (first_in t)) (parent_in steps) (first_in t) (prev_in steps)) in
      let live : IsLive k.nodes x.name = keeps.live x.name ∙ live_of l (plugged steps u) s x.name (plugged_has steps u x.name (inl refl)) in
      let less : live_count d ≡ live_count k.nodes - 1 = ap live_count is ∙ live_count-taken k.nodes x.name live in
      let sizes : size (plugged steps u) ≡ size (plugged steps t) + 1 = plugged_size steps t u 1 (omega arith) in
      record {
        framed = now.framed;
        stands = now.stands;
        once = joint steps t (record { once = part.once.4; around = part.around; apart = λ a h z. part.apart a (inr (inr h)) z });
        all = λ b h. elim (cases_name b x.name) [
          | inl same ↦ let dead : value_of d b ≡ None = ap (value_of d) same ∙ ap (λ c. value_of c x.name) is ∙ value_of-taken_same k.nodes x.name in absurd (let no : is_some {T = TreeNode X} None ≡ is_some (value_of d b) = ap is_some (sym dead) in cc)
          | inr ne ↦ elim (plugged_either steps u b (s.all b (sym (keeps.live b) ∙ ap is_some (sym (others b ne)) ∙ h))) [
            | inl z ↦ elim z [ inl e ↦ absurd (ne e) | inr q ↦ elim q [ inl w ↦ absurd w | inr w ↦ plugged_has steps t b w ] ]
            | inr z ↦ around_has steps t b z
          ]
        ];
        count = omega (arith, s.count, less, keeps.count, sizes);
        sound = sound;
      }

  -- another value in the name's node
  abbrev pub revalued : X → TreeNode X → TreeNode X
  revalued w n = node_with w n.parent n.first n.last n.prev n.next

  pub revalued_stands : (l : Links X) (steps : List (Step X)) (x : Row Name X) (below rest : Forest X) (w : X) (n : TreeNode X) → StandsFor l (plugged steps (grove x below rest)) → value_of l.nodes x.name ≡ Some n
      → StandsFor (links (with_value l.nodes x.name (revalued w n)) l.first l.last) (plugged steps (grove (row x.name w) below rest))
  revalued_stands l steps x below rest w n s is =
      let t = grove x below rest in
      let u = grove (row x.name w) below rest in
      let d = with_value l.nodes x.name (revalued w n) in
      let m = links d l.first l.last in
      let part = parted steps t s.once in
      let o = opened l steps t (open_of l (plugged steps t) s) in
      let others = λ (b : Name) (ne : b ≢ x.name). value_of-with_value_other l.nodes x.name b (revalued w n) ne in
      let same_node : Some (revalued w n) ≡ Some (linked w (parent_in steps) (first_in below) (last_in below) (prev_in steps) (first_in rest)) = ap (λ z. pool_map w z) (sym is ∙ o.stands.0) in
      let after : Open m steps u = record {
        framed = Framed-same l m steps (first_in t) (last_in t) (λ b h. others b (λ e. part.apart x.name (inl refl) (subst (λ z. IsAround z steps) e h))) refl refl o.framed;
        stands = (
          value_of-with_value_same l.nodes x.name (revalued w n) ∙ same_node,
          Stands-same (value_of l.nodes) (value_of d) (Some x.name) None below (λ b h. others b (λ e. part.once.0 (subst (λ z. Has z below) e h))) o.stands.1,
          Stands-same (value_of l.nodes) (value_of d) (parent_in steps) (Some x.name) rest (λ b h. others b (λ e. part.once.1 (subst (λ z. Has z rest) e h))) o.stands.2,
        );
      } in
      let now = shut m steps u after in
      let keeps = keeps_value l.nodes x.name n (revalued w n) is in
      record {
        framed = now.framed;
        stands = now.stands;
        once = joint steps u (record { once = part.once; around = part.around; apart = part.apart });
        all = λ b h. elim (plugged_either steps t b (s.all b (sym (keeps.live b) ∙ h))) [ inl z ↦ plugged_has steps u b z | inr z ↦ around_has steps u b z ];
        count = let e = plugged_size steps t u 0 (omega arith) in omega (arith, s.count, keeps.count, e);
        sound = keeps.sound s.sound;
      }
    where
      pool_map : X → Option (TreeNode X) → Option (TreeNode X)
      pool_map w None = None
      pool_map w (Some n) = Some (revalued w n)

  -- no nodes
  pub empty_stands : (d : Contents (TreeNode X)) → d.entries ≡ map.empty → IsSound d → StandsFor (links d None None) bare
  empty_stands d none sound = record {
    framed = (refl, refl);
    stands = tt;
    once = tt;
    all = λ a h. absurd (dead a h);
    count = sym (ap map.len none ∙ map.len-empty name_cmp (TreeNode X));
    sound = sound;
  }
    where
      dead : (a : Name) → IsLive d a → ⊥
      dead a h = let no : value_of d a ≡ None = ap (λ m. map.get m a) none ∙ map.get-empty name_cmp a in cc

  -- the same nodes in a pool that has grown
  pub grown_stands : (l : Links X) (t : Forest X) → StandsFor l t → (d : Contents (TreeNode X)) → d.entries ≡ l.nodes.entries → IsSound d → StandsFor (links d l.first l.last) t
  grown_stands l t s d same sound = record {
    framed = s.framed;
    stands = Stands-same (value_of l.nodes) (value_of d) None None t (λ a h. ap (λ m. map.get m a) same) s.stands;
    once = s.once;
    all = λ a h. s.all a (ap (λ m. is_some (map.get m a)) (sym same) ∙ h);
    count = s.count ∙ ap map.len (sym same);
    sound = sound;
  }
