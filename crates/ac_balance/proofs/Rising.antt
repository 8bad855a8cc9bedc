-- One step up from a place keeps what holds on the way.
use Rattle.std.proofs.Common.{◌≡◌, ℕ, ◌+◌, ◌-◌, ◌^◌, ◌<◌, max, Bool, true, false, nat_eq, List, [], ◌∷◌, length, Option, Some, None, is_some, IsSome, refl, sym, ap, ◌∙◌, subst, inl, inr, arith, if◌then◌else◌}
use Rattle.ac_base.specs.declared.name.Name.{Name}
use Rattle.ac_pool.specs.Contents.{Contents, value_of, IsLive, IsSound}
use Rattle.std.proofs.lemmas.Bool.{false_from_ne_true}
use Rattle.ac_balance.specs.declared.links.Node.{Node}
use Rattle.ac_balance.specs.declared.places.Place.{Place}
use Rattle.ac_base.specs.Rows.{Row}
use Rattle.ac_balance.specs.Trees.{Tree, leaf, node, in_order, height, Level, Balanced, balanced, Step, on_left, on_right, side_of, joined, settled, plugged, tall, Fits}
use Rattle.ac_balance.specs.TreeFields.{root, Stands, left_link, parent_link, height_of, high, beside_link, balanced_in, parent_of, is_left_in, settled_with, settled_in, risen}
use Rattle.ac_pool.specs.Link.{link_of, name_in}
use Rattle.ac_balance.specs.Climbing.{Has, Once, Hangs, name_of, above_in, Framed, IsSide, IsRooted, Open, Climbing, Climbed, Relinks}
use Rattle.ac_pool.specs.NamedRows.{HasName}
use Rattle.ac_pool.proofs.SlotNames.{linked_name}
use Rattle.ac_balance.proofs.Keeping.{keeps_itself, keeps_then, sound_still}
use Rattle.ac_balance.proofs.Standing.{Nodes, some_name, Stands-same, high-is, linked_root}
use Rattle.ac_balance.proofs.Names.{IsAround, once_order, plugged_once, height_le, plugged_le, named, part_has}
use Rattle.ac_balance.proofs.Turning.{Balances, left_new, right_new, balanced-gives}
use Rattle.ac_balance.proofs.Climbs.{settled-order, settled-step, plugged-balanced, plugged-order, around, plugged-height}

nat_eq_true : (a b : ℕ) → nat_eq a b ≡ true → a ≡ b
nat_eq_true a b h = grind arith

nat_eq_itself : (a : ℕ) → nat_eq a a ≡ true
nat_eq_itself a = grind arith

level_same : (h k : ℕ) → k ≡ h → Level h k
level_same h k e = record { up = omega arith; down = omega arith }

module _ {X : Type 0} where
  pub Framed-same : (f g : Nodes X) (steps : List (Step X)) (o : Option Name) (h : ℕ) → ((a : Name) → IsAround a steps → g a ≡ f a) → Framed f steps o h → Framed g steps o h
  Framed-same f g [] o h same k = tt
  Framed-same f g (on_left x r ∷ steps) o h same k =
      (same x.name (inl refl) ∙ k.0, Stands-same f g (Some x.name) r (λ a m. same a (inr (inl m))) k.1, Framed-same f g steps (Some x.name) (max h (height r) + 1) (λ a m. same a (inr (inr m))) k.2)
  Framed-same f g (on_right l x ∷ steps) o h same k =
      (same x.name (inl refl) ∙ k.0, Stands-same f g (Some x.name) l (λ a m. same a (inr (inl m))) k.1, Framed-same f g steps (Some x.name) (max h (height l) + 1) (λ a m. same a (inr (inr m))) k.2)

  -- the parent is balanced over the part
  pub settled-gives : (c : Contents (Node X)) (sound : IsSound c) (s : Step X) (steps : List (Step X)) (t : Tree X) (o : Option Name) (h : ℕ) (b : Bool) → Framed (value_of c) (s ∷ steps) o h → IsSide b (s ∷ steps)
      → Hangs (value_of c) t → Once (settled s t) → height (settled s t) < 2 ^ 32 → Balances c (settled_in c (name_of s) b (root t)) (settled s t)
  unfolding settled_in settled_with
  settled-gives c sound (on_left x r) steps t o h b f side hangs once few =
      let er : name_in c (beside_link b (value_of c x.name)) ≡ root r = (λ i. name_in c (beside_link (side i) (f.0 i))) ∙ linked_root c sound (Some x.name) r f.1 in
      subst (λ m. Balances c m (balanced t x r)) (λ i. if sym side i then balanced_in c (root t) x.name (sym er i) (root t) None else balanced_in c (sym er i) x.name (root t) None (root t))
      (balanced-gives c sound t x r (root t) None (left_new c x.name t r f.1) hangs (record { node = _; found = f.0; value = refl }) (record { parent = Some x.name; stands = f.1 }) once few)
  settled-gives c sound (on_right l x) steps t o h b f side hangs once few =
      let el : name_in c (beside_link b (value_of c x.name)) ≡ root l = (λ i. name_in c (beside_link (side i) (f.0 i))) ∙ linked_root c sound (Some x.name) l f.1 in
      subst (λ m. Balances c m (balanced l x t)) (λ i. if sym side i then balanced_in c (root t) x.name (sym el i) (root t) None else balanced_in c (sym el i) x.name (root t) None (root t))
      (balanced-gives c sound l x t None (root t) (right_new c x.name l t f.1) (record { parent = Some x.name; stands = f.1 }) (record { node = _; found = f.0; value = refl }) hangs once few)

  -- how far the stored heights are from their bound
  abbrev pub left_to : Contents (Node X) → Option Name → ℕ
  left_to c None = 0
  left_to c (Some a) = 2 ^ 32 - height_of (value_of c a)

  settled-plugged : (s : Step X) (steps : List (Step X)) (t : Tree X) → in_order (plugged steps (settled s t)) ≡ in_order (plugged steps (joined s t))
  settled-plugged s steps t = plugged-order steps (settled s t) ∙ ap (around steps) (settled-order s t) ∙ sym (plugged-order steps (joined s t))

  -- the names above the place are live
  pub above-live : (f : Nodes X) (steps : List (Step X)) (o : Option Name) (h : ℕ) → Framed f steps o h → (a : Name) → above_in steps ≡ Some a → IsSome (f a)
  above-live f [] o h k a e = cc
  above-live f (on_left x r ∷ steps) o h k a e = subst (λ n. IsSome (f n)) (some_name x.name a e) (ap is_some k.0)
  above-live f (on_right l x ∷ steps) o h k a e = subst (λ n. IsSome (f n)) (some_name x.name a e) (ap is_some k.0)

  pub parent-is : (c : Contents (Node X)) (sound : IsSound c) (s : Step X) (steps : List (Step X)) (o : Option Name) (h : ℕ) → Framed (value_of c) (s ∷ steps) o h → parent_of c (name_of s) ≡ above_in steps
  parent-is c sound (on_left x r) steps o h k = ap (λ n. name_in c (parent_link n)) k.0 ∙ linked_name c sound (above_in steps) (above-live (value_of c) steps (Some x.name) _ k.2)
  parent-is c sound (on_right l x) steps o h k = ap (λ n. name_in c (parent_link n)) k.0 ∙ linked_name c sound (above_in steps) (above-live (value_of c) steps (Some x.name) _ k.2)

  height-is : (f : Nodes X) (s : Step X) (steps : List (Step X)) (o : Option Name) (h : ℕ) → Framed f (s ∷ steps) o h → height_of (f (name_of s)) ≡ max h (height (side_of s)) + 1
  height-is f (on_left x r) steps o h k = ap height_of k.0
  height-is f (on_right l x) steps o h k = ap height_of k.0

  framed-rest : (f : Nodes X) (s : Step X) (steps : List (Step X)) (o : Option Name) (h : ℕ) → Framed f (s ∷ steps) o h → Framed f steps (Some (name_of s)) (max h (height (side_of s)) + 1)
  framed-rest f (on_left x r) steps o h k = k.2
  framed-rest f (on_right l x) steps o h k = k.2

  -- a link to a tree that hasn't the name isn't the name's
  other_link : (c : Contents (Node X)) (sound : IsSound c) (p : Option Name) (t : Tree X) (n : Name) → Stands (value_of c) p t → IsLive c n → (Has n t → ⊥) → nat_eq (link_of (root t)) n.slot ≡ false
  other_link c sound p leaf n h live ne = let within = sound.within n live in let few = sound.few in grind (arith, within, few)
  other_link c sound p (node l x r) n h live ne = false_from_ne_true _ (λ e. ne (inl (sym (sound.slots x.name n (ap is_some h.0) live (nat_eq_true _ _ e)))))

  pub side-is : (c : Contents (Node X)) (sound : IsSound c) (steps : List (Step X)) (n : Name) (h : ℕ) → IsLive c n → (IsAround n steps → ⊥) → Framed (value_of c) steps (Some n) h → IsSide (is_left_in c (above_in steps) n) steps
  side-is c sound [] n h live ne k = tt
  side-is c sound (on_left x r ∷ steps) n h live ne k = ap (λ o. nat_eq (left_link o) n.slot) k.0 ∙ nat_eq_itself n.slot
  side-is c sound (on_right l x ∷ steps) n h live ne k = ap (λ o. nat_eq (left_link o) n.slot) k.0 ∙ other_link c sound (Some x.name) l n k.1 live (λ m. ne (inr (inl m)))

  pub falls : (c d : Contents (Node X)) (x : Name) (steps : List (Step X)) (k : ℕ) → height_of (value_of c x) ≡ k → k < 2 ^ 32 → Framed (value_of d) steps (Some x) k → left_to d (above_in steps) < left_to c (Some x)
  falls c d x [] k e few f = omega (arith, e, few)
  falls c d x (s ∷ steps) k e few f = let up = height-is (value_of d) s steps (Some x) k f in omega (arith, e, few, up)

  named_there : (s : Step X) (t : Tree X) → Has (name_of s) (joined s t)
  named_there (on_left x r) t = inl refl
  named_there (on_right l x) t = inl refl

  joined_high : (s : Step X) (t : Tree X) → height (joined s t) ≡ max (height t) (height (side_of s)) + 1
  joined_high (on_left x r) t = refl
  joined_high (on_right l x) t = omega arith

  rooted-up : (base : Option Name) (s : Step X) (steps : List (Step X)) → IsRooted base (s ∷ steps) → IsRooted base steps
  rooted-up base s [] h = tt
  rooted-up base s (r ∷ steps) h = h

  -- the part is now as high as it was measured
  pub record Raised (c : Contents (Node X)) (x : Name) (d : Contents (Node X)) (q : Place) (now : ℕ) (base : Option Name) (rows : List (Row Name X)) (high_before : ℕ) : Type 0 where
    pub climbing : Climbing d q base rows
    pub was : climbing.was ≡ height_of (value_of c x)
    pub measured : now ≡ high d q.top
    pub less : left_to d q.parent < left_to c (Some x)
    pub relinks : Relinks rows c d
    pub whole : tall climbing.steps climbing.was ≡ high_before

  step-live : (f : Nodes X) (s : Step X) (steps : List (Step X)) (o : Option Name) (h : ℕ) → Framed f (s ∷ steps) o h → IsSome (f (name_of s))
  step-live f (on_left x r) steps o h k = ap is_some k.0
  step-live f (on_right l x) steps o h k = ap is_some k.0

  raised : (c : Contents (Node X)) (p : Place) (base : Option Name) (rows : List (Row Name X)) (s : Step X) (steps : List (Step X)) (t : Tree X) (h : ℕ) → Open c p base rows (s ∷ steps) t h → Fits (s ∷ steps) h → Balanced t → Level h (height t)
      → Raised c (name_of s) (settled_in c (name_of s) p.is_left (root t)).nodes (risen c (name_of s) p.is_left (root t)) (settled_in c (name_of s) p.is_left (root t)).high base rows (tall (s ∷ steps) h)
  raised c p base rows s steps t h o fits bal near =
      let n = name_of s in let k = max h (height (side_of s)) + 1 in let u = settled s t in
      let m = settled_in c n p.is_left (root t) in
      let ordered : in_order (plugged steps u) ≡ rows = settled-plugged s steps t ∙ o.ordered in
      let once : Once (plugged steps u) = once_order (plugged (s ∷ steps) t) (plugged steps u) (sym (settled-plugged s steps t)) o.once in
      let apart = plugged_once steps u once in
      let low = height_le u in let lower = plugged_le steps u in let len = ap length ordered in let few = o.few in
      let up = settled-step s t h fits.0 fits.1 bal near in
      let gives = settled-gives c o.sound s steps t o.link h p.is_left o.framed o.side o.hangs apart.0 (omega (arith, low, lower, len, few)) in
      let framed : Framed (value_of m.nodes) steps (Some n) k = Framed-same (value_of c) (value_of m.nodes) steps (Some n) k (λ a z. gives.becomes.aside a (λ w. apart.1 a w z)) (framed-rest (value_of c) s steps o.link h o.framed) in
      let parent = parent-is c o.sound s steps o.link h o.framed in
      let was = height-is (value_of c) s steps o.link h o.framed in
      let high_now = joined_high s t in let low2 = height_le (joined s t) in let lower2 = plugged_le steps (joined s t) in let len2 = ap length o.ordered in let nu = near.up in
      let not_around : IsAround n steps → ⊥ = λ z. (plugged_once steps (joined s t) o.once).1 n (named_there s t) z in
      let small : k < 2 ^ 32 = omega (arith, high_now, low2, lower2, len2, few, nu) in
      record {
        climbing = record {
          steps = steps;
          part = u;
          was = k;
          stands = record {
            link = Some n;
            parent = parent;
            rooted = rooted-up base s steps o.rooted;
            side = subst (λ z. IsSide (is_left_in c z n) steps) (sym parent) (side-is c o.sound steps n k (step-live (value_of c) s steps o.link h o.framed) not_around (framed-rest (value_of c) s steps o.link h o.framed));
            top = sym gives.top;
            framed = framed;
            hangs = gives.becomes.hangs;
            ordered = ordered;
            once = once;
            few = few;
            sound = sound_still c m.nodes gives.becomes.keeps o.sound;
          };
          fits = fits.2;
          balanced = up.0;
          near = up.1;
        };
        was = sym was;
        measured = gives.high ∙ sym (high-is m.nodes u gives.becomes.hangs) ∙ ap (high m.nodes) gives.top;
        less = subst (λ z. left_to m.nodes z < left_to c (Some n)) (sym parent) (falls c m.nodes n steps k was small framed);
        relinks = record { aside = λ a z. gives.becomes.aside a (λ w. z (subst (HasName a) ordered (named a (plugged steps u) (part_has steps u a w)))); keeps = gives.becomes.keeps };
        whole = refl;
      }

  raise : (c : Contents (Node X)) (p : Place) (base : Option Name) (rows : List (Row Name X)) (x : Name) (steps : List (Step X)) (t : Tree X) (h : ℕ) → p.parent ≡ Some x → Open c p base rows steps t h → Fits steps h → Balanced t → Level h (height t)
      → Raised c x (settled_in c x p.is_left p.top).nodes (risen c x p.is_left p.top) (settled_in c x p.is_left p.top).high base rows (tall steps h)
  raise c p base rows x [] t h e o fits bal near = let bad = sym e ∙ o.parent in cc
  raise c p base rows x (s ∷ steps) t h e o fits bal near =
      let both : Some (name_of s) ≡ Some x = sym o.parent ∙ e in let same : name_of s ≡ x = cc in let high = tall (s ∷ steps) h in
      subst (λ z. Raised c z (settled_in c z p.is_left p.top).nodes (risen c z p.is_left p.top) (settled_in c z p.is_left p.top).high base rows high) same
      (subst (λ z. Raised c (name_of s) (settled_in c (name_of s) p.is_left z).nodes (risen c (name_of s) p.is_left z) (settled_in c (name_of s) p.is_left z).high base rows high) (sym o.top) (raised c p base rows s steps t h o fits bal near))

  pub rises : (c : Contents (Node X)) (p : Place) (base : Option Name) (rows : List (Row Name X)) (x : Name) → p.parent ≡ Some x → (k : Climbing c p base rows) → Raised c x (settled_in c x p.is_left p.top).nodes (risen c x p.is_left p.top) (settled_in c x p.is_left p.top).high base rows (tall k.steps k.was)
  rises c p base rows x e k = raise c p base rows x k.steps k.part k.was e k.stands k.fits k.balanced k.near

  -- the height is what it was: nothing above changes
  pub stops : (c : Contents (Node X)) (p : Place) (base : Option Name) (rows : List (Row Name X)) (k : Climbing c p base rows) → high c p.top ≡ k.was → Climbed c p base rows (tall k.steps k.was)
  stops c p base rows k e =
      let is : k.was ≡ height k.part = sym e ∙ ap (high c) k.stands.top ∙ high-is c k.part k.stands.hangs in
      record {
        steps = k.steps;
        part = k.part;
        stands = subst (λ n. Open c p base rows k.steps k.part n) is k.stands;
        balanced = plugged-balanced k.steps k.part (subst (λ n. Fits k.steps n) is k.fits) k.balanced;
        near = level_same (tall k.steps k.was) (height (plugged k.steps k.part)) (plugged-height k.steps k.part ∙ ap (tall k.steps) (sym is));
      }

  -- there is no node above
  at_root : (c : Contents (Node X)) (p : Place) (base : Option Name) (rows : List (Row Name X)) (steps : List (Step X)) (t : Tree X) (h : ℕ) → p.parent ≡ None → Open c p base rows steps t h → Balanced t → Level h (height t) → Climbed c p base rows (tall steps h)
  at_root c p base rows [] t h e o bal near = record {
    steps = [];
    part = t;
    stands = record { link = None; parent = o.parent; rooted = tt; side = tt; top = o.top; framed = tt; hangs = o.hangs; ordered = o.ordered; once = o.once; few = o.few; sound = o.sound };
    balanced = bal;
    near = near;
  }
  at_root c p base rows (s ∷ steps) t h e o bal near = let bad = sym e ∙ o.parent in cc

  pub ends : (c : Contents (Node X)) (p : Place) (base : Option Name) (rows : List (Row Name X)) → p.parent ≡ None → (k : Climbing c p base rows) → Climbed c p base rows (tall k.steps k.was)
  ends c p base rows e k = at_root c p base rows k.steps k.part k.was e k.stands k.balanced k.near

  pub relinks_itself : (rows : List (Row Name X)) (c : Contents (Node X)) → Relinks rows c c
  relinks_itself rows c = record { aside = λ a n. refl; keeps = keeps_itself c }

  pub relinks_then : (rows : List (Row Name X)) (c d e : Contents (Node X)) → Relinks rows c d → Relinks rows d e → Relinks rows c e
  relinks_then rows c d e p q = record { aside = λ a n. q.aside a n ∙ p.aside a n; keeps = keeps_then c d e p.keeps q.keeps }

  pub rises_to : (c d : Contents (Node X)) (p q : Place) (o : Option Name) (base : Option Name) (rows : List (Row Name X)) (x : Name) (now : ℕ) → p.parent ≡ Some x → o ≡ p.top → d ≡ (settled_in c x p.is_left o).nodes → q ≡ risen c x p.is_left o
      → now ≡ (settled_in c x p.is_left o).high → (k : Climbing c p base rows) → Raised c x d q now base rows (tall k.steps k.was)
  rises_to c d p q o base rows x now e at is it high k =
      let whole = tall k.steps k.was in let m = settled_in c x p.is_left o in let up = risen c x p.is_left o in
      let raised = subst (λ z. Raised c x (settled_in c x p.is_left z).nodes (risen c x p.is_left z) (settled_in c x p.is_left z).high base rows whole) (sym at) (rises c p base rows x e k) in
      subst (λ z. Raised c x z q now base rows whole) (sym is) (subst (λ z. Raised c x m.nodes z now base rows whole) (sym it) (subst (λ z. Raised c x m.nodes up z base rows whole) (sym high) raised))

  pub stops_at : (c d : Contents (Node X)) (p q : Place) (o : Option Name) (base : Option Name) (rows : List (Row Name X)) (x : Name) (was now : ℕ) → p.parent ≡ Some x → o ≡ p.top → d ≡ (settled_in c x p.is_left o).nodes → q ≡ risen c x p.is_left o
      → was ≡ high c (Some x) → now ≡ (settled_in c x p.is_left o).high → now ≡ was → (k : Climbing c p base rows) → Climbed d q base rows (tall k.steps k.was) × Relinks rows c d
  stops_at c d p q o base rows x was now e at is it old new same k =
      let up = rises_to c d p q o base rows x now e at is it new k in
      (subst (λ n. Climbed d q base rows n) up.whole (stops d q base rows up.climbing (sym up.measured ∙ same ∙ old ∙ sym up.was)), up.relinks)
