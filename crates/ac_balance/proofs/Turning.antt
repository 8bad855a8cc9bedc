-- The turns by names do what the turns of trees say.
use Rattle.std.proofs.Common.{◌≡◌, ℕ, ◌+◌, ◌-◌, ◌^◌, ◌<◌, max, Bool, true, false, nat_le, nat_lt, if◌then◌else◌, Option, Some, None, refl, sym, ap, ◌∙◌, subst, inl, inr, arith}
use Rattle.std.specs.Option.{option_map}
use Rattle.ac_base.specs.declared.name.Name.{Name}
use Rattle.ac_pool.specs.Contents.{Contents, value_of, IsSound}
use Rattle.ac_balance.specs.declared.links.Node.{Node}
use Rattle.ac_base.specs.Rows.{Row}
use Rattle.ac_balance.specs.Trees.{Tree, leaf, node, height, twice_left, from_left, twice_right, from_right, balanced}
use Rattle.ac_balance.specs.TreeFields.{linked, root, Stands, left_of, right_of, high, above, with_parent, with_sides, adopted, fastened_at, fastened, with_links, turned_left, turned_right, Made, Measured, measured, laid, twice_left_in, from_left_in, twice_right_in, from_right_in, balanced_in}
use Rattle.ac_balance.specs.Climbing.{Has, Once, Hangs, Keeps}
use Rattle.ac_balance.proofs.Keeping.{keeps_then, keeps_parent, keeps_sides}
use Rattle.ac_balance.proofs.Standing.{Nodes, some_name, sides_put, Stands-same, Stands-moved, with_links-is, with_parent-writes, no_parent, with_parent-already, root_has, with_sides-writes, IsAt, IsAt-same, Hangs-same, high-is, Becomes, fastened_at-becomes, fastened-becomes, left-is, right-is}

module _ {X : Type 0} where
  -- the tree has become t, and m names its topmost row
  pub record Gives (c : Contents (Node X)) (m : Made X) (t : Tree X) : Type 0 where
    pub becomes : Becomes c m.nodes t
    pub top : root t ≡ Some m.top

  -- and how high it is
  pub record Balances (c : Contents (Node X)) (m : Measured X) (t : Tree X) : Type 0 where
    pub becomes : Becomes c m.nodes t
    pub top : root t ≡ Some m.top
    pub high : m.high ≡ height t

  balances : (c : Contents (Node X)) (m : Made X) (t : Tree X) → Gives c m t → Balances c (measured m) t
  balances c m t g = record { becomes = g.becomes; top = g.top; high = ap (high m.nodes) (sym g.top) ∙ high-is m.nodes t g.becomes.hangs }

  parts_of : (f : Nodes X) (l : Tree X) (x : Row Name X) (r : Tree X) → Hangs f (node l x r) → IsAt f x × Hangs f l × Hangs f r
  parts_of f l x r h = (record { node = _; found = h.stands.0; value = refl }, record { parent = Some x.name; stands = h.stands.1 }, record { parent = Some x.name; stands = h.stands.2 })

  -- one tree is made, and then a tree above it
  becomes-left : (c : Contents (Node X)) (a : Tree X) (x : Row Name X) (l r : Tree X) (y : Row Name X) → let t = node a x l in let all = node t y r in Once all → max (height t) (height r) + 1 < 2 ^ 32
      → IsAt (value_of c) x → Hangs (value_of c) a → Hangs (value_of c) l → IsAt (value_of c) y → Hangs (value_of c) r
      → Becomes c (fastened (fastened c x.name (root a) (root l)) y.name (Some x.name) (root r)) all
  becomes-left c a x l r y once few at ha hl aty hr =
      let t = node a x l in
      let one = fastened-becomes c a x l once.3 (omega arith) at ha hl in
      let d = fastened c x.name (root a) (root l) in
      let two = fastened-becomes d t y r once few (IsAt-same (value_of c) (value_of d) y (one.aside y.name once.0) aty) one.hangs (Hangs-same (value_of c) (value_of d) r (λ k q. one.aside k (λ p. once.2 k p q)) hr) in
      record { hangs = two.hangs; aside = λ k n. two.aside k n ∙ one.aside k (λ p. n (inr (inl p))); keeps = keeps_then c d _ one.keeps two.keeps }

  becomes-right : (c : Contents (Node X)) (l : Tree X) (y : Row Name X) (a : Tree X) (x : Row Name X) (r : Tree X) → let t = node a x r in let all = node l y t in Once all → max (height l) (height t) + 1 < 2 ^ 32
      → IsAt (value_of c) x → Hangs (value_of c) a → Hangs (value_of c) r → IsAt (value_of c) y → Hangs (value_of c) l
      → Becomes c (fastened (fastened c x.name (root a) (root r)) y.name (root l) (Some x.name)) all
  becomes-right c l y a x r once few at ha hr aty hl =
      let t = node a x r in
      let one = fastened-becomes c a x r once.4 (omega arith) at ha hr in
      let d = fastened c x.name (root a) (root r) in
      let two = fastened-becomes d l y t once few (IsAt-same (value_of c) (value_of d) y (one.aside y.name once.1) aty) (Hangs-same (value_of c) (value_of d) l (λ k q. one.aside k (λ p. once.2 k q p)) hl) one.hangs in
      record { hangs = two.hangs; aside = λ k n. two.aside k n ∙ one.aside k (λ p. n (inr (inr p))); keeps = keeps_then c d _ one.keeps two.keeps }

  -- two trees are made, and then one above both
  becomes-both : (c : Contents (Node X)) (a : Tree X) (x : Row Name X) (b : Tree X) (z : Row Name X) (s : Tree X) (y : Row Name X) (r : Tree X)
      → let t = node a x b in let u = node s y r in let all = node t z u in Once all → max (height t) (height u) + 1 < 2 ^ 32
      → IsAt (value_of c) x → Hangs (value_of c) a → Hangs (value_of c) b → IsAt (value_of c) y → Hangs (value_of c) s → Hangs (value_of c) r → IsAt (value_of c) z
      → Becomes c (fastened (fastened (fastened c x.name (root a) (root b)) y.name (root s) (root r)) z.name (Some x.name) (Some y.name)) all
  becomes-both c a x b z s y r once few atx ha hb aty hs hr atz =
      let t = node a x b in let u = node s y r in
      let one = fastened-becomes c a x b once.3 (omega arith) atx ha hb in
      let d = fastened c x.name (root a) (root b) in
      let keep : (k : Name) → Has k u → value_of d k ≡ value_of c k = λ k q. one.aside k (λ p. once.2 k p q) in
      let two = fastened-becomes d s y r once.4 (omega arith) (IsAt-same (value_of c) (value_of d) y (keep y.name (inl refl)) aty)
      (Hangs-same (value_of c) (value_of d) s (λ k q. keep k (inr (inl q))) hs) (Hangs-same (value_of c) (value_of d) r (λ k q. keep k (inr (inr q))) hr) in
      let e = fastened d y.name (root s) (root r) in
      let three = fastened-becomes e t z u once few
      (IsAt-same (value_of c) (value_of e) z (two.aside z.name once.1 ∙ one.aside z.name once.0) atz)
      (Hangs-same (value_of d) (value_of e) t (λ k p. two.aside k (λ q. once.2 k p q)) one.hangs) two.hangs in
      record { hangs = three.hangs; aside = λ k n. three.aside k n ∙ two.aside k (λ q. n (inr (inr q))) ∙ one.aside k (λ p. n (inr (inl p))); keeps = keeps_then c d _ one.keeps (keeps_then d e _ two.keeps three.keeps) }

  twice_left-gives : (c : Contents (Node X)) (sound : IsSound c) (a : Tree X) (y : Row Name X) (b : Tree X) (x : Row Name X) (r : Tree X) → let t = twice_left a y b x r in Once t → height t < 2 ^ 32
      → IsAt (value_of c) y → Hangs (value_of c) a → Hangs (value_of c) b → IsAt (value_of c) x → Hangs (value_of c) r → Gives c (twice_left_in c (root a) y.name (root b) x.name (root r)) t
  unfolding twice_left_in
  twice_left-gives c sound a y leaf x r once few aty ha hb atx hr = record { becomes = becomes-left c a y leaf r x once few aty ha hb atx hr; top = refl }
  twice_left-gives c sound a y (node p z q) x r once few aty ha hb atx hr =
      let parts = parts_of (value_of c) p z q hb in let el = left-is c sound p z q hb in let er = right-is c sound p z q hb in
      let it = becomes-both c a y p z q x r once few aty ha parts.1 atx parts.2 hr parts.0 in
      record {
        becomes = subst (λ d. Becomes c d (node (node a y p) z (node q x r)))
            (λ i. fastened (fastened (fastened c y.name (root a) (sym el i)) x.name (sym er i) (root r)) z.name (Some y.name) (Some x.name)) it;
        top = refl;
      }

  chosen : {M : Type 0} (P : M → Tree X → Type 0) (k : Bool) (m n : M) (t u : Tree X) → (Once t → height t < 2 ^ 32 → P m t) → (Once u → height u < 2 ^ 32 → P n u)
      → Once (if k then t else u) → height (if k then t else u) < 2 ^ 32 → P (if k then m else n) (if k then t else u)
  chosen P true m n t u f g once few = f once few
  chosen P false m n t u f g once few = g once few

  -- the tree stands under the node p, and d is c elsewhere
  record Hung (c d : Contents (Node X)) (p : Name) (t : Tree X) : Type 0 where
    stands : Stands (value_of d) (Some p) t
    aside : (a : Name) → (Has a t → ⊥) → value_of d a ≡ value_of c a
    keeps : Keeps c d

  -- of two sides of the node x, p and q are those that it isn't the parent of yet
  pub record Adopting (c : Contents (Node X)) (x : Name) (l r : Tree X) (p q : Option Name) : Type 0 where
    pub left : with_parent c p (Some x) ≡ with_parent c (root l) (Some x)
    pub right : (o : Option Name) → ((a : Name) → o ≡ Some a → Has a r → ⊥) → with_parent (with_parent c o (Some x)) q (Some x) ≡ with_parent (with_parent c o (Some x)) (root r) (Some x)

  pub both_new : (c : Contents (Node X)) (x : Name) (l r : Tree X) → Adopting c x l r (root l) (root r)
  both_new c x l r = record { left = refl; right = λ o n. refl }

  pub left_new : (c : Contents (Node X)) (x : Name) (l r : Tree X) → Stands (value_of c) (Some x) r → Adopting c x l r (root l) None
  left_new c x l r h = record {
    left = refl;
    right = λ o n. let d = with_parent c o (Some x) in
        no_parent d (Some x) ∙ sym (with_parent-already d x r (Stands-same (value_of c) (value_of d) (Some x) r (λ a k. (with_parent-writes c o (Some x)).there a (λ e. n a e k)) h));
  }

  pub right_new : (c : Contents (Node X)) (x : Name) (l r : Tree X) → Stands (value_of c) (Some x) l → Adopting c x l r None (root r)
  right_new c x l r h = record { left = no_parent c (Some x) ∙ sym (with_parent-already c x l h); right = λ o n. refl }

  hung-is : (c : Contents (Node X)) (l : Tree X) (x : Row Name X) (r : Tree X) (p q : Option Name) (up : Name) (h : ℕ) → Once (node l x r) → h ≡ max (height l) (height r) + 1 → adopted c x.name p q ≡ adopted c x.name (root l) (root r)
      → IsAt (value_of c) x → Hangs (value_of c) l → Hangs (value_of c) r → Hung c (with_links (adopted c x.name p q) x.name up (root l) (root r) h) up (node l x r)
  unfolding fastened_at
  hung-is c l x r p q up h once is new at hl hr =
      let t = node l x r in let d = fastened_at c x.name (root l) (root r) h in let e = with_parent d (Some x.name) (Some up) in
      let one = fastened_at-becomes c l x r h once is at hl hr in let two = with_parent-writes d (Some x.name) (Some up) in
      subst (λ z. Hung c (with_links z x.name up (root l) (root r) h) up t) (sym new)
      (subst (λ z. Hung c z up t) (with_links-is (adopted c x.name (root l) (root r)) x.name up (root l) (root r) h) (record {
        stands = Stands-moved (value_of d) (value_of e) one.hangs.parent (Some up) t once two.here (λ a k n. two.there a n) one.hangs.stands;
        aside = λ a n. two.there a (λ q. n (inl (sym (some_name x.name a q)))) ∙ one.aside a n;
        keeps = keeps_then c d e one.keeps (keeps_parent d (Some x.name) (Some up));
      }))

  turned_right-gives : (c : Contents (Node X)) (a : Tree X) (y : Row Name X) (b : Tree X) (x : Row Name X) (r : Tree X) (q : Option Name) → adopted c x.name (root b) q ≡ adopted c x.name (root b) (root r) → let all = node a y (node b x r) in Once all → height all < 2 ^ 32
      → Hangs (value_of c) (node a y b) → IsAt (value_of c) x → Hangs (value_of c) r → Balances c (turned_right c (root a) y.name (root b) x.name (root r) q) all
  unfolding turned_right
  turned_right-gives c a y b x r q new once few hy atx hr =
      let parts = parts_of (value_of c) a y b hy in let t = node b x r in
      let ea = high-is c a parts.1 in let eb = high-is c b parts.2 in let er = high-is c r hr in
      let low = above (high c (root b)) (high c (root r)) in let h = above (high c (root a)) low in
      let low_is : low ≡ max (height b) (height r) + 1 = omega (arith, eb, er, few) in
      let is : h ≡ max (height a) (max (height b) (height r) + 1) + 1 = omega (arith, low_is, ea, few) in
      let d = with_links (adopted c x.name (root b) q) x.name y.name (root b) (root r) low in let e = with_sides d y.name (root a) (Some x.name) h in
      let one = hung-is c b x r (root b) q y.name low once.4 low_is new atx parts.2 hr in let two = with_sides-writes d y.name (root a) (Some x.name) h in
      let other : (k : Name) → (k ≡ y.name → ⊥) → value_of e k ≡ value_of d k = λ k n. two.there k (λ q. n (sym (some_name y.name k q))) in
      let here : value_of d y.name ≡ value_of c y.name = one.aside y.name once.1 in
      record {
        becomes = record {
          hangs = record {
            parent = hy.parent;
            stands = (
              two.here y.name refl ∙ ap (option_map (sides_put (root a) (Some x.name) h)) (here ∙ hy.stands.0) ∙ (λ i. Some (linked y.value hy.parent (root a) (Some x.name) (is i))),
              Stands-same (value_of c) (value_of e) (Some y.name) a (λ k p. other k (λ q. once.0 (subst (λ m. Has m a) q p)) ∙ one.aside k (λ q. once.2 k p q)) hy.stands.1,
              Stands-same (value_of d) (value_of e) (Some y.name) t (λ k p. other k (λ q. once.1 (subst (λ m. Has m t) q p))) one.stands,
            );
          };
          aside = λ k n. other k (λ q. n (inl q)) ∙ one.aside k (λ p. n (inr (inr p)));
          keeps = keeps_then c d e one.keeps (keeps_sides d y.name (root a) (Some x.name) h);
        };
        top = refl;
        high = is;
      }

  turned_left-gives : (c : Contents (Node X)) (l : Tree X) (x : Row Name X) (a : Tree X) (y : Row Name X) (b : Tree X) (p : Option Name) → adopted c x.name p (root a) ≡ adopted c x.name (root l) (root a) → let all = node (node l x a) y b in Once all → height all < 2 ^ 32
      → Hangs (value_of c) l → IsAt (value_of c) x → Hangs (value_of c) (node a y b) → Balances c (turned_left c (root l) x.name (root a) y.name (root b) p) all
  unfolding turned_left
  turned_left-gives c l x a y b p new once few hl atx hy =
      let parts = parts_of (value_of c) a y b hy in let t = node l x a in
      let el = high-is c l hl in let ea = high-is c a parts.1 in let eb = high-is c b parts.2 in
      let low = above (high c (root l)) (high c (root a)) in let h = above low (high c (root b)) in
      let low_is : low ≡ max (height l) (height a) + 1 = omega (arith, el, ea, few) in
      let is : h ≡ max (max (height l) (height a) + 1) (height b) + 1 = omega (arith, low_is, eb, few) in
      let d = with_links (adopted c x.name p (root a)) x.name y.name (root l) (root a) low in let e = with_sides d y.name (Some x.name) (root b) h in
      let one = hung-is c l x a p (root a) y.name low once.3 low_is new atx hl parts.1 in let two = with_sides-writes d y.name (Some x.name) (root b) h in
      let other : (k : Name) → (k ≡ y.name → ⊥) → value_of e k ≡ value_of d k = λ k n. two.there k (λ q. n (sym (some_name y.name k q))) in
      let here : value_of d y.name ≡ value_of c y.name = one.aside y.name once.0 in
      record {
        becomes = record {
          hangs = record {
            parent = hy.parent;
            stands = (
              two.here y.name refl ∙ ap (option_map (sides_put (Some x.name) (root b) h)) (here ∙ hy.stands.0) ∙ (λ i. Some (linked y.value hy.parent (Some x.name) (root b) (is i))),
              Stands-same (value_of d) (value_of e) (Some y.name) t (λ k p. other k (λ q. once.0 (subst (λ m. Has m t) q p))) one.stands,
              Stands-same (value_of c) (value_of e) (Some y.name) b (λ k p. other k (λ q. once.1 (subst (λ m. Has m b) q p)) ∙ one.aside k (λ q. once.2 k q p)) hy.stands.2,
            );
          };
          aside = λ k n. other k (λ q. n (inl q)) ∙ one.aside k (λ p. n (inr (inl p)));
          keeps = keeps_then c d e one.keeps (keeps_sides d y.name (Some x.name) (root b) h);
        };
        top = refl;
        high = is;
      }

  from_left-gives : (c : Contents (Node X)) (sound : IsSound c) (l : Tree X) (x : Row Name X) (r : Tree X) (p q : Option Name) → Adopting c x.name l r p q → Hangs (value_of c) l → IsAt (value_of c) x → Hangs (value_of c) r
      → Once (from_left l x r) → height (from_left l x r) < 2 ^ 32 → Balances c (from_left_in c (root l) x.name (root r) q) (from_left l x r)
  unfolding from_left_in
  from_left-gives c sound leaf x r p q new hl atx hr once few = balances c _ _ (record { becomes = fastened-becomes c leaf x r once few atx hl hr; top = refl })
  from_left-gives c sound (node a y b) x r p q new hl atx hr once few =
      let parts = parts_of (value_of c) a y b hl in let el = left-is c sound a y b hl in let er = right-is c sound a y b hl in
      let ha : high c (left_of c y.name) ≡ height a = ap (high c) el ∙ high-is c a parts.1 in
      let hb : high c (right_of c y.name) ≡ height b = ap (high c) er ∙ high-is c b parts.2 in
      let is : from_left_in c (Some y.name) x.name (root r) q
      ≡ (if nat_le (height b) (height a) then turned_right c (root a) y.name (root b) x.name (root r) q else measured (twice_left_in c (root a) y.name (root b) x.name (root r)))
      = λ i. if nat_le (hb i) (ha i) then turned_right c (el i) y.name (er i) x.name (root r) q else measured (twice_left_in c (el i) y.name (er i) x.name (root r)) in
      subst (λ m. Balances c m (from_left (node a y b) x r)) (sym is)
      (chosen (Balances c) (nat_le (height b) (height a)) _ _ (node a y (node b x r)) (twice_left a y b x r)
      (λ o f. turned_right-gives c a y b x r q (new.right (root b) (λ k e h. o.4.2 k (root_has b k e) h)) o f hl atx hr)
      (λ o f. balances c _ _ (twice_left-gives c sound a y b x r o f parts.0 parts.1 parts.2 atx hr)) once few)

  twice_right-gives : (c : Contents (Node X)) (sound : IsSound c) (l : Tree X) (x : Row Name X) (a : Tree X) (y : Row Name X) (b : Tree X) → let t = twice_right l x a y b in Once t → height t < 2 ^ 32
      → Hangs (value_of c) l → IsAt (value_of c) x → Hangs (value_of c) a → IsAt (value_of c) y → Hangs (value_of c) b → Gives c (twice_right_in c (root l) x.name (root a) y.name (root b)) t
  unfolding twice_right_in
  twice_right-gives c sound l x leaf y b once few hl atx ha aty hb = record { becomes = becomes-right c l x leaf y b once few aty ha hb atx hl; top = refl }
  twice_right-gives c sound l x (node p z q) y b once few hl atx ha aty hb =
      let parts = parts_of (value_of c) p z q ha in let el = left-is c sound p z q ha in let er = right-is c sound p z q ha in
      let it = becomes-both c l x p z q y b once few atx hl parts.1 aty parts.2 hb parts.0 in
      record {
        becomes = subst (λ d. Becomes c d (node (node l x p) z (node q y b)))
            (λ i. fastened (fastened (fastened c x.name (root l) (sym el i)) y.name (sym er i) (root b)) z.name (Some x.name) (Some y.name)) it;
        top = refl;
      }

  from_right-gives : (c : Contents (Node X)) (sound : IsSound c) (l : Tree X) (x : Row Name X) (r : Tree X) (p q : Option Name) → Adopting c x.name l r p q → Hangs (value_of c) l → IsAt (value_of c) x → Hangs (value_of c) r
      → Once (from_right l x r) → height (from_right l x r) < 2 ^ 32 → Balances c (from_right_in c (root l) x.name (root r) p) (from_right l x r)
  unfolding from_right_in
  from_right-gives c sound l x leaf p q new hl atx hr once few = balances c _ _ (record { becomes = fastened-becomes c l x leaf once few atx hl hr; top = refl })
  from_right-gives c sound l x (node a y b) p q new hl atx hr once few =
      let parts = parts_of (value_of c) a y b hr in let el = left-is c sound a y b hr in let er = right-is c sound a y b hr in
      let ha : high c (left_of c y.name) ≡ height a = ap (high c) el ∙ high-is c a parts.1 in
      let hb : high c (right_of c y.name) ≡ height b = ap (high c) er ∙ high-is c b parts.2 in
      let is : from_right_in c (root l) x.name (Some y.name) p
      ≡ (if nat_le (height a) (height b) then turned_left c (root l) x.name (root a) y.name (root b) p else measured (twice_right_in c (root l) x.name (root a) y.name (root b)))
      = λ i. if nat_le (ha i) (hb i) then turned_left c (root l) x.name (el i) y.name (er i) p else measured (twice_right_in c (root l) x.name (el i) y.name (er i)) in
      subst (λ m. Balances c m (from_right l x (node a y b))) (sym is)
      (chosen (Balances c) (nat_le (height a) (height b)) _ _ (node (node l x a) y b) (twice_right l x a y b)
      (λ o f. turned_left-gives c l x a y b p (ap (λ d. with_parent d (root a) (Some x.name)) new.left) o f hl atx hr)
      (λ o f. balances c _ _ (twice_right-gives c sound l x a y b o f hl atx parts.1 parts.0 parts.2)) once few)

  laid-gives : (c : Contents (Node X)) (l : Tree X) (x : Row Name X) (r : Tree X) (p q : Option Name) → Adopting c x.name l r p q → Hangs (value_of c) l → IsAt (value_of c) x → Hangs (value_of c) r
      → Once (node l x r) → height (node l x r) < 2 ^ 32 → Balances c (laid c (root l) x.name (root r) p q (above (height l) (height r))) (node l x r)
  unfolding fastened_at
  laid-gives c l x r p q new hl atx hr once few =
      let n = above (height l) (height r) in
      let h : n ≡ max (height l) (height r) + 1 = omega (arith, few) in
      let same : adopted c x.name p q ≡ adopted c x.name (root l) (root r) = ap (λ d. with_parent d q (Some x.name)) new.left ∙ new.right (root l) (λ k e h. once.2 k (root_has l k e) h) in
      record {
        becomes = subst (λ d. Becomes c (with_sides d x.name (root l) (root r) n) (node l x r)) (sym same) (fastened_at-becomes c l x r n once h atx hl hr);
        top = refl;
        high = h;
      }

  pub balanced-gives : (c : Contents (Node X)) (sound : IsSound c) (l : Tree X) (x : Row Name X) (r : Tree X) (p q : Option Name) → Adopting c x.name l r p q → Hangs (value_of c) l → IsAt (value_of c) x → Hangs (value_of c) r
      → Once (balanced l x r) → height (balanced l x r) < 2 ^ 32 → Balances c (balanced_in c (root l) x.name (root r) p q) (balanced l x r)
  unfolding balanced_in
  balanced-gives c sound l x r p q new hl atx hr once few =
      let el = high-is c l hl in let er = high-is c r hr in let m = root l in let o = root r in let a = x.name in
      subst (λ m. Balances c m (balanced l x r))
      (λ i. if nat_lt 1 (sym el i - sym er i) then from_left_in c m a o q else if nat_lt 1 (sym er i - sym el i) then from_right_in c m a o p else laid c m a o p q (above (sym el i) (sym er i)))
      (chosen (Balances c) (nat_lt 1 (height l - height r)) _ _ (from_left l x r) (if nat_lt 1 (height r - height l) then from_right l x r else node l x r)
      (λ k f. from_left-gives c sound l x r p q new hl atx hr k f)
      (λ k f. chosen (Balances c) (nat_lt 1 (height r - height l)) _ _ (from_right l x r) (node l x r)
      (λ k f. from_right-gives c sound l x r p q new hl atx hr k f)
      (λ k f. laid-gives c l x r p q new hl atx hr k f) k f) once few)
