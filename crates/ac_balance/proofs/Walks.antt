-- Walks in a tree that stands: down to its ends, and up to the nearest node on the other side.
use Rattle.std.proofs.Common.{◌≡◌, ◌<◌, true, false, List, [], ◌∷◌, ◌++◌, Option, Some, None, is_some, refl, sym, ap, ◌∙◌, subst, arith}
use Rattle.ac_base.specs.declared.name.Name.{Name}
use Rattle.ac_base.specs.Rows.{Row}
use Rattle.ac_pool.specs.Contents.{Contents, value_of, IsSound}
use Rattle.ac_balance.specs.declared.links.Node.{Node}
use Rattle.ac_pool.specs.Link.{name_in}
use Rattle.ac_balance.specs.Trees.{Tree, leaf, node, in_order, height, Step, on_left, on_right, joined, before, after}
use Rattle.ac_balance.specs.TreeFields.{root, parent_link, parent_of, left_of, right_of, high, Stands, is_left_in}
use Rattle.ac_balance.specs.Climbing.{Hangs, name_of, above_in, IsSide}
use Rattle.ac_balance.specs.Seeking.{Stood}
use Rattle.ac_balance.specs.Walking.{first_name, last_name, Placed, AtNode}
use Rattle.ac_balance.proofs.Standing.{some_name, high-is, left-is, right-is, root_has}
use Rattle.ac_pool.proofs.SlotNames.{linked_name}
use Rattle.ac_balance.proofs.Names.{plugged_once, height_le, plugged_le}
use Rattle.ac_balance.proofs.Rising.{left_to, side-is, above-live, falls}
use Rattle.ac_balance.proofs.Opening.{cut, root-joined}
use Rattle.ac_balance.proofs.Ends.{last_name-append, last_name-cut}

module _ {X : Type 0} where
  -- a part on the way down to the first row
  pub record Leans (c : Contents (Node X)) (end : List (Row Name X) → Option Name) (t : Tree X) (a : Name) : Type 0 where
    pub part : Tree X
    pub stood : Stood c (Some a) part
    pub same : end (in_order part) ≡ end (in_order t)

  side_leans : (c : Contents (Node X)) (end : List (Row Name X) → Option Name) (t l : Tree X) (b : Name) (p : Name) → IsSound c → Some b ≡ root l → Stands (value_of c) (Some p) l → end (in_order l) ≡ end (in_order t) → Leans c end t b
  side_leans c end t l b p sound top stands same = record { part = l; stood = record { top = top; hangs = record { parent = Some p; stands = stands }; sound = sound }; same = same }

  name_of_first : (l : Tree X) (b : Name) → Some b ≡ root l → (rows : List (Row Name X)) → first_name (in_order l ++ rows) ≡ first_name (in_order l)
  name_of_first leaf b e rows = cc
  name_of_first (node l x r) b e rows = go (in_order l)
    where
      go : (zs : List (Row Name X)) → first_name ((zs ++ x ∷ in_order r) ++ rows) ≡ first_name (zs ++ x ∷ in_order r)
      go [] = refl
      go (z ∷ zs) = refl

  last_skips : (xs : List (Row Name X)) (y : Row Name X) (ys : List (Row Name X)) → last_name (xs ++ y ∷ ys) ≡ last_name (y ∷ ys)
  last_skips [] y ys = refl
  last_skips (x ∷ []) y ys = refl
  last_skips (x ∷ z ∷ xs) y ys = last_skips (z ∷ xs) y ys

  name_of_last : (rows : List (Row Name X)) (x : Row Name X) (r : Tree X) (b : Name) → Some b ≡ root r → last_name (rows ++ x ∷ in_order r) ≡ last_name (in_order r)
  name_of_last rows x leaf b e = cc
  name_of_last rows x (node l y r) b e = last_skips rows x (in_order l ++ y ∷ in_order r) ∙ go (in_order l)
    where
      go : (zs : List (Row Name X)) → last_name (x ∷ (zs ++ y ∷ in_order r)) ≡ last_name (zs ++ y ∷ in_order r)
      go [] = refl
      go (z ∷ zs) = refl

  pub leans_left : (c : Contents (Node X)) (t : Tree X) (a b : Name) → Leans c first_name t a → left_of c a ≡ Some b → Leans c first_name t b
  leans_left c t a b k e = go k.part k.stood k.same
    where
      go : (u : Tree X) → Stood c (Some a) u → first_name (in_order u) ≡ first_name (in_order t) → Leans c first_name t b
      go leaf h same = let bad = h.top in cc
      go (node l x r) h same =
          let n = some_name a x.name h.top in
          let top : Some b ≡ root l = sym e ∙ ap (left_of c) n ∙ left-is c h.sound l x r h.hangs in
          side_leans c first_name t l b x.name h.sound top h.hangs.stands.1 (sym (name_of_first l b top (x ∷ in_order r)) ∙ same)

  pub leans_right : (c : Contents (Node X)) (t : Tree X) (a b : Name) → Leans c last_name t a → right_of c a ≡ Some b → Leans c last_name t b
  leans_right c t a b k e = go k.part k.stood k.same
    where
      go : (u : Tree X) → Stood c (Some a) u → last_name (in_order u) ≡ last_name (in_order t) → Leans c last_name t b
      go leaf h same = let bad = h.top in cc
      go (node l x r) h same =
          let n = some_name a x.name h.top in
          let top : Some b ≡ root r = sym e ∙ ap (right_of c) n ∙ right-is c h.sound l x r h.hangs in
          side_leans c last_name t r b x.name h.sound top h.hangs.stands.2 (sym (name_of_last (in_order l) x r b top) ∙ same)

  root_none : (t : Tree X) → None ≡ root t → t ≡ leaf
  root_none leaf e = refl
  root_none (node l x r) e = cc

  pub leans_first : (c : Contents (Node X)) (t : Tree X) (a : Name) → Leans c first_name t a → left_of c a ≡ None → first_name (in_order t) ≡ Some a
  leans_first c t a k e = go k.part k.stood k.same
    where
      go : (u : Tree X) → Stood c (Some a) u → first_name (in_order u) ≡ first_name (in_order t) → first_name (in_order t) ≡ Some a
      go leaf h same = let bad = h.top in cc
      go (node l x r) h same =
          let n = some_name a x.name h.top in
          let none : l ≡ leaf = root_none l (sym e ∙ ap (left_of c) n ∙ left-is c h.sound l x r h.hangs) in
          sym same ∙ ap (λ z. first_name (in_order z ++ x ∷ in_order r)) none ∙ ap Some (sym n)

  pub leans_last : (c : Contents (Node X)) (t : Tree X) (a : Name) → Leans c last_name t a → right_of c a ≡ None → last_name (in_order t) ≡ Some a
  leans_last c t a k e = go k.part k.stood k.same
    where
      go : (u : Tree X) → Stood c (Some a) u → last_name (in_order u) ≡ last_name (in_order t) → last_name (in_order t) ≡ Some a
      go leaf h same = let bad = h.top in cc
      go (node l x r) h same =
          let n = some_name a x.name h.top in
          let none : r ≡ leaf = root_none r (sym e ∙ ap (right_of c) n ∙ right-is c h.sound l x r h.hangs) in
          sym same ∙ ap (λ z. last_name (in_order l ++ x ∷ in_order z)) none ∙ last_name-cut (in_order l) x ∙ ap Some (sym n)

  falls_in : (c : Contents (Node X)) (t : Tree X) (a b : Name) (side : Tree X) → Stood c (Some a) t → height side < height t → Some b ≡ root side → (p : Name) → Stands (value_of c) (Some p) side → high c (Some b) < high c (Some a)
  falls_in c t a b side h less top p stands =
      let low = ap (high c) top ∙ high-is c side (record { parent = Some p; stands = stands }) in
      let whole = ap (high c) h.top ∙ high-is c t h.hangs in omega (arith, low, whole, less)

  pub lower_left : (c : Contents (Node X)) (t : Tree X) (a b : Name) → Leans c first_name t a → left_of c a ≡ Some b → high c (Some b) < high c (Some a)
  lower_left c t a b k e = go k.part k.stood
    where
      go : (u : Tree X) → Stood c (Some a) u → high c (Some b) < high c (Some a)
      go leaf h = let bad = h.top in cc
      go (node l x r) h = falls_in c (node l x r) a b l h (omega arith) (sym e ∙ ap (left_of c) (some_name a x.name h.top) ∙ left-is c h.sound l x r h.hangs) x.name h.hangs.stands.1

  pub lower_right : (c : Contents (Node X)) (t : Tree X) (a b : Name) → Leans c last_name t a → right_of c a ≡ Some b → high c (Some b) < high c (Some a)
  lower_right c t a b k e = go k.part k.stood
    where
      go : (u : Tree X) → Stood c (Some a) u → high c (Some b) < high c (Some a)
      go leaf h = let bad = h.top in cc
      go (node l x r) h = falls_in c (node l x r) a b r h (omega arith) (sym e ∙ ap (right_of c) (some_name a x.name h.top) ∙ right-is c h.sound l x r h.hangs) x.name h.hangs.stands.2

  pub leans_whole : (c : Contents (Node X)) (end : List (Row Name X) → Option Name) (t : Tree X) (a : Name) → Stood c (Some a) t → Leans c end t a
  leans_whole c end t a h = record { part = t; stood = h; same = refl }

  -- what the links of a node at its place say
  pub record LinksOf (c : Contents (Node X)) (a : Name) (steps : List (Step X)) : Type 0 where
    pub parent : parent_of c a ≡ above_in steps
    pub side : IsSide (is_left_in c (above_in steps) a) steps
    pub falls : left_to c (above_in steps) < left_to c (Some a)

  links_in : (c : Contents (Node X)) (steps : List (Step X)) (l : Tree X) (x : Row Name X) (r : Tree X) → Placed c x.name steps (node l x r) → LinksOf c x.name steps
  links_in c steps l x r p =
      let t = node l x r in let parts = cut (value_of c) steps t p.stands in
      let apart = plugged_once steps t p.once in
      let hangs : Hangs (value_of c) t = record { parent = above_in steps; stands = parts.1 } in
      let low = height_le t in let all = plugged_le steps t in let few = p.few in
      record {
        parent = ap (λ n. name_in c (parent_link n)) parts.1.0 ∙ linked_name c p.sound (above_in steps) (above-live (value_of c) steps (Some x.name) (height t) parts.0);
        side = side-is c p.sound steps x.name (height t) (ap is_some parts.1.0) (λ z. apart.1 x.name (root_has t x.name refl) z) parts.0;
        falls = falls c c x.name steps (height t) (high-is c t hangs) (omega (arith, low, all, few)) parts.0;
      }

  pub links_of : (c : Contents (Node X)) (a : Name) (steps : List (Step X)) (t : Tree X) → Placed c a steps t → LinksOf c a steps
  links_of c a steps leaf p = let bad = p.top in cc
  links_of c a steps (node l x r) p =
      let n = some_name x.name a p.top in
      subst (λ b. LinksOf c b steps) n (links_in c steps l x r (record { top = refl; stands = p.stands; once = p.once; few = p.few; sound = p.sound }))

  pub placed_above : (c : Contents (Node X)) (a : Name) (s : Step X) (steps : List (Step X)) (t : Tree X) → Placed c a (s ∷ steps) t → Placed c (name_of s) steps (joined s t)
  placed_above c a s steps t p = record { top = root-joined s t; stands = p.stands; once = p.once; few = p.few; sound = p.sound }

  -- on the way up: the end of the rows that are sought is the same
  pub record Rises (c : Contents (Node X)) (rows : List (Step X) → List (Row Name X)) (end : List (Row Name X) → Option Name) (goal : Option Name) (a : Name) : Type 0 where
    pub steps : List (Step X)
    pub part : Tree X
    pub placed : Placed c a steps part
    pub same : end (rows steps) ≡ goal

  pub rises_from : (c : Contents (Node X)) (rows : List (Step X) → List (Row Name X)) (end : List (Row Name X) → Option Name) (a : Name) (steps : List (Step X)) (t : Tree X) → Placed c a steps t → Rises c rows end (end (rows steps)) a
  rises_from c rows end a steps t p = record { steps = steps; part = t; placed = p; same = refl }

  pub rises_falls : (c : Contents (Node X)) (rows : List (Step X) → List (Row Name X)) (end : List (Row Name X) → Option Name) (goal : Option Name) (a b : Name) → Rises c rows end goal a → parent_of c a ≡ Some b → left_to c (Some b) < left_to c (Some a)
  rises_falls c rows end goal a b k e =
      let h = links_of c a k.steps k.part k.placed in subst (λ o. left_to c o < left_to c (Some a)) (sym h.parent ∙ e) h.falls

  pub rises_out : (c : Contents (Node X)) (rows : List (Step X) → List (Row Name X)) (end : List (Row Name X) → Option Name) (goal : Option Name) (a : Name) → end (rows []) ≡ None → Rises c rows end goal a → parent_of c a ≡ None → None ≡ goal
  rises_out c rows end goal a none k e = go k.steps k.placed k.same
    where
      go : (steps : List (Step X)) → Placed c a steps k.part → end (rows steps) ≡ goal → None ≡ goal
      go [] p same = sym none ∙ same
      go (s ∷ steps) p same = let h = links_of c a (s ∷ steps) k.part p in let bad = sym e ∙ h.parent in cc

  pub meets_after : (c : Contents (Node X)) (goal : Option Name) (a b : Name) → Rises c after first_name goal a → parent_of c a ≡ Some b → is_left_in c (Some b) a ≡ true → Some b ≡ goal
  meets_after c goal a b k e left = go k.steps k.placed k.same
    where
      go : (steps : List (Step X)) → Placed c a steps k.part → first_name (after steps) ≡ goal → Some b ≡ goal
      go [] p same = let h = links_of c a [] k.part p in let bad = sym e ∙ h.parent in cc
      go (on_left x r ∷ steps) p same = let h = links_of c a (on_left x r ∷ steps) k.part p in sym e ∙ h.parent ∙ same
      go (on_right l x ∷ steps) p same =
          let h = links_of c a (on_right l x ∷ steps) k.part p in
          let bad : true ≡ false = sym left ∙ ap (λ o. is_left_in c o a) (sym e ∙ h.parent) ∙ h.side in cc

  pub passes_after : (c : Contents (Node X)) (goal : Option Name) (a b : Name) → Rises c after first_name goal a → parent_of c a ≡ Some b → is_left_in c (Some b) a ≡ false → Rises c after first_name goal b
  passes_after c goal a b k e left = go k.steps k.placed k.same
    where
      go : (steps : List (Step X)) → Placed c a steps k.part → first_name (after steps) ≡ goal → Rises c after first_name goal b
      go [] p same = let h = links_of c a [] k.part p in let bad = sym e ∙ h.parent in cc
      go (on_left x r ∷ steps) p same =
          let h = links_of c a (on_left x r ∷ steps) k.part p in
          let bad : false ≡ true = sym left ∙ ap (λ o. is_left_in c o a) (sym e ∙ h.parent) ∙ h.side in cc
      go (on_right l x ∷ steps) p same =
          let h = links_of c a (on_right l x ∷ steps) k.part p in
          subst (λ n. Rises c after first_name goal n) (some_name x.name b (sym h.parent ∙ e))
          (record { steps = steps; part = joined (on_right l x) k.part; placed = placed_above c a (on_right l x) steps k.part p; same = same })

  last_of_step : (xs : List (Row Name X)) (l : List (Row Name X)) (x : Row Name X) → last_name (xs ++ (l ++ x ∷ [])) ≡ Some x.name
  last_of_step xs l x = last_name-append xs (l ++ x ∷ []) x.name (last_name-cut l x)

  pub meets_before : (c : Contents (Node X)) (goal : Option Name) (a b : Name) → Rises c before last_name goal a → parent_of c a ≡ Some b → is_left_in c (Some b) a ≡ false → Some b ≡ goal
  meets_before c goal a b k e left = go k.steps k.placed k.same
    where
      go : (steps : List (Step X)) → Placed c a steps k.part → last_name (before steps) ≡ goal → Some b ≡ goal
      go [] p same = let h = links_of c a [] k.part p in let bad = sym e ∙ h.parent in cc
      go (on_right l x ∷ steps) p same = let h = links_of c a (on_right l x ∷ steps) k.part p in sym e ∙ h.parent ∙ sym (last_of_step (before steps) (in_order l) x) ∙ same
      go (on_left x r ∷ steps) p same =
          let h = links_of c a (on_left x r ∷ steps) k.part p in
          let bad : false ≡ true = sym left ∙ ap (λ o. is_left_in c o a) (sym e ∙ h.parent) ∙ h.side in cc

  pub passes_before : (c : Contents (Node X)) (goal : Option Name) (a b : Name) → Rises c before last_name goal a → parent_of c a ≡ Some b → is_left_in c (Some b) a ≡ true → Rises c before last_name goal b
  passes_before c goal a b k e left = go k.steps k.placed k.same
    where
      go : (steps : List (Step X)) → Placed c a steps k.part → last_name (before steps) ≡ goal → Rises c before last_name goal b
      go [] p same = let h = links_of c a [] k.part p in let bad = sym e ∙ h.parent in cc
      go (on_right l x ∷ steps) p same =
          let h = links_of c a (on_right l x ∷ steps) k.part p in
          let bad : true ≡ false = sym left ∙ ap (λ o. is_left_in c o a) (sym e ∙ h.parent) ∙ h.side in cc
      go (on_left x r ∷ steps) p same =
          let h = links_of c a (on_left x r ∷ steps) k.part p in
          subst (λ n. Rises c before last_name goal n) (some_name x.name b (sym h.parent ∙ e))
          (record { steps = steps; part = joined (on_left x r) k.part; placed = placed_above c a (on_left x r) steps k.part p; same = same })

  -- the node's own sides
  pub own_links : (c : Contents (Node X)) (a : Name) (steps : List (Step X)) (l : Tree X) (x : Row Name X) (r : Tree X) → AtNode c a steps l x r → (left_of c a ≡ root l) × (right_of c a ≡ root r) × Hangs (value_of c) l × Hangs (value_of c) r
  own_links c a steps l x r p =
      let n = some_name x.name a p.top in let parts = cut (value_of c) steps (node l x r) p.stands in
      let hangs : Hangs (value_of c) (node l x r) = record { parent = above_in steps; stands = parts.1 } in
      (ap (left_of c) (sym n) ∙ left-is c p.sound l x r hangs, ap (right_of c) (sym n) ∙ right-is c p.sound l x r hangs, record { parent = Some x.name; stands = parts.1.1 }, record { parent = Some x.name; stands = parts.1.2 })

  pub right_stood : (c : Contents (Node X)) (a b : Name) (steps : List (Step X)) (l : Tree X) (x : Row Name X) (r : Tree X) → AtNode c a steps l x r → right_of c a ≡ Some b → Stood c (Some b) r
  right_stood c a b steps l x r p e = let own = own_links c a steps l x r p in record { top = sym e ∙ own.1; hangs = own.3; sound = p.sound }

  pub left_stood : (c : Contents (Node X)) (a b : Name) (steps : List (Step X)) (l : Tree X) (x : Row Name X) (r : Tree X) → AtNode c a steps l x r → left_of c a ≡ Some b → Stood c (Some b) l
  left_stood c a b steps l x r p e = let own = own_links c a steps l x r p in record { top = sym e ∙ own.0; hangs = own.2; sound = p.sound }

  pub right_none : (c : Contents (Node X)) (a : Name) (steps : List (Step X)) (l : Tree X) (x : Row Name X) (r : Tree X) → AtNode c a steps l x r → right_of c a ≡ None → r ≡ leaf
  right_none c a steps l x r p e = root_none r (sym e ∙ (own_links c a steps l x r p).1)

  pub left_none : (c : Contents (Node X)) (a : Name) (steps : List (Step X)) (l : Tree X) (x : Row Name X) (r : Tree X) → AtNode c a steps l x r → left_of c a ≡ None → l ≡ leaf
  left_none c a steps l x r p e = root_none l (sym e ∙ (own_links c a steps l x r p).0)
