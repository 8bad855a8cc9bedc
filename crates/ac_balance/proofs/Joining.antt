-- Two parts become one, and take the place of a node that leaves the tree.
use Rattle.std.proofs.Common.{◌≡◌, ℕ, ◌⊎◌, List, ◌∷◌, ◌++◌, length, Option, Some, None, is_some, refl, sym, ap, ◌∙◌, subst, inl, inr, arith, append_assoc}
use Rattle.std.proofs.lemmas.List.{length-append}
use Rattle.std.specs.List.{remove}
use Rattle.ac_base.specs.declared.name.Name.{Name}
use Rattle.ac_base.specs.Rows.{Row}
use Rattle.ac_pool.specs.Contents.{Contents, value_of}
use Rattle.ac_balance.specs.declared.links.Node.{Node}
use Rattle.ac_balance.specs.declared.links.Links.{Links}
use Rattle.ac_pool.specs.Link.{name_in}
use Rattle.ac_balance.specs.Trees.{Tree, node, in_order, height, Balanced, balanced, on_right, plugged, before, after}
use Rattle.ac_balance.specs.TreeFields.{root, linked, left_of, right_of, parent_of, parent_link, is_left_in, balanced_in, place_in, links}
use Rattle.ac_balance.specs.Climbing.{Has, Once, Hangs, above_in, Framed, IsSide, IsRooted, Climbing, Closed, Closes, Relinks, Keeps}
use Rattle.ac_pool.specs.NamedRows.{HasName, IsOnce}
use Rattle.ac_balance.specs.Indexed.{without}
use Rattle.ac_balance.specs.Detaching.{CutOff, Beside, Joined, Detached}
use Rattle.ac_pool.proofs.SlotNames.{linked_name}
use Rattle.ac_balance.proofs.Standing.{Hangs-same}
use Rattle.ac_balance.proofs.Keeping.{sound_still}
use Rattle.ac_pool.proofs.Cuts.{HasName-left, HasName-right, HasName-either, once-append, remove-cut, once_cut}
use Rattle.ac_balance.proofs.Names.{once_from, once_rows, named, has, plugged_once, height_le}
use Rattle.ac_balance.proofs.Turns.{balanced-order}
use Rattle.ac_balance.proofs.Turning.{Balances, both_new, balanced-gives}
use Rattle.ac_balance.proofs.Climbs.{plugged-order, plugged-fits, settled-step}
use Rattle.ac_balance.proofs.Opening.{cut, rooted-in}
use Rattle.ac_balance.proofs.Rising.{Framed-same, relinks_then, above-live, side-is}
use Rattle.ac_balance.proofs.Walks.{own_links}
use Rattle.ac_balance.proofs.Indexes.{Located, place_of_row}

module _ {X : Type 0} where
  relinks_more : (xs ys : List (Row Name X)) (c d : Contents (Node X)) → ((a : Name) → HasName a xs → HasName a ys) → Relinks xs c d → Relinks ys c d
  relinks_more xs ys c d f r = record { aside = λ a n. r.aside a (λ h. n (f a h)); keeps = r.keeps }

  pub joined_both : (l m : Links X) (o p : Option Name) (t u : Tree X) (first : Name) (n : Contents (Node X)) (top : Option Name) → Beside l.nodes o p t u → CutOff l m u first
      → n ≡ (balanced_in m.nodes o first m.root o m.root).nodes → top ≡ Some (balanced_in m.nodes o first m.root o m.root).top → Joined l (links n m.root) t u top
  joined_both l m o p t u first n top b k is is_top =
      let c = m.nodes in let x = k.row in let r = k.closed.tree in let whole = balanced t x r in let rows = in_order t ++ in_order u in
      let order : in_order (node t x r) ≡ rows = ap (λ zs. in_order t ++ x ∷ zs) k.closed.ordered ∙ ap (λ zs. in_order t ++ zs) (sym k.are) in
      let ordered : in_order whole ≡ rows = balanced-order t x r ∙ order in
      let once_both : IsOnce rows = once-append (in_order t) (in_order u) (once_rows t b.left.once) (once_rows u b.right.once) (λ a h q. b.apart a (has a t h) (has a u q)) in
      let once : Once whole = once_from whole (subst (λ zs. IsOnce zs) (sym ordered) once_both) in
      let low = height_le whole in let len = ap length ordered in let few = b.few in
      let left : Hangs (value_of c) t = Hangs-same (value_of l.nodes) (value_of c) t (λ a h. k.relinks.aside a (λ q. b.apart a h (has a u q))) b.left.hangs in
      let gives = balanced-gives c k.closed.sound t x r (root t) (root r) (both_new c x.name t r) left (record { node = k.kept.node; found = k.kept.found; value = k.kept.value }) (record { parent = None; stands = k.closed.stands }) once (omega (arith, low, len, few)) in
      let same : balanced_in c (root t) x.name (root r) (root t) (root r) ≡ balanced_in c o first m.root o m.root = λ i. balanced_in c (sym b.left.top i) (k.name i) (sym k.closed.top i) (sym b.left.top i) (sym k.closed.top i) in
      let done : Balances c (balanced_in c o first m.root o m.root) whole = subst (λ z. Balances c z whole) same gives in
      let lev = b.level in let lu = lev.up in let ld = lev.down in
      let step = settled-step (on_right t x) r (height u) (record { up = ld; down = lu }) b.left.balanced k.closed.balanced k.near in
      let nu = step.1.up in let nd = step.1.down in
      let after_m : Relinks rows c n = record {
        aside = λ a z. ap (λ d. value_of d a) is ∙ done.becomes.aside a (λ h. z (subst (HasName a) ordered (named a whole h)));
        keeps = subst (λ d. Keeps c d) (sym is) done.becomes.keeps;
      } in
      record {
        tree = whole;
        is_top = is_top ∙ sym done.top;
        hangs = subst (λ d. Hangs (value_of d) whole) (sym is) done.becomes.hangs;
        balanced = step.0;
        ordered = ordered;
        near = record { up = omega (arith, nu); down = omega (arith, nd) };
        relinks = relinks_then rows l.nodes c n (relinks_more (in_order u) rows l.nodes c (λ a h. HasName-right a (in_order t) (in_order u) h) k.relinks) after_m;
      }

  -- the two sides of a node
  pub sides_beside : (l : Links X) (rows : List (Row Name X)) (k : Closed l rows) (a : Name) (p : Located l k.tree a rows) → Beside l.nodes (left_of l.nodes a) (right_of l.nodes a) p.left p.right
  sides_beside l rows k a p =
      let t = node p.left p.row p.right in
      let own = own_links l.nodes a p.steps p.left p.row p.right p.placed in
      let fits = plugged-fits p.steps t (subst (λ z. Balanced z) (sym p.whole) k.balanced) in
      let once = (plugged_once p.steps t p.placed.once).0 in
      let low = length-append (in_order p.left) (p.row ∷ in_order p.right) in let low2 = length-append (in_order p.left) (in_order p.right) in
      let len = ap length (plugged-order p.steps t) in let l1 = length-append (before p.steps) (in_order t ++ after p.steps) in let l2 = length-append (in_order t) (after p.steps) in let few = p.placed.few in
      record {
        left = record { top = own.0; hangs = own.2; balanced = fits.1.1; once = once.3; few = omega (arith, low, len, l1, l2, few); sound = k.sound };
        right = record { top = own.1; hangs = own.3; balanced = fits.1.2; once = once.4; few = omega (arith, low, len, l1, l2, few); sound = k.sound };
        level = fits.1.0;
        apart = once.2;
        few = omega (arith, low, low2, len, l1, l2, few);
      }

  -- the whole with the joined part in the node's place
  pub rejoined : (l m : Links X) (rows : List (Row Name X)) (k : Closed l rows) (a : Name) (p : Located l k.tree a rows) (top : Option Name) → Joined l m p.left p.right top → Climbing m.nodes (place_in m.nodes a top) l.root (without rows a)
  rejoined l m rows k a p top j =
      let c = l.nodes in let d = m.nodes in let steps = p.steps in let x = p.row in let t = node p.left x p.right in let h = height t in
      let parts = cut (value_of c) steps t p.placed.stands in
      let fits = plugged-fits steps t (subst (λ z. Balanced z) (sym p.whole) k.balanced) in
      let once = plugged_once steps t p.placed.once in
      let sides = in_order p.left ++ in_order p.right in
      let inside : (b : Name) → HasName b sides → Has b p.left ⊎ Has b p.right = λ b q. elim (HasName-either b (in_order p.left) (in_order p.right) q) [ inl y ↦ inl (has b p.left y) | inr y ↦ inr (has b p.right y) ] in
      let framed : Framed (value_of d) steps (Some x.name) h = Framed-same (value_of c) (value_of d) steps (Some x.name) h (λ b z. j.relinks.aside b (λ q. once.1 b (inr (inside b q)) z)) parts.0 in
      let here : value_of d x.name ≡ Some (linked x.value (above_in steps) (root p.left) (root p.right) h) = j.relinks.aside x.name (λ q. elim (inside x.name q) [ inl y ↦ once.0.0 y | inr y ↦ once.0.1 y ]) ∙ parts.1.0 in
      let sound = sound_still c d j.relinks.keeps k.sound in
      let parent : parent_of d x.name ≡ above_in steps = ap (λ o. name_in d (parent_link o)) here ∙ linked_name d sound (above_in steps) (above-live (value_of d) steps (Some x.name) h framed) in
      let side = side-is d sound steps x.name h (ap is_some here) (λ z. once.1 x.name (inl refl) z) framed in
      let front = before steps ++ in_order p.left in let back = in_order p.right ++ after steps in
      let gone : without rows a ≡ front ++ back = ap (remove rows) (place_of_row l k.tree a rows p) ∙ ap (λ zs. remove zs (length front)) p.is ∙ remove-cut front x back in
      let ordered : in_order (plugged steps j.tree) ≡ front ++ back =
      plugged-order steps j.tree ∙ ap (λ zs. before steps ++ (zs ++ after steps)) j.ordered
      ∙ ap (λ zs. before steps ++ zs) (append_assoc (in_order p.left) (in_order p.right) (after steps)) ∙ sym (append_assoc (before steps) (in_order p.left) back) in
      let all_once : IsOnce (front ++ back) = once_cut front x back p.once in
      let l1 = length-append front (x ∷ back) in let l2 = length-append front back in let l3 = ap length p.is in let most = k.few in let l4 = ap length gone in
      subst (λ b. Climbing d (place_in d b top) l.root (without rows a)) p.name (record {
        steps = steps;
        part = j.tree;
        was = h;
        stands = record {
          link = Some x.name;
          parent = parent;
          rooted = subst (λ o. IsRooted o steps) (ap root p.whole ∙ sym k.top) (rooted-in steps t);
          side = subst (λ o. IsSide (is_left_in d o x.name) steps) (sym parent) side;
          top = j.is_top;
          framed = framed;
          hangs = j.hangs;
          ordered = ordered ∙ sym gone;
          once = once_from (plugged steps j.tree) (subst (λ zs. IsOnce zs) (sym ordered) all_once);
          few = omega (arith, l1, l2, l3, l4, most);
          sound = sound;
        };
        fits = fits.0;
        balanced = j.balanced;
        near = j.near;
      })

  pub detached : (l m e : Links X) (rows : List (Row Name X)) (k : Closed l rows) (a : Name) (p : Located l k.tree a rows) (top : Option Name) (j : Joined l m p.left p.right top) (high : ℕ) → Closes (links m.nodes l.root) e (without rows a) high → Detached l e (without rows a)
  detached l m e rows k a p top j high closes =
      let front = before p.steps ++ in_order p.left in let back = in_order p.right ++ after p.steps in
      let gone : without rows a ≡ front ++ back = ap (remove rows) (place_of_row l k.tree a rows p) ∙ ap (λ zs. remove zs (length front)) p.is ∙ remove-cut front p.row back in
      let within : (b : Name) → HasName b (in_order p.left ++ in_order p.right) → HasName b (without rows a) = λ b h. subst (HasName b) (sym gone) (elim (HasName-either b (in_order p.left) (in_order p.right) h) [
        | inl y ↦ HasName-left b front back (HasName-right b (before p.steps) (in_order p.left) y)
        | inr y ↦ HasName-right b front back (HasName-left b (in_order p.right) (after p.steps) y)
      ]) in
      record {
        closed = closes.closed;
        relinks = relinks_then (without rows a) l.nodes m.nodes e.nodes (relinks_more (in_order p.left ++ in_order p.right) (without rows a) l.nodes m.nodes within j.relinks) closes.relinks;
      }
