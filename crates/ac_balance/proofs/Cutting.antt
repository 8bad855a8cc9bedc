-- A part is cut off and loses its first row.
use Rattle.std.proofs.Common.{◌≡◌, List, [], ◌∷◌, ◌++◌, length, Some, None, refl, sym, ap, ◌∙◌, subst, inr, arith}
use Rattle.ac_base.specs.declared.name.Name.{Name}
use Rattle.ac_base.specs.Rows.{Row}
use Rattle.ac_pool.specs.Contents.{Contents, value_of, IsSound}
use Rattle.ac_balance.specs.declared.links.Node.{Node}
use Rattle.ac_balance.specs.declared.links.Links.{Links}
use Rattle.ac_balance.specs.declared.places.Place.{Place}
use Rattle.ac_balance.specs.Trees.{Tree, leaf, node, in_order, height, Level, Balanced, Step, on_left, plugged, before, after, tall}
use Rattle.ac_balance.specs.TreeFields.{root, Stands, right_of, with_parent, place_in, is_left_in, links}
use Rattle.ac_pool.specs.NamedRows.{HasName, IsOnce}
use Rattle.ac_balance.specs.Climbing.{Once, above_in, IsSide, IsRooted, Climbing, Closes, Relinks, IsMendable, Mends}
use Rattle.ac_balance.specs.Walking.{first_name, Placed}
use Rattle.ac_balance.specs.Detaching.{Part, KeepsValue, CutOff}
use Rattle.ac_balance.proofs.Standing.{some_name, with_parent-writes, root_has, right-is}
use Rattle.ac_balance.proofs.Keeping.{keeps_parent, sound_still}
use Rattle.ac_balance.proofs.Names.{once_from, once_rows, named}
use Rattle.ac_balance.proofs.Climbs.{plugged-order, plugged-fits, plugged-height, first_near}
use Rattle.ac_balance.proofs.Opening.{cut, rooted-in}
use Rattle.ac_balance.proofs.Closing.{moved}
use Rattle.ac_balance.proofs.Rising.{relinks_then}
use Rattle.ac_balance.proofs.Walks.{links_of}

module _ {X : Type 0} where
  -- the way to the first row
  pub record Leftmost (t : Tree X) (first : Name) : Type 0 where
    pub path : List (Step X)
    pub row : Row Name X
    pub side : Tree X
    pub whole : plugged path (node leaf row side) ≡ t
    pub start : before path ≡ []
    pub name : row.name ≡ first

  leftmost_in : (t : Tree X) (first : Name) (path : List (Step X)) (u : Tree X) → before path ≡ [] → plugged path u ≡ t → first_name (in_order u) ≡ Some first → Leftmost t first
  leftmost_in t first path leaf e whole is = cc
  leftmost_in t first path (node leaf x r) e whole is = record { path = path; row = x; side = r; whole = whole; start = e; name = some_name x.name first is }
  leftmost_in t first path (node (node a y b) x r) e whole is = leftmost_in t first (on_left x r ∷ path) (node a y b) e whole (sym (front (in_order a) y (in_order b) (x ∷ in_order r)) ∙ is)
    where
      front : (xs : List (Row Name X)) (y : Row Name X) (ys zs : List (Row Name X)) → first_name ((xs ++ y ∷ ys) ++ zs) ≡ first_name (xs ++ y ∷ ys)
      front [] y ys zs = refl
      front (x ∷ xs) y ys zs = refl

  pub leftmost_of : (t : Tree X) (first : Name) → first_name (in_order t) ≡ Some first → Leftmost t first
  leftmost_of t first is = leftmost_in t first [] t refl refl is

  pub record Uncovered (l : Links X) (t : Tree X) (top first : Name) : Type 0 where
    pub way : Leftmost t first
    pub stands : Stands (value_of (with_parent l.nodes (Some top) None)) None t
    pub sound : IsSound (with_parent l.nodes (Some top) None)
    pub placed : Placed (with_parent l.nodes (Some top) None) first way.path (node leaf way.row way.side)
    pub relinks : Relinks (in_order t) l.nodes (with_parent l.nodes (Some top) None)

  uncovered : (l : Links X) (t : Tree X) (top first : Name) → Part l.nodes (Some top) t → first_name (in_order t) ≡ Some first → Uncovered l t top first
  uncovered l t top first p is =
      let c = l.nodes in let d = with_parent c (Some top) None in let way = leftmost_of t first is in let w = with_parent-writes c (Some top) None in
      let keeps = keeps_parent c (Some top) None in let sound = sound_still c d keeps p.sound in
      let stands : Stands (value_of d) None t = subst (λ o. Stands (value_of (with_parent c o None)) None t) (sym p.top) (moved c t p.hangs.parent None p.once p.hangs.stands) in
      record {
        way = way;
        stands = stands;
        sound = sound;
        placed = record {
          top = ap Some way.name;
          stands = subst (λ z. Stands (value_of d) None z) (sym way.whole) stands;
          once = subst (λ z. Once z) (sym way.whole) p.once;
          few = let low = p.few in let len = ap length (ap in_order way.whole) in omega (arith, low, len);
          sound = sound;
        };
        relinks = record { aside = λ a n. w.there a (λ e. n (named a t (root_has t a (sym p.top ∙ e)))); keeps = keeps };
      }

  pub record Cutting (l : Links X) (t : Tree X) (top first : Name) : Type 0 where
    pub row : Row Name X
    pub rest : List (Row Name X)
    pub are : in_order t ≡ row ∷ rest
    pub name : row.name ≡ first
    pub once : IsOnce (row ∷ rest)
    pub kept : KeepsValue (with_parent l.nodes (Some top) None) row
    pub relinks : Relinks (in_order t) l.nodes (with_parent l.nodes (Some top) None)
    pub climbing : Climbing (with_parent l.nodes (Some top) None) (place_in (with_parent l.nodes (Some top) None) first (right_of (with_parent l.nodes (Some top) None) first)) (Some top) rest
    pub high : tall climbing.steps climbing.was ≡ height t

  pub cutting : (l : Links X) (t : Tree X) (top first : Name) → Part l.nodes (Some top) t → first_name (in_order t) ≡ Some first → Cutting l t top first
  cutting l t top first p is =
      let d = with_parent l.nodes (Some top) None in let u = uncovered l t top first p is in let way = u.way in
      let path = way.path in let s = way.row in let q = way.side in let low = node leaf s q in
      let parts = cut (value_of d) path low u.placed.stands in
      let here = links_of d first path low u.placed in
      let rest = in_order q ++ after path in
      let are : in_order t ≡ s ∷ rest = ap in_order (sym way.whole) ∙ plugged-order path low ∙ ap (λ k. k ++ (s ∷ rest)) way.start in
      let once : IsOnce (s ∷ rest) = subst (λ zs. IsOnce zs) are (once_rows t p.once) in
      let ordered : in_order (plugged path q) ≡ rest = plugged-order path q ∙ ap (λ k. k ++ rest) way.start in
      let fits = plugged-fits path low (subst (λ z. Balanced z) (sym way.whole) p.balanced) in
      let side_root : right_of d first ≡ root q = ap (right_of d) (sym way.name) ∙ right-is d u.sound leaf s q (record { parent = above_in path; stands = parts.1 }) in
      let len = ap length are in let most = p.few in
      record {
        row = s;
        rest = rest;
        are = are;
        name = way.name;
        once = once;
        kept = record { node = _; found = parts.1.0; value = refl };
        relinks = u.relinks;
        climbing = record {
          steps = path;
          part = q;
          was = height low;
          stands = record {
            link = Some s.name;
            parent = here.parent;
            rooted = subst (λ o. IsRooted o path) (ap root way.whole ∙ sym p.top) (rooted-in path low);
            side = subst (λ o. IsSide (is_left_in d o first) path) (sym here.parent) here.side;
            top = side_root;
            framed = parts.0;
            hangs = record { parent = Some s.name; stands = parts.1.2 };
            ordered = ordered;
            once = once_from (plugged path q) (subst (λ zs. IsOnce zs) (sym ordered) once.1);
            few = omega (arith, len, most);
            sound = u.sound;
          };
          fits = fits.0;
          balanced = fits.1.2;
          near = first_near s q fits.1;
        };
        high = sym (plugged-height path low) ∙ ap height way.whole;
      }

  pub cut_off : (l : Links X) (t : Tree X) (top first : Name) (k : Cutting l t top first) (m : Links X) → Closes (links (with_parent l.nodes (Some top) None) (Some top)) m k.rest (tall k.climbing.steps k.climbing.was) → CutOff l m t first
  cut_off l t top first k m closes =
      let d = with_parent l.nodes (Some top) None in
      let more : Relinks (in_order t) d m.nodes = record { aside = λ a n. closes.relinks.aside a (λ h. n (subst (HasName a) (sym k.are) (inr h))); keeps = closes.relinks.keeps } in
      record {
        row = k.row;
        rest = k.rest;
        are = k.are;
        name = k.name;
        kept = record { node = k.kept.node; found = closes.relinks.aside k.row.name k.once.0 ∙ k.kept.found; value = k.kept.value };
        closed = closes.closed;
        relinks = relinks_then (in_order t) l.nodes d m.nodes k.relinks more;
        near = subst (λ n. Level n (height closes.closed.tree)) k.high closes.near;
      }

  pub cut_mendable : (l : Links X) (t : Tree X) (top first : Name) → Cutting l t top first → (d : Contents (Node X)) → with_parent l.nodes (Some top) None ≡ d → (q : Place) → place_in d first (right_of d first) ≡ q → IsMendable (links d (Some top)) q
  cut_mendable l t top first k d e =
      subst (λ d. (q : Place) → place_in d first (right_of d first) ≡ q → IsMendable (links d (Some top)) q) e
      (λ q f. subst (λ q. IsMendable (links (with_parent l.nodes (Some top) None) (Some top)) q) f (record { rows = k.rest; climbing = k.climbing }))

  pub cut_ends : (l : Links X) (t : Tree X) (top first : Name) → Cutting l t top first → (m : Links X) (d : Contents (Node X)) → with_parent l.nodes (Some top) None ≡ d → (q : Place) → place_in d first (right_of d first) ≡ q
      → Mends (links d (Some top)) q m → CutOff l m t first
  cut_ends l t top first k m d e =
      subst (λ d. (q : Place) → place_in d first (right_of d first) ≡ q → Mends (links d (Some top)) q m → CutOff l m t first) e
      (λ q f. subst (λ q. Mends (links (with_parent l.nodes (Some top) None) (Some top)) q m → CutOff l m t first) f (λ h. cut_off l t top first k m (h k.rest k.climbing)))
