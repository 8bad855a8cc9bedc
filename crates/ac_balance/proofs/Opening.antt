-- A tree that stands, cut at a place: the nodes around the place and the part.
use Rattle.std.proofs.Common.{◌≡◌, ◌+◌, ◌^◌, ◌≤◌, max, Bool, List, [], ◌∷◌, ◌++◌, length, Option, Some, None, refl, ap, ◌∙◌, subst, arith}
use Rattle.ac_base.specs.declared.name.Name.{Name}
use Rattle.ac_pool.specs.Contents.{Contents, value_of, IsSound}
use Rattle.ac_balance.specs.declared.links.Node.{Node}
use Rattle.ac_base.specs.Rows.{Row}
use Rattle.ac_balance.specs.Trees.{Tree, leaf, node, height, Balanced, Step, on_left, on_right, joined, plugged, before, after}
use Rattle.ac_balance.specs.TreeFields.{linked, root, Stands, place}
use Rattle.ac_balance.specs.Climbing.{Once, name_of, above_in, Framed, IsSide, IsRooted, top_of, Climbing}
use Rattle.ac_balance.proofs.Standing.{Nodes}
use Rattle.ac_balance.proofs.Names.{IsAround}
use Rattle.ac_balance.proofs.Rising.{Framed-same}
use Rattle.ac_balance.proofs.Climbs.{plugged-fits, plugged-order}

module _ {X : Type 0} where
  pub root-joined : (s : Step X) (t : Tree X) → root (joined s t) ≡ Some (name_of s)
  root-joined (on_left x r) t = refl
  root-joined (on_right l x) t = refl

  pub cut : (f : Nodes X) (steps : List (Step X)) (t : Tree X) → Stands f None (plugged steps t) → Framed f steps (root t) (height t) × Stands f (above_in steps) t
  cut f [] t h = (tt, h)
  cut f (on_left x r ∷ steps) t h = let up = cut f steps (node t x r) h in ((up.1.0, up.1.2, up.0), up.1.1)
  cut f (on_right l x ∷ steps) t h =
      let up = cut f steps (node l x t) h in let e : max (height l) (height t) + 1 ≡ max (height t) (height l) + 1 = omega arith in
      ((up.1.0 ∙ (λ i. Some (linked x.value (above_in steps) (root l) (root t) (e i))), up.1.1, subst (λ n. Framed f steps (Some x.name) n) e up.0), up.1.2)

  -- and together again, when the links at the place are set
  pub mend : (f : Nodes X) (steps : List (Step X)) (t : Tree X) → Framed f steps (root t) (height t) → Stands f (above_in steps) t → Stands f None (plugged steps t)
  mend f [] t k h = h
  mend f (on_left x r ∷ steps) t k h = mend f steps (node t x r) k.2 (k.0, h, k.1)
  mend f (on_right l x ∷ steps) t k h =
      let e : max (height t) (height l) + 1 ≡ max (height l) (height t) + 1 = omega arith in
      mend f steps (node l x t) (subst (λ n. Framed f steps (Some x.name) n) e k.2) (k.0 ∙ (λ i. Some (linked x.value (above_in steps) (root l) (root t) (e i))), k.1, h)

  pub root-top : (steps : List (Step X)) (t : Tree X) → root (plugged steps t) ≡ top_of steps (root t)
  root-top [] t = refl
  root-top (s ∷ steps) t = root-top steps (joined s t) ∙ ap (top_of steps) (root-joined s t)

  pub rooted-in : (steps : List (Step X)) (t : Tree X) → IsRooted (root (plugged steps t)) steps
  rooted-in [] t = tt
  rooted-in (s ∷ steps) t = root-top (s ∷ steps) t

  -- a fresh node at a place where nothing is
  pub added_opens : (c d : Contents (Node X)) (steps : List (Step X)) (x : Row Name X) (parent : Option Name) (b : Bool) → Stands (value_of c) None (plugged steps leaf) → Balanced (plugged steps leaf)
      → ((a : Name) → IsAround a steps → value_of d a ≡ value_of c a) → value_of d x.name ≡ Some (linked x.value parent None None 1) → IsSide b steps → IsSound d
      → Once (plugged steps (node leaf x leaf)) → length (before steps ++ x ∷ after steps) ≤ 2 ^ 30
      → Climbing d (place (above_in steps) b (Some x.name)) (root (plugged steps leaf)) (before steps ++ x ∷ after steps)
  added_opens c d steps x parent b h bal same new side sound once few =
      let parts = cut (value_of c) steps leaf h in
      record {
        steps = steps;
        part = node leaf x leaf;
        was = 0;
        stands = record {
          link = None;
          parent = refl;
          rooted = rooted-in steps leaf;
          side = side;
          top = refl;
          framed = Framed-same (value_of c) (value_of d) steps None 0 same parts.0;
          hangs = record { parent = parent; stands = (new, tt, tt) };
          ordered = plugged-order steps (node leaf x leaf);
          once = once;
          few = few;
          sound = sound;
        };
        fits = (plugged-fits steps leaf bal).0;
        balanced = (record { up = omega arith; down = omega arith }, tt, tt);
        near = record { up = omega arith; down = omega arith };
      }
