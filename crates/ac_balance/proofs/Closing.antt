-- A part that is linked at its place again: the whole stands.
use Rattle.std.proofs.Common.{◌≡◌, ◌≢◌, ℕ, ◌+◌, max, Bool, true, false, List, [], ◌∷◌, Option, Some, None, refl, sym, ap, ◌∙◌, subst, inl}
use Rattle.ac_base.specs.declared.name.Name.{Name}
use Rattle.ac_pool.specs.Contents.{Contents, value_of}
use Rattle.ac_pool.proofs.ContentsLaws.{value_of-with_value_same, value_of-with_value_other}
use Rattle.ac_balance.specs.declared.links.Node.{Node}
use Rattle.ac_balance.specs.declared.links.Links.{Links}
use Rattle.ac_balance.specs.declared.places.Place.{Place}
use Rattle.ac_base.specs.Rows.{Row}
use Rattle.ac_balance.specs.Trees.{Tree, height, Level, Balanced, Step, on_left, on_right, side_of, joined, plugged}
use Rattle.ac_balance.specs.TreeFields.{node_with, linked, root, Stands, with_parent, side_written, with_side, links, attached}
use Rattle.ac_pool.specs.Link.{link_of}
use Rattle.ac_balance.specs.Climbing.{Has, Once, name_of, above_in, Framed, IsSide, Open, Climbed, Relinks, Closes}
use Rattle.ac_pool.specs.NamedRows.{HasName}
use Rattle.ac_balance.proofs.Keeping.{keeps_then, keeps_parent, keeps_side, sound_still}
use Rattle.ac_balance.proofs.Standing.{Stands-same, Stands-moved, root_has, with_parent-writes}
use Rattle.ac_balance.proofs.Names.{IsAround, plugged_once, named, part_has}
use Rattle.ac_balance.proofs.Rising.{Framed-same, relinks_then}
use Rattle.ac_balance.proofs.Opening.{mend, root-top}

module _ {X : Type 0} where
  abbrev pub side_put : Bool → Option Name → Node X → Node X
  side_put true to n = node_with n.value n.parent (link_of to) n.right n.height
  side_put false to n = node_with n.value n.parent n.left (link_of to) n.height

  -- the node under a name that is live has another side, and the others are as before
  side_written-is : (c : Contents (Node X)) (a : Name) (b : Bool) (to : Option Name) (n : Node X) (o : Option (Node X)) → o ≡ Some n
      → (value_of (side_written c a b to o) a ≡ Some (side_put b to n)) × ((k : Name) → k ≢ a → value_of (side_written c a b to o) k ≡ value_of c k)
  side_written-is c a b to n None e = cc
  side_written-is c a true to n (Some m) e = let same : m ≡ n = cc in (value_of-with_value_same c a (side_put true to m) ∙ ap (λ k. Some (side_put true to k)) same, λ k ne. value_of-with_value_other c a k (side_put true to m) ne)
  side_written-is c a false to n (Some m) e = let same : m ≡ n = cc in (value_of-with_value_same c a (side_put false to m) ∙ ap (λ k. Some (side_put false to k)) same, λ k ne. value_of-with_value_other c a k (side_put false to m) ne)

  with_side-is : (c : Contents (Node X)) (a : Name) (b : Bool) (to : Option Name) (n : Node X) → value_of c a ≡ Some n
      → (value_of (with_side c a b to) a ≡ Some (side_put b to n)) × ((k : Name) → k ≢ a → value_of (with_side c a b to) k ≡ value_of c k)
  unfolding with_side
  with_side-is c a b to n e = side_written-is c a b to n (value_of c a) e

  -- the lowest step has another link at the place
  framed-put : (c : Contents (Node X)) (s : Step X) (steps : List (Step X)) (o to : Option Name) (h : ℕ) (b : Bool) → IsSide b (s ∷ steps)
      → (Has (name_of s) (side_of s) → ⊥) → (IsAround (name_of s) steps → ⊥)
      → Framed (value_of c) (s ∷ steps) o h → Framed (value_of (with_side c (name_of s) b to)) (s ∷ steps) to h × ((k : Name) → k ≢ name_of s → value_of (with_side c (name_of s) b to) k ≡ value_of c k)
  framed-put c (on_left x r) steps o to h b side ns na f =
      let w = with_side-is c x.name b to _ f.0 in (
        (
          w.0 ∙ (λ i. Some (side_put (side i) to (linked x.value (above_in steps) o (root r) (max h (height r) + 1)))),
          Stands-same _ _ (Some x.name) r (λ k p. w.1 k (λ e. ns (subst (λ z. Has z r) e p))) f.1,
          Framed-same _ _ steps (Some x.name) (max h (height r) + 1) (λ k p. w.1 k (λ e. na (subst (λ z. IsAround z steps) e p))) f.2,
        ),
        w.1,
      )
  framed-put c (on_right l x) steps o to h b side ns na f =
      let w = with_side-is c x.name b to _ f.0 in (
        (
          w.0 ∙ (λ i. Some (side_put (side i) to (linked x.value (above_in steps) (root l) o (max h (height l) + 1)))),
          Stands-same _ _ (Some x.name) l (λ k p. w.1 k (λ e. ns (subst (λ z. Has z l) e p))) f.1,
          Framed-same _ _ steps (Some x.name) (max h (height l) + 1) (λ k p. w.1 k (λ e. na (subst (λ z. IsAround z steps) e p))) f.2,
        ),
        w.1,
      )

  joined_apart : (s : Step X) (t : Tree X) → Once (joined s t) → (Has (name_of s) t → ⊥) × (Has (name_of s) (side_of s) → ⊥)
  joined_apart (on_left x r) t h = (h.0, h.1)
  joined_apart (on_right l x) t h = (h.1, h.0)

  joined_names : (s : Step X) (t : Tree X) → Has (name_of s) (joined s t)
  joined_names (on_left x r) t = inl refl
  joined_names (on_right l x) t = inl refl

  pub moved : (c : Contents (Node X)) (t : Tree X) (p q : Option Name) → Once t → Stands (value_of c) p t → Stands (value_of (with_parent c (root t) q)) q t
  moved c t p q once h = let w = with_parent-writes c (root t) q in Stands-moved (value_of c) _ p q t once w.here (λ a k n. w.there a n) h

  closes_in : (l : Links X) (p : Place) (base : Option Name) (rows : List (Row Name X)) (steps : List (Step X)) (t : Tree X) → base ≡ l.root → Open l.nodes p base rows steps t (height t) → Balanced (plugged steps t) → (high : ℕ) → Level high (height (plugged steps t))
      → Closes l (attached l (above_in steps) p.is_left (root t)) rows high
  unfolding attached
  closes_in l p base rows [] t e o bal high near =
      let c = l.nodes in let w = with_parent-writes c (root t) None in let kept = keeps_parent c (root t) None in
      record {
        closed = record { tree = t; top = refl; stands = moved c t o.hangs.parent None o.once o.hangs.stands; balanced = bal; ordered = o.ordered; once = o.once; few = o.few; sound = sound_still c _ kept o.sound };
        relinks = record { aside = λ a n. w.there a (λ is. n (subst (HasName a) o.ordered (named a t (root_has t a is)))); keeps = kept };
        near = near;
      }
  closes_in l p base rows (s ∷ steps) t e o bal high near =
      let n = name_of s in let up = plugged_once steps (joined s t) o.once in let here = joined_apart s t up.0 in let part = plugged_once (s ∷ steps) t o.once in
      let put = framed-put l.nodes s steps o.link (root t) (height t) p.is_left o.side here.1 (λ k. up.1 n (joined_names s t) k) o.framed in
      let d = with_side l.nodes n p.is_left (root t) in
      let stands_d = Stands-same (value_of l.nodes) (value_of d) o.hangs.parent t (λ k q. put.1 k (λ same. here.0 (subst (λ z. Has z t) same q))) o.hangs.stands in
      let w = with_parent-writes d (root t) (Some n) in
      let framed = Framed-same (value_of d) (value_of (with_parent d (root t) (Some n))) (s ∷ steps) (root t) (height t) (λ a q. w.there a (λ is. part.1 a (root_has t a is) q)) put.0 in
      let kept = keeps_then l.nodes d _ (keeps_side l.nodes n p.is_left (root t)) (keeps_parent d (root t) (Some n)) in
      let inside : (a : Name) → Has a (plugged (s ∷ steps) t) → HasName a rows = λ a h. subst (HasName a) o.ordered (named a (plugged (s ∷ steps) t) h) in
      record {
        closed = record {
          tree = plugged (s ∷ steps) t;
          top = sym e ∙ o.rooted ∙ sym (root-top (s ∷ steps) t);
          stands = mend (value_of (with_parent d (root t) (Some n))) (s ∷ steps) t framed (moved d t o.hangs.parent (Some n) part.0 stands_d);
          balanced = bal;
          ordered = o.ordered;
          once = o.once;
          few = o.few;
          sound = sound_still l.nodes _ kept o.sound;
        };
        relinks = record {
          aside = λ a z. w.there a (λ is. z (inside a (part_has (s ∷ steps) t a (root_has t a is)))) ∙ put.1 a (λ same. z (inside a (subst (λ b. Has b (plugged (s ∷ steps) t)) (sym same) (part_has steps (joined s t) n (joined_names s t)))));
          keeps = kept;
        };
        near = near;
      }

  pub closes : (l : Links X) (p : Place) (rows : List (Row Name X)) (high : ℕ) → Climbed l.nodes p l.root rows high → Closes l (attached l p.parent p.is_left p.top) rows high
  closes l p rows high k =
      let o = k.stands in
      subst (λ z. Closes l (attached l z p.is_left p.top) rows high) (sym o.parent)
      (subst (λ z. Closes l (attached l (above_in k.steps) p.is_left z) rows high) (sym o.top) (closes_in l p l.root rows k.steps k.part refl o k.balanced high k.near))

  pub mends : (l : Links X) (d : Contents (Node X)) (q : Place) (m : Links X) (rows : List (Row Name X)) (high : ℕ) → Climbed d q l.root rows high × Relinks rows l.nodes d → m ≡ attached (links d l.root) q.parent q.is_left q.top
      → Closes l m rows high
  mends l d q m rows high k is =
      let it = closes (links d l.root) q rows high k.0 in
      subst (λ (z : Links X). Closes l z rows high) (sym is) (record { closed = it.closed; relinks = relinks_then rows l.nodes d _ k.1 it.relinks; near = it.near })
