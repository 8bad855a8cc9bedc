-- Where the children of a node go, once they are gone from where they stood.
use Rattle.std.proofs.Common.{◌≡◌, ◌⊎◌, List, [], ◌++◌, Option, Some, None, refl, sym, ap, ◌∙◌, subst, inl, inr}
use Rattle.std.specs.Option.{ForSome}
use Rattle.ac_base.specs.declared.name.Name.{Name}
use Rattle.ac_pool.specs.Contents.{IsLive}
use Rattle.ac_tree.specs.declared.links.Links.{Links}
use Rattle.ac_tree.specs.Forests.{Forest, bare, grove, Step, first_in, last_in, Has, Once, plugged, parent_in, prev_in}
use Rattle.ac_tree.specs.TreeFields.{StandsFor, parent_of, closed}
use Rattle.ac_tree.proofs.Places.{Place, placed, Parted, parted, joint, around_has, plugged_either}
use Rattle.ac_tree.proofs.Standing.{Open, opened, shut}
use Rattle.ac_tree.proofs.Forests.{open_of, live_of, is_forest, links_at, parent_has}
use Rattle.ac_tree.proofs.Following.{plugged-append, parent_top, parent_within}
use Rattle.ac_tree.proofs.Splices.{keeps_closed}
use Rattle.ac_tree.proofs.ReparentedLinks.{emptied-open}
use Rattle.ac_tree.proofs.NewPlaces.{New_place, closed_parent, parent_kept, root_end, node_end, before_node}

module _ {X : Type 0} (l : Links X) (from : List (Step X)) (below : Forest X) (s : StandsFor l (plugged from below)) where
  part : Parted from below
  part = parted from below s.once

  abbrev cut : Links X
  cut = closed l (parent_in from) (prev_in from) None

  cut_open : Open cut [] (plugged from bare)
  cut_open = shut cut from bare (emptied-open l from (first_in below) (last_in below) part.around (opened l from below (open_of l (plugged from below) s)).framed)

  left_once : Once (plugged from bare)
  left_once = joint from bare (record { once = tt; around = part.around; apart = λ a h m. h })

  pub still_there : (a : Name) → Has a (plugged from bare) → Has a (plugged from below)
  still_there a h = elim (plugged_either from bare a h) [ inl b ↦ absurd b | inr m ↦ around_has from below a m ]

  left_has : (a : Name) → IsLive l.nodes a → (Has a below → ⊥) → Has a (plugged from bare)
  left_has a live out = elim (plugged_either from below a (s.all a live)) [ inl h ↦ absurd (out h) | inr m ↦ around_has from bare a m ]

  -- the parent of a node that goes is the children's, or goes with it
  below_up : (b : Name) → Has b below → (p : Option Name) → parent_of l b ≡ p → (p ≡ parent_in from) ⊎ ((q : Name) × (p ≡ Some q) × Has q below)
  below_up b h p up =
      let k = placed b [] below h in let t = grove k.at k.below k.rest in
      let inside : StandsFor l (plugged (k.steps ++ from) t) = subst (λ z. StandsFor l z) (sym (plugged-append k.steps from t ∙ ap (plugged from) k.is)) s in
      by_parent k (parent_in k.steps) refl (sym up ∙ ap (parent_of l) (sym k.named) ∙ (links_at l (k.steps ++ from) k.at k.below k.rest inside).parent)
    where
      by_parent : (k : Place b below) (o : Option Name) → parent_in k.steps ≡ o → p ≡ parent_in (k.steps ++ from) → (p ≡ parent_in from) ⊎ ((q : Name) × (p ≡ Some q) × Has q below)
      by_parent k None e lead = inl (lead ∙ parent_top k.steps from e)
      by_parent k (Some q) e lead = inr (q, lead ∙ parent_within k.steps from q e, subst (λ z. Has q z) k.is (around_has k.steps (grove k.at k.below k.rest) q (parent_has k.steps q e)))

  -- what a parent and a child before which the children go must be
  pub record Remains (parent before : Option Name) : Type 0 where
    pub parent_live : ForSome parent (IsLive l.nodes)
    pub parent_stays : ForSome parent (λ a. Has a below → ⊥)
    pub parent_other : parent ≡ parent_in from → ⊥
    pub before_live : ForSome before (IsLive l.nodes)
    pub before_up : ForSome before (λ b. parent_of l b ≡ parent)

  pub child_place : (parent before : Option Name) → Remains parent before → New_place (plugged from bare) parent before
  child_place parent before k = by_before before parent k
    where
      lives : (a : Name) → Has a (plugged from bare) → IsLive l.nodes a
      lives a h = live_of l (plugged from below) s a (still_there a h)

      by_parent : (parent : Option Name) → Remains parent None → New_place (plugged from bare) parent None
      by_parent None k = root_end l.nodes s.sound (plugged from bare) left_once lives
      by_parent (Some a) k = node_end l.nodes s.sound (plugged from bare) left_once lives a (left_has a (k.parent_live a refl) (k.parent_stays a refl))

      by_before : (before parent : Option Name) → Remains parent before → New_place (plugged from bare) parent before
      by_before None parent k = by_parent parent k
      by_before (Some b) parent k =
          let live = k.before_live b refl in
          let out : Has b below → ⊥ = λ h. elim (below_up b h parent (k.before_up b refl)) [ inl e ↦ k.parent_other e | inr u ↦ k.parent_stays u.0 u.1 u.2 ] in
          let p = placed b [] (plugged from bare) (left_has b live out) in
          before_node l.nodes s.sound (plugged from bare) left_once lives parent b p
          (parent_kept l (is_forest l (plugged from below) s) cut (plugged from bare) cut_open (keeps_closed l (parent_in from) (prev_in from) None) (closed_parent l (parent_in from) (prev_in from) None) b live p ∙ k.before_up b refl)
