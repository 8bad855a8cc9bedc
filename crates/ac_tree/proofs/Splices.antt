-- Links that stand for a forest, after a node went to another place in it with all that is below it.
use Rattle.std.proofs.Common.{◌≡◌, ◌+◌, ◌⊎◌, List, [], Option, Some, None, refl, sym, ap, ◌∙◌, subst, inl, inr, arith}
use Rattle.std.specs.Option.{option_map}
use Rattle.ac_base.specs.declared.name.Name.{Name}
use Rattle.ac_base.specs.Rows.{Row}
use Rattle.ac_pool.specs.Contents.{value_of, IsLive, IsSound}
use Rattle.ac_pool.specs.Link.{name_in}
use Rattle.ac_pool.proofs.SlotNames.{linked_name}
use Rattle.ac_tree.specs.declared.links.Links.{Links}
use Rattle.ac_tree.specs.Forests.{Forest, bare, grove, Step, size, first_in, last_in, Has, Once, plugged, parent_in, prev_in}
use Rattle.ac_tree.specs.TreeFields.{linked, links, Stands, StandsFor, prev_link, parent_of, prev_of, next_of, prev_before, place_put, written_at, with_next, tied, closed}
use Rattle.ac_tree.specs.Splicing.{Moved}
use Rattle.ac_tree.proofs.Places.{IsAround, Parted, parted, joint, plugged_has, around_has, plugged_either, plugged_size}
use Rattle.ac_tree.proofs.Writes.{Keeps, keeps_then, keeps_at, keeps_next, keeps_prev, writes}
use Rattle.ac_tree.proofs.Standing.{Stands-live, Stands-same, Open, opened, shut, last_none, closed-open, closed-aside, tied-open}
use Rattle.ac_tree.proofs.Forests.{open_of, links_at, prev_has}
use Rattle.ac_tree.proofs.Inserting.{last_framed}

module _ {X : Type 0} where
  pub keeps_closed : (l : Links X) (p q n : Option Name) → Keeps l.nodes (closed l p q n).nodes
  keeps_closed l p q n = keeps_then l.nodes _ (closed l p q n).nodes (keeps_next l p q n) (keeps_prev (with_next l p q n) p n q)

  keeps_tied : (l : Links X) (p q n : Option Name) (a : Name) → Keeps l.nodes (tied l p q n a).nodes
  keeps_tied l p q n a = keeps_then l.nodes _ (tied l p q n a).nodes (keeps_next l p q (Some a)) (keeps_prev (with_next l p q (Some a)) p n (Some a))

  pub around_live : (l : Links X) (steps : List (Step X)) (t : Forest X) → Open l [] (plugged steps t) → (a : Name) → IsAround a steps → IsLive l.nodes a
  around_live l steps t o a h = Stands-live (value_of l.nodes) None None (plugged steps t) o.stands a (around_has steps t a h)

  -- the node before a place, where the links may have nodes besides
  pub prev_open : (l : Links X) → IsSound l.nodes → (steps : List (Step X)) (t : Forest X) → Open l [] (plugged steps t) → prev_before l (parent_in steps) (first_in t) ≡ prev_in steps
  prev_open l sound steps bare o =
      last_framed l sound steps None None (λ a e. around_live l steps bare o a (prev_has steps a (sym (last_none steps) ∙ e))) (opened l steps bare o).framed ∙ last_none steps
  prev_open l sound steps (grove x below rest) o =
      let t = grove x below rest in
      ap (λ n. name_in l.nodes (prev_link n)) (opened l steps t o).stands.0 ∙ linked_name l.nodes sound (prev_in steps) (λ a e. around_live l steps t o a (prev_has steps a e))

  module _ (l : Links X) (from to : List (Step X)) (x : Row Name X) (below rest t : Forest X) (s : StandsFor l (plugged from (grove x below rest))) (same : plugged to t ≡ plugged from rest) where
    -- the node is cut off, then has its new place, and is then led to from there
    abbrev cut_off : Links X
    cut_off = closed l (parent_in from) (prev_in from) (first_in rest)

    abbrev placed_there : Links X
    placed_there = links (written_at cut_off.nodes x.name (place_put (parent_in to) (prev_in to) (first_in t))) cut_off.first cut_off.last

    abbrev led_to : Links X
    led_to = tied placed_there (parent_in to) (prev_in to) (first_in t) x.name

    part : Parted from (grove x below rest)
    part = parted from (grove x below rest) s.once

    beside : (a : Name) → (a ≡ x.name) ⊎ Has a below → IsAround a from → ⊥
    beside a h m = elim h [ inl e ↦ part.apart a (inl e) m | inr b ↦ part.apart a (inr (inl b)) m ]

    not_left : (a : Name) → (a ≡ x.name) ⊎ Has a below → Has a rest → ⊥
    not_left a h r = elim h [ inl e ↦ part.once.1 (subst (λ z. Has z rest) e r) | inr b ↦ part.once.2 a b r ]

    pub outside : (a : Name) → (a ≡ x.name) ⊎ Has a below → Has a (plugged to t) → ⊥
    outside a h k = elim (plugged_either from rest a (subst (λ z. Has a z) same k)) [ inl r ↦ not_left a h r | inr m ↦ beside a h m ]

    kept : (a : Name) → (a ≡ x.name) ⊎ Has a below → value_of cut_off.nodes a ≡ value_of l.nodes a
    kept a h = closed-aside l from rest a (beside a h) (not_left a h)

    was_open : Open l from (grove x below rest)
    was_open = opened l from (grove x below rest) (open_of l (plugged from (grove x below rest)) s)

    pub cut_open : Open cut_off [] (plugged to t)
    cut_open = subst (λ z. Open cut_off [] z) (sym same) (shut cut_off from rest (closed-open l from x below rest part was_open))

    pub cut_keeps : Keeps l.nodes cut_off.nodes
    cut_keeps = keeps_closed l (parent_in from) (prev_in from) (first_in rest)

    cut_prev : prev_before cut_off (parent_in to) (first_in t) ≡ prev_in to
    cut_prev = prev_open cut_off (cut_keeps.sound s.sound) to t cut_open

    pub left_once : Once (plugged to t)
    left_once = subst (λ z. Once z) (sym same) (joint from rest (record { once = part.once.4; around = part.around; apart = λ a h m. part.apart a (inr (inr h)) m }))

    moved_part : Parted to (grove x below t)
    moved_part =
        let p = parted to t left_once in
        record {
          once = (part.once.0, (λ k. outside x.name (inl refl) (plugged_has to t x.name k)), (λ a b k. outside a (inr b) (plugged_has to t a k)), part.once.3, p.once);
          around = p.around;
          apart = λ a h m. elim h [
            | inl e ↦ outside a (inl e) (around_has to t a m)
            | inr q ↦ elim q [ inl b ↦ outside a (inr b) (around_has to t a m) | inr k ↦ p.apart a k m ]
          ];
        }

    placed_open : Open placed_there [] (plugged to t)
    placed_open =
        let w = writes cut_off.nodes x.name (place_put (parent_in to) (prev_in to) (first_in t)) in
        record {
          framed = cut_open.framed;
          stands = Stands-same (value_of cut_off.nodes) (value_of placed_there.nodes) None None (plugged to t) (λ a k. w.there a (λ e. outside a (inl e) k)) cut_open.stands;
        }

    placed_node : value_of placed_there.nodes x.name ≡ Some (linked x.value (parent_in to) (first_in below) (last_in below) (prev_in to) (first_in t))
    placed_node =
        let w = place_put (parent_in to) (prev_in to) (first_in t) in
        (writes cut_off.nodes x.name w).here ∙ ap (option_map w) (kept x.name (inl refl) ∙ was_open.stands.0)

    placed_below : Stands (value_of placed_there.nodes) (Some x.name) None below
    placed_below =
        let w = writes cut_off.nodes x.name (place_put (parent_in to) (prev_in to) (first_in t)) in
        Stands-same (value_of l.nodes) (value_of placed_there.nodes) (Some x.name) None below (λ a k. w.there a (λ e. part.once.0 (subst (λ z. Has z below) e k)) ∙ kept a (inr k)) was_open.stands.1

    keeps_all : Keeps l.nodes led_to.nodes
    keeps_all =
        keeps_then l.nodes cut_off.nodes led_to.nodes cut_keeps
        (keeps_then cut_off.nodes placed_there.nodes led_to.nodes (keeps_at cut_off.nodes x.name (place_put (parent_in to) (prev_in to) (first_in t))) (keeps_tied placed_there (parent_in to) (prev_in to) (first_in t) x.name))

    moved_stands : StandsFor led_to (plugged to (grove x below t))
    moved_stands =
        let u = grove x below t in
        let o = shut led_to to u (tied-open placed_there to x below t moved_part (opened placed_there to t placed_open) placed_node placed_below) in
        let more = plugged_size to t u (1 + size below) (omega arith) in let were = plugged_size from rest (grove x below rest) (1 + size below) (omega arith) in
        let left = ap size same in let count = s.count in let kept = keeps_all.count in
        record {
          framed = o.framed;
          stands = o.stands;
          once = joint to u moved_part;
          all = λ a h. elim (plugged_either from (grove x below rest) a (s.all a (sym (keeps_all.live a) ∙ h))) [
            | inl z ↦ elim z [
              | inl e ↦ plugged_has to u a (inl e)
              | inr q ↦ elim q [ inl b ↦ plugged_has to u a (inr (inl b)) | inr k ↦ still a (plugged_has from rest a k) ]
            ]
            | inr z ↦ still a (around_has from rest a z)
          ];
          count = omega (arith, more, were, left, count, kept);
          sound = keeps_all.sound s.sound;
        }
      where
        still : (a : Name) → Has a (plugged from rest) → Has a (plugged to (grove x below t))
        still a h = elim (plugged_either to t a (subst (λ z. Has a z) (sym same) h)) [
          | inl k ↦ plugged_has to (grove x below t) a (inr (inr k))
          | inr k ↦ around_has to (grove x below t) a k
        ]

    pub moved_is : (a : Name) (parent before : Option Name) → x.name ≡ a → parent ≡ parent_in to → before ≡ first_in t → (p q n last : Option Name) → p ≡ parent_of l a → q ≡ prev_of l a → n ≡ next_of l a
        → (u j m : Links X) → u ≡ closed l p q n → last ≡ prev_before u parent before → j ≡ links (written_at u.nodes a (place_put parent last before)) u.first u.last → m ≡ tied j parent last before a
        → Moved l m (plugged to (grove x below t))
    moved_is a parent before named pe be p q n last p_is q_is n_is u j m u_is last_is j_is m_is =
        let k = links_at l from x below rest s in let back = sym named in
        let pf : p ≡ parent_in from = p_is ∙ ap (parent_of l) back ∙ k.parent in
        let qf : q ≡ prev_in from = q_is ∙ ap (prev_of l) back ∙ k.prev in
        let nf : n ≡ first_in rest = n_is ∙ ap (next_of l) back ∙ k.next in
        let same_u : u ≡ cut_off = u_is ∙ (λ i. closed l (pf i) (qf i) (nf i)) in
        let lf : last ≡ prev_in to = last_is ∙ (λ i. prev_before (same_u i) (pe i) (be i)) ∙ cut_prev in
        let same_j : j ≡ placed_there = j_is ∙ (λ i. links (written_at (same_u i).nodes (back i) (place_put (pe i) (lf i) (be i))) (same_u i).first (same_u i).last) in
        let same_m : m ≡ led_to = m_is ∙ (λ i. tied (same_j i) (pe i) (lf i) (be i) (back i)) in
        subst (λ (z : Links X). Moved l z (plugged to (grove x below t))) (sym same_m) (record { stands = moved_stands; live = keeps_all.live; next = keeps_all.next; spare = keeps_all.spare })
