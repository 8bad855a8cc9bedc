-- A walk upwards that asks whether it meets a node.
use Rattle.std.proofs.Common.{◌≡◌, ℕ, Bool, true, false, ◌&&◌, ◌||◌, List, [], ◌∷◌, filter, reverse, Option, Some, None, refl, sym, ap, ◌∙◌, ◌+◌, inl, inr, eq-eqb, ne_eqb}
use Rattle.std.specs.Prelude.{◌==◌}
use Rattle.std.proofs.Common.{is_some, arith, subst}
use Rattle.std.specs.Option.{ForSome}
use Rattle.std.proofs.lemmas.Bool.{cond-true, cond-false, cases_Bool}
use Rattle.std.proofs.lemmas.List.{reverse-append}
use Rattle.ac_base.specs.declared.name.Name.{Name}
use Rattle.ac_base.specs.Rows.{Row}
use Rattle.ac_pool.specs.Contents.{IsLive}
use Rattle.ac_model.specs.Rows.{Node}
use Rattle.ac_model.specs.Objects.{plains}
use Rattle.ac_model.specs.Outline.{Spot, spots, path_to, is_in, is_in_subtree, run_of}
use Rattle.ac_tree.specs.declared.links.Links.{Links}
use Rattle.ac_tree.specs.Forests.{grove, outline, plugged, depth_in, Has}
use Rattle.ac_tree.specs.TreeFields.{forest_in, IsForest, parent_of}
use Rattle.ac_tree.specs.TreeCursors.{serial_in}
use Rattle.ac_tree.specs.Searching.{rows_up}
use Rattle.ac_tree.proofs.Places.{parted, plugged_has}
use Rattle.ac_tree.proofs.Forests.{live_of}
use Rattle.ac_tree.proofs.Outlines.{seen, seen-append, forest_out, root_position, node_position, position_run}
use Rattle.ac_tree.proofs.Looking.{at_place}
use Rattle.ac_tree.proofs.Ancestors.{in-append, filter_in, has_in, root_up, met_up}

or_true : (b : Bool) → (b || true) ≡ true
or_true true = refl
or_true false = refl

or_swapped : (a b : Bool) → (a || (b || false)) ≡ (b || a)
or_swapped true true = refl
or_swapped true false = refl
or_swapped false true = refl
or_swapped false false = refl

module _ {X : Type 0} where
  seen_filter : (p : ℕ → Bool) (rows : List (Row Name (Node X))) → seen (filter (λ (r : Row Name (Node X)). p r.name.serial) rows) ≡ filter (λ (s : Spot). p s.name) (seen rows)
  seen_filter p [] = refl
  seen_filter p (r ∷ rows) = elim (cases_Bool (p r.name.serial)) [
    | inl t ↦ ap seen (cond-true _ _ _ t) ∙ ap (λ z. record { depth = r.value.depth; name = r.name.serial } ∷ z) (seen_filter p rows) ∙ sym (cond-true _ _ _ t)
    | inr f ↦ ap seen (cond-false _ _ _ f) ∙ seen_filter p rows ∙ sym (cond-false _ _ _ f)
  ]

  in_reverse : (n : ℕ) (rows : List (Row Name (Node X))) → is_in n (seen (reverse rows)) ≡ is_in n (seen rows)
  in_reverse n [] = refl
  in_reverse n (r ∷ rows) =
      ap (λ z. is_in n (seen z)) (reverse-append (r ∷ []) rows) ∙ ap (is_in n) (seen-append (reverse rows) (r ∷ [])) ∙ in-append n (seen (reverse rows)) (seen (r ∷ []))
      ∙ ap (λ b. b || ((r.name.serial == n) || false)) (in_reverse n rows) ∙ or_swapped (is_in n (seen rows)) (r.name.serial == n)

  -- a row is on the way up from a node just where the node is in its subtree
  on_way : (rows : List (Row Name (Node X))) (top n : ℕ) → is_in top (seen rows) ≡ true → is_in top (seen (rows_up rows n)) ≡ is_in_subtree (plains rows) top n
  on_way rows top n there =
      let path = path_to (plains rows) n in
      in_reverse top (filter (λ (r : Row Name (Node X)). is_in r.name.serial path) rows)
      ∙ ap (is_in top) (seen_filter (λ k. is_in k path) rows)
      ∙ filter_in (λ k. is_in k path) top (seen rows)
      ∙ ap (λ b. b && is_in top path) there
      ∙ filter_in (λ k. is_in_subtree (plains rows) k n) top (spots (plains rows))
      ∙ ap (λ b. b && is_in_subtree (plains rows) top n) (ap (λ b. (0 == top) || b) there ∙ or_true (0 == top))

module _ {X : Type 0} (l : Links X) where
  -- whether the top is met from the place upwards is what is asked
  pub record Climbing (top : Name) (wanted : Bool) (place : Option Name) : Type 0 where
    pub live : ForSome place (IsLive l.nodes)
    pub found : is_in top.serial (seen (rows_up (outline 2 (forest_in l)) (serial_in place))) ≡ wanted

  pub within_start : IsForest l → (top : Name) → IsLive l.nodes top → (node : Option Name) → ForSome node (IsLive l.nodes) → Climbing top (is_in_subtree (plains (outline 2 (forest_in l))) top.serial (serial_in node)) node
  within_start s top lives node live = record { live = live; found = on_way (outline 2 (forest_in l)) top.serial (serial_in node) (has_in top 2 (forest_in l) (s.all top lives)) }

  module _ (s : IsForest l) (top : Name) (lives : IsLive l.nodes top) (wanted : Bool) (place : Option Name) (k : Climbing top wanted place) (name : Name) (at : place ≡ Some name) where
    here : is_in top.serial (seen (rows_up (outline 2 (forest_in l)) name.serial)) ≡ wanted
    here = ap (λ p. is_in top.serial (seen (rows_up (outline 2 (forest_in l)) (serial_in p)))) (sym at) ∙ k.found

    pub within_hit : place ≡ Some top → true ≡ wanted
    within_hit hit =
        let t = met_up l s top lives in
        sym (ap (λ b. b || is_in top.serial (seen (rows_up (outline 2 (forest_in l)) (serial_in (parent_of l top))))) (eq-eqb t.at.name.serial top.serial (ap (λ (n : Name). n.serial) t.named)))
        ∙ ap (λ z. is_in top.serial (seen z)) (sym t.is) ∙ ap (λ p. is_in top.serial (seen (rows_up (outline 2 (forest_in l)) (serial_in p)))) (sym hit) ∙ k.found

    pub within_more : (place ≡ Some top → ⊥) → (next : Option Name) → next ≡ parent_of l name → Climbing top wanted next
    within_more miss next up =
        let live = k.live name at in let t = met_up l s name live in
        let other : (t.at.name.serial == top.serial) ≡ false = ne_eqb t.at.name.serial top.serial (λ e. miss (at ∙ ap Some (s.sound.serials name top live lives (ap (λ (n : Name). n.serial) (sym t.named) ∙ e)))) in
        record {
          live = λ b q. t.live b (sym up ∙ q);
          found = ap (λ p. is_in top.serial (seen (rows_up (outline 2 (forest_in l)) (serial_in p)))) up
              ∙ sym (ap (λ b. b || is_in top.serial (seen (rows_up (outline 2 (forest_in l)) (serial_in (parent_of l name))))) other)
              ∙ ap (λ z. is_in top.serial (seen z)) (sym t.is) ∙ here;
        }

  pub within_end : IsForest l → (top : Name) (wanted : Bool) (place : Option Name) → Climbing top wanted place → place ≡ None → false ≡ wanted
  within_end s top wanted place k none =
      ap (λ z. is_in top.serial (seen z)) (sym (root_up l s)) ∙ ap (λ p. is_in top.serial (seen (rows_up (outline 2 (forest_in l)) (serial_in p)))) (sym none) ∙ k.found

  root_run : run_of (plains (outline 2 (forest_in l))) 0 ≡ seen (outline 2 (forest_in l))
  root_run = position_run (outline 2 (forest_in l)) 0 1 (forest_in l) (root_position (forest_in l))

  -- below the root is every node but the root
  pub under_root : IsForest l → (node : Option Name) → ForSome node (IsLive l.nodes) → is_some node ≡ is_in (serial_in node) (run_of (plains (outline 2 (forest_in l))) 0)
  under_root s None live = sym (ap (is_in 0) root_run ∙ forest_out 0 2 (forest_in l) (λ a h e. let low = (s.sound.issued a (live_of l (forest_in l) s a h)).0 in omega (arith, e, low)))
  under_root s (Some a) live = sym (ap (is_in a.serial) root_run ∙ has_in a 2 (forest_in l) (s.all a (live a refl)))

  -- a node isn't below itself
  pub under_itself : IsForest l → (top : Name) → IsLive l.nodes top → is_in top.serial (run_of (plains (outline 2 (forest_in l))) top.serial) ≡ false
  under_itself s top live =
      let k = at_place l s top live in let t = grove k.at k.below k.rest in let rows = outline 2 (plugged k.steps t) in let x = k.at.name.serial in
      (λ i. is_in (sym k.named i).serial (run_of (plains (outline 2 (sym k.is i))) (sym k.named i).serial))
      ∙ ap (is_in x) (position_run rows x (depth_in k.steps) k.below (node_position k.steps k.at k.below k.rest k.alone))
      ∙ forest_out x (depth_in k.steps + 1) k.below (λ a h e.
      let inside = live_of l (plugged k.steps t) k.stands a (plugged_has k.steps t a (inr (inl h))) in
      let here = live_of l (plugged k.steps t) k.stands k.at.name (plugged_has k.steps t k.at.name (inl refl)) in
      (parted k.steps t k.stands.once).once.0 (subst (λ n. Has n k.below) (s.sound.serials a k.at.name inside here e) h))

  -- and another node is below it where it is in its subtree
  pub under_other : IsForest l → (top : Name) → IsLive l.nodes top → (node : Option Name) → ForSome node (IsLive l.nodes) → (node ≡ Some top → ⊥) → (b : Bool) → b ≡ is_in_subtree (plains (outline 2 (forest_in l))) top.serial (serial_in node)
      → b ≡ is_in (serial_in node) (run_of (plains (outline 2 (forest_in l))) top.serial)
  under_other s top lives node live other b is = is ∙ ap (λ z. z || is_in (serial_in node) (run_of (plains (outline 2 (forest_in l))) top.serial)) (ne_eqb (serial_in node) top.serial (λ e. by_node node live other e))
    where
      by_node : (node : Option Name) → ForSome node (IsLive l.nodes) → (node ≡ Some top → ⊥) → serial_in node ≡ top.serial → ⊥
      by_node None live other e = let low = (s.sound.issued top lives).0 in omega (arith, e, low)
      by_node (Some a) live other e = other (ap Some (s.sound.serials a top (live a refl) lives e))
