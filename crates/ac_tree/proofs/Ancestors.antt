-- A walk from a node upwards: the rows that are above it, and what a search among them has found so far.
use Rattle.std.proofs.Common.{◌≡◌, ◌≢◌, ℕ, ◌+◌, Bool, true, false, ◌&&◌, ◌||◌, List, [], ◌∷◌, ◌++◌, filter, reverse, Option, Some, None, refl, sym, ap, ◌∙◌, subst, inl, inr, arith, eq-eqb, ne_eqb, eqb-true, append-nil}
use Rattle.std.specs.Prelude.{◌==◌}
use Rattle.std.specs.Option.{ForSome, option_map}
use Rattle.std.proofs.lemmas.Bool.{cond-true, cond-false, cases_Bool}
use Rattle.std.proofs.lemmas.List.{reverse-append}
use Rattle.std.proofs.lemmas.List.Elements.{filter-append}
use Rattle.ac_base.specs.declared.name.Name.{Name}
use Rattle.ac_base.specs.Rows.{Row, row}
use Rattle.ac_pool.specs.Contents.{value_of, IsLive}
use Rattle.ac_chain.proofs.Searches.{some_value}
use Rattle.ac_model.specs.Rows.{Node, node}
use Rattle.ac_model.specs.Objects.{plains}
use Rattle.ac_model.specs.Outline.{Spot, root, spots, path_to, is_in, is_in_subtree}
use Rattle.ac_tree.specs.declared.links.TreeNode.{TreeNode}
use Rattle.ac_tree.specs.declared.links.Links.{Links}
use Rattle.ac_tree.specs.Forests.{Forest, bare, grove, Step, under, after, outline, Has, plugged, parent_in, depth_in, before_in, after_in}
use Rattle.ac_tree.specs.TreeFields.{StandsFor, forest_in, IsForest, parent_of}
use Rattle.ac_tree.specs.TreeCursors.{serial_in}
use Rattle.ac_tree.specs.Searching.{found_in, rows_up}
use Rattle.ac_tree.proofs.Places.{parted, plugged_has, around_has, outline_plugged}
use Rattle.ac_tree.proofs.Forests.{live_of, forest-is, parent_has}
use Rattle.ac_tree.proofs.Outlines.{seen, seen-append, forest_out, position_run, node_position}
use Rattle.ac_tree.proofs.Holes.{in_middle}
use Rattle.ac_tree.proofs.Looking.{alone_at, at_place}
use Rattle.ac_tree.proofs.Searching.{hit_first, missed_first}

pub in-append : (n : ℕ) (xs ys : List Spot) → is_in n (xs ++ ys) ≡ (is_in n xs || is_in n ys)
in-append n [] ys = refl
in-append n (x ∷ xs) ys = ap (λ b. (x.name == n) || b) (in-append n xs ys) ∙ or_assoc (x.name == n) (is_in n xs) (is_in n ys)
  where
    or_assoc : (a b c : Bool) → (a || (b || c)) ≡ ((a || b) || c)
    or_assoc true b c = refl
    or_assoc false b c = refl

-- what is kept by names is in the list, and kept
pub filter_in : (p : ℕ → Bool) (n : ℕ) (all : List Spot) → is_in n (filter (λ (s : Spot). p s.name) all) ≡ (is_in n all && p n)
filter_in p n [] = refl
filter_in p n (s ∷ all) = elim (cases_Bool (s.name == n)) [
  | inl t ↦ let same : p s.name ≡ p n = ap p (eqb-true s.name n t) in elim (cases_Bool (p s.name)) [
    | inl kept ↦ ap (is_in n) (cond-true _ _ _ kept) ∙ ap (λ b. b || is_in n (filter (λ (q : Spot). p q.name) all)) t ∙ sym ((λ i. (t i || is_in n all) && (sym same ∙ kept) i))
    | inr gone ↦ ap (is_in n) (cond-false _ _ _ gone) ∙ filter_in p n all ∙ ap (λ b. is_in n all && b) (sym same ∙ gone) ∙ and_false (is_in n all) ∙ sym (λ i. (t i || is_in n all) && (sym same ∙ gone) i)
  ]
  | inr f ↦ elim (cases_Bool (p s.name)) [
    | inl kept ↦ ap (is_in n) (cond-true _ _ _ kept) ∙ ap (λ b. b || is_in n (filter (λ (q : Spot). p q.name) all)) f ∙ filter_in p n all ∙ sym (ap (λ b. (b || is_in n all) && p n) f)
    | inr gone ↦ ap (is_in n) (cond-false _ _ _ gone) ∙ filter_in p n all ∙ sym (ap (λ b. (b || is_in n all) && p n) f)
  ]
]
  where
    and_false : (b : Bool) → (b && false) ≡ false
    and_false true = refl
    and_false false = refl

module _ {X : Type 0} where
  pub has_in : (a : Name) (depth : ℕ) (t : Forest X) → Has a t → is_in a.serial (seen (outline depth t)) ≡ true
  has_in a depth bare h = absurd h
  has_in a depth (grove x below rest) h =
      let both : is_in a.serial (seen (outline (depth + 1) below ++ outline depth rest)) ≡ (is_in a.serial (seen (outline (depth + 1) below)) || is_in a.serial (seen (outline depth rest))) =
      ap (is_in a.serial) (seen-append (outline (depth + 1) below) (outline depth rest)) ∙ in-append a.serial (seen (outline (depth + 1) below)) (seen (outline depth rest)) in
      elim h [
        | inl e ↦ ap (λ b. b || is_in a.serial (seen (outline (depth + 1) below ++ outline depth rest))) (eq-eqb x.name.serial a.serial (ap (λ (n : Name). n.serial) (sym e)))
        | inr k ↦ later (x.name.serial == a.serial) (is_in a.serial (seen (outline (depth + 1) below ++ outline depth rest))) (both ∙ elim k [
          | inl p ↦ ap (λ b. b || is_in a.serial (seen (outline depth rest))) (has_in a (depth + 1) below p)
          | inr q ↦ later (is_in a.serial (seen (outline (depth + 1) below))) (is_in a.serial (seen (outline depth rest))) (has_in a depth rest q)
        ])
      ]
    where
      later : (b c : Bool) → c ≡ true → (b || c) ≡ true
      later true c e = refl
      later false c e = e

  -- the rows above a place, from the top down
  abbrev pub line_in : List (Step X) → List (Row Name (Node X))
  line_in [] = []
  line_in (under x rest ∷ steps) = line_in steps ++ row x.name (node (depth_in steps) x.value) ∷ []
  line_in (after x below ∷ steps) = line_in steps

module _ {X : Type 0} (l : Links X) where
  -- whether a row is on the path to the node with this serial
  abbrev on_path : ℕ → Row Name (Node X) → Bool
  on_path n r = is_in r.name.serial (path_to (plains (outline 2 (forest_in l))) n)

  -- the test of a row, at its place
  test_at : (n : ℕ) (steps : List (Step X)) (x : Row Name X) (below rest : Forest X) → StandsFor l (plugged steps (grove x below rest))
      → on_path n (row x.name (node (depth_in steps) x.value)) ≡ ((n == x.name.serial) || is_in n (seen (outline (depth_in steps + 1) below)))
  test_at n steps x below rest s =
      let t = grove x below rest in let rows = outline 2 (plugged steps t) in let m = x.name.serial in
      let q = row x.name (node (depth_in steps) x.value) in
      let tail = (outline (depth_in steps + 1) below ++ outline (depth_in steps) rest) ++ after_in steps in
      let among : is_in m (spots (plains rows)) ≡ true =
      ap (λ z. is_in m (root ∷ z)) (ap seen (outline_plugged steps t) ∙ seen-append (before_in steps) (q ∷ tail)) ∙ in_middle (root ∷ seen (before_in steps)) (record { depth = depth_in steps; name = m }) (seen tail) in
      ap (λ z. is_in m (path_to (plains (outline 2 z)) n)) (forest-is l (plugged steps t) s)
      ∙ filter_in (λ k. is_in_subtree (plains rows) k n) m (spots (plains rows))
      ∙ ap (λ b. b && is_in_subtree (plains rows) m n) among
      ∙ ap (λ run. (n == m) || is_in n run) (position_run rows m (depth_in steps) below (node_position steps x below rest (alone_at l steps x below rest s)))

  on_part : (n : ℕ) (xs ys : List (Row Name (Node X))) (us vs : List (Row Name (Node X))) → filter (on_path n) xs ≡ us → filter (on_path n) ys ≡ vs → filter (on_path n) (xs ++ ys) ≡ us ++ vs
  on_part n xs ys us vs p q = filter-append (on_path n) xs ys ∙ (λ i. p i ++ q i)

  -- no row of a part without the node is on the path
  none_on : (n : ℕ) (steps : List (Step X)) (t : Forest X) → StandsFor l (plugged steps t) → ((a : Name) → Has a t → a.serial ≢ n) → filter (on_path n) (outline (depth_in steps) t) ≡ []
  none_on n steps bare s other = refl
  none_on n steps (grove x below rest) s other =
      let d = depth_in steps in
      let test : on_path n (row x.name (node d x.value)) ≡ false =
      test_at n steps x below rest s ∙ ap (λ b. b || is_in n (seen (outline (d + 1) below))) (ne_eqb n x.name.serial (λ e. other x.name (inl refl) (sym e))) ∙ forest_out n (d + 1) below (λ a h. other a (inr (inl h))) in
      cond-false _ _ _ test
      ∙ on_part n (outline (d + 1) below) (outline d rest) [] [] (none_on n (under x rest ∷ steps) below s (λ a h. other a (inr (inl h)))) (none_on n (after x below ∷ steps) rest s (λ a h. other a (inr (inr h))))

  -- a name at the place has a serial of its own
  apart_from : (steps : List (Step X)) (t : Forest X) → StandsFor l (plugged steps t) → (a b : Name) → Has a (plugged steps t) → Has b (plugged steps t) → (b ≡ a → ⊥) → b.serial ≢ a.serial
  apart_from steps t s a b ha hb ne e = ne (s.sound.serials b a (live_of l (plugged steps t) s b hb) (live_of l (plugged steps t) s a ha) e)

  -- of the rows before a place with the node, those above it
  before_line : (steps : List (Step X)) (t : Forest X) → StandsFor l (plugged steps t) → (a : Name) → Has a t → filter (on_path a.serial) (before_in steps) ≡ line_in steps
  before_line [] t s a h = refl
  before_line (under x rest ∷ steps) t s a h =
      let d = depth_in steps in let r = row x.name (node d x.value) in
      let test : on_path a.serial r ≡ true = test_at a.serial steps x t rest s ∙ ap (λ b. (a.serial == x.name.serial) || b) (has_in a (d + 1) t h) ∙ or_true (a.serial == x.name.serial) in
      on_part a.serial (before_in steps) (r ∷ []) (line_in steps) (r ∷ []) (before_line steps (grove x t rest) s a (inr (inl h))) (cond-true _ _ _ test)
    where
      or_true : (b : Bool) → (b || true) ≡ true
      or_true true = refl
      or_true false = refl
  before_line (after x below ∷ steps) t s a h =
      let d = depth_in steps in let r = row x.name (node d x.value) in let g = grove x below t in
      let once = (parted steps g s.once).once in
      let inside = λ (b : Name) (k : Has b g). plugged_has steps g b k in
      let out : (b : Name) → Has b below → b.serial ≢ a.serial =
      λ b k. apart_from steps g s a b (inside a (inr (inr h))) (inside b (inr (inl k))) (λ e. once.2 b k (subst (λ z. Has z t) (sym e) h)) in
      let self : a.serial ≢ x.name.serial = λ e. apart_from steps g s a x.name (inside a (inr (inr h))) (inside x.name (inl refl)) (λ q. once.1 (subst (λ z. Has z t) (sym q) h)) (sym e) in
      let test : on_path a.serial r ≡ false = test_at a.serial steps x below t s ∙ ap (λ b. b || is_in a.serial (seen (outline (d + 1) below))) (ne_eqb a.serial x.name.serial self) ∙ forest_out a.serial (d + 1) below out in
      on_part a.serial (before_in steps) (r ∷ outline (d + 1) below) (line_in steps) [] (before_line steps g s a (inr (inr h))) (cond-false _ _ _ test ∙ none_on a.serial (under x t ∷ steps) below s out)
      ∙ append-nil (line_in steps)

  -- none of those after it
  after_line : (steps : List (Step X)) (t : Forest X) → StandsFor l (plugged steps t) → (a : Name) → Has a t → filter (on_path a.serial) (after_in steps) ≡ []
  after_line [] t s a h = refl
  after_line (under x rest ∷ steps) t s a h =
      let g = grove x t rest in let once = (parted steps g s.once).once in
      let out : (b : Name) → Has b rest → b.serial ≢ a.serial =
      λ b k. apart_from steps g s a b (plugged_has steps g a (inr (inl h))) (plugged_has steps g b (inr (inr k))) (λ e. once.2 a h (subst (λ z. Has z rest) e k)) in
      on_part a.serial (outline (depth_in steps) rest) (after_in steps) [] [] (none_on a.serial (after x t ∷ steps) rest s out) (after_line steps g s a (inr (inl h)))
  after_line (after x below ∷ steps) t s a h = after_line steps (grove x below t) s a (inr (inr h))

  -- the path to a node
  path_rows : (steps : List (Step X)) (x : Row Name X) (below rest : Forest X) → StandsFor l (plugged steps (grove x below rest))
      → filter (on_path x.name.serial) (outline 2 (forest_in l)) ≡ line_in steps ++ row x.name (node (depth_in steps) x.value) ∷ []
  path_rows steps x below rest s =
      let d = depth_in steps in let r = row x.name (node d x.value) in let n = x.name.serial in let g = grove x below rest in
      let once = (parted steps g s.once).once in
      let self = λ (b : Name) (k : Has b g) (ne : b ≡ x.name → ⊥). apart_from steps g s x.name b (plugged_has steps g x.name (inl refl)) (plugged_has steps g b k) ne in
      let test : on_path n r ≡ true = test_at n steps x below rest s ∙ ap (λ b. b || is_in n (seen (outline (d + 1) below))) (eq-eqb n n refl) in
      let low = none_on n (under x rest ∷ steps) below s (λ b k. self b (inr (inl k)) (λ e. once.0 (subst (λ z. Has z below) e k))) in
      let side = none_on n (after x below ∷ steps) rest s (λ b k. self b (inr (inr k)) (λ e. once.1 (subst (λ z. Has z rest) e k))) in
      let here : filter (on_path n) (outline d g) ≡ r ∷ [] = cond-true _ _ _ test ∙ ap (λ z. r ∷ z) (on_part n (outline (d + 1) below) (outline d rest) [] [] low side) in
      ap (filter (on_path n)) (ap (outline 2) (forest-is l (plugged steps g) s) ∙ outline_plugged steps g)
      ∙ on_part n (before_in steps) (outline d g ++ after_in steps) (line_in steps) (r ∷ []) (before_line steps g s x.name (inl refl)) (on_part n (outline d g) (after_in steps) (r ∷ []) [] here (after_line steps g s x.name (inl refl)))

  pub root_up : IsForest l → rows_up (outline 2 (forest_in l)) 0 ≡ []
  root_up s = ap reverse (none_on 0 [] (forest_in l) s (λ a h e. let low = (s.sound.issued a (live_of l (forest_in l) s a h)).0 in omega (arith, e, low)))

  -- upwards from a place
  line_up : IsForest l → (steps : List (Step X)) (t : Forest X) → StandsFor l (plugged steps t) → reverse (line_in steps) ≡ rows_up (outline 2 (forest_in l)) (serial_in (parent_in steps))
  line_up f [] t s = sym (root_up f)
  line_up f (under x rest ∷ steps) t s = ap reverse (sym (path_rows steps x t rest s))
  line_up f (after x below ∷ steps) t s = line_up f steps (grove x below t) s

  -- a node, and then those above its parent's
  pub record Met_up (a : Name) : Type 0 where
    pub at : Row Name (Node X)
    pub is : rows_up (outline 2 (forest_in l)) a.serial ≡ at ∷ rows_up (outline 2 (forest_in l)) (serial_in (parent_of l a))
    pub named : at.name ≡ a
    pub value : option_map (λ (n : TreeNode X). n.value) (value_of l.nodes a) ≡ Some at.value.element
    pub live : ForSome (parent_of l a) (IsLive l.nodes)

  pub met_up : IsForest l → (a : Name) → IsLive l.nodes a → Met_up a
  met_up s a live =
      let k = at_place l s a live in let q = row k.at.name (node (depth_in k.steps) k.at.value) in let t = grove k.at k.below k.rest in
      let all = outline 2 (forest_in l) in
      let up : parent_of l a ≡ parent_in k.steps = ap (parent_of l) (sym k.named) ∙ k.links.parent in
      record {
        at = q;
        is = ap (λ (n : Name). rows_up all n.serial) (sym k.named) ∙ ap reverse (path_rows k.steps k.at k.below k.rest k.stands) ∙ reverse-append (line_in k.steps) (q ∷ [])
            ∙ ap (λ z. q ∷ z) (line_up s k.steps t k.stands ∙ ap (λ p. rows_up all (serial_in p)) (sym up));
        named = k.named;
        value = ap (λ n. option_map (λ (m : TreeNode X). m.value) (value_of l.nodes n)) (sym k.named) ∙ ap (option_map (λ (m : TreeNode X). m.value)) k.links.node;
        live = λ b e. live_of l (plugged k.steps t) k.stands b (around_has k.steps t b (parent_has k.steps b (sym up ∙ e)));
      }

  -- nothing was found so far: this one and those above it decide
  pub record Rising (same : X → X → Bool) (e : X) (wanted place : Option Name) : Type 0 where
    pub live : ForSome place (IsLive l.nodes)
    pub found : found_in same e (rows_up (outline 2 (forest_in l)) (serial_in place)) ≡ wanted

  module _ (s : IsForest l) (same : X → X → Bool) (e : X) (wanted place : Option Name) (k : Rising same e wanted place) (name : Name) (at : place ≡ Some name) where
    here : found_in same e (rows_up (outline 2 (forest_in l)) name.serial) ≡ wanted
    here = ap (λ p. found_in same e (rows_up (outline 2 (forest_in l)) (serial_in p))) (sym at) ∙ k.found

    pub rise_hit : (v : X) → option_map (λ (n : TreeNode X). n.value) (value_of l.nodes name) ≡ Some v → (r : Bool) → r ≡ same v e → r ≡ true → Some name ≡ wanted
    rise_hit v is r test hit =
        let t = met_up s name (k.live name at) in
        let equal : same t.at.value.element e ≡ true = ap (λ w. same w e) (some_value t.at.value.element v (sym t.value ∙ is)) ∙ sym test ∙ hit in
        ap Some (sym t.named) ∙ sym (hit_first same e t.at (rows_up (outline 2 (forest_in l)) (serial_in (parent_of l name))) equal) ∙ ap (found_in same e) (sym t.is) ∙ here

    pub rise_more : (v : X) → option_map (λ (n : TreeNode X). n.value) (value_of l.nodes name) ≡ Some v → (r : Bool) → r ≡ same v e → r ≡ false → (next : Option Name) → next ≡ parent_of l name → Rising same e wanted next
    rise_more v is r test miss next up =
        let t = met_up s name (k.live name at) in
        let differs : same t.at.value.element e ≡ false = ap (λ w. same w e) (some_value t.at.value.element v (sym t.value ∙ is)) ∙ sym test ∙ miss in
        record {
          live = λ b q. t.live b (sym up ∙ q);
          found = ap (λ p. found_in same e (rows_up (outline 2 (forest_in l)) (serial_in p))) up
              ∙ sym (missed_first same e t.at (rows_up (outline 2 (forest_in l)) (serial_in (parent_of l name))) differs) ∙ ap (found_in same e) (sym t.is) ∙ here;
        }

  pub rise_end : IsForest l → (same : X → X → Bool) (e : X) (wanted place : Option Name) → Rising same e wanted place → place ≡ None → None ≡ wanted
  rise_end s same e wanted place k none =
      ap (found_in same e) (sym (root_up s)) ∙ ap (λ p. found_in same e (rows_up (outline 2 (forest_in l)) (serial_in p))) (sym none) ∙ k.found
