-- A forest's rows as an outline: where a node's run is, its depth, its children, its parent and its siblings.
use Rattle.std.proofs.Common.{◌≡◌, ◌≢◌, ℕ, suc, ◌+◌, ◌<◌, ◌≤◌, true, false, ◌||◌, List, [], ◌∷◌, ◌++◌, length, reverse, filter, find, Option, Some, None, refl, sym, ap, ◌∙◌, subst, inl, inr, arith, eq-eqb, ne_eqb, append-nil, append_assoc}
use Rattle.std.specs.Prelude.{◌==◌, map, slice_get}
use Rattle.std.specs.Option.{option_map}
use Rattle.std.proofs.lemmas.Bool.{cond-true}
use Rattle.std.proofs.lemmas.List.{reverse-append, map-append, length-map}
use Rattle.std.proofs.lemmas.List.Elements.{filter-append}
use Rattle.ac_base.specs.declared.name.Name.{Name}
use Rattle.ac_base.specs.Rows.{Row, row}
use Rattle.ac_model.specs.Rows.{Node, node}
use Rattle.ac_model.specs.Objects.{plains, plain_row}
use Rattle.ac_model.specs.Outline.{Spot, root, spot, spots, depth_of, run_of, children_of, parent_of, siblings_of, siblings_by, run_start, next_after, last_before, is_in, is_outline, follows, depths}
use Rattle.ac_model.proofs.Depths.{follows_from, follows_both, ends, ends_from, AllFrom}
use Rattle.ac_tree.specs.Forests.{Forest, bare, grove, Step, under, after, outline, first_in, last_in, or_name, Has, plugged, prev_in, depth_in, before_in, after_in}
use Rattle.ac_tree.proofs.Places.{IsAround, outline_plugged}
use Rattle.ac_tree.proofs.Spots.{Deep, Shallow, deep-append, out-append, Spotted, spot_at, depth_is, run_is, children_are, parent_is, next_is, last_is, find_past, filter_deep}

abbrev pub at_depth : ℕ → ℕ → Spot
at_depth depth name = record { depth = depth; name = name }

-- the names of the spots that are found
abbrev pub serial_of : Option Name → Option ℕ
serial_of o = option_map (λ (a : Name). a.serial) o

abbrev pub spot_name : Option Spot → Option ℕ
spot_name o = option_map (λ (s : Spot). s.name) o

module _ {X : Type 0} where
  -- the spots of rows with slots
  abbrev pub seen : List (Row Name (Node X)) → List Spot
  seen rows = map spot (plains rows)

  pub seen-append : (xs ys : List (Row Name (Node X))) → seen (xs ++ ys) ≡ seen xs ++ seen ys
  seen-append xs ys = ap (map spot) (map-append plain_row xs ys) ∙ map-append spot (plains xs) (plains ys)

  -- the topmost rows
  abbrev pub tops : ℕ → Forest X → List Spot
  tops depth bare = []
  tops depth (grove x below rest) = at_depth depth x.name.serial ∷ tops depth rest

  pub outline_deep : (d depth : ℕ) (t : Forest X) → d < depth → Deep d (seen (outline depth t))
  outline_deep d depth bare lt = tt
  outline_deep d depth (grove x below rest) lt =
      (lt, subst (λ k. Deep d k) (sym (seen-append (outline (depth + 1) below) (outline depth rest))) (deep-append d (seen (outline (depth + 1) below)) (seen (outline depth rest)) (outline_deep d (depth + 1) below (omega arith)) (outline_deep d depth rest lt)))

  tops_are : (depth : ℕ) (t : Forest X) → filter (λ q. q.depth == depth) (seen (outline depth t)) ≡ tops depth t
  tops_are depth bare = refl
  tops_are depth (grove x below rest) =
      cond-true _ _ _ (eq-eqb depth depth refl)
      ∙ ap (λ k. at_depth depth x.name.serial ∷ filter (λ q. q.depth == depth) k) (seen-append (outline (depth + 1) below) (outline depth rest))
      ∙ ap (λ k. at_depth depth x.name.serial ∷ k) (filter-append (λ (q : Spot). q.depth == depth) (seen (outline (depth + 1) below)) (seen (outline depth rest))
      ∙ (λ i. filter_deep depth (seen (outline (depth + 1) below)) (outline_deep depth (depth + 1) below (omega arith)) i ++ tops_are depth rest i))

  rest_shallow : (d depth : ℕ) (rest : Forest X) (steps : List (Step X)) → depth ≤ d → Shallow d (seen (after_in steps)) → Shallow d (seen (outline depth rest ++ after_in steps))
  rest_shallow d depth bare steps le later = later
  rest_shallow d depth (grove x below rest) steps le later = le

  after_shallow : (d : ℕ) (steps : List (Step X)) → depth_in steps ≤ d → Shallow d (seen (after_in steps))
  after_shallow d [] at = tt
  after_shallow d (under x rest ∷ steps) at = rest_shallow d (depth_in steps) rest steps (omega arith) (after_shallow d steps (omega arith))
  after_shallow d (after x below ∷ steps) at = after_shallow d steps at

  pub forest_out : (n depth : ℕ) (t : Forest X) → ((a : Name) → Has a t → a.serial ≢ n) → is_in n (seen (outline depth t)) ≡ false
  forest_out n depth bare other = refl
  forest_out n depth (grove x below rest) other =
      ap (λ b. b || is_in n (seen (outline (depth + 1) below ++ outline depth rest))) (ne_eqb x.name.serial n (other x.name (inl refl)))
      ∙ ap (is_in n) (seen-append (outline (depth + 1) below) (outline depth rest))
      ∙ out-append n (seen (outline (depth + 1) below)) (seen (outline depth rest)) (forest_out n (depth + 1) below (λ a h. other a (inr (inl h)))) (forest_out n depth rest (λ a h. other a (inr (inr h))))

  pub before_out : (n : ℕ) (steps : List (Step X)) → ((a : Name) → IsAround a steps → a.serial ≢ n) → is_in n (seen (before_in steps)) ≡ false
  before_out n [] other = refl
  before_out n (under x rest ∷ steps) other =
      let r = row x.name (node (depth_in steps) x.value) in
      ap (is_in n) (seen-append (before_in steps) (r ∷ []))
      ∙ out-append n (seen (before_in steps)) (seen (r ∷ [])) (before_out n steps (λ a h. other a (inr (inr h)))) (ap (λ b. b || false) (ne_eqb x.name.serial n (other x.name (inl refl))))
  before_out n (after x below ∷ steps) other =
      let d = depth_in steps in let r = row x.name (node d x.value) in
      ap (is_in n) (seen-append (before_in steps) (r ∷ outline (d + 1) below))
      ∙ out-append n (seen (before_in steps)) (seen (r ∷ outline (d + 1) below)) (before_out n steps (λ a h. other a (inr (inr h))))
      (ap (λ b. b || is_in n (seen (outline (d + 1) below))) (ne_eqb x.name.serial n (other x.name (inl refl))) ∙ forest_out n (d + 1) below (λ a h. other a (inr (inl h))))

  -- where a node is, or the root, with what is below it
  pub record Position (rows : List (Row Name (Node X))) (name depth : ℕ) (below : Forest X) : Type 0 where
    pub front : List Spot
    pub tail : List Spot
    pub spotted : Spotted (spots (plains rows)) (at_depth depth name) front (seen (outline (depth + 1) below)) tail

  pub root_position : (t : Forest X) → Position (outline 2 t) 0 1 t
  root_position t = record {
    front = [];
    tail = [];
    spotted = record { is = ap (λ k. root ∷ k) (sym (append-nil (seen (outline 2 t)))); out = refl; deep = outline_deep 1 2 t (omega arith); shallow = tt };
  }

  -- no name round the place has the serial, nor is it the root's
  pub record IsAlone (steps : List (Step X)) (serial : ℕ) : Type 0 where
    pub around : (a : Name) → IsAround a steps → a.serial ≢ serial
    pub not_root : 0 ≢ serial

  pub node_position : (steps : List (Step X)) (x : Row Name X) (below rest : Forest X) → IsAlone steps x.name.serial → Position (outline 2 (plugged steps (grove x below rest))) x.name.serial (depth_in steps) below
  node_position steps x below rest alone =
      let d = depth_in steps in let r = row x.name (node d x.value) in
      record {
        front = root ∷ seen (before_in steps);
        tail = seen (outline d rest ++ after_in steps);
        spotted = record {
          is = ap (λ k. root ∷ seen k) (outline_plugged steps (grove x below rest) ∙ ap (λ k. before_in steps ++ r ∷ k) (append_assoc (outline (d + 1) below) (outline d rest) (after_in steps)))
              ∙ ap (λ k. root ∷ k) (seen-append (before_in steps) (r ∷ (outline (d + 1) below ++ (outline d rest ++ after_in steps))) ∙ ap (λ k. seen (before_in steps) ++ at_depth d x.name.serial ∷ k) (seen-append (outline (d + 1) below) (outline d rest ++ after_in steps)));
          out = ap (λ b. b || is_in x.name.serial (seen (before_in steps))) (ne_eqb 0 x.name.serial alone.not_root) ∙ before_out x.name.serial steps alone.around;
          deep = outline_deep d (d + 1) below (omega arith);
          shallow = rest_shallow d d rest steps (omega arith) (after_shallow d steps (omega arith));
        };
      }

  module _ (rows : List (Row Name (Node X))) (name depth : ℕ) (below : Forest X) (p : Position rows name depth below) where
    pub position_depth : depth_of (plains rows) name ≡ depth
    position_depth = depth_is (spots (plains rows)) (at_depth depth name) p.front (seen (outline (depth + 1) below)) p.tail p.spotted

    pub position_run : run_of (plains rows) name ≡ seen (outline (depth + 1) below)
    position_run = run_is (spots (plains rows)) (at_depth depth name) p.front (seen (outline (depth + 1) below)) p.tail p.spotted

    pub position_start : run_start (plains rows) name ≡ length p.front
    position_start = spot_at (spots (plains rows)) (at_depth depth name) p.front (seen (outline (depth + 1) below)) p.tail p.spotted

    pub position_children : children_of (plains rows) name ≡ tops (depth + 1) below
    position_children = children_are (spots (plains rows)) (at_depth depth name) p.front (seen (outline (depth + 1) below)) p.tail p.spotted ∙ tops_are (depth + 1) below

    pub position_parent : parent_of (plains rows) name ≡ find (λ (q : Spot). q.depth + 1 == depth) (reverse p.front)
    position_parent = parent_is (spots (plains rows)) (at_depth depth name) p.front (seen (outline (depth + 1) below)) p.tail p.spotted

  pub root_parent : (t : Forest X) → parent_of (plains (outline 2 t)) 0 ≡ None
  unfolding root_position
  root_parent t = position_parent (outline 2 t) 0 1 t (root_position t)

  pub root_start : (t : Forest X) → run_start (plains (outline 2 t)) 0 ≡ 0
  unfolding root_position
  root_start t = position_start (outline 2 t) 0 1 t (root_position t)

  pub node_start : (steps : List (Step X)) (x : Row Name X) (below rest : Forest X) → IsAlone steps x.name.serial → run_start (plains (outline 2 (plugged steps (grove x below rest)))) x.name.serial ≡ suc (length (before_in steps))
  unfolding node_position
  node_start steps x below rest alone =
      position_start (outline 2 (plugged steps (grove x below rest))) x.name.serial (depth_in steps) below (node_position steps x below rest alone)
      ∙ ap suc (length-map (plains (before_in steps)) spot ∙ length-map (before_in steps) plain_row)

  -- the spot above a place
  abbrev pub parent_spot : List (Step X) → Spot
  parent_spot [] = root
  parent_spot (under x rest ∷ steps) = at_depth (depth_in steps) x.name.serial
  parent_spot (after x below ∷ steps) = parent_spot steps

  pub parent_depth : (steps : List (Step X)) → depth_in steps ≡ (parent_spot steps).depth + 1
  parent_depth [] = refl
  parent_depth (under x rest ∷ steps) = refl
  parent_depth (after x below ∷ steps) = parent_depth steps

  parent_from : (steps : List (Step X)) → find (λ (q : Spot). q.depth + 1 == (parent_spot steps).depth + 1) (reverse (root ∷ seen (before_in steps))) ≡ Some (parent_spot steps)
  parent_from [] = refl
  parent_from (under x rest ∷ steps) =
      let s = at_depth (depth_in steps) x.name.serial in let r = row x.name (node (depth_in steps) x.value) in
      ap (λ k. find (λ (q : Spot). q.depth + 1 == depth_in steps + 1) (reverse (root ∷ k))) (seen-append (before_in steps) (r ∷ []))
      ∙ ap (λ k. find (λ (q : Spot). q.depth + 1 == depth_in steps + 1) k) (reverse-append (root ∷ seen (before_in steps)) (s ∷ []))
      ∙ cond-true _ _ _ (eq-eqb (depth_in steps + 1) (depth_in steps + 1) refl)
  parent_from (after x below ∷ steps) =
      let d = depth_in steps in let e = (parent_spot steps).depth in
      let r = row x.name (node d x.value) in let over : e < d = let is = parent_depth steps in omega arith in
      ap (λ k. find (λ (q : Spot). q.depth + 1 == e + 1) (reverse (root ∷ k))) (seen-append (before_in steps) (r ∷ outline (d + 1) below))
      ∙ ap (λ k. find (λ (q : Spot). q.depth + 1 == e + 1) k) (reverse-append (root ∷ seen (before_in steps)) (seen (r ∷ outline (d + 1) below)))
      ∙ find_past e (seen (r ∷ outline (d + 1) below)) (reverse (root ∷ seen (before_in steps))) (over, outline_deep e (d + 1) below (omega arith))
      ∙ parent_from steps

  pub parent_found : (steps : List (Step X)) (x : Row Name X) (below rest : Forest X) → IsAlone steps x.name.serial → parent_of (plains (outline 2 (plugged steps (grove x below rest)))) x.name.serial ≡ Some (parent_spot steps)
  unfolding node_position
  parent_found steps x below rest alone =
      position_parent (outline 2 (plugged steps (grove x below rest))) x.name.serial (depth_in steps) below (node_position steps x below rest alone)
      ∙ ap (λ d. find (λ (q : Spot). q.depth + 1 == d) (reverse (root ∷ seen (before_in steps)))) (parent_depth steps)
      ∙ parent_from steps

  -- all siblings at a place
  abbrev pub family : List (Step X) → Forest X → Forest X
  family [] t = t
  family (under x rest ∷ steps) t = t
  family (after x below ∷ steps) t = family steps (grove x below t)

  -- those before it
  abbrev pub elders : List (Step X) → List Spot
  elders [] = []
  elders (under x rest ∷ steps) = []
  elders (after x below ∷ steps) = elders steps ++ at_depth (depth_in steps) x.name.serial ∷ []

  pub family_tops : (steps : List (Step X)) (t : Forest X) → tops (depth_in steps) (family steps t) ≡ elders steps ++ tops (depth_in steps) t
  family_tops [] t = refl
  family_tops (under x rest ∷ steps) t = refl
  family_tops (after x below ∷ steps) t = family_tops steps (grove x below t) ∙ sym (append_assoc (elders steps) (at_depth (depth_in steps) x.name.serial ∷ []) (tops (depth_in steps) t))

  elders_out : (n : ℕ) (steps : List (Step X)) → ((a : Name) → IsAround a steps → a.serial ≢ n) → is_in n (elders steps) ≡ false
  elders_out n [] other = refl
  elders_out n (under x rest ∷ steps) other = refl
  elders_out n (after x below ∷ steps) other =
      out-append n (elders steps) (at_depth (depth_in steps) x.name.serial ∷ []) (elders_out n steps (λ a h. other a (inr (inr h)))) (ap (λ b. b || false) (ne_eqb x.name.serial n (other x.name (inl refl))))

  -- of each node above a place, that no name above it has its serial
  abbrev pub AllAlone : List (Step X) → Type 0
  AllAlone [] = Unit {0}
  AllAlone (under x rest ∷ steps) = IsAlone steps x.name.serial × AllAlone steps
  AllAlone (after x below ∷ steps) = AllAlone steps

  pub parent_position : (steps : List (Step X)) (t : Forest X) → AllAlone steps → Position (outline 2 (plugged steps t)) (parent_spot steps).name (parent_spot steps).depth (family steps t)
  parent_position [] t all = root_position t
  parent_position (under x rest ∷ steps) t all = node_position steps x t rest all.0
  parent_position (after x below ∷ steps) t all = parent_position steps (grove x below t) all

  pub siblings_found : (steps : List (Step X)) (x : Row Name X) (below rest : Forest X) → IsAlone steps x.name.serial → AllAlone steps
      → siblings_of (plains (outline 2 (plugged steps (grove x below rest)))) x.name.serial ≡ elders steps ++ at_depth (depth_in steps) x.name.serial ∷ tops (depth_in steps) rest
  siblings_found steps x below rest alone all =
      let t = grove x below rest in let rows = outline 2 (plugged steps t) in
      ap (siblings_by (plains rows)) (parent_found steps x below rest alone)
      ∙ position_children rows (parent_spot steps).name (parent_spot steps).depth (family steps t) (parent_position steps t all)
      ∙ ap (λ d. tops d (family steps t)) (sym (parent_depth steps))
      ∙ family_tops steps t

  pub next_found : (steps : List (Step X)) (x : Row Name X) (below rest : Forest X) → IsAlone steps x.name.serial → AllAlone steps
      → next_after (siblings_of (plains (outline 2 (plugged steps (grove x below rest)))) x.name.serial) x.name.serial ≡ slice_get (tops (depth_in steps) rest) 0
  next_found steps x below rest alone all =
      ap (λ k. next_after k x.name.serial) (siblings_found steps x below rest alone all)
      ∙ next_is (elders steps) (at_depth (depth_in steps) x.name.serial) (tops (depth_in steps) rest) (elders_out x.name.serial steps alone.around)

  pub last_found : (steps : List (Step X)) (x : Row Name X) (below rest : Forest X) → IsAlone steps x.name.serial → AllAlone steps
      → last_before (siblings_of (plains (outline 2 (plugged steps (grove x below rest)))) x.name.serial) x.name.serial ≡ slice_get (reverse (elders steps)) 0
  last_found steps x below rest alone all =
      ap (λ k. last_before k x.name.serial) (siblings_found steps x below rest alone all)
      ∙ last_is (elders steps) (at_depth (depth_in steps) x.name.serial) (tops (depth_in steps) rest) (elders_out x.name.serial steps alone.around)

  pub first_top : (depth : ℕ) (t : Forest X) → spot_name (slice_get (tops depth t) 0) ≡ serial_of (first_in t)
  first_top depth bare = refl
  first_top depth (grove x below rest) = refl

  last_from : (depth : ℕ) (x : Row Name X) (rest : Forest X) → spot_name (slice_get (reverse (at_depth depth x.name.serial ∷ tops depth rest)) 0) ≡ Some (or_name x.name (last_in rest)).serial
  last_from depth x bare = refl
  last_from depth x (grove y c r) =
      let s = at_depth depth x.name.serial in let ys = at_depth depth y.name.serial ∷ tops depth r in
      ap (λ k. spot_name (slice_get k 0)) (reverse-append (s ∷ []) ys) ∙ first_of_more (reverse ys) (s ∷ []) (or_name y.name (last_in r)).serial (last_from depth y r)
    where
      first_of_more : (xs ys : List Spot) (n : ℕ) → spot_name (slice_get xs 0) ≡ Some n → spot_name (slice_get (xs ++ ys) 0) ≡ Some n
      first_of_more [] ys n e = cc
      first_of_more (x ∷ xs) ys n e = e

  pub last_top : (depth : ℕ) (t : Forest X) → spot_name (slice_get (reverse (tops depth t)) 0) ≡ serial_of (last_in t)
  last_top depth bare = refl
  last_top depth (grove x below rest) = last_from depth x rest

  pub prev_elder : (steps : List (Step X)) → spot_name (slice_get (reverse (elders steps)) 0) ≡ serial_of (prev_in steps)
  prev_elder [] = refl
  prev_elder (under x rest ∷ steps) = refl
  prev_elder (after x below ∷ steps) = ap (λ k. spot_name (slice_get k 0)) (reverse-append (elders steps) (at_depth (depth_in steps) x.name.serial ∷ []))

  depths-append : (xs ys : List (Row Name (Node X))) → depths (plains (xs ++ ys)) ≡ depths (plains xs) ++ depths (plains ys)
  depths-append xs ys = ap (λ k. map (λ (r : Row ℕ (Node X)). r.value.depth) k) (map-append plain_row xs ys) ∙ map-append (λ (r : Row ℕ (Node X)). r.value.depth) (plains xs) (plains ys)

  pub all_from : (least depth : ℕ) (t : Forest X) → least ≤ depth → AllFrom least (depths (plains (outline depth t)))
  all_from least depth bare le = tt
  all_from least depth (grove x below rest) le =
      (le, subst (λ k. AllFrom least k) (sym (depths-append (outline (depth + 1) below) (outline depth rest))) (from_both (depths (plains (outline (depth + 1) below))) (depths (plains (outline depth rest))) (all_from least (depth + 1) below (omega arith)) (all_from least depth rest le)))
    where
      from_both : (xs ys : List ℕ) → AllFrom least xs → AllFrom least ys → AllFrom least (xs ++ ys)
      from_both [] ys p q = q
      from_both (x ∷ xs) ys p q = (p.0, from_both xs ys p.1 q)

  -- the rows are an outline
  pub outline_follows : (before depth : ℕ) (t : Forest X) → 2 ≤ depth → depth ≤ before + 1 → follows before (depths (plains (outline depth t))) ≡ true
  outline_follows before depth bare low le = refl
  outline_follows before depth (grove x below rest) low le =
      let xs = depths (plains (outline (depth + 1) below)) in let ys = depths (plains (outline depth rest)) in
      let over : depth ≤ ends depth xs = ends_from depth depth xs (omega arith) (all_from depth (depth + 1) below (omega arith)) in
      follows_from before depth (depths (plains (outline (depth + 1) below ++ outline depth rest))) low le
      (ap (follows depth) (depths-append (outline (depth + 1) below) (outline depth rest))
      ∙ follows_both depth xs ys (outline_follows depth (depth + 1) below (omega arith) (omega arith)) (outline_follows (ends depth xs) depth rest low (omega arith)))

  pub is_outlined : (t : Forest X) → is_outline (plains (outline 2 t)) ≡ true
  is_outlined t = outline_follows 1 2 t (omega arith) (omega arith)
