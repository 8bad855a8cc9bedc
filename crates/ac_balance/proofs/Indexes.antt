-- An index seen as its rows.
use Rattle.std.proofs.Common.{◌≡◌, ℕ, suc, ◌+◌, ◌-◌, ◌<◌, ◌≤◌, Bool, List, [], ◌∷◌, ◌++◌, length, Option, Some, None, is_some, refl, sym, ap, ◌∙◌, subst, inl, inr, arith, append_assoc, Result, Ok, Err, add-one}
use Rattle.std.specs.Result.{OnOk, OnErr}
use Rattle.std.specs.List.{slice_get}
use Rattle.std.specs.Option.{option_map}
use Rattle.std.specs.FinMap as map
use Rattle.std.proofs.lemmas.Bool.{cond-true, cond-false, cases_lt, le-leb, lt-leb}
use Rattle.ac_base.specs.declared.name.Name.{Name}
use Rattle.ac_base.specs.Growth.{pow8}
use Rattle.ac_base.specs.Rows.{Row}
use Rattle.ac_pool.specs.Names.{name_cmp}
use Rattle.ac_pool.specs.Contents as pool
use Rattle.ac_pool.specs.Contents.{Contents, live_count, slot_count}
use Rattle.ac_pool.proofs.ContentsLaws.{entries-reserved, reserved_kept, reserved_grown}
use Rattle.ac_balance.specs.declared.entry.Entry.{Entry}
use Rattle.ac_balance.specs.declared.links.Node.{Node}
use Rattle.ac_balance.specs.declared.links.Links.{Links}
use Rattle.ac_balance.specs.Trees.{Tree, leaf, node, in_order, Step, on_left, on_right, plugged, before, after}
use Rattle.ac_balance.specs.TreeFields.{Stands, tree_in, read, links}
use Rattle.ac_balance.specs.Climbing.{Has, Once, Closed}
use Rattle.ac_pool.specs.NamedRows.{HasName, index_of, name_at, name_before, IsOnce}
use Rattle.ac_balance.specs.Seeking.{Stood}
use Rattle.ac_balance.specs.Walking.{first_name, last_name, AtNode, IsAtNode}
use Rattle.ac_balance.specs.Indexed.{Indexed, indexed, value_at, IsThere, no_rows, reserved, cleared, IsSound}
use Rattle.ac_balance.specs.IndexFields.{StandsFor, rows_in, IsOrderIndex}
use Rattle.ac_balance.proofs.Names.{has, once_rows, height_le}
use Rattle.ac_pool.proofs.Cuts.{apart, index_past, live_has, once_at, index_of-cut, slice_get-cut}
use Rattle.ac_balance.proofs.Standing.{Stands-same, Stands-live}
use Rattle.ac_balance.proofs.Reading.{read-is}
use Rattle.ac_balance.proofs.Climbs.{plugged-order}
use Rattle.ac_balance.proofs.Opening.{cut}
use Rattle.ac_balance.proofs.Ends.{name_at-after, name_before-cut}

module _ {K V : Type 0} where
  abbrev pub view_of : Links (Entry K V) → Indexed K V
  view_of l = indexed (rows_in l) l.nodes.next_serial l.nodes.spare

  pub rows_in-is : (l : Links (Entry K V)) (rows : List (Row Name (Entry K V))) → Closed l rows → length rows ≤ live_count l.nodes → rows_in l ≡ rows
  unfolding rows_in tree_in
  rows_in-is l rows k le =
      let low = height_le k.tree in let len = ap length k.ordered in
      ap in_order (ap (read (live_count l.nodes) l.nodes) k.top ∙ read-is l.nodes k.sound None k.tree (live_count l.nodes) k.stands (omega (arith, low, len, le))) ∙ k.ordered

  pub named_live : (l : Links (Entry K V)) (rows : List (Row Name (Entry K V))) → Closed l rows → (a : Name) → HasName a rows → pool.IsLive l.nodes a
  named_live l rows k a h = Stands-live (pool.value_of l.nodes) None k.tree k.stands a (has a k.tree (subst (HasName a) (sym k.ordered) h))

  pub rows_once : (l : Links (Entry K V)) (rows : List (Row Name (Entry K V))) → Closed l rows → IsOnce rows
  rows_once l rows k = subst (λ zs. IsOnce zs) k.ordered (once_rows k.tree k.once)

  module _ (less : K → K → Bool) where
    pub rows-is : (l : Links (Entry K V)) (rows : List (Row Name (Entry K V))) → StandsFor less l rows → rows_in l ≡ rows
    rows-is l rows s = let n = s.count in rows_in-is l rows s.closed (omega (arith, n))

    pub index_from : (l : Links (Entry K V)) (rows : List (Row Name (Entry K V))) → StandsFor less l rows → IsOrderIndex less l
    index_from l rows s = subst (λ zs. StandsFor less l zs) (sym (rows-is l rows s)) s

    pub view-is : (l : Links (Entry K V)) (rows : List (Row Name (Entry K V))) → StandsFor less l rows → view_of l ≡ indexed rows l.nodes.next_serial l.nodes.spare
    view-is l rows s = ap (λ zs. indexed zs l.nodes.next_serial l.nodes.spare) (rows-is l rows s)

    pub sound_of : (l : Links (Entry K V)) → IsOrderIndex less l → IsSound less (view_of l)
    sound_of l s =
        let rows = rows_in l in let k = s.closed in
        let live = λ (a : Name) (h : index_of a rows < length rows). named_live l rows k a (live_has a rows h) in record {
          ascending = s.ascending;
          once = once_at rows (rows_once l rows k);
          slots = λ a b p q e. k.sound.slots a b (live a p) (live b q) e;
          serials = λ a b p q e. k.sound.serials a b (live a p) (live b q) e;
          issued = λ a p. k.sound.issued a (live a p);
          next = k.sound.next;
          few = omega (arith, k.sound.few, s.count);
        }

    -- no rows
    pub empty_index : (d : Contents (Node (Entry K V))) (next spare : ℕ) → d ≡ pool.no_values next spare → pool.IsSound d → IsOrderIndex less (links d None) × (view_of (links d None) ≡ no_rows next spare)
    empty_index d next spare is sound =
        let none : d.entries ≡ map.empty = ap (λ (c : Contents (Node (Entry K V))). c.entries) is in
        let dead : (a : Name) → pool.IsLive d a → ⊥ = λ a h. let no : pool.value_of d a ≡ None = ap (λ m. map.get m a) none ∙ map.get-empty name_cmp a in cc in
        let s : StandsFor less (links d None) [] = record {
          closed = record { tree = leaf; top = refl; stands = tt; balanced = tt; ordered = refl; once = tt; few = omega arith; sound = sound };
          ascending = tt;
          all = λ a h. absurd (dead a h);
          count = sym (ap map.len none ∙ map.len-empty name_cmp (Node (Entry K V)));
        } in
        (index_from (links d None) [] s, view-is (links d None) [] s ∙ ap (λ (c : Contents (Node (Entry K V))). indexed {K = K} {V = V} [] c.next_serial c.spare) is)

    -- an index whose pool has grown, or has not
    pub grown_index : (l : Links (Entry K V)) → IsOrderIndex less l → (d : Contents (Node (Entry K V))) → d.entries ≡ l.nodes.entries → pool.IsSound d
        → IsOrderIndex less (links d l.root) × (view_of (links d l.root) ≡ indexed (rows_in l) d.next_serial d.spare)
    grown_index l s d same sound =
        let k = s.closed in let rows = rows_in l in
        let g : StandsFor less (links d l.root) rows = record {
          closed = record {
            tree = k.tree;
            top = k.top;
            stands = Stands-same (pool.value_of l.nodes) (pool.value_of d) None k.tree (λ a h. ap (λ m. map.get m a) same) k.stands;
            balanced = k.balanced;
            ordered = k.ordered;
            once = k.once;
            few = k.few;
            sound = sound;
          };
          ascending = s.ascending;
          all = λ a h. s.all a (ap (λ m. is_some (map.get m a)) (sym same) ∙ h);
          count = s.count ∙ ap map.len (sym same);
        } in
        (index_from (links d l.root) rows g, view-is (links d l.root) rows g)

    pub cleared_index : (l : Links (Entry K V)) → IsOrderIndex less l → (d : Contents (Node (Entry K V))) → d ≡ pool.cleared l.nodes → pool.IsSound d → IsOrderIndex less (links d None) × (view_of (links d None) ≡ cleared (view_of l))
    cleared_index l s d is sound =
        let e = empty_index d l.nodes.next_serial (slot_count l.nodes) is sound in
        (e.0, e.1 ∙ ap (λ k. no_rows {K = K} {V = V} l.nodes.next_serial (k + l.nodes.spare)) (sym s.count))

    pub stood_root : (l : Links (Entry K V)) → (s : IsOrderIndex less l) → Stood l.nodes l.root s.closed.tree
    stood_root l s = record { top = s.closed.top; hangs = record { parent = None; stands = s.closed.stands }; sound = s.closed.sound }

    pub live_in : (l : Links (Entry K V)) → IsOrderIndex less l → (a : Name) → IsThere (view_of l) a → pool.IsLive l.nodes a
    live_in l s a h = named_live l (rows_in l) s.closed a (live_has a (rows_in l) h)

  pub entries_either : {T E : Type 0} (r : Result T E) (c d : Contents (Node (Entry K V))) (n : ℕ) → OnOk r (d ≡ pool.reserved c n) → OnErr r (d ≡ c) → d.entries ≡ c.entries
  entries_either (Ok x) c d n p q = ap (λ (e : Contents (Node (Entry K V))). e.entries) p ∙ entries-reserved c n
  entries_either (Err e) c d n p q = ap (λ (e : Contents (Node (Entry K V))). e.entries) q

  pub reserved_view : (rows : List (Row Name (Entry K V))) (c : Contents (Node (Entry K V))) (n : ℕ) → length rows ≡ live_count c → indexed rows (pool.reserved c n).next_serial (pool.reserved c n).spare ≡ reserved (indexed rows c.next_serial c.spare) n
  reserved_view rows c n count = elim (cases_lt c.spare n) [
    | inl lt ↦ ap (λ (d : Contents (Node (Entry K V))). indexed rows d.next_serial d.spare) (reserved_grown c n lt) ∙ ap (λ m. indexed rows c.next_serial (pow8 (m + n) - m)) (sym count) ∙ sym (cond-false _ _ _ (lt-leb n c.spare lt))
    | inr le ↦ ap (λ (d : Contents (Node (Entry K V))). indexed rows d.next_serial d.spare) (reserved_kept c n le) ∙ sym (cond-true _ _ _ (le-leb n c.spare le))
  ]

-- the node of a name in a tree
module _ {X : Type 0} where
  pub record Found (a : Name) (t : Tree X) : Type 0 where
    pub steps : List (Step X)
    pub left : Tree X
    pub row : Row Name X
    pub right : Tree X
    pub whole : plugged steps (node left row right) ≡ t
    pub name : row.name ≡ a

  found_in : (a : Name) (steps : List (Step X)) (t : Tree X) → Has a t → Found a (plugged steps t)
  found_in a steps leaf h = absurd h
  found_in a steps (node l x r) h = elim h [
    | inl e ↦ record { steps = steps; left = l; row = x; right = r; whole = refl; name = sym e }
    | inr k ↦ elim k [ inl p ↦ found_in a (on_left x r ∷ steps) l p | inr q ↦ found_in a (on_right l x ∷ steps) r q ]
  ]

  pub cut_order : (steps : List (Step X)) (l : Tree X) (x : Row Name X) (r : Tree X) → in_order (plugged steps (node l x r)) ≡ (before steps ++ in_order l) ++ x ∷ (in_order r ++ after steps)
  cut_order steps l x r =
      plugged-order steps (node l x r) ∙ ap (λ k. before steps ++ k) (append_assoc (in_order l) (x ∷ in_order r) (after steps)) ∙ sym (append_assoc (before steps) (in_order l) (x ∷ (in_order r ++ after steps)))

  -- a closed tree, cut at the name's node
  pub record Located (l : Links X) (k : Tree X) (a : Name) (rows : List (Row Name X)) : Type 0 where
    pub steps : List (Step X)
    pub left : Tree X
    pub row : Row Name X
    pub right : Tree X
    pub whole : plugged steps (node left row right) ≡ k
    pub name : row.name ≡ a
    pub is : rows ≡ (before steps ++ in_order left) ++ row ∷ (in_order right ++ after steps)
    pub once : IsOnce ((before steps ++ in_order left) ++ row ∷ (in_order right ++ after steps))
    pub placed : AtNode l.nodes a steps left row right

  pub located : (l : Links X) (rows : List (Row Name X)) (k : Closed l rows) (a : Name) → HasName a rows → Located l k.tree a rows
  located l rows k a h =
      let f = found_in a [] k.tree (has a k.tree (subst (HasName a) (sym k.ordered) h)) in
      let t = node f.left f.row f.right in
      let is = sym k.ordered ∙ ap in_order (sym f.whole) ∙ cut_order f.steps f.left f.row f.right in
      record {
        steps = f.steps;
        left = f.left;
        row = f.row;
        right = f.right;
        whole = f.whole;
        name = f.name;
        is = is;
        once = subst (λ zs. IsOnce zs) (ap in_order (sym f.whole) ∙ cut_order f.steps f.left f.row f.right) (once_rows k.tree k.once);
        placed = record {
          top = ap Some f.name;
          stands = subst (λ z. Stands (pool.value_of l.nodes) None z) (sym f.whole) k.stands;
          once = subst (λ z. Once z) (sym f.whole) k.once;
          few = let low = k.few in let len = ap length (ap in_order f.whole ∙ k.ordered) in omega (arith, low, len);
          sound = k.sound;
        };
      }

  pub place_of_row : (l : Links X) (t : Tree X) (a : Name) (rows : List (Row Name X)) (k : Located l t a rows) → index_of a rows ≡ length (before k.steps ++ in_order k.left)
  place_of_row l t a rows k =
      let front = before k.steps ++ in_order k.left in let back = in_order k.right ++ after k.steps in
      ap (λ n. index_of n rows) (sym k.name) ∙ ap (index_of k.row.name) k.is ∙ index_of-cut front k.row back (λ h. apart front (k.row ∷ back) k.once k.row.name h (inl refl))

  pub next_located : (l : Links X) (t : Tree X) (a : Name) (rows : List (Row Name X)) (k : Located l t a rows) → name_at rows (index_of a rows + 1) ≡ first_name (in_order k.right ++ after k.steps)
  next_located l t a rows k =
      let front = before k.steps ++ in_order k.left in let back = in_order k.right ++ after k.steps in
      ap (name_at rows) (add-one (index_of a rows) ∙ ap suc (place_of_row l t a rows k)) ∙ ap (λ zs. name_at zs (suc (length front))) k.is ∙ name_at-after front k.row back

  pub prev_located : (l : Links X) (t : Tree X) (a : Name) (rows : List (Row Name X)) (k : Located l t a rows) → name_before rows (index_of a rows) ≡ last_name (before k.steps ++ in_order k.left)
  prev_located l t a rows k =
      let front = before k.steps ++ in_order k.left in let back = in_order k.right ++ after k.steps in
      ap (name_before rows) (place_of_row l t a rows k) ∙ ap (λ zs. name_before zs (length front)) k.is ∙ name_before-cut front (k.row ∷ back)

  pub row_located : (l : Links X) (t : Tree X) (a : Name) (rows : List (Row Name X)) (k : Located l t a rows) → value_at rows a ≡ Some k.row.value
  row_located l t a rows k =
      let front = before k.steps ++ in_order k.left in let back = in_order k.right ++ after k.steps in
      ap (option_map (λ (r : Row Name X). r.value)) (ap (slice_get rows) (place_of_row l t a rows k) ∙ ap (λ zs. slice_get zs (length front)) k.is ∙ slice_get-cut front k.row back)

  node_located : (l : Links X) (t : Tree X) (a : Name) (rows : List (Row Name X)) (k : Located l t a rows) → option_map (λ (n : Node X). n.value) (pool.value_of l.nodes a) ≡ Some k.row.value
  node_located l t a rows k =
      ap (λ n. option_map (λ (m : Node X). m.value) (pool.value_of l.nodes n)) (sym k.name) ∙ ap (option_map (λ (m : Node X). m.value)) (cut (pool.value_of l.nodes) k.steps (node k.left k.row k.right) k.placed.stands).1.0

  index_end : (a : Name) (rows : List (Row Name X)) → (HasName a rows → ⊥) → slice_get rows (index_of a rows) ≡ None
  index_end a [] n = refl
  index_end a (r ∷ rows) n = ap (slice_get (r ∷ rows)) (index_past a r rows (λ e. n (inl e))) ∙ index_end a rows (λ h. n (inr h))

  -- the value in a name's node is that of its row
  pub values_are : (l : Links X) (rows : List (Row Name X)) (k : Closed l rows) → ((a : Name) → pool.IsLive l.nodes a → HasName a rows) → (a : Name) → option_map (λ (n : Node X). n.value) (pool.value_of l.nodes a) ≡ value_at rows a
  values_are l rows k all a = go (pool.value_of l.nodes a) refl
    where
      go : (o : Option (Node X)) → pool.value_of l.nodes a ≡ o → option_map (λ (n : Node X). n.value) (pool.value_of l.nodes a) ≡ value_at rows a
      go (Some n) e = let p = located l rows k a (all a (ap is_some e)) in node_located l k.tree a rows p ∙ sym (row_located l k.tree a rows p)
      go None e =
          ap (option_map (λ (n : Node X). n.value)) e
          ∙ sym (ap (option_map (λ (r : Row Name X). r.value)) (index_end a rows (λ h. let live = Stands-live (pool.value_of l.nodes) None k.tree k.stands a (has a k.tree (subst (HasName a) (sym k.ordered) h)) in let bad : is_some {T = Node X} None ≡ is_some (pool.value_of l.nodes a) = ap is_some (sym e) in cc)))

  pub at_node : (l : Links X) (rows : List (Row Name X)) (k : Closed l rows) (a : Name) → HasName a rows → IsAtNode l.nodes a
  at_node l rows k a h = let p = located l rows k a h in record { steps = p.steps; left = p.left; row = p.row; right = p.right; placed = p.placed }

-- what a clause says of an `Ok` or an `Err`, in other words
pub on_ok : {T E : Type 0} (r : Result T E) (P Q : Type 0) → (P → Q) → OnOk r P → OnOk r Q
on_ok (Ok x) P Q f h = f h
on_ok (Err e) P Q f h = h
