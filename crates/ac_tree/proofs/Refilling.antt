-- Values that are put as the nodes of an empty tree, in preorder, each at its depth.
use Rattle.std.proofs.Common.{◌≡◌, ℕ, zero, suc, ◌+◌, ◌-◌, ◌<◌, ◌≤◌, ◌^◌, Bool, true, false, true≢false, ◌&&◌, List, [], ◌∷◌, ◌++◌, length, reverse, Option, Some, None, refl, sym, ap, ◌∙◌, subst, arith, append-nil, append_assoc}
use Rattle.std.specs.Prelude.{nat_le}
use Rattle.std.specs.List.{insert}
use Rattle.std.proofs.lemmas.Bool.{leb-true}
use Rattle.std.proofs.lemmas.Option.{none-some}
use Rattle.std.proofs.lemmas.List.{length-append, length-map, reverse-append, length-reverse}
use Rattle.ac_base.specs.declared.name.Name.{Name}
use Rattle.ac_base.specs.Rows.{row}
use Rattle.ac_pool.specs.Contents.{live_count}
use Rattle.ac_chain.specs.Rows as chain
use Rattle.ac_chain.specs.Rows.{inserted, IsFresh}
use Rattle.ac_chain.specs.ChainFields.{first_or}
use Rattle.ac_pool.proofs.Cuts.{insert-cut}
use Rattle.ac_model.specs.Rows.{Node, node, fresh}
use Rattle.ac_model.specs.Objects.{plains}
use Rattle.ac_model.specs.Outline.{follows}
use Rattle.ac_model.proofs.Plains.{plains-append, fresh-append}
use Rattle.ac_tree.specs.declared.copying.Leveled.{Leveled}
use Rattle.ac_tree.specs.declared.links.Links.{Links}
use Rattle.ac_tree.specs.Copying.{in_node, nodes_in, levels_in, up_of, raised_by}
use Rattle.ac_tree.specs.Forests.{Forest, bare, grove, Step, under, after, outline, plugged, parent_in, depth_in, after_in}
use Rattle.ac_tree.specs.Inserting.{Hole, Inserts}
use Rattle.ac_tree.specs.TreeFields.{StandsFor, IsForest, parent_of}
use Rattle.ac_tree.specs.TreeRows.{rows_of}
use Rattle.ac_tree.proofs.Standing.{some_name}
use Rattle.ac_tree.proofs.Forests.{links_at, forest-is, is_forest}
use Rattle.ac_tree.proofs.Counting.{depth_size}

pub and_parts : (a b c : Bool) → (a && b && c) ≡ true → (a ≡ true) × (b ≡ true) × (c ≡ true)
and_parts true true c e = (refl, refl, e)
and_parts true false c e = absurd (true≢false (sym e))
and_parts false b c e = absurd (true≢false (sym e))

module _ {X : Type 0} where
  -- nothing stands behind a place, up to where it ends
  abbrev pub Tail : List (Step X) → Type 0
  Tail [] = Unit {0}
  Tail (under x rest ∷ steps) = (rest ≡ bare) × Tail steps
  Tail (after x below ∷ steps) = Tail steps

  tail_after : (inner outer : List (Step X)) → Tail inner → after_in (inner ++ outer) ≡ after_in outer
  tail_after [] outer t = refl
  tail_after (under x rest ∷ inner) outer t = ap (λ z. outline (depth_in (inner ++ outer)) z ++ after_in (inner ++ outer)) t.0 ∙ tail_after inner outer t.1
  tail_after (after x below ∷ inner) outer t = tail_after inner outer t

  -- the end below the node of what stands at the outer place, where the next row may stand
  pub record Ending (l : Links X) (outer : List (Step X)) (node_name : Option Name) (depth : ℕ) : Type 0 where
    pub inner : List (Step X)
    pub stands : StandsFor l (plugged (inner ++ outer) bare)
    pub tail : Tail inner
    pub parent_is : parent_in (inner ++ outer) ≡ node_name
    pub depth_is : depth_in (inner ++ outer) ≡ depth + 1

  top_depth : (steps : List (Step X)) → parent_in steps ≡ None → depth_in steps ≡ 2
  top_depth [] e = refl
  top_depth (under x rest ∷ steps) e = absurd (none-some x.name (sym e))
  top_depth (after x below ∷ steps) e = top_depth steps e

  depth_low : (steps : List (Step X)) → 2 ≤ depth_in steps
  depth_low [] = omega arith
  depth_low (under x rest ∷ steps) = let low = depth_low steps in omega (arith, low)
  depth_low (after x below ∷ steps) = depth_low steps

  -- one level up, behind all that stands there
  record Level_up (l : Links X) (outer inner : List (Step X)) (t : Forest X) (a : Name) : Type 0 where
    pub up : List (Step X)
    pub is : plugged (up ++ outer) bare ≡ plugged (inner ++ outer) t
    pub tail : Tail up
    pub parent : parent_of l a ≡ parent_in (up ++ outer)
    pub depth : depth_in (up ++ outer) + 1 ≡ depth_in (inner ++ outer)

  level_up : (l : Links X) (outer inner : List (Step X)) (t : Forest X) (a : Name) → StandsFor l (plugged (inner ++ outer) t) → Tail inner → parent_in (inner ++ outer) ≡ Some a → depth_in outer < depth_in (inner ++ outer) → Level_up l outer inner t a
  level_up l outer [] t a s tail e over = absurd (omega (arith, over))
  level_up l outer (under x rest ∷ inner) t a s tail e over = record {
    up = after x t ∷ inner;
    is = ap (λ z. plugged (inner ++ outer) (grove x t z)) (sym tail.0);
    tail = tail.1;
    parent = ap (parent_of l) (sym (some_name x.name a e)) ∙ (links_at l (inner ++ outer) x t rest s).parent;
    depth = refl;
  }
  level_up l outer (after x below ∷ inner) t a s tail e over =
      let k = level_up l outer inner (grove x below t) a s tail e over in
      record { up = k.up; is = k.is; tail = k.tail; parent = k.parent; depth = k.depth }

  up_one : (l : Links X) (outer : List (Step X)) (o : Option Name) (d : ℕ) → depth_in outer ≤ d + 1 → Ending l outer o (d + 1) → Ending l outer (up_of l o) d
  up_one l outer None d low k = let top = top_depth (k.inner ++ outer) k.parent_is in let deep = k.depth_is in let least = depth_low outer in absurd (omega (arith, low, top, deep, least))
  up_one l outer (Some a) d low k =
      let deep = k.depth_is in
      let u = level_up l outer k.inner bare a k.stands k.tail k.parent_is (omega (arith, low, deep)) in
      let one = u.depth in
      record {
        inner = u.up;
        stands = subst (λ z. StandsFor l z) (sym u.is) k.stands;
        tail = u.tail;
        parent_is = sym u.parent;
        depth_is = omega (arith, one, deep);
      }

  pub raised_ends : (l : Links X) (outer : List (Step X)) (o : Option Name) (n d : ℕ) → depth_in outer ≤ d + 1 → Ending l outer o (d + n) → Ending l outer (raised_by l n o) d
  raised_ends l outer o zero d low k = subst (λ m. Ending l outer o m) (let e : d + 0 ≡ d = omega arith in e) k
  raised_ends l outer o (suc n) d low k =
      up_one l outer (raised_by l n o) d low (raised_ends l outer o n (d + 1) (omega (arith, low)) (subst (λ m. Ending l outer o m) (let e : d + suc n ≡ (d + 1) + n = omega arith in e) k))

  -- the place for the next row
  pub ending_hole : (l : Links X) (outer : List (Step X)) (o : Option Name) (depth : ℕ) → Ending l outer o depth → Hole l o None
  ending_hole l outer o depth k = record { steps = k.inner ++ outer; rest = bare; stands = k.stands; parent_is = sym k.parent_is; before_is = refl }

  -- a row more at the end
  pub record More (l m : Links X) (outer : List (Step X)) (v : X) (a : Name) (depth : ℕ) : Type 0 where
    pub ending : Ending m outer (Some a) (depth + 1)
    pub rows : rows_of m ≡ inserted (rows_of l) (first_or (after_in outer) None) (row a (node (depth + 1) v))
    pub fresh : IsFresh (rows_of l) a

  pub more : (l m : Links X) (outer : List (Step X)) (o : Option Name) (depth : ℕ) (v : X) (a : Name) → Ending l outer o depth → Inserts l o None v m a → More l m outer v a depth
  more l m outer o depth v a k ins =
      let i = ins (record { steps = k.inner ++ outer; rest = bare; stands = k.stands; parent_is = sym k.parent_is; before_is = refl }) in let deep = k.depth_is in
      let last : first_or (after_in (k.inner ++ outer)) None ≡ first_or (after_in outer) None = ap (λ z. first_or z None) (tail_after k.inner outer k.tail) in
      record {
        ending = record { inner = under (row a v) bare ∷ k.inner; stands = i.stands; tail = (refl, k.tail); parent_is = refl; depth_is = omega (arith, deep) };
        rows = i.rows ∙ (λ j. inserted (rows_of l) (last j) (row a (node (deep j) v)));
        fresh = i.fresh;
      }

  -- where nothing stands behind the place it is the last row
  last_row : (l m : Links X) (v : X) (a : Name) (depth : ℕ) → More l m [] v a depth → plains (rows_of m).rows ≡ plains (rows_of l).rows ++ row (rows_of l).next_serial (node (depth + 1) v) ∷ []
  last_row l m v a depth w =
      let r = row a (node (depth + 1) v) in
      let all : (rows_of m).rows ≡ (rows_of l).rows ++ r ∷ [] =
      ap (λ (c : chain.Chained (Node X)). c.rows) w.rows ∙ ap (λ z. insert z (length (rows_of l).rows) r) (sym (append-nil (rows_of l).rows)) ∙ insert-cut (rows_of l).rows r [] in
      ap plains all ∙ plains-append (rows_of l).rows (r ∷ []) ∙ (λ j. plains (rows_of l).rows ++ row (w.fresh.serial j) (node (depth + 1) v) ∷ [])

  -- so far: these values are put, and those on the stack are still to come
  pub record Filling (l : Links X) (all : List (Leveled X)) (m : Links X) (node_name : Option Name) (depth : ℕ) (left : List (Leveled X)) : Type 0 where
    pub done : List (Node X)
    pub ending : Ending m [] node_name depth
    pub low : 1 ≤ depth
    pub legal : follows depth (levels_in (reverse left)) ≡ true
    pub rows : plains (rows_of m).rows ≡ fresh l.nodes.next_serial done
    pub whole : done ++ nodes_in (reverse left) ≡ nodes_in (reverse all)
    pub next : m.nodes.next_serial ≡ l.nodes.next_serial + length done
    pub spare : m.nodes.spare + length all ≡ l.nodes.spare + length left

  pub filling_start : (l : Links X) (all : List (Leveled X)) → StandsFor l bare → follows 1 (levels_in (reverse all)) ≡ true → Filling l all l None 1 all
  filling_start l all s legal = record {
    done = [];
    ending = record { inner = []; stands = s; tail = tt; parent_is = refl; depth_is = refl };
    low = omega arith;
    legal = legal;
    rows = ap (λ t. plains (outline 2 t)) (forest-is l bare s);
    whole = refl;
    next = omega arith;
    spare = refl;
  }

  -- the value that comes off the stack
  pub record Next (m : Links X) (depth : ℕ) (v : Leveled X) (rest left : List (Leveled X)) : Type 0 where
    pub turned : reverse left ≡ v ∷ reverse rest
    pub low : 2 ≤ v.depth
    pub few : v.depth ≤ depth + 1
    pub legal : follows v.depth (levels_in (reverse rest)) ≡ true
    pub small : depth ≤ live_count m.nodes + 1

  pub next_of_stack : (l : Links X) (all : List (Leveled X)) (m : Links X) (o : Option Name) (depth : ℕ) (left rest : List (Leveled X)) (v : Leveled X) → Filling l all m o depth left → left ≡ rest ++ v ∷ [] → Next m depth v rest left
  next_of_stack l all m o depth left rest v k split =
      let turned : reverse left ≡ v ∷ reverse rest = ap reverse split ∙ reverse-append rest (v ∷ []) in
      let parts = and_parts (nat_le 2 v.depth) (nat_le v.depth (depth + 1)) (follows v.depth (levels_in (reverse rest))) (ap (λ z. follows depth (levels_in z)) (sym turned) ∙ k.legal) in
      let deep = k.ending.depth_is in let most = depth_size (k.ending.inner ++ []) bare in let count = k.ending.stands.count in
      record {
        turned = turned;
        low = leb-true 2 v.depth parts.0;
        few = leb-true v.depth (depth + 1) parts.1;
        legal = parts.2;
        small = omega (arith, deep, most, count);
      }

  pub filling_room : (l : Links X) (all : List (Leveled X)) (m : Links X) (o : Option Name) (depth : ℕ) (left rest : List (Leveled X)) (v : Leveled X) → Filling l all m o depth left → left ≡ rest ++ v ∷ []
      → length all ≤ l.nodes.spare → l.nodes.next_serial + length all < 2 ^ 64 → (0 < m.nodes.spare) × (m.nodes.next_serial < 2 ^ 64 - 1)
  filling_room l all m o depth left rest v k split room serials =
      let spare = k.spare in let next = k.next in
      let some = ap length split in let one = length-append rest (v ∷ []) in
      let whole = ap length k.whole in let both = length-append k.done (nodes_in (reverse left)) in
      let a = length-map (reverse left) in_node in let b = length-reverse left in let c = length-map (reverse all) in_node in let d = length-reverse all in
      (omega (arith, spare, some, one, room), omega (arith, next, some, one, whole, both, a, b, c, d, serials))

  pub filling_hole : (l : Links X) (all : List (Leveled X)) (m : Links X) (o : Option Name) (depth : ℕ) (left rest : List (Leveled X)) (v : Leveled X) → Filling l all m o depth left → left ≡ rest ++ v ∷ []
      → (n : ℕ) → n ≡ (depth + 1) - v.depth → Ending m [] (raised_by m n o) (v.depth - 1)
  filling_hole l all m o depth left rest v k split n is =
      let x = next_of_stack l all m o depth left rest v k split in
      let low = x.low in let few = x.few in
      raised_ends m [] o n (v.depth - 1) (omega (arith, low)) (subst (λ z. Ending m [] o z) (let e : depth ≡ (v.depth - 1) + n = omega (arith, low, few, is) in e) k.ending)

  pub filling_more : (l : Links X) (all : List (Leveled X)) (m now : Links X) (o : Option Name) (depth : ℕ) (left rest : List (Leveled X)) (v : Leveled X) → Filling l all m o depth left → left ≡ rest ++ v ∷ []
      → (n : ℕ) → n ≡ (depth + 1) - v.depth → (parent : Option Name) → parent ≡ raised_by m n o → (a : Name) → Inserts m parent None v.value now a → length all ≤ l.nodes.spare → Filling l all now (Some a) v.depth rest
  filling_more l all m now o depth left rest v k split n is parent up a ins room =
      let x = next_of_stack l all m o depth left rest v k split in
      let low = x.low in
      let place : Ending m [] parent (v.depth - 1) = subst (λ p. Ending m [] p (v.depth - 1)) (sym up) (filling_hole l all m o depth left rest v k split n is) in
      let w = more m now [] parent (v.depth - 1) v.value a place ins in
      let deep : (v.depth - 1) + 1 ≡ v.depth = omega (arith, low) in
      let spare = k.spare in let less = ap (λ (c : chain.Chained (Node X)). c.spare) w.rows in let some = ap length split in let one = length-append rest (v ∷ []) in
      let next = k.next in let risen = ap (λ (c : chain.Chained (Node X)). c.next_serial) w.rows in let longer = length-append k.done (in_node v ∷ []) in
      record {
        done = k.done ++ in_node v ∷ [];
        ending = subst (λ d. Ending now [] (Some a) d) deep w.ending;
        low = omega (arith, low);
        legal = x.legal;
        rows = last_row m now v.value a (v.depth - 1) w ∙ (λ j. k.rows j ++ row (k.next j) (node (deep j) v.value) ∷ []) ∙ sym (fresh-append l.nodes.next_serial k.done (in_node v));
        whole = append_assoc k.done (in_node v ∷ []) (nodes_in (reverse rest)) ∙ ap (λ z. k.done ++ nodes_in z) (sym x.turned) ∙ k.whole;
        next = omega (arith, next, risen, longer);
        spare = omega (arith, spare, less, some, one, room);
      }

  pub record Filled (l : Links X) (all : List (Leveled X)) (m : Links X) : Type 0 where
    pub forest : IsForest m
    pub rows : plains (rows_of m).rows ≡ fresh l.nodes.next_serial (nodes_in (reverse all))
    pub next : m.nodes.next_serial ≡ l.nodes.next_serial + length all
    pub spare : m.nodes.spare + length all ≡ l.nodes.spare

  pub filling_end : (l : Links X) (all : List (Leveled X)) (m : Links X) (o : Option Name) (depth : ℕ) (left : List (Leveled X)) → Filling l all m o depth left → left ≡ [] → Filled l all m
  filling_end l all m o depth left k none =
      let whole : k.done ≡ nodes_in (reverse all) = sym (append-nil k.done) ∙ ap (λ z. k.done ++ nodes_in (reverse z)) (sym none) ∙ k.whole in
      let count = ap length whole in let c = length-map (reverse all) in_node in let d = length-reverse all in
      let next = k.next in let spare = k.spare in let zero = ap length none in
      record {
        forest = is_forest m (plugged (k.ending.inner ++ []) bare) k.ending.stands;
        rows = k.rows ∙ ap (fresh l.nodes.next_serial) whole;
        next = omega (arith, next, count, c, d);
        spare = omega (arith, spare, zero);
      }
