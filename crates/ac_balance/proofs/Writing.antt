-- The value of a row is written through a `&mut`.
use Rattle.std.proofs.Common.{◌≡◌, ◌≢◌, ◌+◌, ◌⊎◌, max, Bool, true, false, ◌∷◌, ◌++◌, length, Some, is_some, refl, sym, ap, ◌∙◌, subst, inl, inr, arith}
use Rattle.std.specs.List.{slice_set}
use Rattle.std.specs.Option.{option_map}
use Rattle.std.proofs.lemmas.List.{length-append}
use Rattle.ac_base.specs.declared.name.Name.{Name}
use Rattle.ac_base.specs.Order.{IsTied, IsWeakOrder}
use Rattle.ac_base.specs.Rows.{row}
use Rattle.ac_base.specs.WeakOrders.{not_less_transitive}
use Rattle.ac_pool.specs.Contents as pool
use Rattle.ac_pool.specs.Contents.{Contents, value_of, IsLive}
use Rattle.ac_pool.proofs.ContentsLaws.{value_of-with_value_same, value_of-with_value_other}
use Rattle.ac_balance.specs.declared.entry.Entry.{Entry}
use Rattle.ac_balance.specs.declared.links.Node.{Node}
use Rattle.ac_balance.specs.declared.links.Links.{Links}
use Rattle.ac_balance.specs.Trees.{node, in_order, height, Balanced, plugged, before, after}
use Rattle.ac_balance.specs.TreeFields.{node_with, linked, root, Stands, links}
use Rattle.ac_balance.specs.Climbing.{Has, above_in, Framed, Closed}
use Rattle.ac_pool.specs.NamedRows.{HasName, index_of, IsOnce}
use Rattle.ac_balance.specs.Indexed.{IsAscending, Indexed, indexed, entry, key_of, value_at, value_put, with_rows, with_value, key_put, with_changed}
use Rattle.ac_balance.specs.IndexFields.{StandsFor, rows_in, IsOrderIndex}
use Rattle.ac_balance.proofs.Names.{IsAround, plugged_once, once_from}
use Rattle.ac_pool.proofs.Cuts.{once_put, set-cut, once_cut, once_gone, HasName-cut, HasName-put, HasName-right}
use Rattle.ac_balance.proofs.Standing.{Stands-same}
use Rattle.ac_balance.proofs.Keeping.{keeps_value, sound_still}
use Rattle.ac_balance.proofs.Climbs.{plugged-fits, plugged-balanced}
use Rattle.ac_balance.proofs.Opening.{cut, mend, root-top}
use Rattle.ac_balance.proofs.Rising.{Framed-same}
use Rattle.ac_balance.proofs.Sides.{each-weaker, ascending-right, before-less}
use Rattle.ac_balance.proofs.Indexes.{view_of, index_from, view-is, Located, located, place_of_row, row_located, values_are, cut_order}
use Rattle.ac_balance.proofs.Adding.{ascending-put}
use Rattle.ac_balance.proofs.Taking.{ascending-cut}

-- a borrow under the same name that leaves the same
pub lent_same : {N A B C : Type 0} (n : N) (f h : A → B) → ((w : A) → f w ≡ h w) → ◌≡◌ {A = (N × (A → B)) ⊎ C} (inl (n, f)) (inl (n, h))
lent_same n f h same = λ j. inl (n, λ w. same w j)

same_false : (a b : Bool) → (a ≡ false → b ≡ false) → (b ≡ false → a ≡ false) → a ≡ b
same_false true true f g = refl
same_false true false f g = g refl
same_false false true f g = sym (f refl)
same_false false false f g = refl

-- keys of which neither is less stand alike in the order
tied_stays : {K : Type 0} (less : K → K → Bool) → IsWeakOrder less → (k j : K) → IsTied less k j → (y : K) → (less y k ≡ less y j) × (less k y ≡ less j y)
tied_stays less weak k j tied y = (
  same_false (less y k) (less y j) (λ h. not_less_transitive weak j k y tied.0 h) (λ h. not_less_transitive weak k j y tied.1 h),
  same_false (less k y) (less j y) (λ h. not_less_transitive weak y k j h tied.1) (λ h. not_less_transitive weak y j k h tied.0),
)

module _ {K V : Type 0} (less : K → K → Bool) (l : Links (Entry K V)) (i : IsOrderIndex less l) where
  -- the node with another entry
  abbrev pub revalued : Node (Entry K V) → Entry K V → Node (Entry K V)
  revalued n e = node_with e n.parent n.left n.right n.height

  abbrev with_entry : Name → Entry K V → Indexed K V
  with_entry a e = with_rows (view_of l) (slice_set (rows_in l) (index_of a (rows_in l)) (row a e))

  -- the key stands in the order where the other one does
  abbrev pub Stays : K → K → Type 0
  Stays k j = (y : K) → (less y k ≡ less y j) × (less k y ≡ less j y)

  pub record Rewritten (a : Name) (old : Entry K V) (e : Entry K V) (d : Contents (Node (Entry K V))) : Type 0 where
    pub index : IsOrderIndex less (links d l.root)
    pub view : view_of (links d l.root) ≡ with_entry a e
    pub was : value_at (rows_in l) a ≡ Some old

  rewritten_at : (a : Name) (e : Entry K V) (p : Located l i.closed.tree a (rows_in l)) → Stays p.row.value.key e.key
      → Rewritten p.row.name p.row.value e (pool.with_value l.nodes p.row.name (linked e (above_in p.steps) (root p.left) (root p.right) (max (height p.left) (height p.right) + 1)))
  rewritten_at a e p stays =
      let c = l.nodes in let x = p.row in let y = row x.name e in let b = x.name in let steps = p.steps in
      let t = node p.left x p.right in let u = node p.left y p.right in
      let n = linked e (above_in steps) (root p.left) (root p.right) (max (height p.left) (height p.right) + 1) in let d = pool.with_value c b n in
      let front = before steps ++ in_order p.left in let back = in_order p.right ++ after steps in let rows = rows_in l in
      let parts = cut (value_of c) steps t p.placed.stands in let once = plugged_once steps t p.placed.once in
      let other : (k : Name) → k ≢ b → value_of d k ≡ value_of c k = λ k ne. value_of-with_value_other c b k n ne in
      let stands : Stands (value_of d) (above_in steps) u = (
        value_of-with_value_same c b n,
        Stands-same (value_of c) (value_of d) (Some b) p.left (λ k h. other k (λ same. once.0.0 (subst (λ z. Has z p.left) same h))) parts.1.1,
        Stands-same (value_of c) (value_of d) (Some b) p.right (λ k h. other k (λ same. once.0.1 (subst (λ z. Has z p.right) same h))) parts.1.2,
      ) in
      let framed : Framed (value_of d) steps (root u) (height u) = Framed-same (value_of c) (value_of d) steps (Some b) (height t) (λ k z. other k (λ same. once.1 b (inl refl) (subst (λ q. IsAround q steps) same z))) parts.0 in
      let fits = plugged-fits steps t (subst (λ z. Balanced z) (sym p.whole) i.closed.balanced) in
      let all_once : IsOnce (front ++ y ∷ back) = once_put front y back (once_cut front x back p.once) (once_gone front x back p.once) in
      let keeps = keeps_value c b (linked x.value (above_in steps) (root p.left) (root p.right) (max (height p.left) (height p.right) + 1)) n parts.1.0 in
      let asc : IsAscending (λ f g. less f.key g.key) (front ++ x ∷ back) = subst (IsAscending (λ f g. less f.key g.key)) p.is i.ascending in
      let l1 = length-append front (x ∷ back) in let l2 = length-append front (y ∷ back) in let l3 = ap length p.is in let few = i.closed.few in let count = i.count in let kept = keeps.count in
      let closed : Closed (links d l.root) (front ++ y ∷ back) = record {
        tree = plugged steps u;
        top = i.closed.top ∙ ap root (sym p.whole) ∙ root-top steps t ∙ sym (root-top steps u);
        stands = mend (value_of d) steps u framed stands;
        balanced = plugged-balanced steps u fits.0 fits.1;
        ordered = cut_order steps p.left y p.right;
        once = once_from (plugged steps u) (subst (λ zs. IsOnce zs) (sym (cut_order steps p.left y p.right)) all_once);
        few = omega (arith, l1, l2, l3, few);
        sound = sound_still c d keeps i.closed.sound;
      } in
      let named_still : (k : Name) → HasName k (front ++ x ∷ back) → HasName k (front ++ y ∷ back) = λ k h. elim (HasName-cut k front x back h) [ inl same ↦ HasName-right k front (y ∷ back) (inl same) | inr q ↦ HasName-put k front y back q ] in
      let s : StandsFor less (links d l.root) (front ++ y ∷ back) = record {
        closed = closed;
        ascending = ascending-put (λ f g. less f.key g.key) front y back (ascending-cut (λ f g. less f.key g.key) front x back asc)
            (each-weaker (λ f. less f.key x.value.key) (λ f. less f.key e.key) front (λ f h. sym (stays f.key).0 ∙ h) (before-less (λ f g. less f.key g.key) front x back asc))
            (each-weaker (λ f. less x.value.key f.key) (λ f. less e.key f.key) back (λ f h. sym (stays f.key).1 ∙ h) (ascending-right (λ f g. less f.key g.key) front (x ∷ back) asc).0);
        all = λ k live. named_still k (subst (HasName k) p.is (i.all k (sym (keeps.live k) ∙ live)));
        count = omega (arith, l1, l2, l3, count, kept);
      } in
      let at : value_at rows b ≡ Some x.value = ap (value_at rows) p.name ∙ row_located l i.closed.tree a rows p in
      let place : index_of b rows ≡ length front = ap (λ k. index_of k rows) p.name ∙ place_of_row l i.closed.tree a rows p in
      let set : slice_set rows (index_of b rows) y ≡ front ++ y ∷ back = ap (λ j. slice_set rows j y) place ∙ ap (λ zs. slice_set zs (length front) y) p.is ∙ set-cut front x y back in
      record {
        index = index_from less (links d l.root) (front ++ y ∷ back) s;
        view = view-is less (links d l.root) (front ++ y ∷ back) s ∙ sym (ap (λ zs. indexed zs c.next_serial c.spare) set);
        was = at;
      }

  pub rewritten : (a : Name) (n : Node (Entry K V)) (e : Entry K V) → value_of l.nodes a ≡ Some n → Stays n.value.key e.key → Rewritten a n.value e (pool.with_value l.nodes a (revalued n e))
  rewritten a n e is stays =
      let p = located l (rows_in l) i.closed a (i.all a (ap is_some is)) in
      let full = linked p.row.value (above_in p.steps) (root p.left) (root p.right) (max (height p.left) (height p.right) + 1) in
      let here : value_of l.nodes a ≡ Some full = ap (value_of l.nodes) (sym p.name) ∙ (cut (value_of l.nodes) p.steps (node p.left p.row p.right) p.placed.stands).1.0 in
      let both : Some n ≡ Some full = sym is ∙ here in let same : n ≡ full = cc in
      subst (λ (k : Node (Entry K V)). Rewritten a k.value e (pool.with_value l.nodes a (revalued k e))) (sym same)
      (subst (λ b. Rewritten b p.row.value e (pool.with_value l.nodes b (revalued full e))) p.name (rewritten_at a e p (subst (λ (k : Node (Entry K V)). Stays k.value.key e.key) same stays)))

  -- another value under the same key
  abbrev pub Written : Name → V → Contents (Node (Entry K V)) → Type 0
  Written a w d = IsOrderIndex less (links d l.root) × (view_of (links d l.root) ≡ with_value (view_of l) a w)

  pub written : (a : Name) (n : Node (Entry K V)) (w : V) → value_of l.nodes a ≡ Some n → Written a w (pool.with_value l.nodes a (revalued n (entry n.value.key w)))
  written a n w is =
      let r = rewritten a n (entry n.value.key w) is (λ y. (refl, refl)) in
      (r.index, r.view ∙ sym (ap (value_put (view_of l) a w) r.was))

  -- another key at the same place
  abbrev pub Changed : Name → (K → K) → Contents (Node (Entry K V)) → Type 0
  Changed a f d = IsOrderIndex less (links d l.root) × (view_of (links d l.root) ≡ with_changed (view_of l) a f)

  pub changed : (weak : IsWeakOrder less) (a : Name) (n : Node (Entry K V)) (f : K → K) → value_of l.nodes a ≡ Some n → ((k : K) → key_of (view_of l) a ≡ Some k → IsTied less k (f k))
      → Changed a f (pool.with_value l.nodes a (revalued n (entry (f n.value.key) n.value.value)))
  changed weak a n f is level =
      let was : value_at (rows_in l) a ≡ Some n.value = sym (values_are l (rows_in l) i.closed i.all a) ∙ ap (option_map (λ (k : Node (Entry K V)). k.value)) is in
      let tied = level n.value.key (ap (option_map (λ (e : Entry K V). e.key)) was) in
      let r = rewritten a n (entry (f n.value.key) n.value.value) is (tied_stays less weak n.value.key (f n.value.key) tied) in
      (r.index, r.view ∙ sym (ap (key_put (view_of l) a f) was))
