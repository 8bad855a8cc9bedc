-- A chain seen as its rows, and what each change of its links and nodes leaves of them.
use Rattle.std.proofs.Common.{◌≡◌, ◌≢◌, ℕ, suc, ◌+◌, ◌-◌, ◌<◌, ◌≤◌, List, [], ◌∷◌, ◌++◌, length, Option, Some, None, is_some, refl, sym, ap, ◌∙◌, subst, inl, inr, arith, add-one, append-nil, append_assoc, zero, Result, Ok, Err, Bor}
use Rattle.std.specs.Result.{OnOk, OnErr}
use Rattle.std.proofs.lemmas.Bool.{cond-true, cond-false, cases_lt, le-leb, lt-leb}
use Rattle.std.specs.List.{insert, remove}
use Rattle.std.specs.Option.{option_map, option_copied}
use Rattle.std.specs.FinMap as map
use Rattle.ac_base.specs.declared.name.Name.{Name}
use Rattle.ac_pool.specs.Names.{name_cmp}
use Rattle.ac_base.specs.Growth.{pow8}
use Rattle.ac_pool.specs.Contents as pool
use Rattle.ac_pool.specs.Contents.{Contents, live_count, slot_count, added, taken}
use Rattle.ac_pool.proofs.NameLaws.{cases_name}
use Rattle.ac_pool.proofs.ContentsLaws.{live_value, value_of-added_same, value_of-added_other, value_of-taken_same, value_of-taken_other, live_count-added, live_count-taken, fresh_is_dead, taken_live, entries-reserved, reserved_kept, reserved_grown}
use Rattle.ac_chain.specs.declared.links.Node.{Node}
use Rattle.ac_chain.specs.declared.links.Links.{Links}
use Rattle.ac_base.specs.Rows.{Row, row, names}
use Rattle.ac_chain.specs.Rows.{Chained, chained, place_of, IsLive, value_of, next_name, prev_name, cleared, no_rows, reserved, inserted, removed, IsFresh, IsSound, walk_from, WalksInOrder}
use Rattle.ac_pool.specs.NamedRows.{index_of, name_at, name_before, HasName, IsOnce}
use Rattle.ac_chain.specs.ChainFields.{node, node_with, links, first_or, last_or, Linked, StandsFor, walked, rows_in, IsChain, next_of, prev_of, before_in, link_before, linked_before, attached, unlinked}
use Rattle.ac_pool.specs.Link.{link_of, name_in}
use Rattle.ac_pool.proofs.Cuts.{apart, index_of-cut, name_at_has, HasName-left, HasName-right, HasName-cut, HasName-put, once_cut, once_gone, once_put, has_live, live_has, Cut, cut, cut-row, once_at, remove-cut, insert-cut}
use Rattle.ac_chain.proofs.Ends.{split, name_at-first, name_at-after, name_before-cut}
use Rattle.ac_chain.proofs.Linking.{in_slot, last_has, Linked-same, Linked-at, Linked-live, walked-is, next_linked, prev_linked}
use Rattle.ac_pool.proofs.SlotNames.{linked_name}
use Rattle.ac_chain.proofs.Writes.{attached-is}
use Rattle.ac_chain.proofs.Standing.{Keeps, Ends, before_in-is, link_before-is, unlinked-keeps, linked_before-keeps, unlinked-ends, linked_before-ends}

module _ {X : Type 0} where
  abbrev pub view_of : Links X → Chained X
  view_of l = chained (rows_in l) l.nodes.next_serial l.nodes.spare

  pub ends_of : (l : Links X) (rows : List (Row Name X)) → StandsFor l rows → Ends l rows
  ends_of l rows s = record { linked = s.linked; first = s.first; last = s.last }

  pub rows_in-is : (l : Links X) (rows : List (Row Name X)) → StandsFor l rows → rows_in l ≡ rows
  unfolding rows_in
  rows_in-is l rows s = ap (walked (live_count l.nodes) l.nodes) s.first ∙ walked-is l.nodes s.sound None rows (live_count l.nodes) s.linked (omega (arith, s.count))

  pub IsChain-from : (l : Links X) (rows : List (Row Name X)) → StandsFor l rows → IsChain l
  IsChain-from l rows s = subst (λ zs. StandsFor l zs) (sym (rows_in-is l rows s)) s

  pub view-is : (l : Links X) (rows : List (Row Name X)) → StandsFor l rows → view_of l ≡ chained rows l.nodes.next_serial l.nodes.spare
  view-is l rows s = ap (λ zs. chained zs l.nodes.next_serial l.nodes.spare) (rows_in-is l rows s)

  -- the rows' names are the pool's
  pub named_live : (l : Links X) (rows : List (Row Name X)) → StandsFor l rows → (a : Name) → HasName a rows → pool.IsLive l.nodes a
  named_live l rows s a h = Linked-live (pool.value_of l.nodes) None rows None s.linked a h

  pub sound_of : (l : Links X) (rows : List (Row Name X)) → StandsFor l rows → IsSound (chained rows l.nodes.next_serial l.nodes.spare)
  sound_of l rows s =
      let live = λ (a : Name) (h : index_of a rows < length rows). named_live l rows s a (live_has a rows h) in record {
        once = once_at rows s.once;
        slots = λ a b p q e. s.sound.slots a b (live a p) (live b q) e;
        serials = λ a b p q e. s.sound.serials a b (live a p) (live b q) e;
        issued = λ a p. s.sound.issued a (live a p);
        next = s.sound.next;
        few = omega (arith, s.sound.few, s.count);
      }

  pub chain_sound : (l : Links X) → IsChain l → IsSound (view_of l)
  chain_sound l s = sound_of l (rows_in l) s

  -- the node of a row
  pub node_at : (l : Links X) (rows : List (Row Name X)) (s : StandsFor l rows) (a : Name) (k : Cut a rows) → pool.value_of l.nodes a ≡ Some (node k.at.value (last_or None k.before) (first_or k.after None))
  node_at l rows s a k =
      ap (pool.value_of l.nodes) k.named ∙ Linked-at (pool.value_of l.nodes) None k.before k.at k.after None (subst (λ zs. Linked (pool.value_of l.nodes) None zs None) k.is s.linked)

  same_node : (m n : Node X) → Some m ≡ Some n → m ≡ n
  same_node m n e = cc

  pub value_at : (l : Links X) (rows : List (Row Name X)) (next spare : ℕ) → StandsFor l rows → (a : Name) (n : Node X) → pool.value_of l.nodes a ≡ Some n → Some n.value ≡ value_of (chained rows next spare) a
  value_at l rows next spare s a n is =
      let k = cut a rows (s.all a (ap is_some is)) in
      let same : n ≡ node k.at.value (last_or None k.before) (first_or k.after None) = same_node n _ (sym is ∙ node_at l rows s a k) in
      ap (λ (m : Node X). Some m.value) same ∙ sym (ap (option_map (λ (r : Row Name X). r.value)) (cut-row a rows k))

  pub next_at : (l : Links X) (rows : List (Row Name X)) → StandsFor l rows → (a : Name) → HasName a rows → next_of l.nodes (pool.value_of l.nodes a) ≡ name_at rows (suc (index_of a rows))
  next_at l rows s a h =
      let k = cut a rows h in
      ap (λ b. next_of l.nodes (pool.value_of l.nodes b)) k.named ∙ next_linked l.nodes s.sound k.before k.at k.after (subst (λ zs. Linked (pool.value_of l.nodes) None zs None) k.is s.linked)
      ∙ sym (ap (λ i. name_at rows (suc i)) k.place ∙ ap (λ zs. name_at zs (suc (length k.before))) k.is ∙ name_at-after k.before k.at k.after)

  pub prev_at : (l : Links X) (rows : List (Row Name X)) → StandsFor l rows → (a : Name) → HasName a rows → prev_of l.nodes (pool.value_of l.nodes a) ≡ name_before rows (index_of a rows)
  prev_at l rows s a h =
      let k = cut a rows h in
      ap (λ b. prev_of l.nodes (pool.value_of l.nodes b)) k.named ∙ prev_linked l.nodes s.sound k.before k.at k.after (subst (λ zs. Linked (pool.value_of l.nodes) None zs None) k.is s.linked)
      ∙ sym (ap (λ i. name_before rows i) k.place ∙ ap (λ zs. name_before zs (length k.before)) k.is ∙ name_before-cut k.before (k.at ∷ k.after))

  -- no rows
  pub empty_stands : (d : Contents (Node X)) → d.entries ≡ map.empty → pool.IsSound d → StandsFor (links d None None) []
  empty_stands d none sound = record {
    linked = tt;
    first = refl;
    last = refl;
    once = tt;
    all = λ a h. absurd (dead a h);
    count = sym (ap map.len none ∙ map.len-empty name_cmp (Node X));
    sound = sound;
  }
    where
      dead : (a : Name) → pool.IsLive d a → ⊥
      dead a h = let no : pool.value_of d a ≡ None = ap (λ m. map.get m a) none ∙ map.get-empty name_cmp a in cc

  -- the same nodes in a pool that has grown
  pub grown_stands : (l : Links X) (rows : List (Row Name X)) → StandsFor l rows → (d : Contents (Node X)) → d.entries ≡ l.nodes.entries → pool.IsSound d → StandsFor (links d l.first l.last) rows
  grown_stands l rows s d same sound = record {
    linked = Linked-same (pool.value_of l.nodes) (pool.value_of d) None rows None (λ a h. ap (λ m. map.get m a) same) s.linked;
    first = s.first;
    last = s.last;
    once = s.once;
    all = λ a h. s.all a (ap (λ m. is_some (map.get m a)) (sym same) ∙ h);
    count = s.count ∙ ap map.len (sym same);
    sound = sound;
  }

  length_cut : (xs : List (Row Name X)) (r : Row Name X) (ys : List (Row Name X)) → length (xs ++ r ∷ ys) ≡ suc (length (xs ++ ys))
  length_cut [] r ys = refl
  length_cut (x ∷ xs) r ys = ap suc (length_cut xs r ys)

  -- no row has the name of a node that is put in, and the nodes of the rows are as before
  new_name : (l : Links X) (rows : List (Row Name X)) (a : Name) → StandsFor l rows → pool.IsFresh l.nodes a → HasName a rows → ⊥
  new_name l rows a s fresh h = let e : is_some {T = Node X} None ≡ is_some (pool.value_of l.nodes a) = ap is_some (sym (fresh_is_dead l.nodes a fresh)) in let live = named_live l rows s a h in cc

  other_nodes : (l : Links X) (a : Name) (n : Node X) (d : Contents (Node X)) → d ≡ added l.nodes a n → (b : Name) → b ≢ a → pool.value_of d b ≡ pool.value_of l.nodes b
  other_nodes l a n d is b ne = ap (λ c. pool.value_of c b) is ∙ value_of-added_other l.nodes a b n ne

  row_nodes : (l : Links X) (rows : List (Row Name X)) (a : Name) (n : Node X) (d : Contents (Node X)) → StandsFor l rows → pool.IsFresh l.nodes a → d ≡ added l.nodes a n
      → (b : Name) → HasName b rows → pool.value_of d b ≡ pool.value_of l.nodes b
  row_nodes l rows a n d s fresh is b h = other_nodes l a n d is b (λ e. new_name l rows a s fresh (subst (λ k. HasName k rows) e h))

  ends_added : (l : Links X) (rows : List (Row Name X)) (a : Name) (n : Node X) (d : Contents (Node X)) → StandsFor l rows → pool.IsFresh l.nodes a → d ≡ added l.nodes a n → Ends (links d l.first l.last) rows
  ends_added l rows a n d s fresh is = record { linked = Linked-same (pool.value_of l.nodes) (pool.value_of d) None rows None (row_nodes l rows a n d s fresh is) s.linked; first = s.first; last = s.last }

  -- a node that is put in with its own links is linked with those on both sides
  attached_links : (l : Links X) (xs ys : List (Row Name X)) (place : Option Name) (a : Name) (v : X) (d : Contents (Node X)) → StandsFor l (xs ++ ys) → pool.IsFresh l.nodes a
      → d ≡ added l.nodes a (node_with v (link_before l place) (link_of place)) → pool.IsSound d → place ≡ first_or ys None
      → attached (links d l.first l.last) (link_before l place) place a ≡ linked_before (links d l.first l.last) place a
  attached_links l xs ys place a v d s fresh is sound at =
      let rows = xs ++ ys in
      let n = node_with v (link_before l place) (link_of place) in
      let before = last_or None xs in
      let there : (b : Name) → before ≡ Some b → HasName b rows = λ b e. HasName-left b xs ys (last_has xs b e) in
      let link : link_before l place ≡ link_of before = ap (link_before l) at ∙ link_before-is l xs ys (ends_of l rows s) in
      let live : (b : Name) → before ≡ Some b → pool.IsLive d b = λ b e. ap is_some (row_nodes l rows a n d s fresh is b (there b e)) ∙ named_live l rows s b (there b e) in
      let here : pool.value_of d a ≡ Some (node v before place) = ap (λ c. pool.value_of c a) is ∙ value_of-added_same l.nodes a n ∙ ap (λ k. Some (node_with v k (link_of place))) link in
      attached-is (links d l.first l.last) place a v (link_before l place) before (ap (name_in d) link ∙ linked_name d sound before live)
      (sym (ap (before_in (links d l.first l.last)) at ∙ before_in-is (links d l.first l.last) sound xs ys (ends_added l rows a n d s fresh is)))
      (λ b e same. new_name l rows a s fresh (subst (λ k. HasName k rows) (sym same) (there b e))) here

  -- a row more
  pub inserted_stands : (l : Links X) (xs ys : List (Row Name X)) (place : Option Name) (a : Name) (v : X) (p q : Option Name) (d : Contents (Node X)) → StandsFor l (xs ++ ys) → pool.IsFresh l.nodes a
      → d ≡ added l.nodes a (node v p q) → pool.IsSound d → place ≡ first_or ys None → StandsFor (linked_before (links d l.first l.last) place a) (xs ++ row a v ∷ ys)
  inserted_stands l xs ys place a v p q d s fresh is sound at =
      let m = links d l.first l.last in
      let r = row a v in
      let dead = fresh_is_dead l.nodes a fresh in
      let new = new_name l (xs ++ ys) a s fresh in
      let others = other_nodes l a (node v p q) d is in
      let before = ends_added l (xs ++ ys) a (node v p q) d s fresh is in
      let here : pool.value_of d a ≡ Some (node v p q) = ap (λ c. pool.value_of c a) is ∙ value_of-added_same l.nodes a (node v p q) in
      let after = linked_before-ends m sound xs r ys place p q s.once new here at before in
      let keeps = linked_before-keeps m place a in
      let more : live_count d ≡ live_count l.nodes + 1 = ap live_count is ∙ live_count-added l.nodes a (node v p q) dead in
      record {
        linked = after.linked;
        first = after.first;
        last = after.last;
        once = once_put xs r ys s.once new;
        all = λ b h. elim (cases_name b a) [
          | inl e ↦ HasName-right b xs (r ∷ ys) (inl e)
          | inr ne ↦ HasName-put b xs r ys (s.all b (ap is_some (sym (others b ne)) ∙ keeps.live b h))
        ];
        count = let old = s.count in let kept = keeps.count in let len = length_cut xs r ys in omega arith;
        sound = keeps.sound sound;
      }

  -- a row less
  pub removed_stands : (l : Links X) (xs : List (Row Name X)) (r : Row Name X) (ys : List (Row Name X)) (d : Contents (Node X)) → StandsFor l (xs ++ r ∷ ys)
      → d ≡ taken (unlinked l r.name).nodes r.name → pool.IsSound d → StandsFor (links d (unlinked l r.name).first (unlinked l r.name).last) (xs ++ ys)
  removed_stands l xs r ys d s is sound =
      let m = unlinked l r.name in
      let f = pool.value_of m.nodes in
      let g = pool.value_of d in
      let keeps = unlinked-keeps l r.name in
      let e = unlinked-ends l s.sound xs r ys s.once (ends_of l (xs ++ r ∷ ys) s) in
      let gone = once_gone xs r ys s.once in
      let others : (b : Name) → b ≢ r.name → g b ≡ f b = λ b ne. ap (λ c. pool.value_of c b) is ∙ value_of-taken_other m.nodes r.name b ne in
      let n = keeps.value r.name (node r.value (last_or None xs) (first_or ys None)) (Linked-at (pool.value_of l.nodes) None xs r ys None s.linked) in
      let live : pool.IsLive m.nodes r.name = ap is_some n.2 in
      let less : live_count d ≡ live_count m.nodes - 1 = ap live_count is ∙ live_count-taken m.nodes r.name live in
      record {
        linked = Linked-same f g None (xs ++ ys) None (λ b h. others b (λ same. gone (subst (λ k. HasName k (xs ++ ys)) same h))) e.linked;
        first = e.first;
        last = e.last;
        once = once_cut xs r ys s.once;
        all = λ b h. elim (cases_name b r.name) [
          | inl same ↦ let dead : pool.value_of d b ≡ None = ap (pool.value_of d) same ∙ ap (λ c. pool.value_of c r.name) is ∙ value_of-taken_same m.nodes r.name in absurd (let no : is_some {T = Node X} None ≡ is_some (pool.value_of d b) = ap is_some (sym dead) in cc)
          | inr ne ↦ elim (HasName-cut b xs r ys (s.all b (keeps.live b (ap is_some (sym (others b ne)) ∙ h)))) [ inl same ↦ absurd (ne same) | inr t ↦ t ]
        ];
        count = let old = s.count in let kept = keeps.count in let len = length_cut xs r ys in omega arith;
        sound = sound;
      }

  -- a row elsewhere
  pub moved_stands : (l : Links X) (xs : List (Row Name X)) (r : Row Name X) (ys zs ws : List (Row Name X)) (place : Option Name) → StandsFor l (xs ++ r ∷ ys) → xs ++ ys ≡ zs ++ ws → place ≡ first_or ws None
      → StandsFor (linked_before (unlinked l r.name) place r.name) (zs ++ r ∷ ws)
  moved_stands l xs r ys zs ws place s same at =
      let m = unlinked l r.name in
      let k = unlinked-keeps l r.name in
      let h = linked_before-keeps m place r.name in
      let once : IsOnce (zs ++ ws) = subst (λ rows. IsOnce rows) same (once_cut xs r ys s.once) in
      let gone : HasName r.name (zs ++ ws) → ⊥ = λ t. once_gone xs r ys s.once (subst (λ rows. HasName r.name rows) (sym same) t) in
      let n = k.value r.name (node r.value (last_or None xs) (first_or ys None)) (Linked-at (pool.value_of l.nodes) None xs r ys None s.linked) in
      let e : Ends m (zs ++ ws) = subst (λ rows. Ends m rows) same (unlinked-ends l s.sound xs r ys s.once (ends_of l (xs ++ r ∷ ys) s)) in
      let after = linked_before-ends m (k.sound s.sound) zs r ws place n.0 n.1 once gone n.2 at e in
      record {
        linked = after.linked;
        first = after.first;
        last = after.last;
        once = once_put zs r ws once gone;
        all = λ b t. elim (HasName-cut b xs r ys (s.all b (k.live b (h.live b t)))) [
          | inl here ↦ HasName-right b zs (r ∷ ws) (inl here)
          | inr there ↦ HasName-put b zs r ws (subst (λ rows. HasName b rows) same there)
        ];
        count = let old = s.count in let one = k.count in let two = h.count in let a = length_cut xs r ys in let b = length_cut zs r ws in let c : length (xs ++ ys) ≡ length (zs ++ ws) = ap length same in omega arith;
        sound = h.sound (k.sound s.sound);
      }

  -- a chain whose nodes are none
  pub empty_chain : (d : Contents (Node X)) (next spare : ℕ) → d ≡ pool.no_values next spare → pool.IsSound d → IsChain (links d None None) × (view_of (links d None None) ≡ no_rows next spare)
  empty_chain d next spare is sound =
      let s = empty_stands d (ap (λ (c : Contents (Node X)). c.entries) is) sound in
      (IsChain-from (links d None None) [] s, view-is (links d None None) [] s ∙ ap (λ (c : Contents (Node X)). chained {X = X} [] c.next_serial c.spare) is)

  -- a chain whose pool has grown, or has not
  pub grown_chain : (l : Links X) → IsChain l → (d : Contents (Node X)) → d.entries ≡ l.nodes.entries → pool.IsSound d → IsChain (links d l.first l.last) × (view_of (links d l.first l.last) ≡ chained (rows_in l) d.next_serial d.spare)
  grown_chain l s d same sound =
      let g = grown_stands l (rows_in l) s d same sound in (IsChain-from (links d l.first l.last) (rows_in l) g, view-is (links d l.first l.last) (rows_in l) g)

  pub entries_either : {T E : Type 0} (r : Result T E) (c d : Contents (Node X)) (n : ℕ) → OnOk r (d ≡ pool.reserved c n) → OnErr r (d ≡ c) → d.entries ≡ c.entries
  entries_either (Ok x) c d n p q = ap (λ (e : Contents (Node X)). e.entries) p ∙ entries-reserved c n
  entries_either (Err e) c d n p q = ap (λ (e : Contents (Node X)). e.entries) q

  pub reserved_view : (rows : List (Row Name X)) (c : Contents (Node X)) (n : ℕ) → length rows ≡ live_count c → chained rows (pool.reserved c n).next_serial (pool.reserved c n).spare ≡ reserved (chained rows c.next_serial c.spare) n
  reserved_view rows c n count = elim (cases_lt c.spare n) [
    | inl lt ↦ ap (λ (d : Contents (Node X)). chained rows d.next_serial d.spare) (reserved_grown c n lt) ∙ ap (λ m. chained rows c.next_serial (pow8 (m + n) - m)) (sym count) ∙ sym (cond-false _ _ _ (lt-leb n c.spare lt))
    | inr le ↦ ap (λ (d : Contents (Node X)). chained rows d.next_serial d.spare) (reserved_kept c n le) ∙ sym (cond-true _ _ _ (le-leb n c.spare le))
  ]

  pub live_in : (l : Links X) → IsChain l → (a : Name) → IsLive (view_of l) a → pool.IsLive l.nodes a
  live_in l s a h = named_live l (rows_in l) s a (live_has a (rows_in l) h)

  pub live_from : (l : Links X) → IsChain l → (a : Name) → pool.IsLive l.nodes a → IsLive (view_of l) a
  live_from l s a h = has_live a (rows_in l) (s.all a h)

  pub last_is : (l : Links X) → IsChain l → l.last ≡ name_before (rows_in l) (length (rows_in l))
  last_is l s = s.last ∙ sym (ap (λ zs. name_before zs (length (rows_in l))) (sym (append-nil (rows_in l))) ∙ name_before-cut (rows_in l) [])

  pub first_is : (l : Links X) → IsChain l → l.first ≡ name_at (rows_in l) 0
  first_is l s = s.first ∙ sym (name_at-first (rows_in l))

  walk-names : (rows : List (Row Name X)) (next spare : ℕ) (zs ys : List (Row Name X)) (many : ℕ) → rows ≡ zs ++ ys → IsOnce rows → length ys ≤ many → walk_from (chained rows next spare) many (first_or ys None) ≡ names ys
  walk-names rows next spare zs [] zero is once h = refl
  walk-names rows next spare zs [] (suc many) is once h = refl
  walk-names rows next spare zs (y ∷ ys) zero is once h = absurd (omega arith)
  walk-names rows next spare zs (y ∷ ys) (suc many) is once h =
      let once_at_y : IsOnce (zs ++ y ∷ ys) = subst (λ k. IsOnce k) is once in
      let at : index_of y.name rows ≡ length zs = ap (index_of y.name) is ∙ index_of-cut zs y ys (λ t. apart zs (y ∷ ys) once_at_y y.name t (inl refl)) in
      let after : next_name (chained rows next spare) y.name ≡ first_or ys None = ap (λ i. name_at rows i) (add-one (index_of y.name rows)) ∙ ap (λ i. name_at rows (suc i)) at ∙ ap (λ k. name_at k (suc (length zs))) is ∙ name_at-after zs y ys in
      ap (λ o. y.name ∷ walk_from (chained rows next spare) many o) after
      ∙ ap (λ k. y.name ∷ k) (walk-names rows next spare (zs ++ y ∷ []) ys many (is ∙ sym (append_assoc zs (y ∷ []) ys)) once (omega arith))

  pub walks : (l : Links X) → IsChain l → WalksInOrder (view_of l)
  walks l s many h = ap (walk_from (view_of l) many) (name_at-first (rows_in l)) ∙ walk-names (rows_in l) l.nodes.next_serial l.nodes.spare [] (rows_in l) many refl s.once h

  -- a name's place is where it stands
  pub index_at : (rows : List (Row Name X)) → IsOnce rows → (i : ℕ) (a : Name) → name_at rows i ≡ Some a → (HasName a rows) × (index_of a rows ≡ i)
  index_at rows once i a e =
      let h = name_at_has rows i a e in
      let k = cut a rows h in
      let at : name_at rows (index_of a rows) ≡ Some a = ap (option_map (λ (r : Row Name X). r.name)) (cut-row a rows k) ∙ ap Some (sym k.named) in
      (h, once_at rows once (index_of a rows) i a at e)

  pub next_is : (l : Links X) → IsChain l → (a : Name) → IsLive (view_of l) a → next_of l.nodes (pool.value_of l.nodes a) ≡ next_name (view_of l) a
  next_is l s a h = next_at l (rows_in l) s a (live_has a (rows_in l) h) ∙ sym (ap (λ i. name_at (rows_in l) i) (add-one (index_of a (rows_in l))))

  pub prev_is : (l : Links X) → IsChain l → (a : Name) → IsLive (view_of l) a → prev_of l.nodes (pool.value_of l.nodes a) ≡ prev_name (view_of l) a
  prev_is l s a h = prev_at l (rows_in l) s a (live_has a (rows_in l) h)

  pub next_in_order : (rows : List (Row Name X)) (next spare : ℕ) → IsOnce rows → (a : Name) (i : ℕ) → name_at rows i ≡ Some a → next_name (chained rows next spare) a ≡ name_at rows (i + 1)
  next_in_order rows next spare once a i e = ap (λ k. name_at rows (k + 1)) (index_at rows once i a e).1

  pub prev_in_order : (rows : List (Row Name X)) (next spare : ℕ) → IsOnce rows → (a : Name) (i : ℕ) → name_at rows i ≡ Some a → prev_name (chained rows next spare) a ≡ name_before rows i
  prev_in_order rows next spare once a i e = ap (λ k. name_before rows k) (index_at rows once i a e).1

  pub placed : (l : Links X) (place : Option Name) → ((b : Name) → place ≡ Some b → IsLive (view_of l) b) → (b : Name) → place ≡ Some b → HasName b (rows_in l)
  placed l place h b e = live_has b (rows_in l) (h b e)

  pub inserted_chain : (l : Links X) → IsChain l → (place : Option Name) → ((b : Name) → place ≡ Some b → IsLive (view_of l) b) → (a : Name) (v : X) (d : Contents (Node X))
      → pool.IsFresh l.nodes a → d ≡ added l.nodes a (node_with v (link_before l place) (link_of place)) → pool.IsSound d
      → IsChain (attached (links d l.first l.last) (link_before l place) place a) × (view_of (attached (links d l.first l.last) (link_before l place) place a) ≡ inserted (view_of l) place (row a v))
  inserted_chain l s place h a v d fresh is sound =
      let rows = rows_in l in
      let k = split place rows (placed l place h) in
      let stands : StandsFor l (k.before ++ k.after) = subst (λ zs. StandsFor l zs) k.is s in
      let m = linked_before (links d l.first l.last) place a in
      let same : attached (links d l.first l.last) (link_before l place) place a ≡ m = attached_links l k.before k.after place a v d stands fresh is sound k.named in
      let r = row a v in
      let t : StandsFor m (k.before ++ r ∷ k.after) = inserted_stands l k.before k.after place a v (in_slot (link_before l place)) place d stands fresh is sound k.named in
      let keeps = linked_before-keeps (links d l.first l.last) place a in
      let next : m.nodes.next_serial ≡ l.nodes.next_serial + 1 = keeps.next ∙ ap (λ (c : Contents (Node X)). c.next_serial) is in
      let spare : m.nodes.spare ≡ l.nodes.spare - 1 = keeps.spare ∙ ap (λ (c : Contents (Node X)). c.spare) is in
      let put : insert rows (place_of place rows) r ≡ k.before ++ r ∷ k.after = ap (λ i. insert rows i r) k.at ∙ ap (λ zs. insert zs (length k.before) r) k.is ∙ insert-cut k.before r k.after in
      let all : rows_in m ≡ insert rows (place_of place rows) r = rows_in-is m (k.before ++ r ∷ k.after) t ∙ sym put in
      (subst (λ (x : Links X). IsChain x) (sym same) (IsChain-from m (k.before ++ r ∷ k.after) t), ap (λ (x : Links X). view_of x) same ∙ (λ i. chained (all i) (next i) (spare i)))

  pub fresh_name : (l : Links X) → IsChain l → (a : Name) (n : Node X) (d : Contents (Node X)) → pool.IsFresh l.nodes a → d ≡ added l.nodes a n → pool.IsSound d → IsFresh (view_of l) a
  fresh_name l s a n d fresh is sound = record {
    slot = λ b h. fresh.slot b (live_in l s b h);
    serials = λ b h e.
        let live = live_in l s b h in
        let apart_b : b ≢ a = λ same. fresh.slot b live (ap (λ (k : Name). k.slot) same) in
        let live_b : pool.IsLive d b = ap (λ c. is_some (pool.value_of c b)) is ∙ ap is_some (value_of-added_other l.nodes a b n apart_b) ∙ live in
        let live_a : pool.IsLive d a = ap (λ c. is_some (pool.value_of c a)) is ∙ ap is_some (value_of-added_same l.nodes a n) in
        apart_b (sound.serials b a live_b live_a e);
    serial = fresh.serial;
  }

  pub removed_chain : (l : Links X) → IsChain l → (a : Name) → IsLive (view_of l) a → (d : Contents (Node X)) → d ≡ taken (unlinked l a).nodes a → pool.IsSound d
      → IsChain (links d (unlinked l a).first (unlinked l a).last) × (view_of (links d (unlinked l a).first (unlinked l a).last) ≡ removed (view_of l) a)
  removed_chain l s a h d is sound =
      let rows = rows_in l in
      let k = cut a rows (live_has a rows h) in
      let u = unlinked l a in
      let m = links d u.first u.last in
      let w = unlinked l k.at.name in
      let stands : StandsFor l (k.before ++ k.at ∷ k.after) = subst (λ zs. StandsFor l zs) k.is s in
      let named : u ≡ w = ap (unlinked l) k.named in
      let is_w : d ≡ taken w.nodes k.at.name = is ∙ (λ i. taken (unlinked l (k.named i)).nodes (k.named i)) in
      let t_w : StandsFor (links d w.first w.last) (k.before ++ k.after) = removed_stands l k.before k.at k.after d stands is_w sound in
      let t : StandsFor m (k.before ++ k.after) = subst (λ (x : Links X). StandsFor (links d x.first x.last) (k.before ++ k.after)) (sym named) t_w in
      let keeps = unlinked-keeps l a in
      let n = keeps.value a (node k.at.value (last_or None k.before) (first_or k.after None)) (node_at l rows s a k) in
      let live_u : pool.IsLive u.nodes a = ap is_some n.2 in
      let is_taken = is ∙ taken_live u.nodes a live_u in
      let next : d.next_serial ≡ l.nodes.next_serial = ap (λ (c : Contents (Node X)). c.next_serial) is_taken ∙ keeps.next in
      let spare : d.spare ≡ l.nodes.spare + 1 = ap (λ (c : Contents (Node X)). c.spare) is_taken ∙ ap (λ x. x + 1) keeps.spare in
      let less : remove rows (index_of a rows) ≡ k.before ++ k.after = ap (remove rows) k.place ∙ ap (λ zs. remove zs (length k.before)) k.is ∙ remove-cut k.before k.at k.after in
      let all : rows_in m ≡ remove rows (index_of a rows) = rows_in-is m (k.before ++ k.after) t ∙ sym less in
      (IsChain-from m (k.before ++ k.after) t, λ i. chained (all i) (next i) (spare i))

  -- the value of a node whose links have been written
  pub kept_value : (l : Links X) → IsChain l → (u : Links X) → Keeps l.nodes u.nodes → (a : Name) → IsLive (view_of l) a → (n : Node X) → pool.value_of u.nodes a ≡ Some n → Some n.value ≡ value_of (view_of l) a
  kept_value l s u keeps a h n is =
      let x = live_value (pool.value_of l.nodes a) (live_in l s a h) in
      let now = keeps.value a x.0 x.1 in
      let same : n ≡ node x.0.value now.0 now.1 = same_node n (node x.0.value now.0 now.1) (sym is ∙ now.2) in
      ap (λ (m : Node X). Some m.value) same ∙ value_at l (rows_in l) l.nodes.next_serial l.nodes.spare s a x.0 x.1

  pub kept_live : (l : Links X) → IsChain l → (u : Links X) → Keeps l.nodes u.nodes → (a : Name) → IsLive (view_of l) a → pool.IsLive u.nodes a
  kept_live l s u keeps a h = let x = live_value (pool.value_of l.nodes a) (live_in l s a h) in ap is_some (keeps.value a x.0 x.1).2

  pub cleared_chain : (l : Links X) → IsChain l → (d : Contents (Node X)) → d ≡ pool.cleared l.nodes → pool.IsSound d → IsChain (links d None None) × (view_of (links d None None) ≡ cleared (view_of l))
  cleared_chain l s d is sound =
      let e = empty_chain d l.nodes.next_serial (slot_count l.nodes) is sound in
      (e.0, e.1 ∙ ap (λ k. no_rows {X = X} l.nodes.next_serial (k + l.nodes.spare)) (sym s.count))

-- what a clause says of an `Ok` or an `Err`, in other words
pub on_ok : {T E : Type 0} (r : Result T E) (P Q : Type 0) → (P → Q) → OnOk r P → OnOk r Q
on_ok (Ok x) P Q f h = f h
on_ok (Err e) P Q f h = h

pub copied_some : {A : Type 0} (o : Option (Bor A)) → is_some (option_copied o) ≡ is_some o
copied_some None = refl
copied_some (Some r) = refl
