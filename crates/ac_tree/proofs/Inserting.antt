-- A new node, without children, in a forest.
use Rattle.std.proofs.Common.{◌≡◌, ◌≢◌, ℕ, ◌+◌, ◌-◌, List, [], ◌∷◌, ◌++◌, length, Option, Some, None, is_some, refl, sym, ap, ◌∙◌, subst, inl, inr}
use Rattle.std.specs.List.{insert}
use Rattle.std.proofs.lemmas.Bool.{cond-true, cond-false, cases_lt, le-leb, lt-leb}
use Rattle.ac_base.specs.Growth.{pow8}
use Rattle.ac_base.specs.declared.name.Name.{Name}
use Rattle.ac_base.specs.Rows.{Row, row}
use Rattle.ac_pool.specs.Contents as pool
use Rattle.ac_pool.specs.Contents.{Contents, value_of, added, live_count}
use Rattle.ac_pool.proofs.ContentsLaws.{value_of-added_same, value_of-added_other, entries-reserved, reserved_kept, reserved_grown}
use Rattle.ac_pool.specs.Link.{name_in}
use Rattle.ac_chain.specs.Rows.{Chained, chained, place_of, inserted, reserved, IsFresh}
use Rattle.ac_pool.specs.NamedRows.{HasName, IsOnce}
use Rattle.ac_pool.proofs.Cuts.{live_has, insert-cut}
use Rattle.ac_chain.proofs.Puts.{place_cut}
use Rattle.ac_pool.proofs.SlotNames.{linked_name}
use Rattle.ac_model.specs.Rows.{Node, node}
use Rattle.ac_tree.specs.declared.links.TreeNode.{TreeNode}
use Rattle.ac_tree.specs.declared.links.Links.{Links}
use Rattle.ac_tree.specs.Forests.{Forest, bare, grove, Step, under, after, outline, first_in, or_name, plugged, parent_in, prev_in, depth_in, before_in, after_in}
use Rattle.ac_tree.specs.TreeFields.{linked, links, StandsFor, Framed, last_link, last_of, prev_before, tied, with_next}
use Rattle.ac_tree.specs.TreeRows.{rows_of}
use Rattle.ac_tree.specs.Inserting.{Hole, place_at, Inserted, Reserved}
use Rattle.ac_tree.proofs.Places.{around_has, outline_plugged, once_rows, has, size_is}
use Rattle.ac_tree.proofs.Writes.{keeps_then, keeps_next, keeps_prev}
use Rattle.ac_tree.proofs.Standing.{last_at, last_none, opened}
use Rattle.ac_tree.proofs.Forests.{live_of, open_of, links_at, prev_has, inserted_stands, grown_stands}
use Rattle.ac_tree.proofs.Objects.{rows-are}

module _ {X : Type 0} where
  -- the last child of a node above a place, where the last from the place on is e
  pub last_framed : (l : Links X) → pool.IsSound l.nodes → (steps : List (Step X)) (o e : Option Name) → ((a : Name) → last_at steps e ≡ Some a → pool.IsLive l.nodes a) → Framed l steps o e → last_of l (parent_in steps) ≡ last_at steps e
  last_framed l sound [] o e live h = h.1
  last_framed l sound (under x rest ∷ steps) o e live h = ap (λ n. name_in l.nodes (last_link n)) h.0 ∙ linked_name l.nodes sound e live
  last_framed l sound (after x below ∷ steps) o e live h = last_framed l sound steps (Some x.name) (Some (or_name x.name e)) live h.2

  -- the node before a hole
  pub prev-is : (l : Links X) (steps : List (Step X)) (t : Forest X) → StandsFor l (plugged steps t) → prev_before l (parent_in steps) (first_in t) ≡ prev_in steps
  prev-is l steps bare s =
      last_framed l s.sound steps None None (λ a e. live_of l (plugged steps bare) s a (around_has steps bare a (prev_has steps a (sym (last_none steps) ∙ e)))) (opened l steps bare (open_of l (plugged steps bare) s)).framed
      ∙ last_none steps
  prev-is l steps (grove x below rest) s = (links_at l steps x below rest s).prev

  fresh_row : (l : Links X) (t : Forest X) → StandsFor l t → (a : Name) (n : TreeNode X) (d : Contents (TreeNode X)) → pool.IsFresh l.nodes a → d ≡ added l.nodes a n → pool.IsSound d → IsFresh (rows_of l) a
  fresh_row l t s a n d fresh is sound =
      let live = λ (b : Name) (h : HasName b (outline 2 t)). live_of l t s b (has b 2 t h) in
      subst (λ (c : Chained (Node X)). IsFresh c a) (sym (rows-are l t s)) (record {
        slot = λ b h. fresh.slot b (live b (live_has b (outline 2 t) h));
        serials = λ b h e.
            let lives = live b (live_has b (outline 2 t) h) in
            let apart_b : b ≢ a = λ same. fresh.slot b lives (ap (λ (k : Name). k.slot) same) in
            let live_b : pool.IsLive d b = ap (λ c. is_some (value_of c b)) is ∙ ap is_some (value_of-added_other l.nodes a b n apart_b) ∙ lives in
            let live_a : pool.IsLive d a = ap (λ c. is_some (value_of c a)) is ∙ ap is_some (value_of-added_same l.nodes a n) in
            apart_b (sound.serials b a live_b live_a e);
        serial = fresh.serial;
      })

  pub inserted_is : (l : Links X) (parent before : Option Name) (h : Hole l parent before) (v : X) (a : Name) (d : Contents (TreeNode X)) → pool.IsFresh l.nodes a
      → d ≡ added l.nodes a (linked v parent None None (prev_before l parent before) before) → pool.IsSound d
      → Inserted l parent before h v (tied (links d l.first l.last) parent (prev_before l parent before) before a) a
  inserted_is l parent before h v a d fresh is sound =
      let steps = h.steps in let t = h.rest in
      let prev : prev_before l parent before ≡ prev_in steps = (λ i. prev_before l (h.parent_is i) (h.before_is i)) ∙ prev-is l steps t h.stands in
      let n = linked v (parent_in steps) None None (prev_in steps) (first_in t) in
      let is_n : d ≡ added l.nodes a n = is ∙ (λ i. added l.nodes a (linked v (h.parent_is i) None None (prev i) (h.before_is i))) in
      let k = links d l.first l.last in
      let m = tied k (parent_in steps) (prev_in steps) (first_in t) a in
      let same : tied k parent (prev_before l parent before) before a ≡ m = λ i. tied k (h.parent_is i) (prev i) (h.before_is i) a in
      let u = grove (row a v) bare t in
      let s : StandsFor m (plugged steps u) = inserted_stands l steps t a v d h.stands fresh is_n sound in
      let keeps = keeps_then d _ m.nodes (keeps_next k (parent_in steps) (prev_in steps) (Some a)) (keeps_prev (with_next k (parent_in steps) (prev_in steps) (Some a)) (parent_in steps) (first_in t) (Some a)) in
      let next : m.nodes.next_serial ≡ l.nodes.next_serial + 1 = keeps.next ∙ ap (λ (c : Contents (TreeNode X)). c.next_serial) is_n in
      let spare : m.nodes.spare ≡ l.nodes.spare - 1 = keeps.spare ∙ ap (λ (c : Contents (TreeNode X)). c.spare) is_n in
      let r = row a (node (depth_in steps) v) in
      let ys = outline (depth_in steps) t ++ after_in steps in
      let old = outline_plugged steps t in
      let once : IsOnce (before_in steps ++ ys) = subst (λ z. IsOnce z) old (once_rows 2 (plugged steps t) h.stands.once) in
      let put : insert (outline 2 (plugged steps t)) (place_of (place_at h) (outline 2 (plugged steps t))) r ≡ before_in steps ++ r ∷ ys =
      (λ i. insert (old i) (place_of (place_at h) (old i)) r) ∙ ap (λ j. insert (before_in steps ++ ys) j r) (place_cut (place_at h) (before_in steps) ys once refl) ∙ insert-cut (before_in steps) r ys in
      let all : outline 2 (plugged steps u) ≡ insert (outline 2 (plugged steps t)) (place_of (place_at h) (outline 2 (plugged steps t))) r = outline_plugged steps u ∙ sym put in
      let rows : rows_of m ≡ inserted (rows_of l) (place_at h) r =
      rows-are m (plugged steps u) s ∙ (λ i. chained (all i) (next i) (spare i)) ∙ sym (ap (λ (c : Chained (Node X)). inserted c (place_at h) r) (rows-are l (plugged steps t) h.stands)) in
      subst (λ (z : Links X). Inserted l parent before h v z a) (sym same) (record {
        hole = record { steps = after (row a v) bare ∷ steps; rest = t; stands = s; parent_is = h.parent_is; before_is = h.before_is };
        stands = s;
        place = refl;
        depth = refl;
        rows = rows;
        fresh = fresh_row l (plugged steps t) h.stands a n d fresh is_n sound;
      })

  reserved_view : (rows : List (Row Name (Node X))) (c : Contents (TreeNode X)) (n : ℕ) → length rows ≡ live_count c → chained rows (pool.reserved c n).next_serial (pool.reserved c n).spare ≡ reserved (chained rows c.next_serial c.spare) n
  reserved_view rows c n count = elim (cases_lt c.spare n) [
    | inl lt ↦ ap (λ (d : Contents (TreeNode X)). chained rows d.next_serial d.spare) (reserved_grown c n lt) ∙ ap (λ m. chained rows c.next_serial (pow8 (m + n) - m)) (sym count) ∙ sym (cond-false _ _ _ (lt-leb n c.spare lt))
    | inr le ↦ ap (λ (d : Contents (TreeNode X)). chained rows d.next_serial d.spare) (reserved_kept c n le) ∙ sym (cond-true _ _ _ (le-leb n c.spare le))
  ]

  pub reserved_is : (l : Links X) (d : Contents (TreeNode X)) (n : ℕ) → d ≡ pool.reserved l.nodes n → pool.IsSound d → (t : Forest X) → StandsFor l t → Reserved l n (links d l.first l.last) t
  reserved_is l d n is sound t s =
      let g = grown_stands l t s d (ap (λ (c : Contents (TreeNode X)). c.entries) is ∙ entries-reserved l.nodes n) sound in
      record {
        stands = g;
        rows = rows-are (links d l.first l.last) t g ∙ ap (λ (c : Contents (TreeNode X)). chained (outline 2 t) c.next_serial c.spare) is ∙ reserved_view (outline 2 t) l.nodes n (size_is 2 t ∙ s.count)
            ∙ sym (ap (λ (c : Chained (Node X)). reserved c n) (rows-are l t s));
      }
