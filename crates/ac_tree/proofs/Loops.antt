-- A walk over all elements: where it begins, and where it goes on.
use Rattle.std.proofs.Common.{◌≡◌, ◌⊎◌, ℕ, suc, ◌+◌, ◌-◌, arith, append-nil, List, [], ◌∷◌, ◌++◌, length, Option, Some, None, Ok, refl, sym, ap, ◌∙◌, subst, inl, inr, add-one}
use Rattle.std.specs.Prelude.{slice_get, if◌then◌else◌}
use Rattle.std.proofs.lemmas.Option.{none-some}
use Rattle.std.proofs.lemmas.List.{length-map}
use Rattle.ac_base.specs.declared.name.Name.{Name}
use Rattle.ac_base.specs.declared.cursor.Cursor.{Cursor}
use Rattle.ac_base.specs.declared.cursor.Cursor.TheVariants.{At}
use Rattle.ac_base.specs.FirstReason.{first_reason}
use Rattle.ac_base.specs.Rows.{Row, row, names}
use Rattle.ac_pool.specs.Contents.{IsLive}
use Rattle.ac_chain.specs.ChainFields.{first_or, last_or}
use Rattle.ac_pool.specs.NamedRows.{HasName}
use Rattle.ac_pool.proofs.Cuts.{HasName-left, HasName-right}
use Rattle.ac_chain.proofs.Marks.{among_has, judged_none}
use Rattle.ac_model.specs.Rows.{Node, node, place_of}
use Rattle.ac_model.specs.Objects.{Object, plain, plain_row, plains}
use Rattle.ac_model.specs.Letters.{no_mark, mark_at, mark_for, mark_in, is_among, is_no_mark, may, name_of}
use Rattle.ac_model.specs.Cursors.{cursor_at}
use Rattle.ac_model.specs.Calls.{Looking}
use Rattle.ac_model.specs.Sequences as sequences
use Rattle.ac_model.specs.Trees.{tree_mark}
use Rattle.ac_tree.specs.declared.links.Links.{Links}
use Rattle.ac_tree.specs.Forests.{grove, outline, plugged, depth_in, before_in, after_in}
use Rattle.ac_tree.specs.TreeFields.{forest_in, IsForest, first_of}
use Rattle.ac_chain.specs.TreeCursors.{NodeMarks}
use Rattle.ac_tree.specs.Backward.{Precedes}
use Rattle.ac_tree.specs.Walking.{Follows}
use Rattle.ac_tree.proofs.Places.{outline_plugged, has}
use Rattle.ac_tree.proofs.Forests.{live_of}
use Rattle.ac_tree.proofs.Following.{first_row}
use Rattle.ac_tree.proofs.Holes.{place_at_place}
use Rattle.ac_tree.proofs.Judging.{element_judged, live_in, mark_named, named_mark, node_mark}
use Rattle.ac_tree.proofs.Looking.{at_place}
use Rattle.ac_tree.proofs.Outlines.{serial_of}

module _ {X : Type 0} where
  first_mark : (number : ℕ) (rows : List (Row Name (Node X))) → mark_named number (serial_of (first_or rows None)) ≡ mark_for number (slice_get (plains rows) 0)
  first_mark number [] = refl
  first_mark number (r ∷ rows) = refl

  get_after : (front : List (Row Name (Node X))) (r : Row Name (Node X)) (tail : List (Row Name (Node X))) → slice_get (plains (front ++ r ∷ tail)) (suc (length front)) ≡ slice_get (plains tail) 0
  get_after [] r [] = refl
  get_after [] r (q ∷ tail) = refl
  get_after (f ∷ front) r tail = get_after front r tail

  first_has : (rows : List (Row Name (Node X))) (a : Name) → first_or rows None ≡ Some a → HasName a rows
  first_has [] a e = absurd (none-some a e)
  first_has (r ∷ rows) a e = inl (let same : r.name ≡ a = cc in sym same)

  last_has : (o : Option Name) (rows : List (Row Name (Node X))) (a : Name) → last_or o rows ≡ Some a → (o ≡ Some a) ⊎ HasName a rows
  last_has o [] a e = inl e
  last_has o (r ∷ rows) a e = go (last_has (Some r.name) rows a e)
    where
      go : (Some r.name ≡ Some a) ⊎ HasName a rows → (o ≡ Some a) ⊎ HasName a (r ∷ rows)
      go (inl here) = inr (inl (let same : r.name ≡ a = cc in sym same))
      go (inr more) = inr (inr more)

  pub last_among : (rows : List (Row Name (Node X))) (a : Name) → last_or None rows ≡ Some a → HasName a rows
  last_among rows a e = go (last_has None rows a e)
    where
      go : (None ≡ Some a) ⊎ HasName a rows → HasName a rows
      go (inl none) = absurd (none-some a none)
      go (inr there) = there

  last_get : (number : ℕ) (f : Row Name (Node X)) (front tail : List (Row Name (Node X))) →
      mark_named number (serial_of (last_or (Some f.name) front)) ≡ mark_for number (slice_get (plains ((f ∷ front) ++ tail)) (length front))
  last_get number f [] tail = refl
  last_get number f (g ∷ front) tail = last_get number g front tail

  before_mark : (o : Object Name (Node X)) (front tail : List (Row Name (Node X))) → o.rows ≡ front ++ tail →
      mark_named o.number (serial_of (last_or None front)) ≡ sequences.mark_before (plain o) (length front)
  before_mark o [] tail is = refl
  before_mark o (f ∷ front) tail is =
      last_get o.number f front tail ∙ ap (λ z. mark_for o.number (slice_get (plains z) (length front))) (sym is)

  end_mark : (o : Object Name (Node X)) (rows : List (Row Name (Node X))) → o.rows ≡ rows →
      mark_named o.number (serial_of (last_or None rows)) ≡ sequences.last_call (plain o)
  end_mark o [] is = ap (λ z. mark_for o.number (slice_get (plains z) (length (plains z) - 1))) (sym is)
  end_mark o (f ∷ front) is =
      let one : length front ≡ suc (length (plains front)) - 1 = length_one front in
      last_get o.number f front []
      ∙ (ap (λ z. mark_for o.number (slice_get (plains (f ∷ z)) (length front))) (append-nil front)
      ∙ (ap (λ n. mark_for o.number (slice_get (plains (f ∷ front)) n)) one
      ∙ ap (λ z. mark_for o.number (slice_get (plains z) (length (plains z) - 1))) (sym is)))
    where
      length_one : (rows : List (Row Name (Node X))) → length rows ≡ suc (length (plains rows)) - 1
      length_one rows = let same = length-map rows plain_row in omega (arith, same)

module _ {X : Type 0} (l : Links X) (s : IsForest l) (o : Object Name (Node X)) (rows_is : o.rows ≡ outline 2 (forest_in l)) where
  in_forest : (a : Name) → HasName a (outline 2 (forest_in l)) → IsLive l.nodes a
  in_forest a h = live_of l (forest_in l) s a (has a 2 (forest_in l) h)

  pub first_marks : (name : Option Name) (r : Cursor) → name ≡ first_of l None → r ≡ cursor_at o.number name → NodeMarks o r (sequences.first_call (plain o))
  first_marks name r n e =
      let all = outline 2 (forest_in l) in
      ap (tree_mark o) (e ∙ ap (cursor_at o.number) (n ∙ s.framed.0 ∙ sym (first_row 2 (forest_in l))))
      ∙ named_mark l s o rows_is (first_or all None) (λ a h. in_forest a (first_has all a h))
      ∙ first_mark o.number all ∙ ap (λ z. mark_for o.number (slice_get (plains z) 0)) (sym rows_is)

  -- the element at a cursor that isn't refused
  pub next_at : (c : Cursor) (object : ℕ) (a : Name) → c ≡ At object a → may (plain o) (tree_mark o c) ≡ None → (object ≡ o.number) × IsLive l.nodes a
  next_at c object a is h =
      let both = judged_none o.number object (is_among (names o.rows) a) (element_judged l s o rows_is object a ∙ ap (λ z. may (plain o) (tree_mark o z)) (sym is) ∙ h) in
      (both.0, live_in l s o rows_is a (among_has a o.rows both.1))

  pub next_goes : (c : Cursor) (object : ℕ) (a : Name) → c ≡ At object a → (name : Option Name) (r : Cursor) → may (plain o) (tree_mark o c) ≡ None → Follows l None a name → r ≡ cursor_at o.number name
      → Looking (NodeMarks o) (sequences.next_call (plain o) (tree_mark o c)) (Ok r)
  next_goes c object a is name r h f e =
      let both = next_at c object a is h in
      let same = both.0 in let live = both.1 in
      let k = at_place l s a live in let d = depth_in k.steps in
      let t = grove k.at k.below k.rest in let q = row k.at.name (node d k.at.value) in
      let tail = (outline (d + 1) k.below ++ outline d k.rest) ++ after_in k.steps in
      let rows : o.rows ≡ before_in k.steps ++ q ∷ tail = rows_is ∙ ap (outline 2) (sym k.is) ∙ outline_plugged k.steps t in
      let first : name ≡ first_or tail None = f [] k.steps k.at k.below k.rest k.stands refl k.named in
      let mark : tree_mark o c ≡ mark_at o.number a.serial = ap (tree_mark o) (is ∙ ap (λ n. At n a) same) ∙ node_mark l s o rows_is (Some a) (λ b p. subst (λ n. IsLive l.nodes n) (let q : a ≡ b = cc in q) live) in
      let place : place_of (plain o).rows a.serial ≡ length (before_in k.steps) =
      ap (λ z. place_of (plains z) a.serial) (rows_is ∙ ap (outline 2) (sym k.is)) ∙ ap (λ (n : Name). place_of (plains (outline 2 (plugged k.steps t))) n.serial) (sym k.named) ∙ place_at_place k.steps k.at k.below k.rest k.alone in (
        ap (λ m. first_reason (m ∷ [])) h,
        ap (tree_mark o) (e ∙ ap (cursor_at o.number) first)
            ∙ named_mark l s o rows_is (first_or tail None) (λ b p. in_forest b (subst (λ z. HasName b z) (sym rows ∙ rows_is) (HasName-right b (before_in k.steps) (q ∷ tail) (inr (first_has tail b p)))))
            ∙ first_mark o.number tail ∙ ap (mark_for o.number) (sym (get_after (before_in k.steps) q tail))
            ∙ sym (ap (λ m. if is_no_mark m then no_mark else mark_in (plain o) (place_of (plain o).rows (name_of m) + 1)) mark
            ∙ (λ i. mark_for o.number (slice_get (plains (rows i)) ((ap (λ n. n + 1) place ∙ add-one (length (before_in k.steps))) i)))),
      )

  pub last_marks : (name : Option Name) (r : Cursor) → name ≡ last_or None (outline 2 (forest_in l)) → r ≡ cursor_at o.number name →
      NodeMarks o r (sequences.last_call (plain o))
  last_marks name r n e =
      let all = outline 2 (forest_in l) in
      ap (tree_mark o) (e ∙ ap (cursor_at o.number) n)
      ∙ named_mark l s o rows_is (last_or None all) (λ a h. in_forest a (last_among all a h))
      ∙ end_mark o all rows_is

  pub previous_goes : (c : Cursor) (object : ℕ) (a : Name) → c ≡ At object a → (name : Option Name) (r : Cursor) → may (plain o) (tree_mark o c) ≡ None → Precedes l a name → r ≡ cursor_at o.number name
      → Looking (NodeMarks o) (sequences.previous_call (plain o) (tree_mark o c)) (Ok r)
  previous_goes c object a is name r h f e =
      let both = next_at c object a is h in
      let same = both.0 in let live = both.1 in
      let k = at_place l s a live in let d = depth_in k.steps in
      let t = grove k.at k.below k.rest in let q = row k.at.name (node d k.at.value) in
      let front = before_in k.steps in
      let tail = (outline (d + 1) k.below ++ outline d k.rest) ++ after_in k.steps in
      let rows : o.rows ≡ front ++ q ∷ tail = rows_is ∙ ap (outline 2) (sym k.is) ∙ outline_plugged k.steps t in
      let last : name ≡ last_or None front = f k.steps k.at k.below k.rest k.stands k.named in
      let mark : tree_mark o c ≡ mark_at o.number a.serial = ap (tree_mark o) (is ∙ ap (λ n. At n a) same) ∙ node_mark l s o rows_is (Some a) (λ b p. subst (λ n. IsLive l.nodes n) (let q : a ≡ b = cc in q) live) in
      let place : place_of (plain o).rows a.serial ≡ length front =
      ap (λ z. place_of (plains z) a.serial) (rows_is ∙ ap (outline 2) (sym k.is)) ∙ ap (λ (n : Name). place_of (plains (outline 2 (plugged k.steps t))) n.serial) (sym k.named) ∙ place_at_place k.steps k.at k.below k.rest k.alone in (
        ap (λ m. first_reason (m ∷ [])) h,
        ap (tree_mark o) (e ∙ ap (cursor_at o.number) last)
            ∙ named_mark l s o rows_is (last_or None front) (λ b p. in_forest b (subst (λ z. HasName b z) (sym rows ∙ rows_is) (HasName-left b front (q ∷ tail) (last_among front b p))))
            ∙ before_mark o front (q ∷ tail) rows
            ∙ sym (ap (λ m. if is_no_mark m then no_mark else sequences.mark_before (plain o) (place_of (plain o).rows (name_of m))) mark
            ∙ ap (sequences.mark_before (plain o)) place),
      )
