-- What a list is after rows changed places, each with its name.
use Rattle.std.proofs.Common.{◌≡◌, length, reverse, Option, None, refl, sym, ap, ◌∙◌, subst}
use Rattle.std.specs.Option.{ForSome}
use Rattle.ac_base.specs.declared.limit.Limit.{Limit}
use Rattle.ac_base.specs.declared.name.Name.{Name}
use Rattle.ac_base.specs.declared.cursor.Cursor.{Cursor}
use Rattle.ac_base.specs.declared.cursor.Cursor.TheVariants.{NoElement, At}
use Rattle.ac_base.specs.Guards.{GuardCounts}
use Rattle.ac_chain.specs.Rows.{Chained, IsLive, IsSound, links_swapped, moved, reversed}
use Rattle.ac_pool.specs.NamedRows.{index_of, HasName}
use Rattle.ac_pool.proofs.Cuts.{live_has, cut-row}
use Rattle.ac_pool.proofs.Cuts.{cut as cut_at}
use Rattle.ac_chain.proofs.Moves.{once_from}
use Rattle.ac_chain.proofs.Orders.{length_moved, live_moved}
use Rattle.ac_model.specs.Rows.{with_exchanged_rows}
use Rattle.ac_model.specs.Objects.{Object, plain, with_rows}
use Rattle.ac_model.specs.Letters.{mark_at, name_of}
use Rattle.ac_model.specs.Lists.{moved_before}
use Rattle.ac_model.specs.Calls.{IsAfter}
use Rattle.ac_model.specs.Objects.{plains}
use Rattle.ac_model.specs.Cursors.{needs_cursor, may_cursor, mark, name_in, place_in}
use Rattle.ac_chain.specs.Sequence.{object_of, IsSequence}
use Rattle.ac_chain.proofs.Marks.{alone, marked_live, may_by_name}
use Rattle.ac_chain.proofs.SequenceStanding.{stands, placed_live}
use Rattle.ac_chain.proofs.Grows.{reverse_has}
use Rattle.ac_chain.proofs.SequenceRows.{rows_after, sequence_same}
use Rattle.ac_model.proofs.Plains.{plains-reverse}
use Rattle.ac_chain.proofs.Relinked.{same_rows, serial_at, exchanged_row, swap_had, moved_plain, move_had}

module _ {X : Type 0} where
  links_after : (g : GuardCounts) (l : Limit) (k : Chained X) (a b : Name) → IsSound k → IsLive k a → IsLive k b
      → IsAfter (object_of g l None k) (object_of g l None (links_swapped k a b)) (with_rows (plain (object_of g l None k)) (with_exchanged_rows (plains k.rows) a.serial b.serial))
  links_after g l k a b s la lb =
      let once = once_from k.rows s.once in
      let ka = cut_at a k.rows (live_has a k.rows la) in
      let kb = cut_at b k.rows (live_has b k.rows lb) in
      let i = index_of a k.rows in
      let j = index_of b k.rows in
      rows_after g l None k (links_swapped k a b) (with_exchanged_rows (plains k.rows) a.serial b.serial) refl
      (same_rows _ _ (exchanged_row k.rows a b ka.at kb.at once (alone k a s la) (alone k b s lb) (cut-row a k.rows ka) (sym ka.named) (cut-row b k.rows kb) (sym kb.named) la lb))
      (swap_had k.rows i j la lb)

  pub links_swapped_after : (g : GuardCounts) (l : Limit) (k now : Chained X) (o : Object Name X) → object_of g l None k ≡ o → IsSound k → (first second : Cursor) (a b : Name) → a ≡ name_in first → b ≡ name_in second
      → needs_cursor o first ≡ None → needs_cursor o second ≡ None → now ≡ links_swapped k a b
      → IsAfter o (object_of g l None now) (with_rows (plain o) (with_exchanged_rows (plain o).rows (name_of (mark o first)) (name_of (mark o second))))
  links_swapped_after g l k now o view s first second a b ea eb ha hb e =
      subst (λ (p : Object Name X). needs_cursor p first ≡ None → needs_cursor p second ≡ None → IsAfter p (object_of g l None now) (with_rows (plain p) (with_exchanged_rows (plain p).rows (name_of (mark p first)) (name_of (mark p second))))) view at ha hb
    where
      at : needs_cursor (object_of g l None k) first ≡ None → needs_cursor (object_of g l None k) second ≡ None
          → IsAfter (object_of g l None k) (object_of g l None now) (with_rows (plain (object_of g l None k)) (with_exchanged_rows (plains k.rows) (name_of (mark (object_of g l None k) first)) (name_of (mark (object_of g l None k) second))))
      at p q =
          let one = stands g l None k first p in
          let two = stands g l None k second q in
          let la : IsLive k a = subst (λ n. IsLive k n) (sym ea) one.live in
          let lb : IsLive k b = subst (λ n. IsLive k n) (sym eb) two.live in
          let na : name_of (mark (object_of g l None k) first) ≡ a.serial = ap name_of one.marked ∙ ap (λ (n : Name). n.serial) (sym ea) in
          let nb : name_of (mark (object_of g l None k) second) ≡ b.serial = ap name_of two.marked ∙ ap (λ (n : Name). n.serial) (sym eb) in
          subst (λ rows. IsAfter (object_of g l None k) (object_of g l None now) (with_rows (plain (object_of g l None k)) rows)) (λ i. with_exchanged_rows (plains k.rows) (sym na i) (sym nb i))
          (subst (λ (d : Chained X). IsAfter (object_of g l None k) (object_of g l None d) (with_rows (plain (object_of g l None k)) (with_exchanged_rows (plains k.rows) a.serial b.serial))) (sym e) (links_after g l k a b s la lb))

  before_named : (g : GuardCounts) (l : Limit) (k : Chained X) (b : Cursor) → may_cursor (object_of g l None k) b ≡ None → name_of (mark (object_of g l None k) b) ≡ serial_at (place_in b)
  before_named g l k NoElement e = refl
  before_named g l k (At object a) e = ap name_of (stands g l None k (At object a) (sym (may_by_name (object_of g l None k) object a) ∙ e)).marked

  pub list_moved : (l : Limit) (k now : Chained X) (place : Option Name) (a : Name) → IsSequence l k → ForSome place (IsLive k) → IsLive k a → now ≡ moved k place a → IsSound now → IsSequence l now
  list_moved l k now place a s hp ha e sound = sequence_same l k now s (ap (λ (d : Chained X). length d.rows) e ∙ length_moved k place a hp ha) (ap (λ (d : Chained X). d.spare) e) sound

  pub moved_after : (g : GuardCounts) (l : Limit) (k now : Chained X) (o : Object Name X) → object_of g l None k ≡ o → IsSound k → (b c : Cursor) (place : Option Name) (a : Name) → place ≡ place_in b → a ≡ name_in c
      → may_cursor o b ≡ None → needs_cursor o c ≡ None → now ≡ moved k place a
      → IsAfter o (object_of g l None now) (with_rows (plain o) (moved_before (plain o).rows (mark o b) (mark o c)))
  moved_after g l k now o view s b c place a ep ea hb hc e =
      subst (λ (p : Object Name X). may_cursor p b ≡ None → needs_cursor p c ≡ None → IsAfter p (object_of g l None now) (with_rows (plain p) (moved_before (plain p).rows (mark p b) (mark p c)))) view at hb hc
    where
      at : may_cursor (object_of g l None k) b ≡ None → needs_cursor (object_of g l None k) c ≡ None
          → IsAfter (object_of g l None k) (object_of g l None now) (with_rows (plain (object_of g l None k)) (moved_before (plains k.rows) (mark (object_of g l None k) b) (mark (object_of g l None k) c)))
      at p q =
          let one = stands g l None k c q in
          let hp : ForSome place (IsLive k) = placed_live g l None k (object_of g l None k) refl b place ep p in
          let la : IsLive k a = subst (λ n. IsLive k n) (sym ea) one.live in
          let nb : name_of (mark (object_of g l None k) b) ≡ serial_at place = before_named g l k b p ∙ ap serial_at (sym ep) in
          let na : name_of (mark (object_of g l None k) c) ≡ a.serial = ap name_of one.marked ∙ ap (λ (n : Name). n.serial) (sym ea) in
          let rows : plains (moved k place a).rows ≡ moved_before (plains k.rows) (mark (object_of g l None k) b) (mark (object_of g l None k) c) =
          moved_plain k place a s hp la ∙ (λ i. moved_before (plains k.rows) (mark_at 0 (sym nb i)) (mark_at 0 (sym na i))) in
          subst (λ (d : Chained X). IsAfter (object_of g l None k) (object_of g l None d) (with_rows (plain (object_of g l None k)) (moved_before (plains k.rows) (mark (object_of g l None k) b) (mark (object_of g l None k) c)))) (sym e)
          (rows_after g l None k (moved k place a) (moved_before (plains k.rows) (mark (object_of g l None k) b) (mark (object_of g l None k) c)) refl rows (move_had k place a hp la))

  -- a cursor at an element that is moved keeps its meaning
  pub moved_mark : (g : GuardCounts) (l : Limit) (k now : Chained X) (o : Object Name X) → object_of g l None k ≡ o → (c : Cursor) (place : Option Name) (a : Name) → a ≡ name_in c → ForSome place (IsLive k)
      → needs_cursor o c ≡ None → now ≡ moved k place a → mark (object_of g l None now) c ≡ mark o c
  moved_mark g l k now o view c place a ea hp h e =
      subst (λ (p : Object Name X). needs_cursor p c ≡ None → mark (object_of g l None now) c ≡ mark p c) view at h
    where
      at : needs_cursor (object_of g l None k) c ≡ None → mark (object_of g l None now) c ≡ mark (object_of g l None k) c
      at q =
          let one = stands g l None k c q in
          let la : IsLive k a = subst (λ n. IsLive k n) (sym ea) one.live in
          let t = live_moved k place a hp la (name_in c) one.live in
          let there : HasName (name_in c) now.rows = subst (λ (d : Chained X). HasName (name_in c) d.rows) (sym e) (live_has (name_in c) (moved k place a).rows t) in
          ap (mark (object_of g l None now)) one.at ∙ marked_live g.number now.rows (name_in c) there ∙ sym one.marked

  pub reversed_after : (g : GuardCounts) (l : Limit) (k now : Chained X) (o : Object Name X) → object_of g l None k ≡ o → now ≡ reversed k → IsAfter o (object_of g l None now) (with_rows (plain o) (reverse (plain o).rows))
  reversed_after g l k now o view e =
      subst (λ (p : Object Name X). IsAfter p (object_of g l None now) (with_rows (plain p) (reverse (plain p).rows))) view
      (subst (λ (d : Chained X). IsAfter (object_of g l None k) (object_of g l None d) (with_rows (plain (object_of g l None k)) (reverse (plains k.rows)))) (sym e)
      (rows_after g l None k (reversed k) (reverse (plains k.rows)) refl (plains-reverse k.rows) (λ a t. reverse_has a k.rows t)))
