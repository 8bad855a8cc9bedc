-- Where cursors and indexes stand in a vector.
use Rattle.std.proofs.Common.{◌≡◌, ℕ, ℤ, length, Option, Some, None, refl, sym, ap, ◌∙◌}
use Rattle.ac_base.specs.declared.limit.Limit.{Limit}
use Rattle.ac_base.specs.declared.cursor.Cursor.{Cursor}
use Rattle.ac_base.specs.declared.name.Name.{Name}
use Rattle.ac_base.specs.Guards.{GuardCounts}
use Rattle.ac_chain.specs.Rows.{Chained, IsSound, place_of}
use Rattle.ac_pool.specs.NamedRows.{index_of}
use Rattle.ac_chain.specs.Sequence.{object_of}
use Rattle.ac_chain.proofs.SequenceDeletes.{cursor_place}
use Rattle.ac_chain.proofs.SequenceStanding.{stands}
use Rattle.ac_model.specs.Cursors.{mark, name_in, needs_cursor, place_in}
use Rattle.ac_base.specs.declared.reason.Reason.{Reason}
use Rattle.ac_chain.proofs.SequenceRefills.{source_is}
use Rattle.ac_model.specs.Letters.{index_in, place_at}
use Rattle.ac_model.specs.Objects.{Object, length_of, plain}

module _ {X : Type 0} (g : GuardCounts) (l : Limit) (capacity : Option _) (k : Chained X) (o : Object Name X) (view : object_of g l capacity k ≡ o) where
  -- the place of a cursor that isn't refused
  pub cursor_index : IsSound k → (q : Cursor) (a : Name) → a ≡ name_in q → needs_cursor o q ≡ None → index_of a k.rows ≡ place_at (plain o).rows (mark o q)
  cursor_index s q a e none =
      let some : place_in q ≡ Some a = ap place_in (stands g l capacity k q (ap (λ (p : Object Name X). needs_cursor p q) view ∙ none)).at ∙ ap Some (sym e) in
      ap (λ p. place_of p k.rows) (sym some) ∙ (cursor_place g l capacity k o view s q (place_in q) refl none).1

  -- an index in range of the code's length is one in range of the object's
  pub indexed : (z index : ℤ) (len : ℕ) (r : Option Reason) → z ≡ index → len ≡ length k.rows → r ≡ index_in z len → r ≡ index_in index (length_of (plain o))
  indexed z index len r e n is = is ∙ (λ i. index_in (e i) ((n ∙ sym (source_is g l capacity k o view).1) i))
