-- Rows that are taken out one after another, and what a sequence is after that.
use Rattle.std.proofs.Common.{◌≡◌, ℕ, ◌-◌, length, Option, Some, None, sym, ap, ◌∙◌, subst}
use Rattle.ac_base.specs.declared.limit.Limit.{Limit}
use Rattle.ac_base.specs.declared.name.Name.{Name}
use Rattle.ac_chain.specs.Rows.{Chained, IsLive, IsSound, place_of}
use Rattle.ac_pool.specs.NamedRows.{HasName}
use Rattle.ac_base.specs.Guards.{GuardCounts}
use Rattle.ac_base.specs.declared.cursor.Cursor.{Cursor}
use Rattle.ac_model.specs.Rows.{cut}
use Rattle.ac_model.specs.Objects.{Object, plain, with_rows, length_of}
use Rattle.ac_model.specs.Letters.{place_at}
use Rattle.ac_model.specs.Calls.{IsAfter}
use Rattle.ac_chain.specs.Cut.{IsCut}
use Rattle.ac_model.specs.Objects.{plains}
use Rattle.ac_model.specs.Cursors.{needs_cursor, mark, place_in, name_in}
use Rattle.ac_chain.specs.Sequence.{object_of}
use Rattle.ac_chain.proofs.Marks.{place_live}
use Rattle.ac_chain.proofs.SequenceRows.{rows_after}
use Rattle.ac_chain.proofs.SequenceStanding.{stands}
use Rattle.ac_model.proofs.Plains.{length-plains}
use Rattle.ac_model.proofs.Plains.{plains-cut}
use Rattle.ac_chain.proofs.Deletes.{cut_has}

module _ {X : Type 0} where
  pub cut_after : (g : GuardCounts) (l : Limit) (capacity : Option ℕ) (k now : Chained X) (o : Object Name X) → object_of g l capacity k ≡ o → (i n : ℕ) → IsCut k i n now → IsAfter o (object_of g l capacity now) (with_rows (plain o) (cut (plain o).rows i n))
  cut_after g l capacity k now o view i n c =
      subst (λ (p : Object Name X). IsAfter p (object_of g l capacity now) (with_rows (plain p) (cut (plain p).rows i n))) view
      (rows_after g l capacity k now (cut (plains k.rows) i n) c.next (ap plains c.rows ∙ plains-cut k.rows i n) (λ a t. cut_has a k.rows i n (subst (λ zs. HasName a zs) c.rows t)))

  -- a cursor that isn't refused stands at a place of the chain
  pub cursor_place : (g : GuardCounts) (l : Limit) (capacity : Option ℕ) (k : Chained X) (o : Object Name X) → object_of g l capacity k ≡ o → IsSound k → (q : Cursor) (place : Option Name) → place ≡ place_in q → needs_cursor o q ≡ None
      → ((a : Name) → place ≡ Some a → IsLive k a) × (place_of place k.rows ≡ place_at (plain o).rows (mark o q))
  cursor_place g l capacity k o view s q place is none =
      subst (λ (p : Object Name X). needs_cursor p q ≡ None → ((a : Name) → place ≡ Some a → IsLive k a) × (place_of place k.rows ≡ place_at (plain p).rows (mark p q))) view at none
    where
      at : needs_cursor (object_of g l capacity k) q ≡ None → ((a : Name) → place ≡ Some a → IsLive k a) × (place_of place k.rows ≡ place_at (plains k.rows) (mark (object_of g l capacity k) q))
      at none =
          let one = stands g l capacity k q none in
          let some : place ≡ Some (name_in q) = is ∙ ap place_in one.at in (
            λ a e. subst (λ n. IsLive k n) (let both : Some (name_in q) ≡ Some a = sym some ∙ e in let same : name_in q ≡ a = cc in same) one.live,
            ap (λ p. place_of p k.rows) some ∙ sym (place_live k (name_in q) s one.live) ∙ ap (place_at (plains k.rows)) (sym one.marked),
          )

  pub cut_at : (g : GuardCounts) (l : Limit) (capacity : Option ℕ) (k now : Chained X) (o : Object Name X) → object_of g l capacity k ≡ o → (i j n m : ℕ) → i ≡ j → n ≡ m → IsCut k i n now → IsAfter o (object_of g l capacity now) (with_rows (plain o) (cut (plain o).rows j m))
  cut_at g l capacity k now o view i j n m at count c =
      subst (λ a. IsAfter o (object_of g l capacity now) (with_rows (plain o) (cut (plain o).rows a m))) at
      (subst (λ b. IsAfter o (object_of g l capacity now) (with_rows (plain o) (cut (plain o).rows i b))) count (cut_after g l capacity k now o view i n c))

  pub last_place : (g : GuardCounts) (l : Limit) (capacity : Option ℕ) (k : Chained X) (o : Object Name X) → object_of g l capacity k ≡ o → (n m : ℕ) → n ≡ m → length k.rows - n ≡ length_of (plain o) - m
  last_place g l capacity k o view n m count = subst (λ (p : Object Name X). length k.rows - n ≡ length_of (plain p) - m) view (let rows : length k.rows ≡ length (plains k.rows) = sym (length-plains k.rows) in λ i. rows i - count i)
