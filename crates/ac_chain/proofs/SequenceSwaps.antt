-- What a sequence is after a value was written, and after two of its values changed places.
use Rattle.std.proofs.Common.{◌≡◌, ◌≢◌, ℕ, Option, Some, None, refl, sym, ap, ◌∙◌, subst, arith}
use Rattle.std.proofs.lemmas.List.{length-set}
use Rattle.ac_base.specs.declared.limit.Limit.{Limit}
use Rattle.ac_base.specs.declared.name.Name.{Name}
use Rattle.ac_base.specs.declared.cursor.Cursor.{Cursor}
use Rattle.ac_base.specs.Guards.{GuardCounts}
use Rattle.ac_chain.specs.Rows as chain
use Rattle.ac_chain.specs.Rows.{Chained, IsLive, IsSound, values_swapped, values_exchanged}
use Rattle.ac_pool.specs.NamedRows.{index_of, IsOnce}
use Rattle.ac_pool.proofs.Cuts.{has_live, live_has, once_at}
use Rattle.ac_chain.proofs.Moves.{once_from}
use Rattle.ac_base.specs.Rows.{row}
use Rattle.ac_model.specs.Rows.{with_value, with_some_value, with_exchanged_values}
use Rattle.ac_model.specs.Objects.{Object, plain, with_rows}
use Rattle.ac_model.specs.Letters.{name_of}
use Rattle.ac_model.specs.Calls.{IsAfter}
use Rattle.ac_model.specs.Objects.{plains}
use Rattle.ac_model.specs.Cursors.{needs_cursor, mark, name_in}
use Rattle.ac_chain.specs.Sequence.{object_of, IsSequence}
use Rattle.ac_chain.proofs.Marks.{Alone, alone, value_live}
use Rattle.ac_chain.proofs.SequenceStanding.{stands}
use Rattle.ac_chain.proofs.SequenceRows.{rows_after, sequence_same}
use Rattle.ac_chain.proofs.Swaps.{set, set_has, set_once, set_alone, set_value, value_there}

module _ {X : Type 0} where
  exchanged : (g : GuardCounts) (l : Limit) (capacity : Option ℕ) (k : Chained X) (a b : Name) (x y : Option X) → x ≢ None → y ≢ None → IsOnce k.rows → Alone a k.rows → Alone b k.rows
      → IsAfter (object_of g l capacity k) (object_of g l capacity (values_exchanged k a b x y)) (with_rows (plain (object_of g l capacity k)) (with_some_value (with_some_value (plains k.rows) a.serial y) b.serial x))
  exchanged g l capacity k a b None y nx ny once ha hb = absurd (nx refl)
  exchanged g l capacity k a b (Some x) None nx ny once ha hb = absurd (ny refl)
  exchanged g l capacity k a b (Some x) (Some y) nx ny once ha hb =
      let first = set_value a y k.rows ha once in
      let second = set_value b x (set k.rows a y) (set_alone a b y k.rows ha hb) (set_once a y k.rows ha once) in
      rows_after g l capacity k (values_exchanged k a b (Some x) (Some y)) (with_value (with_value (plains k.rows) a.serial y) b.serial x) refl (second ∙ ap (λ rows. with_value rows b.serial x) first)
      (λ d t. set_has a y k.rows ha d (set_has b x (set k.rows a y) (set_alone a b y k.rows ha hb) d t))

  pub swapped_after : (g : GuardCounts) (l : Limit) (capacity : Option ℕ) (k now : Chained X) (o : Object Name X) → object_of g l capacity k ≡ o → IsSound k → (first second : Cursor) (a b : Name) → a ≡ name_in first → b ≡ name_in second
      → needs_cursor o first ≡ None → needs_cursor o second ≡ None → now ≡ values_swapped k a b
      → IsAfter o (object_of g l capacity now) (with_rows (plain o) (with_exchanged_values (plain o).rows (name_of (mark o first)) (name_of (mark o second))))
  swapped_after g l capacity k now o view s first second a b ea eb ha hb e =
      subst (λ (p : Object Name X). needs_cursor p first ≡ None → needs_cursor p second ≡ None → IsAfter p (object_of g l capacity now) (with_rows (plain p) (with_exchanged_values (plain p).rows (name_of (mark p first)) (name_of (mark p second))))) view at ha hb
    where
      at : needs_cursor (object_of g l capacity k) first ≡ None → needs_cursor (object_of g l capacity k) second ≡ None
          → IsAfter (object_of g l capacity k) (object_of g l capacity now) (with_rows (plain (object_of g l capacity k)) (with_exchanged_values (plains k.rows) (name_of (mark (object_of g l capacity k) first)) (name_of (mark (object_of g l capacity k) second))))
      at p q =
          let one = stands g l capacity k first p in
          let two = stands g l capacity k second q in
          let la : IsLive k a = subst (λ n. IsLive k n) (sym ea) one.live in
          let lb : IsLive k b = subst (λ n. IsLive k n) (sym eb) two.live in
          let na : name_of (mark (object_of g l capacity k) first) ≡ a.serial = ap name_of one.marked ∙ ap (λ (n : Name). n.serial) (sym ea) in
          let nb : name_of (mark (object_of g l capacity k) second) ≡ b.serial = ap name_of two.marked ∙ ap (λ (n : Name). n.serial) (sym eb) in
          let done = exchanged g l capacity k a b (chain.value_of k a) (chain.value_of k b) (value_there k.rows (index_of a k.rows) la) (value_there k.rows (index_of b k.rows) lb) (once_from k.rows s.once) (alone k a s la) (alone k b s lb) in
          let values : with_exchanged_values (plains k.rows) a.serial b.serial ≡ with_some_value (with_some_value (plains k.rows) a.serial (chain.value_of k b)) b.serial (chain.value_of k a) =
          (λ i. with_some_value (with_some_value (plains k.rows) a.serial (value_live k b s lb i)) b.serial (value_live k a s la i)) in
          subst (λ rows. IsAfter (object_of g l capacity k) (object_of g l capacity now) (with_rows (plain (object_of g l capacity k)) rows)) (sym values ∙ (λ i. with_exchanged_values (plains k.rows) (sym na i) (sym nb i)))
          (subst (λ (d : Chained X). IsAfter (object_of g l capacity k) (object_of g l capacity d) (with_rows (plain (object_of g l capacity k)) (with_some_value (with_some_value (plains k.rows) a.serial (chain.value_of k b)) b.serial (chain.value_of k a)))) (sym e) done)

  -- a chain with another value under a name is a sequence's where it was one
  pub set_sequence : (l : Limit) (k : Chained X) (a : Name) (w : X) → IsSequence l k → IsLive k a → IsSequence l (chain.with_value k a w)
  set_sequence l k a w s live =
      let ha = alone k a s.sound live in
      let back = λ (b : Name) (t : IsLive (chain.with_value k a w) b). has_live b k.rows (set_has a w k.rows ha b (live_has b (set k.rows a w) t)) in
      let count = length-set k.rows (index_of a k.rows) (row a w) in
      let few = s.sound.few in
      sequence_same l k (chain.with_value k a w) s count refl (record {
        once = once_at (set k.rows a w) (set_once a w k.rows ha (once_from k.rows s.sound.once));
        slots = λ b d p q e. s.sound.slots b d (back b p) (back d q) e;
        serials = λ b d p q e. s.sound.serials b d (back b p) (back d q) e;
        issued = λ b p. s.sound.issued b (back b p);
        next = s.sound.next;
        few = omega arith;
      })

  pub set_after : (g : GuardCounts) (l : Limit) (capacity : Option ℕ) (k now : Chained X) (o : Object Name X) → object_of g l capacity k ≡ o → IsSound k → (c : Cursor) (a : Name) (w : X) → a ≡ name_in c
      → needs_cursor o c ≡ None → now ≡ chain.with_value k a w → IsAfter o (object_of g l capacity now) (with_rows (plain o) (with_value (plain o).rows (name_of (mark o c)) w))
  set_after g l capacity k now o view s c a w is none e =
      subst (λ (p : Object Name X). needs_cursor p c ≡ None → IsAfter p (object_of g l capacity now) (with_rows (plain p) (with_value (plain p).rows (name_of (mark p c)) w))) view at none
    where
      at : needs_cursor (object_of g l capacity k) c ≡ None → IsAfter (object_of g l capacity k) (object_of g l capacity now) (with_rows (plain (object_of g l capacity k)) (with_value (plains k.rows) (name_of (mark (object_of g l capacity k) c)) w))
      at q =
          let one = stands g l capacity k c q in
          let live : IsLive k a = subst (λ n. IsLive k n) (sym is) one.live in
          let ha = alone k a s live in
          let named : name_of (mark (object_of g l capacity k) c) ≡ a.serial = ap name_of one.marked ∙ ap (λ (n : Name). n.serial) (sym is) in
          subst (λ (d : Chained X). IsAfter (object_of g l capacity k) (object_of g l capacity d) (with_rows (plain (object_of g l capacity k)) (with_value (plains k.rows) (name_of (mark (object_of g l capacity k) c)) w))) (sym e)
          (rows_after g l capacity k (chain.with_value k a w) (with_value (plains k.rows) (name_of (mark (object_of g l capacity k) c)) w) refl
          (set_value a w k.rows ha (once_from k.rows s.once) ∙ ap (λ n. with_value (plains k.rows) n w) (sym named)) (λ d t. set_has a w k.rows ha d t))
