-- What a change of the chain is to the index, and that the buckets follow.
use Rattle.std.proofs.Common.{◌≡◌, ◌==◌, ◌+◌, ◌-◌, ◌≤◌, ◌<◌, ℕ, suc, Bool, true, false, not, ◌||◌, true≢false, List, [], ◌∷◌, ◌++◌, length, take, drop, Some, None, refl, sym, ap, ◌∙◌, subst, arith, if◌then◌else◌}
use Rattle.std.specs.List.{insert}
use Rattle.std.proofs.lemmas.List.{length_push, length-set}
use Rattle.std.proofs.lemmas.Option.{none-some}
use Rattle.ac_base.specs.declared.cursor.Cursor.TheVariants.{At}
use Rattle.ac_base.specs.declared.limit.Limit.TheVariants.{Unbounded}
use Rattle.ac_base.specs.declared.name.Name.{Name}
use Rattle.ac_base.specs.declared.reason.Reason.TheVariants.{DeadCursor}
use Rattle.ac_base.specs.Guards.{GuardCounts}
use Rattle.ac_base.specs.Rows.{Row, row, names}
use Rattle.ac_chain.specs.Rows as chain
use Rattle.ac_chain.specs.Rows.{Chained, IsLive, IsSound, inserted, removed, IsFresh}
use Rattle.ac_pool.specs.NamedRows.{index_of}
use Rattle.ac_chain.specs.Sequence.{object_of}
use Rattle.ac_chain.proofs.Marks.{judged_by_name, marked_live, place_live}
use Rattle.ac_pool.proofs.Cuts.{live_has}
use Rattle.ac_chain.proofs.Moved.{removed_cut, removed_slots}
use Rattle.ac_chain.proofs.Puts.{put_none, put_one}
use Rattle.ac_chain.proofs.SequenceDeletes.{cut_after}
use Rattle.ac_chain.proofs.SequenceGrows.{put_after}
use Rattle.ac_chain.proofs.SequenceSwaps.{set_after}
use Rattle.ac_model.specs.Calls.{IsAfter}
use Rattle.ac_model.specs.Cursors.{needs_cursor}
use Rattle.ac_model.specs.Keyed.{by_arrival, added, with_reordered}
use Rattle.ac_model.specs.Letters.{mark_of, reason_if, name_of}
use Rattle.ac_model.specs.Objects.{Object, plain, plains, times, with_rows}
use Rattle.ac_model.specs.Rows.{cut as without, put, place_of, is_named, with_value}
use Rattle.ac_model.proofs.Counts.{unnamed}
use Rattle.ac_setwork.specs.Indexed.{Becomes}
use Rattle.ac_setwork.proofs.Found.{named_among}
use Rattle.ac_hashed.specs.Ties.{seen_in}
use Rattle.ac_hashed.proofs.Standing.{live_there, once}

abbrev nobody : GuardCounts
nobody = record { number = 0; cursor_guards = 0; element_guards = 0 }

module _ {V : Type 0} where
  abbrev alone : Chained V → Object Name V
  alone c = object_of nobody Unbounded None c

  from_after : (c now : Chained V) (after : Object ℕ V) (rows : List (Row ℕ V)) (serial spare : ℕ) → IsAfter (alone c) (alone now) after → after.rows ≡ rows → now.next_serial ≡ serial → now.spare ≡ spare
      → length now.rows + now.spare ≡ length c.rows + c.spare → Becomes (seen_in c) (seen_in now) rows serial spare
  from_after c now after rows serial spare is same next room slots = record {
    plainly = ap (λ (o : Object ℕ V). o.rows) is.plainly ∙ same;
    same_slots = is.slots;
    next = next;
    spare = room;
    capacity = ap Some slots;
  }

  pub at_end : (rows : List (Row Name V)) (r : Row Name V) → insert rows (length rows) r ≡ rows ++ r ∷ []
  at_end [] r = refl
  at_end (x ∷ rows) r = ap (λ rs. x ∷ rs) (at_end rows r)

  -- a row more at the end
  pub added_is : (alike : V → V → Bool) (c now : Chained V) (a : Name) (v : V) → IsSound c → 0 < c.spare → IsFresh c a → now ≡ inserted c None (row a v)
      → Becomes (seen_in c) (seen_in now) (added (by_arrival alike) (plains c.rows) c.next_serial (v ∷ [])) (c.next_serial + 1) (c.spare - 1)
  added_is alike c now a v s some fresh is =
      let p = put_one c.rows c.next_serial None [] c now a v s (put_none c None (λ b e. absurd (none-some b e))) fresh is in
      let count : length now.rows ≡ length c.rows + 1 = ap (λ (d : Chained V). length d.rows) is ∙ ap length (at_end c.rows (row a v)) ∙ length_push c.rows (row a v) in
      let spare : now.spare ≡ c.spare - 1 = ap (λ (d : Chained V). d.spare) is in
      from_after c now _ (added (by_arrival alike) (plains c.rows) c.next_serial (v ∷ [])) (c.next_serial + 1) (c.spare - 1)
      (put_after nobody Unbounded None None c now 1 None (v ∷ []) refl refl s (λ b e. absurd (none-some b e)) p) refl (ap (λ (d : Chained V). d.next_serial) is) spare (omega arith)

  -- a row less
  pub removed_is : (c now : Chained V) (a : Name) → IsSound c → IsLive c a → now ≡ removed c a → IsSound now
      → Becomes (seen_in c) (seen_in now) (without (plains c.rows) (place_of (plains c.rows) a.serial) 1) c.next_serial (c.spare + 1)
  removed_is c now a s live is sound =
      from_after c now (with_rows (plain (alone c)) (without (plains c.rows) (index_of a c.rows) 1)) (without (plains c.rows) (place_of (plains c.rows) a.serial) 1) c.next_serial (c.spare + 1)
      (cut_after nobody Unbounded None c now (alone c) refl (index_of a c.rows) 1 (removed_cut c now a s live is sound))
      (ap (λ i. without (plains c.rows) i 1) (sym (place_live c a s live)))
      (ap (λ (d : Chained V). d.next_serial) is) (ap (λ (d : Chained V). d.spare) is) (removed_slots c now a s live sound is)

  -- another value under a name
  pub written_is : (c now : Chained V) (a : Name) (v : V) → IsSound c → IsLive c a → now ≡ chain.with_value c a v
      → Becomes (seen_in c) (seen_in now) (with_value (plains c.rows) a.serial v) c.next_serial c.spare
  written_is c now a v s live is =
      let fits : needs_cursor (alone c) (At 0 a) ≡ None = judged_by_name (alone c) 0 a ∙ ap (λ b. reason_if (not b) DeadCursor) (live_there c a live) in
      let is_name : name_of (mark_of 0 (names c.rows) (At 0 a)) ≡ a.serial = ap name_of (marked_live 0 c.rows a (live_has a c.rows live)) in
      let count : length now.rows ≡ length c.rows = ap (λ (d : Chained V). length d.rows) is ∙ length-set c.rows (index_of a c.rows) (row a v) in
      let spare : now.spare ≡ c.spare = ap (λ (d : Chained V). d.spare) is in
      from_after c now _ (with_value (plains c.rows) a.serial v) c.next_serial c.spare
      (set_after nobody Unbounded None c now (alone c) refl s (At 0 a) a v refl fits is) (ap (λ n. with_value (plains c.rows) n v) is_name)
      (ap (λ (d : Chained V). d.next_serial) is) spare (omega arith)

one_here : (b : Bool) (m : ℕ) → (if b then 1 else 0) + m ≤ 1 → b ≡ true → m ≡ 0
one_here true m h e = omega (arith, h)
one_here false m h e = absurd (true≢false (sym e))

-- in order of arrival a row with another value stays where it is
pub stays : {V : Type 0} (rows : List (Row ℕ V)) (n : ℕ) (v : V) → times n rows ≤ 1 → is_named rows n ≡ true → put (without rows (place_of rows n) 1) (place_of rows n) (row n v ∷ []) ≡ with_value rows n v
stays [] n v few there = absurd (true≢false (sym there))
stays {V} (r ∷ rows) n v few there = by (λ fewer rest. stays rows n v fewer rest) (r.name == n) refl
  where
    at : Bool → List (Row ℕ V)
    at b = let i = if b then 0 else suc (place_of rows n) in put (without (r ∷ rows) i 1) i (row n v ∷ [])

    by : (times n rows ≤ 1 → is_named rows n ≡ true → put (without rows (place_of rows n) 1) (place_of rows n) (row n v ∷ []) ≡ with_value rows n v) → (b : Bool) → (r.name == n) ≡ b → put (without (r ∷ rows) (place_of (r ∷ rows) n) 1) (place_of (r ∷ rows) n) (row n v ∷ []) ≡ with_value (r ∷ rows) n v
    by again true e =
        let none : times n rows ≡ 0 = one_here (r.name == n) (times n rows) few e in
        subst (λ b. at b ≡ (if b then row n v else r) ∷ with_value rows n v) (sym e) (ap (λ rs. row n v ∷ rs) (sym (unnamed rows n v none)))
    by again false e =
        let p = place_of rows n in
        let fewer : times n rows ≤ 1 = omega (arith, few) in
        let rest : is_named rows n ≡ true = subst (λ b. (b || is_named rows n) ≡ true) e there in
        let next : suc p + 1 ≡ suc (p + 1) = omega arith in
        let past : without (r ∷ rows) (suc p) 1 ≡ r ∷ without rows p 1 = ap (λ m. take (suc p) (r ∷ rows) ++ drop m (r ∷ rows)) next in
        subst (λ b. at b ≡ (if b then row n v else r) ∷ with_value rows n v) (sym e)
        (ap (λ rs. put rs (suc p) (row n v ∷ [])) past ∙ ap (λ rs. r ∷ rs) (again fewer rest))

module _ {V : Type 0} where
  pub reordered_is : (alike : V → V → Bool) (c now : Chained V) (a : Name) (v : V) → IsSound c → IsLive c a → now ≡ chain.with_value c a v
      → Becomes (seen_in c) (seen_in now) (with_reordered (by_arrival alike) (plains c.rows) a.serial v) c.next_serial c.spare
  reordered_is alike c now a v s live is =
      subst (λ rows. Becomes (seen_in c) (seen_in now) rows c.next_serial c.spare)
      (sym (stays (plains c.rows) a.serial v (once c s a) (named_among a c.rows (live_there c a live)))) (written_is c now a v s live is)
