-- What two sequences are after elements of one moved into the other.
use Rattle.std.proofs.Common.{◌≡◌, ℕ, ◌+◌, ◌≤◌, List, length, Option, None, Result, Ok, Err, IsTrue, refl, sym, ap, ◌∙◌, subst, arith, []}
use Rattle.std.specs.Prelude.{IfOk, IfErr, max}
use Rattle.std.proofs.lemmas.List.{length-map}
use Rattle.ac_base.specs.declared.limit.Limit.{Limit}
use Rattle.ac_base.specs.declared.limit.Limit.TheVariants.{Unbounded, Bounded}
use Rattle.ac_base.specs.declared.name.Name.{Name}
use Rattle.ac_base.specs.declared.fault.Fault.{Fault}
use Rattle.ac_base.specs.declared.fault.NoMemory.{NoMemory}
use Rattle.ac_base.specs.Guards.{GuardCounts}
use Rattle.ac_base.specs.FirstReason.{first_reason}
use Rattle.ac_base.specs.declared.cursor.Cursor.{Cursor}
use Rattle.ac_base.specs.Growth.{pow8}
use Rattle.ac_chain.specs.Rows.{Chained, IsSound, cleared}
use Rattle.ac_base.specs.Rows.{Row}
use Rattle.ac_model.specs.Objects.{Object, plain, length_of, contents, with_rows, capacity_after}
use Rattle.ac_model.specs.Letters.{place_at, tampers_cursors, room}
use Rattle.ac_model.specs.Calls.{Call, ChangingBoth, Same, Both, both, IsAfter, Done}
use Rattle.ac_model.specs.Sequences.{with_new}
use Rattle.ac_model.specs.Common as common
use Rattle.ac_model.proofs.Reasons.{after_two, room_none}
use Rattle.ac_model.specs.Containers.{Grows, slots_of}
use Rattle.ac_model.specs.Objects.{plains}
use Rattle.ac_chain.specs.Put.{IsPut, HasGrown}
use Rattle.ac_model.specs.Forms.{as_fault}
use Rattle.ac_chain.specs.Refill.{IsRefilled}
use Rattle.ac_base.specs.Rows.{values}
use Rattle.ac_model.specs.Cursors.{may_cursor, mark, place_in}
use Rattle.ac_model.specs.Containers.{Container, container}
use Rattle.ac_chain.specs.Sequence.{object_of, IsSequence, Widens}
use Rattle.ac_chain.proofs.SequenceGrows.{sequence_grown, put_after, insert_spot, named_live, grown_slots}
use Rattle.ac_chain.proofs.SequenceRefills.{source_is, refill_after}
use Rattle.ac_chain.proofs.Moved.{Fits}

module _ {X : Type 0} where
  pub room_fits : (g : GuardCounts) (l : Limit) (capacity : Option ℕ) (k : Chained X) (o : Object Name X) → object_of g l capacity k ≡ o → (length more len n : ℕ) → length ≡ len → more ≡ n → first_reason (room (plain o) length more) ≡ None → Fits l k len n
  room_fits g l capacity k o view length more len n e f none =
      let has = room_none (plain (object_of g l capacity k)) len n ((λ i. first_reason (room (plain (view i)) (sym e i) (sym f i))) ∙ none) in
      let names = has.within_names in
      record { few = has.within_greatest; within = has.within_limit; unspent = omega arith }

  -- the sequence of a chain with more rows
  pub sequence_more : {P A : Type 0} (l : Limit) (k now : Chained X) (n : ℕ) (r : Result A NoMemory) → IsSequence l k → Fits l k (length k.rows + n) n → (P → length now.rows ≡ length k.rows + n)
      → IfOk r (λ _. P) → IfOk r (λ _. HasGrown k n now) → IfErr r (λ _. now ≡ k) → IsSound now → IsSequence l now
  sequence_more {P} {A} l k now n (Ok x) s f more ok h err sound = sequence_grown {A = A} l k now n (Ok x) s f.few f.within (more ok) err h.kept sound
  sequence_more {P} {A} l k now n (Err x) s f more ok h err sound = subst (λ c. IsSequence l c) (sym err) s

  -- and of one with fewer, which has their slots
  pub sequence_less : {Q A : Type 0} (l : Limit) (k now : Chained X) (r : Result A NoMemory) → IsSequence l k → (Q → length now.rows ≤ length k.rows) → (Q → length now.rows + now.spare ≡ length k.rows + k.spare)
      → IfOk r (λ _. Q) → IfErr r (λ _. now ≡ k) → IsSound now → IsSequence l now
  sequence_less l k now (Err e) s few same ok err sound = subst (λ c. IsSequence l c) (sym err) s
  sequence_less Unbounded k now (Ok x) s few same ok err sound = let most = s.within_greatest in let le = few ok in record { sound = sound; within_greatest = omega arith; is_limit = tt; has_slots = tt }
  sequence_less (Bounded most) k now (Ok x) s few same ok err sound =
      let all = s.within_greatest in let le = few ok in
      record { sound = sound; within_greatest = omega arith; is_limit = s.is_limit; has_slots = same ok ∙ s.has_slots }

  -- the slots of a sequence whose chain has more rows, and of one whose chain has fewer
  pub more_slots : {G : Type 0} (g : GuardCounts) (l : Limit) (capacity wider : Option ℕ) (k now : Chained X) (o : Container X) → container (object_of g l capacity k) k.spare ≡ o → (r : Result Done NoMemory) (d : Result Done Fault) → d ≡ as_fault r
      → (G → length now.rows + now.spare ≤ max (length k.rows + k.spare) (pow8 (length now.rows))) → IfOk r (λ _. G) → IfErr r (λ _. now ≡ k) → Grows d o (container (object_of g l wider now) now.spare)
  more_slots {G} g l capacity wider k now o view r d is most ok err = subst (λ q. Grows q o (container (object_of g l wider now) now.spare)) (sym is) (by r ok err)
    where
      by : (r : Result Done NoMemory) → IfOk r (λ _. G) → IfErr r (λ _. now ≡ k) → Grows (as_fault r) o (container (object_of g l wider now) now.spare)
      by (Ok x) ok err = grown_slots g l capacity wider k now o view (most ok)
      by (Err e) ok err = ap (λ (c : Chained X). slots_of (container (object_of g l capacity c) c.spare)) err ∙ ap slots_of view

  pub less_slots : {Q A : Type 0} (h : GuardCounts) (m : Limit) (other : Option ℕ) (from then : Chained X) (p : Container X) → container (object_of h m other from) from.spare ≡ p → (r : Result A NoMemory) → (Q → length then.rows + then.spare ≡ length from.rows + from.spare)
      → IfOk r (λ _. Q) → IfErr r (λ _. then ≡ from) → slots_of (container (object_of h m other then) then.spare) ≡ slots_of p
  less_slots h m other from then p view (Ok x) same ok err =
      let sum = same ok in
      subst (λ (q : Container X). slots_of (container (object_of h m other then) then.spare) ≡ slots_of q) view (omega arith)
  less_slots h m other from then p view (Err e) same ok err = ap (λ (c : Chained X). slots_of (container (object_of h m other c) c.spare)) err ∙ ap slots_of view

  emptied_after : (h : GuardCounts) (m : Limit) (other : Option ℕ) (from then : Chained X) (p : Object Name X) → object_of h m other from ≡ p → then ≡ cleared from → IsAfter p (object_of h m other then) (with_rows (plain p) [])
  emptied_after h m other from then p view e =
      subst (λ (q : Object Name X). IsAfter q (object_of h m other then) (with_rows (plain q) [])) view
      (subst (λ (d : Chained X). IsAfter (object_of h m other from) (object_of h m other d) (with_rows (plain (object_of h m other from)) [])) (sym e) (record { plainly = refl; slots = λ i d lt. absurd (omega arith) }))

  -- values as new elements before the cursor
  pub placed_after : (g : GuardCounts) (l : Limit) (capacity wider : Option ℕ) (k now : Chained X) (o : Object Name X) → object_of g l capacity k ≡ o → IsSound k → (b : Cursor) (place : Option Name) (vs : List X) (n : ℕ) → capacity_after l capacity (length now.rows) ≡ wider → length vs ≡ n → place ≡ place_in b → may_cursor o b ≡ None
      → IsPut k.rows k.next_serial place vs now → IsAfter o (object_of g l wider now) (with_new (plain o) (place_at (plain o).rows (mark o b)) vs n)
  placed_after g l capacity wider k now o view s b place vs n risen count is none p =
      subst (λ (q : Object Name X). may_cursor q b ≡ None → IsAfter q (object_of g l wider now) (with_new (plain q) (place_at (plain q).rows (mark q b)) vs n)) view at none
    where
      at : may_cursor (object_of g l capacity k) b ≡ None → IsAfter (object_of g l capacity k) (object_of g l wider now) (with_new (plain (object_of g l capacity k)) (place_at (plains k.rows) (mark (object_of g l capacity k) b)) vs n)
      at none =
          let there = insert_spot g l capacity k (object_of g l capacity k) refl s b none in
          subst (λ i. IsAfter (object_of g l capacity k) (object_of g l wider now) (with_new (plain (object_of g l capacity k)) i vs n)) there.1
          (put_after g l capacity wider k now n (place_in b) vs risen count s (named_live g l capacity k (object_of g l capacity k) refl (place_in b) there.0) (subst (λ q. IsPut k.rows k.next_serial q vs now) is p))

module _ {X : Type 0} (g h : GuardCounts) (l m : Limit) (capacity other : Option ℕ) (k from : Chained X) (o p : Object Name X) (view : object_of g l capacity k ≡ o) (source : object_of h m other from ≡ p) where
  -- a call that moves elements, where the chains say what it does
  pub transferred : {P Q : Type 0} (now then : Chained X) (wider : Option ℕ) (c : Call (Both (Object ℕ X)) Done) (r : Result Done NoMemory) (d : Result Done Fault) → d ≡ as_fault r → IsTrue c.memory → None ≡ c.reason → Widens r l capacity (length now.rows) wider
      → (capacity_after l capacity (length now.rows) ≡ wider → P → IsAfter o (object_of g l wider now) c.after.target) → (Q → IsAfter p (object_of h m other then) c.after.source) → IfOk r (λ _. P) → IfOk r (λ _. Q) → IfErr r (λ _. now ≡ k) → IfErr r (λ _. then ≡ from)
      → ChangingBoth Same c (both o p) (both (object_of g l wider now) (object_of h m other then)) d
  transferred {P} {Q} now then wider c r d is wants e widens target after ok gone same same_source = subst (λ q. ChangingBoth Same c (both o p) (both (object_of g l wider now) (object_of h m other then)) q) (sym is) (by r widens ok gone same same_source)
    where
      by : (r : Result Done NoMemory) → Widens r l capacity (length now.rows) wider → IfOk r (λ _. P) → IfOk r (λ _. Q) → IfErr r (λ _. now ≡ k) → IfErr r (λ _. then ≡ from) → ChangingBoth Same c (both o p) (both (object_of g l wider now) (object_of h m other then)) (as_fault r)
      by (Ok x) risen ok gone same same_source = (sym e, record { target = target risen ok; source = after gone }, refl)
      by (Err q) kept ok gone same same_source = (wants, sym e, λ i. both (((λ j. object_of g l (sym kept j) (same j)) ∙ view) i) ((ap (object_of h m other) same_source ∙ source) i))

  pub both_lengths : length_of (plain o) + length_of (plain p) ≡ length k.rows + length from.rows
  both_lengths = λ i. (source_is g l capacity k o view).1 i + (source_is h m other from p source).1 i

  pub emptied : (then : Chained X) → then ≡ cleared from → IsAfter p (object_of h m other then) (with_rows (plain p) [])
  emptied then e = emptied_after h m other from then p source e

  -- Move
  pub move_fits : None ≡ (common.move_from_call (plain o) (plain p)).reason → Fits l k (length from.rows) (length from.rows)
  move_fits e =
      let n = length_of (plain p) in let count = (source_is h m other from p source).1 in
      room_fits g l capacity k o view n n (length from.rows) (length from.rows) count count (after_two (tampers_cursors (plain o)) (tampers_cursors (plain p)) (room (plain o) n n) (sym e))

  pub moved : (now : Chained X) (wider : Option ℕ) → capacity_after l capacity (length now.rows) ≡ wider → IsRefilled k (values from.rows) now → IsAfter o (object_of g l wider now) (common.move_from_call (plain o) (plain p)).after.target
  moved now wider risen f = refill_after g l capacity wider k now o (contents (plain p)) (length_of (plain p)) view risen (length-map (plain p).rows (λ (r : Row ℕ X). r.value)) (subst (λ vs. IsRefilled k vs now) (sym (source_is h m other from p source).0) f)
