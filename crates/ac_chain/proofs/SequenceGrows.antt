-- What a sequence is after copies were put into it.
use Rattle.std.proofs.Common.{◌≡◌, ℕ, zero, suc, ◌+◌, ◌<◌, ◌≤◌, ◌&&◌, not, true, false, List, ◌∷◌, ◌++◌, length, replicate, Option, Some, None, Result, Ok, Err, IsTrue, refl, sym, ap, ◌∙◌, subst, inl, inr, arith, eqb-true, lt-ltb, true≢false, ◌^◌, []}
use Rattle.std.specs.Prelude.{◌==◌, IfOk, IfErr, max, nat_lt}
use Rattle.std.specs.Option.{ForSome}
use Rattle.std.proofs.lemmas.Bool.{cases_Bool, cases_lt, le-ltb}
use Rattle.std.proofs.lemmas.List.{length-replicate}
use Rattle.ac_base.specs.declared.limit.Limit.{Limit}
use Rattle.ac_base.specs.declared.limit.Limit.TheVariants.{Unbounded, Bounded}
use Rattle.ac_base.specs.declared.name.Name.{Name}
use Rattle.ac_base.specs.declared.fault.NoMemory.{NoMemory}
use Rattle.ac_base.specs.declared.fault.Fault.TheVariants as fault
use Rattle.ac_base.specs.Guards.{GuardCounts}
use Rattle.ac_base.specs.declared.cursor.Cursor.{Cursor}
use Rattle.ac_base.specs.declared.cursor.Cursor.TheVariants.{NoElement, At}
use Rattle.ac_base.specs.Growth.{pow8}
use Rattle.ac_chain.specs.Rows.{Chained, IsLive, IsSound, place_of}
use Rattle.ac_pool.specs.NamedRows.{index_of, name_at, HasName}
use Rattle.ac_pool.proofs.Cuts.{has_live, live_has, index_here}
use Rattle.ac_base.specs.Rows.{Row, names}
use Rattle.ac_model.specs.Rows.{fresh, put}
use Rattle.ac_base.specs.Limits.{is_past}
use Rattle.ac_base.specs.declared.limit.TheConstants.{GREATEST_LENGTH}
use Rattle.ac_model.specs.Objects.{Object, plain, length_of, grown, capacity_after}
use Rattle.ac_model.specs.Letters.{no_mark, mark_at, mark_of, is_among, has_room, room, place_at}
use Rattle.ac_model.specs.Calls.{Changing, IsAfter, Marks}
use Rattle.ac_model.specs.Sequences.{with_new, first_new}
use Rattle.ac_model.specs.Cursors.{spot, IsNamed}
use Rattle.ac_model.specs.Containers.{slots_of}
use Rattle.ac_model.specs.Objects.{plains}
use Rattle.ac_chain.specs.Put.{IsPut, HasFirst}
use Rattle.ac_model.specs.Putting.{Takes, put_call}
use Rattle.ac_model.specs.Cursors.{may_cursor, mark, place_in, cursor_at}
use Rattle.ac_model.specs.Containers.{Container, container}
use Rattle.ac_chain.specs.Sequence.{object_of, IsSequence, HasCapacity, Widens}
use Rattle.ac_chain.proofs.Marks.{among_has, has_among, place_live, may_by_name, marked_live}
use Rattle.ac_chain.proofs.SequenceStanding.{stands}
use Rattle.ac_model.proofs.Changes.{no_capacity}
use Rattle.ac_model.proofs.Plains.{plains-append, length-plains}
use Rattle.ac_chain.proofs.Puts.{put_length}
use Rattle.ac_chain.proofs.Grows.{all_from, put_cut, put_kept, past_end}

-- a sequence without a Capacity stays without one
pub widens_none : {A : Type 0} (r : Result A NoMemory) (l : Limit) (n : ℕ) → Widens r l None n None
widens_none (Ok x) l n = no_capacity l n
widens_none (Err e) l n = refl

module _ {X : Type 0} where
  -- of a sequence that takes so many more, the chain does too
  pub takes_few : (g : GuardCounts) (l : Limit) (capacity : Option ℕ) (k : Chained X) (o : Object Name X) → object_of g l capacity k ≡ o → (n : ℕ) → Takes o n → length k.rows + n ≤ GREATEST_LENGTH
  takes_few g l capacity k o view n t = let few = (subst (λ (p : Object Name X). Takes p n) (sym view) t).few in omega arith

  pub takes_names : (g : GuardCounts) (l : Limit) (capacity : Option ℕ) (k : Chained X) (o : Object Name X) → object_of g l capacity k ≡ o → (n : ℕ) → Takes o n → k.next_serial + n < 2 ^ 64
  takes_names g l capacity k o view n t = let few = (subst (λ (p : Object Name X). Takes p n) (sym view) t).unspent in omega arith

  pub named_live : (g : GuardCounts) (l : Limit) (capacity : Option ℕ) (k : Chained X) (o : Object Name X) → object_of g l capacity k ≡ o → (place : Option Name) → ForSome place (IsNamed o) → ForSome place (IsLive k)
  named_live g l capacity k o view place h = λ a e. has_live a k.rows (among_has a k.rows (subst (λ (p : Object Name X). IsNamed p a) (sym view) (h a e)))

  -- a bounded sequence that takes so many more has the slots
  has_slots : (most : ℕ) (k : Chained X) (n : ℕ) → IsSequence (Bounded most) k → is_past (Bounded most) (length k.rows + n) ≡ false → n ≤ k.spare
  has_slots most k n s h = let sum = s.has_slots in let le : length k.rows + n ≤ most = elim (cases_lt most (length k.rows + n)) [ inl lt ↦ absurd (let t = lt-ltb most (length k.rows + n) lt in true≢false (sym t ∙ h)) | inr le ↦ le ] in omega arith

  -- a sequence that takes so many more stays one, whatever the rows are
  pub sequence_grown : {A : Type 0} (l : Limit) (k now : Chained X) (n : ℕ) (r : Result A NoMemory) → IsSequence l k → length k.rows + n ≤ GREATEST_LENGTH → is_past l (length k.rows + n) ≡ false
      → IfOk r (λ _. length now.rows ≡ length k.rows + n) → IfErr r (λ _. now ≡ k) → (n ≤ k.spare → length now.rows + now.spare ≡ length k.rows + k.spare) → IsSound now → IsSequence l now
  sequence_grown l k now n (Err x) s few within ok err slots sound = subst (λ c. IsSequence l c) (sym err) s
  sequence_grown Unbounded k now n (Ok x) s few within ok err slots sound = record { sound = sound; within_greatest = omega (arith, ok); is_limit = tt; has_slots = tt }
  sequence_grown (Bounded most) k now n (Ok x) s few within ok err slots sound =
      let sum = s.has_slots in let all = slots (has_slots most k n s within) in
      let total : length now.rows + now.spare ≡ most = all ∙ sum in
      record { sound = sound; within_greatest = omega (arith, ok); is_limit = s.is_limit; has_slots = total }

  pub sequence_after : (l : Limit) (k now : Chained X) (n : ℕ) (place : Option Name) (e : X) (r : Result (Option Name) NoMemory) → IsSequence l k → length k.rows + n ≤ GREATEST_LENGTH → is_past l (length k.rows + n) ≡ false
      → IfOk r (λ _. IsPut k.rows k.next_serial place (replicate n e) now) → IfErr r (λ _. now ≡ k)
      → (n ≤ k.spare → length now.rows + now.spare ≡ length k.rows + k.spare) → IsSound now → IsSequence l now
  sequence_after l k now n place e (Err x) s few within ok err slots sound = sequence_grown {A = Option Name} l k now n (Err x) s few within ok err slots sound
  sequence_after l k now n place e (Ok x) s few within ok err slots sound =
      sequence_grown {A = Option Name} l k now n (Ok x) s few within (put_length k.rows k.next_serial place (replicate n e) now ok ∙ ap (λ m. length k.rows + m) (length-replicate n e)) err slots sound

  spot_is : (g : GuardCounts) (l : Limit) (capacity : Option ℕ) (k : Chained X) (place : Option Name) → IsSound k → ForSome place (IsLive k) → spot (object_of g l capacity k) place ≡ place_of place k.rows
  spot_is g l capacity k None s h = length-plains k.rows
  spot_is g l capacity k (Some a) s h = place_live k a s (h a refl)

  rows_put : (g : GuardCounts) (l : Limit) (capacity : Option ℕ) (k now : Chained X) (place : Option Name) (vs : List X) → IsSound k → ForSome place (IsLive k) → IsPut k.rows k.next_serial place vs now
      → plains now.rows ≡ put (plains k.rows) (spot (object_of g l capacity k) place) (fresh k.next_serial vs)
  rows_put g l capacity k now place vs s h p =
      let fr = fresh k.next_serial vs in
      let there : plains now.rows ≡ plains p.before ++ fr ++ plains p.after =
      ap plains p.are ∙ plains-append (p.before ++ p.more) p.after ∙ ap (λ xs. xs ++ plains p.after) (plains-append p.before p.more ∙ ap (λ ys. plains p.before ++ ys) p.fresh_names) in
      let at : spot (object_of g l capacity k) place ≡ length (plains p.before) = spot_is g l capacity k place s h ∙ p.at ∙ sym (length-plains p.before) in
      let were : plains k.rows ≡ plains p.before ++ plains p.after = ap plains p.were ∙ plains-append p.before p.after in
      there ∙ sym (put_cut (plains p.before) (plains p.after) fr) ∙ (λ i. put (sym were i) (sym at i) fr)

  -- a sequence that has these rows, so many of them new
  pub grown_after : (g : GuardCounts) (l : Limit) (capacity wider : Option ℕ) (k now : Chained X) (rows : List (Row ℕ X)) (n : ℕ) → capacity_after l capacity (length now.rows) ≡ wider → plains now.rows ≡ rows → now.next_serial ≡ k.next_serial + n → ((a : Name) → HasName a now.rows → a.serial < k.next_serial → HasName a k.rows)
      → IsAfter (object_of g l capacity k) (object_of g l wider now) (grown (plain (object_of g l capacity k)) rows n)
  grown_after g l capacity wider k now rows n risen is next kept = record {
    plainly = λ i. record {
      number = g.number;
      limit = l;
      capacity = (sym risen ∙ ap (λ m. capacity_after l capacity m) (sym (length-plains now.rows) ∙ ap length is)) i;
      next = next i;
      rows = is i;
      cursor_guards = g.cursor_guards;
      element_guards = g.element_guards;
    };
    slots = all_from (λ name. name.serial < k.next_serial → IsTrue (is_among (names k.rows) name)) now.rows (λ a t lt. has_among a k.rows (kept a t lt));
  }

  pub put_after : (g : GuardCounts) (l : Limit) (capacity wider : Option ℕ) (k now : Chained X) (n : ℕ) (place : Option Name) (vs : List X) → capacity_after l capacity (length now.rows) ≡ wider → length vs ≡ n → IsSound k → ForSome place (IsLive k) → IsPut k.rows k.next_serial place vs now
      → IsAfter (object_of g l capacity k) (object_of g l wider now) (with_new (plain (object_of g l capacity k)) (spot (object_of g l capacity k) place) vs n)
  put_after g l capacity wider k now n place vs risen count s h p =
      grown_after g l capacity wider k now (put (plains k.rows) (spot (object_of g l capacity k) place) (fresh k.next_serial vs)) n risen (rows_put g l capacity k now place vs s h p) (p.risen ∙ ap (λ m. k.next_serial + m) count) (put_kept k.rows k.next_serial place vs now p)

  wants : (g : GuardCounts) (l : Limit) (capacity : Option ℕ) (k : Chained X) (n : ℕ) → IsSequence l k → HasCapacity capacity k → is_past l (length k.rows + n) ≡ false → (n ≤ 1 → n ≤ k.spare → ⊥) → IsTrue (not ((n == 1) && has_room (plain (object_of g l capacity k))))
  wants g Unbounded None k n s slots within room = elim (cases_Bool (n == 1)) [ inl t ↦ ap (λ b. not (b && false)) t | inr f ↦ ap (λ b. not (b && false)) f ]
  wants g Unbounded (Some capacity) k n s slots within room = elim (cases_Bool (n == 1)) [
    | inl t ↦
        let one = eqb-true n 1 t in let count = length-plains k.rows in
        elim (cases_lt (length (plains k.rows)) capacity) [ inl less ↦ absurd (room (omega arith) (omega arith)) | inr le ↦ (λ i. not (t i && le-ltb (length (plains k.rows)) capacity le i)) ]
    | inr f ↦ ap (λ b. not (b && nat_lt (length (plains k.rows)) capacity)) f
  ]
  wants g (Bounded most) capacity k n s slots within room = elim (cases_Bool (n == 1)) [
    | inl t ↦ absurd (let one = eqb-true n 1 t in room (omega arith) (has_slots most k n s within))
    | inr f ↦ ap (λ b. not (b && true)) f
  ]

  -- the cursor of the first new row is the definitions' mark
  pub first_marked : (g : GuardCounts) (l : Limit) (capacity : Option ℕ) (k now : Chained X) (n : ℕ) (first : Option Name) → HasFirst k.next_serial n now first
      → mark_of g.number (names now.rows) (cursor_at g.number first) ≡ first_new (plain (object_of g l capacity k)) no_mark n
  first_marked g l capacity k now zero first has = ap (λ f. mark_of g.number (names now.rows) (cursor_at g.number f)) has
  first_marked g l capacity k now (suc n) None has = absurd has
  first_marked g l capacity k now (suc n) (Some a) has = marked_live g.number now.rows a (live_has a now.rows has.live) ∙ ap (mark_at g.number) has.serial

  -- the copies are put, and the first one's cursor is the answer
  pub put_done : (g : GuardCounts) (l : Limit) (capacity wider : Option ℕ) (k now : Chained X) (n : ℕ) (place : Option Name) (e : X) (first : Option Name) (c : Cursor) → capacity_after l capacity (length now.rows) ≡ wider → IsSequence l k → ForSome place (IsLive k)
      → IsPut k.rows k.next_serial place (replicate n e) now → HasFirst k.next_serial n now first → c ≡ cursor_at g.number first
      → Changing (Marks (object_of g l wider now)) (put_call (object_of g l capacity k) place e n) (object_of g l capacity k) (object_of g l wider now) (Ok c)
  put_done g l capacity wider k now n place e first c risen s h ok has is =
      (refl, put_after g l capacity wider k now n place (replicate n e) risen (length-replicate n e) s.sound h ok, ap (mark_of g.number (names now.rows)) is ∙ first_marked g l capacity k now n first has)

  -- memory is wanting, and nothing has changed
  pub put_wants : (g : GuardCounts) (l : Limit) (capacity : Option ℕ) (k now : Chained X) (n : ℕ) (place : Option Name) (e : X) → IsSequence l k → HasCapacity capacity k → is_past l (length k.rows + n) ≡ false → now ≡ k → (n ≤ 1 → n ≤ k.spare → ⊥)
      → Changing (Marks (object_of g l capacity now)) (put_call (object_of g l capacity k) place e n) (object_of g l capacity k) (object_of g l capacity now) (Err fault.NoMemory)
  put_wants g l capacity k now n place e s slots within err room = (wants g l capacity k n s slots within room, refl, ap (object_of g l capacity) err)

  -- the slots of the chain are the sequence's
  pub grown_slots : (g : GuardCounts) (l : Limit) (capacity wider : Option ℕ) (k now : Chained X) (o : Container X) → container (object_of g l capacity k) k.spare ≡ o → length now.rows + now.spare ≤ max (length k.rows + k.spare) (pow8 (length now.rows))
      → slots_of (container (object_of g l wider now) now.spare) ≤ max (slots_of o) (pow8 (length_of (object_of g l wider now)))
  grown_slots g l capacity wider k now o view h =
      subst (λ (x : Container X). slots_of (container (object_of g l wider now) now.spare) ≤ max (slots_of x) (pow8 (length_of (object_of g l wider now)))) view
      (subst (λ m. m + now.spare ≤ max (length k.rows + k.spare) (pow8 m)) refl
      (subst (λ m. length now.rows + now.spare ≤ max (m + k.spare) (pow8 (length now.rows))) refl h))

  pub takes_within : (g : GuardCounts) (l : Limit) (capacity : Option ℕ) (k : Chained X) (o : Object Name X) → object_of g l capacity k ≡ o → (n : ℕ) → Takes o n → is_past l (length k.rows + n) ≡ false
  takes_within g l capacity k o view n t =
      subst (λ m. is_past l (m + n) ≡ false) refl (subst (λ (p : Object Name X). Takes p n) (sym view) t).within

  pub first_spot : (g : GuardCounts) (l : Limit) (capacity : Option ℕ) (k : Chained X) (o : Object Name X) → object_of g l capacity k ≡ o → IsSound k → (place : Option Name) → place ≡ name_at k.rows 0 → (ForSome place (IsNamed o)) × (spot o place ≡ 0)
  first_spot g l capacity k o view s place e = subst (λ (p : Object Name X). (ForSome place (IsNamed p)) × (spot p place ≡ 0)) view (subst (λ q. (ForSome q (IsNamed (object_of g l capacity k))) × (spot (object_of g l capacity k) q ≡ 0)) (sym e) (at_first k.rows refl))
    where
      at_first : (rows : List (Row Name X)) → k.rows ≡ rows → (ForSome (name_at k.rows 0) (IsNamed (object_of g l capacity k))) × (spot (object_of g l capacity k) (name_at k.rows 0) ≡ 0)
      at_first [] is = subst (λ rows. (ForSome (name_at rows 0) (IsNamed (object_of g l capacity k))) × (spot (object_of g l capacity k) (name_at rows 0) ≡ 0)) (sym is) ((λ a q. absurd (let n : None ≡ Some a = q in cc)), ap (λ rows. length (plains rows)) is)
      at_first (r ∷ rows) is =
          let h : HasName r.name k.rows = subst (λ zs. HasName r.name zs) (sym is) (inl refl) in
          subst (λ zs. (ForSome (name_at zs 0) (IsNamed (object_of g l capacity k))) × (spot (object_of g l capacity k) (name_at zs 0) ≡ 0)) (sym is) (
            (λ a q. subst (λ n. IsNamed (object_of g l capacity k) n) (let same : r.name ≡ a = cc in same) (has_among r.name k.rows h)),
            place_live k r.name s (has_live r.name k.rows h) ∙ ap (index_of r.name) is ∙ index_here r.name r rows refl,
          )

  pub insert_spot : (g : GuardCounts) (l : Limit) (capacity : Option ℕ) (k : Chained X) (o : Object Name X) → object_of g l capacity k ≡ o → IsSound k → (b : Cursor) → may_cursor o b ≡ None
      → (ForSome (place_in b) (IsNamed o)) × (spot o (place_in b) ≡ place_at (plain o).rows (mark o b))
  insert_spot g l capacity k o view s b h =
      subst (λ (p : Object Name X). may_cursor p b ≡ None → (ForSome (place_in b) (IsNamed p)) × (spot p (place_in b) ≡ place_at (plain p).rows (mark p b))) view (at b) h
    where
      at : (b : Cursor) → may_cursor (object_of g l capacity k) b ≡ None → (ForSome (place_in b) (IsNamed (object_of g l capacity k))) × (spot (object_of g l capacity k) (place_in b) ≡ place_at (plains k.rows) (mark (object_of g l capacity k) b))
      at NoElement e = ((λ a q. absurd (let n : None ≡ Some a = q in cc)), sym (past_end k.rows (λ a t. (s.issued a (has_live a k.rows t)).0)))
      at (At object a) e =
          let t = stands g l capacity k (At object a) (sym (may_by_name (object_of g l capacity k) object a) ∙ e) in (
            (λ n q. subst (λ m. IsNamed (object_of g l capacity k) m) (let same : a ≡ n = cc in same) (has_among a k.rows (live_has a k.rows t.live))),
            ap (λ m. place_at (plains k.rows) m) (sym t.marked),
          )
