-- Room for more rows: the buckets' grows first, and then the chain's, whose slots are the Capacity.
use Rattle.std.proofs.Common.{◌≡◌, ◌+◌, ◌-◌, ◌≤◌, ◌<◌, ℕ, Bool, false, length, Some, Result, Ok, Err, sym, ap, ◌∙◌, subst, inl, inr, arith, lt-ltb}
use Rattle.std.specs.Prelude.{OnOk, OnErr}
use Rattle.std.specs.List.{sum_by}
use Rattle.std.proofs.Common.{true≢false}
use Rattle.std.proofs.lemmas.Bool.{cases_lt, cond-false, lt-leb}
use Rattle.std.proofs.lemmas.List.{length-map}
use Rattle.ac_base.specs.declared.fault.NoMemory.{NoMemory}
use Rattle.ac_base.specs.declared.limit.Limit.{Limit}
use Rattle.ac_base.specs.declared.limit.Limit.TheVariants.{Unbounded, Bounded}
use Rattle.ac_base.specs.Growth.{pow8}
use Rattle.ac_base.specs.Limits.{is_past}
use Rattle.ac_base.proofs.Powers.{pow8-enough, pow8-rises}
use Rattle.ac_buckets.specs.Pairs as buckets
use Rattle.ac_buckets.specs.Pairs.{Bucketed}
use Rattle.ac_chain.specs.Rows.{Chained, IsSound, chained, cleared, reserved, slots_in}
use Rattle.ac_chain.proofs.Puts.{reserved_enough, reserved_kept, reserved_slots}
use Rattle.ac_model.specs.Objects.{capacity_after, plains}
use Rattle.ac_model.proofs.KeysDiffer.{Differ}
use Rattle.ac_setwork.specs.Indexed.{HasSlots, MakesRoom, slots_after}
use Rattle.ac_setwork.proofs.Slots.{after_grown, after_kept}
use Rattle.ac_hashed.specs.Ties.{AreTied, hashed, seen_in}
use Rattle.ac_hashed.proofs.Sums.{as_many, pair_of}

module _ {V : Type 0} (c : Chained V) where
  -- what is reserved where there are fewer spare slots
  reserved_more : (n : ℕ) → c.spare < n → reserved c n ≡ chained c.rows c.next_serial (pow8 (length c.rows + n) - length c.rows)
  reserved_more n less = cond-false _ _ _ (lt-leb n c.spare less)

  more_slots : (n : ℕ) → c.spare < n → slots_in (reserved c n) ≡ pow8 (length c.rows + n)
  more_slots n less = let enough = pow8-enough (length c.rows + n) in ap slots_in (reserved_more n less) ∙ omega arith

  -- what a bounded one has room for is within its slots
  within_spare : (most n : ℕ) → is_past (Bounded most) (length c.rows + n) ≡ false → slots_in c ≡ most → n ≤ c.spare
  within_spare most n within has = elim (cases_lt most (length c.rows + n)) [
    | inl less ↦ absurd (true≢false (sym (lt-ltb most (length c.rows + n) less) ∙ within))
    | inr le ↦ omega (arith, has, le)
  ]

  slots_are : (n : ℕ) → slots_in (reserved c n) ≡ slots_after (slots_in c) (length c.rows + n)
  slots_are n = elim (cases_lt c.spare n) [
    | inl less ↦ more_slots n less ∙ sym (after_grown (slots_in c) (length c.rows + n) (omega arith))
    | inr le ↦ ap slots_in (reserved_kept c n le) ∙ sym (after_kept (slots_in c) (length c.rows + n) (omega arith))
  ]

  capacity_is : (l : Limit) (n : ℕ) → is_past l (length c.rows + n) ≡ false → HasSlots l (Some (slots_in c)) (slots_in c) → Some (slots_in (reserved c n)) ≡ capacity_after l (Some (slots_in c)) (length c.rows + n)
  capacity_is Unbounded n within has = ap Some (slots_are n)
  capacity_is (Bounded most) n within has = ap Some (ap slots_in (reserved_kept c n (within_spare most n within has)))

  has_slots_still : (l : Limit) (n : ℕ) → is_past l (length c.rows + n) ≡ false → HasSlots l (Some (slots_in c)) (slots_in c) → HasSlots l (Some (slots_in (reserved c n))) (slots_in (reserved c n))
  has_slots_still Unbounded n within has = omega arith
  has_slots_still (Bounded most) n within has = ap slots_in (reserved_kept c n (within_spare most n within has)) ∙ has

  roomy : (now : Chained V) (l : Limit) (n : ℕ) → is_past l (length c.rows + n) ≡ false → HasSlots l (Some (slots_in c)) (slots_in c) → now ≡ reserved c n → MakesRoom l n (seen_in c) (seen_in now)
  roomy now l n within has is =
      let room = reserved_enough c now n is in record {
        rows = room.rows;
        next = room.next;
        capacity = ap (λ (d : Chained V). Some (slots_in d)) is ∙ capacity_is l n within has;
        enough = room.enough;
        has_slots = subst (λ (d : Chained V). HasSlots l (Some (slots_in d)) (slots_in d)) (sym is) (has_slots_still l n within has);
        most = reserved_slots c now n is;
        now_slots = ap slots_in is ∙ slots_are n;
      }

  pub makes_room : (r : Result (Unit {0}) NoMemory) (now : Chained V) (l : Limit) (n : ℕ) → is_past l (length c.rows + n) ≡ false → HasSlots l (Some (slots_in c)) (slots_in c) → OnOk r (now ≡ reserved c n) → OnOk r (MakesRoom l n (seen_in c) (seen_in now))
  makes_room (Ok x) now l n within has is = roomy now l n within has is
  makes_room (Err e) now l n within has is = tt

  module _ (hash : V → ℕ) (alike : V → V → Bool) (b : Bucketed) where
    pub few_pairs : AreTied hash alike c b → length b.pairs ≡ length c.rows
    few_pairs tied = as_many b.pairs (hashed hash c.rows) tied.pairs ∙ length-map c.rows (pair_of hash)

    -- the buckets' room is enough for the slots that the chain then has
    enough_room : AreTied hash alike c b → (wide : Bucketed) (n : ℕ) → wide.pairs ≡ b.pairs → n ≤ wide.spare → b.spare ≤ wide.spare → buckets.IsSound wide → (reserved c n).spare ≤ wide.spare
    enough_room tied wide n same room wider sound = elim (cases_lt c.spare n) [
      | inl less ↦
          let count : length wide.pairs ≡ length c.rows = ap length same ∙ few_pairs tied in
          let whole = sound.whole (omega (arith, room)) in
          let most = pow8-rises (length c.rows + n) wide.size (omega (arith, count, room, whole)) in
          let spare : (reserved c n).spare ≡ pow8 (length c.rows + n) - length c.rows = ap (λ (d : Chained V). d.spare) (reserved_more n less) in
          let power = sound.power in
          omega (arith, spare, most, power, whole, count)
      | inr le ↦ let kept : (reserved c n).spare ≡ c.spare = ap (λ (d : Chained V). d.spare) (reserved_kept c n le) in omega (arith, kept, tied.room, wider)
    ]

    pub tied_wide : AreTied hash alike c b → (r : Result (Unit {0}) NoMemory) (now : Chained V) (wide : Bucketed) (n : ℕ) → wide.pairs ≡ b.pairs → n ≤ wide.spare → b.spare ≤ wide.spare → buckets.IsSound wide
        → OnOk r (now ≡ reserved c n) → OnErr r (now ≡ c) → IsSound now → AreTied hash alike now wide
    tied_wide tied (Err e) now wide n same room wider sound ok err sound_now =
        subst (λ (d : Chained V). AreTied hash alike d wide) (sym err) (record {
          sound = tied.sound;
          pairs = λ weight. ap (sum_by weight) same ∙ tied.pairs weight;
          room = omega (arith, tied.room, wider);
          differ = tied.differ;
        })
    tied_wide tied (Ok x) now wide n same room wider sound ok err sound_now =
        let rows = (reserved_enough c now n ok).rows in
        let spare : now.spare ≡ (reserved c n).spare = ap (λ (d : Chained V). d.spare) ok in
        record {
          sound = sound_now;
          pairs = λ weight. ap (sum_by weight) same ∙ tied.pairs weight ∙ ap (λ rs. sum_by weight (hashed hash rs)) (sym rows);
          room = omega (arith, spare, enough_room tied wide n same room wider sound);
          differ = subst (λ rs. Differ alike (plains rs)) (sym rows) tied.differ;
        }

    -- no rows
    pub tied_cleared : AreTied hash alike c b → (now : Chained V) (none : Bucketed) → now ≡ cleared c → none ≡ buckets.cleared b → IsSound now → AreTied hash alike now none
    tied_cleared tied now none is empty sound =
        let count = few_pairs tied in
        let spare : now.spare ≡ length c.rows + c.spare = ap (λ (d : Chained V). d.spare) is in
        let room : none.spare ≡ length b.pairs + b.spare = ap (λ (d : Bucketed). d.spare) empty in
        record {
          sound = sound;
          pairs = λ weight. ap (λ (d : Bucketed). sum_by weight d.pairs) empty ∙ ap (λ (d : Chained V). sum_by weight (hashed hash d.rows)) (sym is);
          room = omega (arith, spare, room, count, tied.room);
          differ = subst (λ (d : Chained V). Differ alike (plains d.rows)) (sym is) (λ v. omega arith);
        }
