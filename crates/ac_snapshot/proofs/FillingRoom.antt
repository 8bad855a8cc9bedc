-- An object with room for one row more: the call that puts it isn't refused for want of room, and what is left has the row behind all others.
use Rattle.std.proofs.Common.{◌≡◌, ◌+◌, ◌≤◌, arith, ℕ, Bool, true, false, not, ◌&&◌, List, [], ◌∷◌, ◌++◌, length, pos, refl, sym, ap, ◌∙◌, Option, Some, None, append-nil}
use Rattle.std.specs.Prelude.{nat_lt, nat_le}
use Rattle.std.proofs.Math.Seq.{take-length, drop-length}
use Rattle.std.proofs.lemmas.Bool.{false≢true, cond-true, le-ltb, le-leb, leb-true, ltb-false, and_parts, not-true}
use Rattle.std.proofs.lemmas.List.{length_push}
use Rattle.ac_base.specs.declared.limit.Limit.{Limit}
use Rattle.ac_base.specs.declared.limit.Limit.TheVariants.{Unbounded, Bounded}
use Rattle.ac_base.specs.declared.limit.TheConstants.{GREATEST_LENGTH}
use Rattle.ac_base.specs.declared.reason.Reason.TheVariants.{LengthRange, CapacityFull, NamesSpent}
use Rattle.ac_base.specs.FirstReason.{first_reason}
use Rattle.ac_base.specs.Limits.{is_past, numbers_end}
use Rattle.ac_base.specs.Rows.{Row, row}
use Rattle.ac_model.proofs.Lengths.{length-fresh}
use Rattle.ac_model.proofs.Plains.{fresh-append}
use Rattle.ac_model.specs.Letters.{reason_if, room_in}
use Rattle.ac_model.specs.Objects.{Object, capacity_after, first_capacity, grown}
use Rattle.ac_model.specs.Rows.{fresh, put}
use Rattle.ac_model.specs.Sequences.{append_call}
use Rattle.ac_calls.specs.Holdings.{limit_by}
use Rattle.ac_snapshot.specs.Filled.{given_or}
use Rattle.ac_snapshot.specs.RowValidity.{is_given}
use Rattle.ac_snapshot.specs.Validity.{is_step}

-- the object with so many values, under names from 1 on
abbrev pub holding : {V : Type 0} → ℕ → Limit → Option ℕ → ℕ → List V → Object ℕ V
holding number limit capacity count vs = record {
  number = number;
  limit = limit;
  capacity = capacity;
  next = 1 + count;
  rows = fresh 1 vs;
  cursor_guards = 0;
  element_guards = 0;
}

-- there is room for one behind so many
pub record HasRoomBehind (limit : Limit) (capacity : Option ℕ) (count : ℕ) : Type 0 where
  pub few : count + 1 ≤ GREATEST_LENGTH
  pub within : is_past limit (count + 1) ≡ false
  pub stays : capacity_after limit capacity (count + 1) ≡ capacity

-- Whether there is

pub past_less : (limit : Limit) (m n : ℕ) → m ≤ n → is_past limit n ≡ false → is_past limit m ≡ false
past_less Unbounded m n le h = refl
past_less (Bounded most) m n le h = le-ltb most m (omega (arith, ltb-false most n h))

-- an unbounded object's Capacity is no less than its length, and a bounded one's stays
capacity_stays : (bounded has : Bool) (test : ℕ → Bool) (limit capacity : Option ℕ) (n all : ℕ) → is_given bounded test limit ≡ true →
    is_given (not bounded && has) (λ c. is_step c && nat_le all c) capacity ≡ true → n ≤ all →
    let own = given_or capacity (first_capacity has (limit_by limit)) in capacity_after (limit_by limit) own n ≡ own
capacity_stays bounded has test (Some most) capacity n all h k le = refl
capacity_stays true has test None capacity n all h k le = absurd (false≢true h)
capacity_stays false false test None None n all h k le = refl
capacity_stays false false test None (Some c) n all h k le = absurd (false≢true k)
capacity_stays false true test None None n all h k le = absurd (false≢true k)
capacity_stays false true test None (Some c) n all h k le =
    let enough = leb-true all c (and_parts (is_step c) (nat_le all c) k).1 in
    ap Some (cond-true _ _ _ (le-leb n c (omega (arith, enough))))

pub has_room_behind : (bounded has : Bool) (test : ℕ → Bool) (limit capacity : Option ℕ) (n all : ℕ) → is_given bounded test limit ≡ true →
    is_given (not bounded && has) (λ c. is_step c && nat_le all c) capacity ≡ true → n + 1 ≤ all → nat_le all GREATEST_LENGTH ≡ true →
    not (is_past (limit_by limit) all) ≡ true → HasRoomBehind (limit_by limit) (given_or capacity (first_capacity has (limit_by limit))) n
has_room_behind bounded has test limit capacity n all h k le few within = record {
  few = omega (arith, le, leb-true all GREATEST_LENGTH few);
  within = past_less (limit_by limit) (n + 1) all le (not-true (is_past (limit_by limit) all) within);
  stays = capacity_stays bounded has test limit capacity (n + 1) all h k le;
}

-- What is then left

put_behind : {V : Type 0} (rows more : List (Row ℕ V)) → put rows (length rows) more ≡ rows ++ more
put_behind rows more = (λ i. (take-length rows i ++ more) ++ drop-length rows i) ∙ append-nil (rows ++ more)

module _ {V : Type 0} (number : ℕ) (limit : Limit) (own : Option ℕ) (n : ℕ) (vs : List V) (v : V) (counts : length vs ≡ n) (room : HasRoomBehind limit own n) where
  -- no reason is found for want of room
  pub not_full : first_reason (room_in limit (1 + n) (length (fresh 1 vs) + 1) 1) ≡ None
  not_full =
      let count : length (fresh 1 vs) + 1 ≡ n + 1 = ap (λ k. k + 1) (length-fresh 1 vs ∙ counts) in
      let short : nat_lt GREATEST_LENGTH (length (fresh 1 vs) + 1) ≡ false = ap (nat_lt GREATEST_LENGTH) count ∙ le-ltb GREATEST_LENGTH (n + 1) room.few in
      let within : is_past limit (length (fresh 1 vs) + 1) ≡ false = ap (is_past limit) count ∙ room.within in
      let left : nat_lt numbers_end ((1 + n) + 1) ≡ false = le-ltb numbers_end ((1 + n) + 1) (omega (arith, room.few)) in
      λ i. first_reason (reason_if (short i) LengthRange ∷ reason_if (within i) CapacityFull ∷ reason_if (left i) NamesSpent ∷ [])

  pub row_behind : put (fresh 1 vs) (length (fresh 1 vs)) (row (1 + n) v ∷ []) ≡ fresh 1 (vs ++ v ∷ [])
  row_behind =
      put_behind (fresh 1 vs) (row (1 + n) v ∷ []) ∙ ap (λ k. fresh 1 vs ++ (row (1 + k) v ∷ [])) (sym counts) ∙ sym (fresh-append 1 vs v)

  pub grown_is : (rows : List (Row ℕ V)) → rows ≡ fresh 1 (vs ++ v ∷ []) → grown (holding number limit own n vs) rows 1 ≡ holding number limit own (n + 1) (vs ++ v ∷ [])
  grown_is rows is =
      let count : length rows ≡ n + 1 = ap length is ∙ length-fresh 1 (vs ++ v ∷ []) ∙ length_push vs v ∙ ap (λ k. k + 1) counts in
      let same : capacity_after limit own (length rows) ≡ own = ap (capacity_after limit own) count ∙ room.stays in
      let next : (1 + n) + 1 ≡ 1 + (n + 1) = omega arith in
      λ i. record { number = number; limit = limit; capacity = same i; next = next i; rows = is i; cursor_guards = 0; element_guards = 0 }

  -- of a list or a vector
  pub appended : ((append_call (holding number limit own n vs) v (pos 1)).reason ≡ None) × ((append_call (holding number limit own n vs) v (pos 1)).after ≡ holding number limit own (n + 1) (vs ++ v ∷ []))
  appended = (not_full, grown_is (put (fresh 1 vs) (length (fresh 1 vs)) (row (1 + n) v ∷ [])) row_behind)
