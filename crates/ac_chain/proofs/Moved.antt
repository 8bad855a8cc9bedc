-- What two lists are after elements of one moved into the other.
use Rattle.std.proofs.Common.{◌≡◌, ℕ, ◌+◌, ◌<◌, ◌≤◌, ◌^◌, length, Option, Some, false, refl, ap, ◌∙◌, subst, arith}
use Rattle.std.specs.Option.{option_map}
use Rattle.ac_base.specs.declared.limit.Limit.{Limit}
use Rattle.ac_base.specs.declared.name.Name.{Name}
use Rattle.ac_chain.specs.Rows.{Chained, IsLive, IsSound, value_of, removed, cleared, next_name}
use Rattle.ac_pool.specs.NamedRows.{index_of}
use Rattle.ac_pool.proofs.Cuts.{cut, cut-row, live_has}
use Rattle.ac_base.specs.Rows.{Row}
use Rattle.ac_base.specs.Limits.{is_past}
use Rattle.ac_base.specs.declared.limit.TheConstants.{GREATEST_LENGTH}
use Rattle.ac_model.specs.Lists.{one_value}
use Rattle.ac_chain.specs.Put.{IsPut}
use Rattle.ac_chain.specs.Cut.{IsCut}
use Rattle.ac_chain.proofs.Puts.{put_length}
use Rattle.ac_chain.proofs.Deletes.{cutting_start, cutting_more, cutting_end}

module _ {X : Type 0} where
  -- a chain's list has room for this length, and for so many new names
  pub record Fits (l : Limit) (k : Chained X) (len n : ℕ) : Type 0 where
    pub few : len ≤ GREATEST_LENGTH
    pub within : is_past l len ≡ false
    pub unspent : k.next_serial + n < 2 ^ 64

  pub cleared_fewer : (from then : Chained X) → then ≡ cleared from → length then.rows ≤ length from.rows
  cleared_fewer from then e = let none = ap (λ (d : Chained X). length d.rows) e in omega arith

  pub cleared_slots : (from then : Chained X) → then ≡ cleared from → length then.rows + then.spare ≡ length from.rows + from.spare
  cleared_slots from then e = let none = ap (λ (d : Chained X). length d.rows) e in let spare = ap (λ (d : Chained X). d.spare) e in omega arith

  pub removed_cut : (from then : Chained X) (a : Name) → IsSound from → IsLive from a → then ≡ removed from a → IsSound then → IsCut from (index_of a from.rows) 1 then
  removed_cut from then a sound live e sound1 =
      let start = cutting_start from (Some a) (λ b q. subst (λ n. IsLive from n) (same a b q) live) sound in
      let one = cutting_more from (index_of a from.rows) 0 (Some a) (next_name from a) from then a start refl refl e sound1 in
      cutting_end from (index_of a from.rows) 1 1 (next_name from a) then one (omega arith) (λ n. absurd (n refl))
    where
      same : (a b : Name) → Some a ≡ Some b → a ≡ b
      same a b e = cc

  pub removed_fewer : (from then : Chained X) (a : Name) → IsSound from → IsLive from a → IsSound then → then ≡ removed from a → length then.rows ≤ length from.rows
  removed_fewer from then a sound live sound1 e =
      let slots = (removed_cut from then a sound live e sound1).slots in
      let spare : then.spare ≡ from.spare + 1 = ap (λ (d : Chained X). d.spare) e in
      omega arith

  pub removed_slots : (from then : Chained X) (a : Name) → IsSound from → IsLive from a → IsSound then → then ≡ removed from a → length then.rows + then.spare ≡ length from.rows + from.spare
  removed_slots from then a sound live sound1 e = (removed_cut from then a sound live e sound1).slots

  pub count_one : (from : Chained X) (a : Name) → IsLive from a → length (one_value (value_of from a)) ≡ 1
  count_one from a live = let k = cut a from.rows (live_has a from.rows live) in ap (λ r. length (one_value (option_map (λ (q : Row Name X). q.value) r))) (cut-row a from.rows k)

  pub one_length : (k now from : Chained X) (place : Option Name) (a : Name) → IsLive from a → IsPut k.rows k.next_serial place (one_value (value_of from a)) now → length now.rows ≡ length k.rows + 1
  one_length k now from place a live p = put_length k.rows k.next_serial place (one_value (value_of from a)) now p ∙ ap (λ n. length k.rows + n) (count_one from a live)
