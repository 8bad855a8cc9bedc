-- A value that comes behind all others of a map or a set in its order, and is equivalent to none of them.
use Rattle.std.proofs.Common.{◌≡◌, ◌+◌, arith, ℕ, Bool, true, false, not, List, [], ◌∷◌, ◌++◌, length, refl, sym, ap, ◌∙◌, inl, inr, Option, None}
use Rattle.std.specs.Prelude.{is_some}
use Rattle.std.specs.List.{list_any, prefix_len}
use Rattle.std.proofs.lemmas.Bool.{and_parts, or_parts, not-true, cond-true, cond-false, cases_Bool}
use Rattle.ac_base.specs.declared.limit.Limit.{Limit}
use Rattle.ac_base.specs.declared.reason.Reason.TheVariants.{KeyPresent}
use Rattle.ac_base.specs.FirstReason.{first_reason}
use Rattle.ac_base.specs.Rows.{row, values}
use Rattle.ac_model.proofs.Lengths.{length-fresh}
use Rattle.ac_model.proofs.RowLaws.{fresh_values}
use Rattle.ac_model.specs.Keyed.{Order, is_strictly_ascending, is_in_order, place_in, row_like, insert_call}
use Rattle.ac_model.specs.Letters.{reason_if, room_for_one}
use Rattle.ac_model.specs.Rows.{fresh, put, row_by}
use Rattle.ac_snapshot.specs.RowValidity.{all_differ, are_keyed_by}
use Rattle.ac_snapshot.proofs.FillingRoom.{holding, HasRoomBehind, not_full, row_behind, grown_is}

abbrev pub IsTransitive : {V : Type 0} → (V → V → Bool) → Type 0
IsTransitive {V} less = (x y z : V) → less x y ≡ true → less y z ≡ true → less x z ≡ true

-- Where values ascend, each is less than all that come later

module _ {V : Type 0} (less : V → V → Bool) (transitive : IsTransitive less) where
  less_than_later : (w : V) (vs : List V) (v : V) (later : List V) → is_strictly_ascending less (w ∷ (vs ++ v ∷ later)) ≡ true → less w v ≡ true
  less_than_later w [] v later h = (and_parts (less w v) (is_strictly_ascending less (v ∷ later)) h).0
  less_than_later w (x ∷ vs) v later h =
      let parts = and_parts (less w x) (is_strictly_ascending less (x ∷ (vs ++ v ∷ later))) h in
      transitive w x v parts.0 (less_than_later x vs v later parts.1)

  ascending_later : (w : V) (vs : List V) → is_strictly_ascending less (w ∷ vs) ≡ true → is_strictly_ascending less vs ≡ true
  ascending_later w [] h = refl
  ascending_later w (x ∷ vs) h = (and_parts (less w x) (is_strictly_ascending less (x ∷ vs)) h).1

  pub all_less : (vs : List V) (v : V) (later : List V) → is_strictly_ascending less (vs ++ v ∷ later) ≡ true → prefix_len (λ w. less w v) vs ≡ length vs
  all_less [] v later h = refl
  all_less (w ∷ vs) v later h =
      let first = less_than_later w vs v later h in
      let rest = all_less vs v later (ascending_later w (vs ++ v ∷ later) h) in
      rw first (omega (arith, rest))

-- None is like one that comes later

module _ {V : Type 0} where
  not_passed : (p : V → Bool) (vs : List V) (v : V) (later : List V) → list_any p (vs ++ v ∷ later) ≡ false → p v ≡ false
  not_passed p [] v later h = (or_parts (p v) (list_any p later) h).0
  not_passed p (w ∷ vs) v later h = not_passed p vs v later (or_parts (p w) (list_any p (vs ++ v ∷ later)) h).1

  none_like : (alike : V → V → Bool) (next : ℕ) (vs : List V) (v : V) (later : List V) → all_differ alike (vs ++ v ∷ later) ≡ true → row_by (λ w. alike w v) (fresh next vs) ≡ None
  none_like alike next [] v later h = refl
  none_like alike next (w ∷ vs) v later h =
      let parts = and_parts (not (list_any (alike w) (vs ++ v ∷ later))) (all_differ alike (vs ++ v ∷ later)) h in
      let apart = not_passed (alike w) vs v later (not-true (list_any (alike w) (vs ++ v ∷ later)) parts.0) in
      cond-false (alike w v) _ _ apart ∙ none_like alike (next + 1) vs v later parts.1

module _ {V : Type 0} (order : Order V) (transitive : IsTransitive order.less) where
  goes_behind : (vs : List V) (v : V) (later : List V) (end : ℕ) → length vs ≡ end → is_in_order order (vs ++ v ∷ later) ≡ true → place_in order end vs v ≡ end
  goes_behind vs v later end counts h = elim (cases_Bool order.ascends) [
    | inl up ↦ cond-true _ _ _ up ∙ all_less order.less transitive vs v later (sym (cond-true _ _ _ up) ∙ h) ∙ counts
    | inr level ↦ cond-false _ _ _ level
  ]

  module _ (number : ℕ) (limit : Limit) (own : Option ℕ) (n : ℕ) (vs : List V) (v : V) (later : List V) (counts : length vs ≡ n) (room : HasRoomBehind limit own n) (keyed : are_keyed_by order (vs ++ v ∷ later) ≡ true) where
    place_behind : place_in order (length (fresh 1 vs)) (values (fresh 1 vs)) v ≡ length (fresh 1 vs)
    place_behind =
        ap (λ ws. place_in order (length (fresh 1 vs)) ws v) (fresh_values 1 vs)
        ∙ goes_behind vs v later (length (fresh 1 vs)) (sym (length-fresh 1 vs)) (and_parts (all_differ order.alike (vs ++ v ∷ later)) (is_in_order order (vs ++ v ∷ later)) keyed).1

    absent : row_like order (holding number limit own n vs) v ≡ None
    absent = none_like order.alike 1 vs v later (and_parts (all_differ order.alike (vs ++ v ∷ later)) (is_in_order order (vs ++ v ∷ later)) keyed).0

    pub inserted : ((insert_call order (holding number limit own n vs) v).reason ≡ None) × ((insert_call order (holding number limit own n vs) v).after ≡ holding number limit own (n + 1) (vs ++ v ∷ []))
    inserted = (
      ap (λ present. first_reason (None ∷ reason_if (is_some present) KeyPresent ∷ room_for_one (holding number limit own n vs))) absent
          ∙ not_full number limit own n vs v counts room,
      grown_is number limit own n vs v counts room (put (fresh 1 vs) (place_in order (length (fresh 1 vs)) (values (fresh 1 vs)) v) (row (1 + n) v ∷ []))
          (ap (λ place. put (fresh 1 vs) place (row (1 + n) v ∷ [])) place_behind ∙ row_behind number limit own n vs v counts room),
    )
