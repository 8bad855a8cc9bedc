-- What makes an entry valid behind others, part by part.
use Rattle.std.proofs.Common.{◌≡◌, ◌+◌, arith, ℕ, Bool, true, false, not, ◌&&◌, ◌||◌, List, [], ◌∷◌, ◌++◌, map, refl, ap, ap₂, ◌∙◌}
use Rattle.std.specs.Prelude.{nat_le}
use Rattle.std.specs.List.{list_all, list_any, sum_by}
use Rattle.std.specs.Str.{bytes_eq}
use Rattle.std.proofs.lemmas.Bool.{false≢true, le-leb, leb-true}
use Rattle.std.proofs.lemmas.List.{map-append}
use Rattle.std.proofs.lemmas.List.Folds.{list_all-append, list_any-append}
use Rattle.std.proofs.lemmas.List.Sums.{sum_by_push}
use Rattle.std.proofs.Math.Bool.{and-true}
use Rattle.ac_rules.specs.declared.limits.TheConstants.{MOST_ROOM}
use Rattle.ac_calls.specs.Plains.{name_of}
use Rattle.ac_snapshot.specs.RowValidity.{all_differ}
use Rattle.ac_snapshot.specs.Validity.{room_in, is_valid_entry, names_differ, has_room}
use Rattle.ac_snapshot.specs.TestLaws.{BehindInParts}

regrouped : (a b c d : Bool) → (not (a || (b || false)) && (c && not d)) ≡ ((not a && c) && not (b || d))
regrouped true b c d = refl
regrouped false true true d = refl
regrouped false true false d = refl
regrouped false false c d = refl

-- one more at the end differs from all where none before it is like it
pub differ_push : {V : Type 0} (alike : V → V → Bool) (vs : List V) (v : V) → all_differ alike (vs ++ v ∷ []) ≡ (all_differ alike vs && not (list_any (λ w. alike w v) vs))
differ_push alike [] v = refl
differ_push alike (w ∷ vs) v =
    ap₂ (λ a b. not a && b) (list_any-append (alike w) vs (v ∷ [])) (differ_push alike vs v)
    ∙ regrouped (list_any (alike w) vs) (alike w v) (all_differ alike vs) (list_any (λ w. alike w v) vs)

any_made : {A B : Type 0} (p : B → Bool) (f : A → B) (items : List A) → list_any p (map f items) ≡ list_any (λ a. p (f a)) items
any_made p f [] = refl
any_made p f (a ∷ items) = ap (λ b. p (f a) || b) (any_made p f items)

-- whether all are valid entries, the new one is, the others' names differ, one is the new one's, there was room, and there is
in_parts : (all own differ named had has : Bool) → (has ≡ true → had ≡ true) →
    ((all && own) && ((differ && not named) && has)) ≡ ((all && (differ && had)) && (own && (not named && has)))
in_parts false own differ named had has h = refl
in_parts true false false named had has h = refl
in_parts true false true named false has h = refl
in_parts true false true named true has h = refl
in_parts true true false named had has h = refl
in_parts true true true true false has h = refl
in_parts true true true true true has h = refl
in_parts true true true false true has h = refl
in_parts true true true false false false h = refl
in_parts true true true false false true h = absurd (false≢true (h refl))

had_room : (n more most : ℕ) → nat_le (n + more) most ≡ true → nat_le n most ≡ true
had_room n more most h = le-leb n most (omega (arith, leb-true (n + more) most h))

pub behind_in_parts : BehindInParts
behind_in_parts before e =
    let names = map name_of before in
    let own = is_valid_entry e in
    let named = list_any (λ f. bytes_eq (name_of f) (name_of e)) before in
    let has = nat_le (sum_by room_in before + room_in e) MOST_ROOM in
    let valid : list_all is_valid_entry (before ++ e ∷ []) ≡ (list_all is_valid_entry before && own) =
    list_all-append is_valid_entry before (e ∷ []) ∙ ap (λ b. list_all is_valid_entry before && b) (and-true own) in
    let differ : names_differ (before ++ e ∷ []) ≡ (names_differ before && not named) =
    ap (all_differ bytes_eq) (map-append name_of before (e ∷ [])) ∙ differ_push bytes_eq names (name_of e)
    ∙ ap (λ b. names_differ before && not b) (any_made (λ n. bytes_eq n (name_of e)) name_of before) in
    let room : has_room (before ++ e ∷ []) ≡ has = ap (λ n. nat_le n MOST_ROOM) (sum_by_push room_in before e) in
    ap₂ (λ a b. a && b) valid (ap₂ (λ a b. a && b) differ room)
    ∙ in_parts (list_all is_valid_entry before) own (names_differ before) named (has_room before) has (had_room (sum_by room_in before) (room_in e) MOST_ROOM)
