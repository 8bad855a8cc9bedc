-- An entry more behind a valid state.
use Rattle.std.proofs.Common.{◌≡◌, ◌&&◌, ◌||◌, ◌+◌, ℕ, Bool, true, false, not, List, [], ◌∷◌, ◌++◌, map, refl, sym, ap, ◌∙◌, arith, nat_le, append-nil}
use Rattle.std.specs.List.{list_all, list_any, sum_by}
use Rattle.std.specs.Str.{bytes_eq}
use Rattle.std.proofs.lemmas.Bool.{and_from, and_parts, not-true, leb-true, le-leb}
use Rattle.std.proofs.lemmas.List.{map-append}
use Rattle.std.proofs.lemmas.List.Folds.{list_any-append, list_all-append}
use Rattle.std.proofs.lemmas.List.Sums.{sum_by-append}
use Rattle.std.proofs.lemmas.Grind.{flat_map-append}
use Rattle.ac_rules.specs.declared.limits.TheConstants.{MOST_ROOM}
use Rattle.ac_calls.specs.Plains.{name_of}
use Rattle.ac_calls.specs.declared.plains.Plain.{Plain}
use Rattle.ac_snapshot.specs.RowValidity.{all_differ}
use Rattle.ac_snapshot.specs.Validity.{is_valid_entry, names_differ, room_in, has_room, is_valid, is_valid_behind}
use Rattle.ac_snapshot.specs.StateTexts.{entry_text, state_text}
use Rattle.ac_snapshot.proofs.Behind.{behind_in_parts}

-- whether an entry of a state has this name
abbrev pub has_name : List Plain → List ℕ → Bool
has_name s own = list_any (λ f. bytes_eq (name_of f) own) s

pub record StateParts (s : List Plain) : Type 0 where
  pub entries : list_all is_valid_entry s ≡ true
  pub names : names_differ s ≡ true
  pub room : has_room s ≡ true

pub state_parts : (s : List Plain) → is_valid s ≡ true → StateParts s
state_parts s h =
    let one = and_parts (list_all is_valid_entry s) (names_differ s && has_room s) h in
    let two = and_parts (names_differ s) (has_room s) one.1 in
    record { entries = one.0; names = two.0; room = two.1 }

-- what the code tests of an entry more
abbrev pub fits_behind : List Plain → Plain → Bool
fits_behind s e = is_valid_entry e && (nat_le (sum_by room_in s + room_in e) MOST_ROOM && not (has_name s (name_of e)))

fits_tests : (a b c d : Bool) → a ≡ true → (a && (b && (c && d))) ≡ (b && (d && c))
fits_tests true true true true is = refl
fits_tests true true true false is = refl
fits_tests true true false true is = refl
fits_tests true true false false is = refl
fits_tests true false c d is = refl
fits_tests false b c d is = absurd (cc is)

pub behind_fits : (s : List Plain) (e : Plain) → is_valid s ≡ true → is_valid_behind s e ≡ fits_behind s e
behind_fits s e valid =
    behind_in_parts s e
    ∙ fits_tests (is_valid s) (is_valid_entry e) (not (has_name s (name_of e))) (nat_le (sum_by room_in s + room_in e) MOST_ROOM) valid

pub valid_last : (s : List Plain) (e : Plain) → is_valid_behind s e ≡ true → is_valid_entry e ≡ true
valid_last s e h =
    let own = is_valid_entry e in
    let rest = not (has_name s (name_of e)) && nat_le (sum_by room_in s + room_in e) MOST_ROOM in
    (and_parts own rest (and_parts (is_valid s) (own && rest) (sym (behind_in_parts s e) ∙ h)).1).0

pub text_more : (s : List Plain) (e : Plain) → state_text (s ++ e ∷ []) ≡ state_text s ++ entry_text e
text_more s e = flat_map-append entry_text s (e ∷ []) ∙ ap (λ t. state_text s ++ t) (append-nil (entry_text e))

-- a state's front is one

differ_front : {V : Type 0} (alike : V → V → Bool) (vs ws : List V) → all_differ alike (vs ++ ws) ≡ true → all_differ alike vs ≡ true
differ_front alike [] ws h = refl
differ_front alike (v ∷ vs) ws h =
    let parts = and_parts (not (list_any (alike v) (vs ++ ws))) (all_differ alike (vs ++ ws)) h in
    and_from (not (list_any (alike v) vs)) (all_differ alike vs)
    (none (list_any (alike v) vs) (list_any (alike v) ws) (sym (list_any-append (alike v) vs ws) ∙ not-true (list_any (alike v) (vs ++ ws)) parts.0))
    (differ_front alike vs ws parts.1)
  where
    none : (a b : Bool) → (a || b) ≡ false → not a ≡ true
    none true b h = absurd (cc h)
    none false b h = refl

pub front_valid : (s more : List Plain) → is_valid (s ++ more) ≡ true → is_valid s ≡ true
front_valid s more h =
    let parts = state_parts (s ++ more) h in
    and_from (list_all is_valid_entry s) (names_differ s && has_room s)
    (and_parts (list_all is_valid_entry s) (list_all is_valid_entry more) (sym (list_all-append is_valid_entry s more) ∙ parts.entries)).0
    (and_from (names_differ s) (has_room s)
    (differ_front bytes_eq (map name_of s) (map name_of more) (sym (ap (all_differ bytes_eq) (map-append name_of s more)) ∙ parts.names))
    (less_room (sum_by room_in s) (sum_by room_in more) (sym (ap (λ n. nat_le n MOST_ROOM) (sum_by-append room_in s more)) ∙ parts.room)))
  where
    less_room : (a b : ℕ) → nat_le (a + b) MOST_ROOM ≡ true → nat_le a MOST_ROOM ≡ true
    less_room a b h = le-leb a MOST_ROOM (omega (arith, leb-true (a + b) MOST_ROOM h))
