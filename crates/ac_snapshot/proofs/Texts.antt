-- What is read as a string is one.
use Rattle.std.proofs.Common.{◌≡◌, ◌+◌, ◌<◌, ℕ, zero, suc, Bool, true, false, List, [], ◌∷◌, length, refl, ap, subst, ◌∙◌, arith, nat_le, Option, Some, None, codes, if◌then◌else◌}
use Rattle.std.specs.List.{prefix_len, list_all}
use Rattle.std.proofs.lemmas.Bool.{and_from, and_parts, cond-true, leb-true, le-leb, le-ltb}
use Rattle.ac_base.specs.Text.{is_printable, first_bad_place}
use Rattle.ac_snapshot.specs.RowValidity.{is_text}
use Rattle.ac_snapshot.specs.Outcomes.{got, stuck, gives, either}
use Rattle.ac_snapshot.specs.ValueReaders.{after, plain_byte, string_byte, before_more, string_by}
use Rattle.ac_snapshot.proofs.ValueLaws.{step_found, fork_found}

abbrev IsPlain : Option ℕ → Type 0
IsPlain None = Unit {0}
IsPlain (Some b) = is_printable b ≡ true

plain_in : (t : List ℕ) (o : Option ℕ) (rest : List ℕ) → plain_byte t ≡ got o rest → IsPlain o
plain_in [] o rest e = absurd (cc e)
plain_in (b ∷ bytes) o rest e = by_test (is_printable b) refl e
  where
    by_test : (plain : Bool) → is_printable b ≡ plain → (if plain then got (Some b) bytes else stuck) ≡ got o rest → IsPlain o
    by_test false is e = absurd (cc e)
    by_test true is e = let own : Some b ≡ o = cc e in subst IsPlain own is

byte_in : (t : List ℕ) (o : Option ℕ) (rest : List ℕ) → string_byte t ≡ got o rest → IsPlain o
byte_in t o rest e =
    fork_found (IsPlain o) (after (codes "\"\"") t) (λ _. gives (Some 34)) (λ t. either (after (codes "\"") t) (λ _. gives None) plain_byte t) t o rest e
    (λ u r is more. let own : Some 34 ≡ o = cc more in subst IsPlain own refl)
    (λ more.
    fork_found (IsPlain o) (after (codes "\"") t) (λ _. gives None) plain_byte t o rest more
    (λ u r is more_2. let own : None ≡ o = cc more_2 in subst IsPlain own tt)
    (λ more_2. plain_in t o rest more_2))

abbrev IsWithin : ℕ → List ℕ → Type 0
IsWithin n bytes = (length bytes < n) × (list_all is_printable bytes ≡ true)

string_in : (n : ℕ) (t bytes rest : List ℕ) → string_by n t ≡ got bytes rest → IsWithin n bytes
unfolding string_by
string_in zero t bytes rest e = absurd (cc e)
string_in (suc n) t bytes rest e =
    step_found (IsWithin (suc n) bytes) (string_byte t) (before_more (string_by n)) bytes rest e
    (λ o r is more. by_byte (string_in n) o r (byte_in t o r is) more)
  where
    by_byte : ((t bytes rest : List ℕ) → string_by n t ≡ got bytes rest → IsWithin n bytes) → (o : Option ℕ) (r : List ℕ) → IsPlain o
        → before_more (string_by n) o r ≡ got bytes rest → IsWithin (suc n) bytes
    by_byte again None r plain more = let own : [] ≡ bytes = cc more in subst (IsWithin (suc n)) own (omega arith, refl)
    by_byte again (Some b) r plain more =
        step_found (IsWithin (suc n) bytes) (string_by n r) (λ bytes. gives (b ∷ bytes)) bytes rest more
        (λ others r_2 is more_2.
        let own : b ∷ others ≡ bytes = cc more_2 in
        let later = again r others r_2 is in
        subst (IsWithin (suc n)) own (omega (arith, later.0), and_from (is_printable b) (list_all is_printable others) plain later.1))

pub read_text : (t bytes rest : List ℕ) → string_by 1001 t ≡ got bytes rest → is_text bytes ≡ true
read_text t bytes rest e =
    let within = string_in 1001 t bytes rest e in
    and_from (nat_le (length bytes) 1000) (list_all is_printable bytes) (le-leb (length bytes) 1000 (omega (arith, within.0))) within.1

-- no byte of a text is bad

all_good : (bytes : List ℕ) → list_all is_printable bytes ≡ true → prefix_len is_printable bytes ≡ length bytes
all_good [] h = refl
all_good (b ∷ bytes) h =
    let parts = and_parts (is_printable b) (list_all is_printable bytes) h in
    cond-true (is_printable b) (1 + prefix_len is_printable bytes) 0 parts.0 ∙ omega (arith, all_good bytes parts.1)

good_bytes : (bytes : List ℕ) → is_text bytes ≡ true → first_bad_place bytes ≡ None
good_bytes bytes h =
    let good = prefix_len is_printable bytes in
    let whole : good ≡ length bytes = all_good bytes (and_parts (nat_le (length bytes) 1000) (list_all is_printable bytes) h).1 in
    ap (λ (b : Bool). if b then Some (good + 1) else None) (le-ltb good (length bytes) (omega (arith, whole)))

pub not_bad : (bytes : List ℕ) (place : ℕ) → is_text bytes ≡ true → first_bad_place bytes ≡ Some place → ⊥
not_bad bytes place h bad = absurd (cc (good_bytes bytes h, bad))

pub not_long : (bytes : List ℕ) → is_text bytes ≡ true → 1000 < length bytes → ⊥
not_long bytes h long = omega (arith, long, leb-true (length bytes) 1000 (and_parts (nat_le (length bytes) 1000) (list_all is_printable bytes) h).0)
