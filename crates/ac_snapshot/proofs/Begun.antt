-- What is known of a state while it is read.
use Rattle.std.proofs.Common.{◌≡◌, ◌&&◌, ◌||◌, ◌+◌, ◌<◌, ℕ, Bool, true, false, not, List, [], ◌∷◌, ◌++◌, length, refl, sym, ap, ap₂, subst, ◌∙◌, arith, nat_le, length-append, Ok, Err}
use Rattle.std.specs.List.{list_any, sum_by}
use Rattle.std.specs.Str.{bytes_eq}
use Rattle.std.proofs.lemmas.List.Folds.{list_any-append}
use Rattle.std.proofs.lemmas.List.Sums.{sum_by_push}
use Rattle.std.proofs.lemmas.Slice.Eq.{bytes_eq-Decides}
use Rattle.ac_rules.specs.declared.limits.TheConstants.{MOST_ROOM}
use Rattle.ac_calls.specs.Plains.{name_of}
use Rattle.ac_calls.specs.declared.plains.Plain.{Plain}
use Rattle.ac_calls.specs.declared.plains.Plain.TheVariants as plain
use Rattle.ac_snapshot.specs.declared.fault.StateFault.TheVariants.{Refused}
use Rattle.ac_snapshot.specs.Keys.{Numbered, has_text, fits_among}
use Rattle.ac_snapshot.specs.Validity.{is_valid_entry, room_in, is_valid_behind}
use Rattle.ac_snapshot.specs.StateTexts.{entry_text}
use Rattle.ac_snapshot.specs.StateReading.{IsReading}
use Rattle.ac_snapshot.specs.Outcomes.{got, stuck}
use Rattle.ac_snapshot.specs.EntryReaders.{entry, name_in}
use Rattle.ac_snapshot.proofs.LineLaws.{entries_read, name_read}
use Rattle.ac_snapshot.proofs.BehindStates.{has_name, behind_fits, valid_last}
use Rattle.ac_snapshot.proofs.StateLaws.{HasRead, none_read, one_more, all_read, unread, unfit}

pub record Begun (text : List ℕ) (s : List Plain) (names : List Numbered) (room : ℕ) (rest : List ℕ) : Type 0 where
  pub read : HasRead text s rest
  pub named : (own : List ℕ) → has_text names own ≡ has_name s own
  pub roomy : room ≡ sum_by room_in s

bytes_turned : (a b : List ℕ) → bytes_eq a b ≡ bytes_eq b a
bytes_turned a b = by_tests (bytes_eq a b) (bytes_eq b a) refl refl
  where
    by_tests : (x y : Bool) → bytes_eq a b ≡ x → bytes_eq b a ≡ y → bytes_eq a b ≡ bytes_eq b a
    by_tests true true e f = e ∙ sym f
    by_tests false false e f = e ∙ sym f
    by_tests true false e f = absurd (cc (f, (bytes_eq-Decides b a).1 (sym ((bytes_eq-Decides a b).0 e))))
    by_tests false true e f = absurd (cc (e, (bytes_eq-Decides a b).1 (sym ((bytes_eq-Decides b a).0 f))))

or_turned : (a b : Bool) → (b || a) ≡ (a || (b || false))
or_turned true true = refl
or_turned true false = refl
or_turned false true = refl
or_turned false false = refl

name_more : (s : List Plain) (e : Plain) (own : List ℕ) → has_name (s ++ e ∷ []) own ≡ (has_name s own || (bytes_eq (name_of e) own || false))
name_more s e own = list_any-append (λ f. bytes_eq (name_of f) own) s (e ∷ [])

-- what the names and the room tell of an entry in front of the rest
fits_known : (text : List ℕ) (s : List Plain) (names : List Numbered) (room : ℕ) (rest : List ℕ) (e : Plain) (left : List ℕ) → Begun text s names room rest → entry rest ≡ got e left
    → is_valid_behind s e ≡ fits_among names room (name_in rest) e
fits_known text s names room rest e left b found = behind_fits s e b.read.valid ∙ by_test (is_valid_entry e) refl
  where
    by_test : (valid : Bool) → is_valid_entry e ≡ valid
        → (is_valid_entry e && (nat_le (sum_by room_in s + room_in e) MOST_ROOM && not (has_name s (name_of e)))) ≡ fits_among names room (name_in rest) e
    by_test false is =
        ap (λ v. v && (nat_le (sum_by room_in s + room_in e) MOST_ROOM && not (has_name s (name_of e)))) is
        ∙ sym (ap (λ v. v && (nat_le (room + room_in e) MOST_ROOM && not (has_text names (name_in rest)))) is)
    by_test true is =
        let own : has_name s (name_of e) ≡ has_text names (name_in rest) = sym (b.named (name_of e)) ∙ ap (has_text names) (sym (name_read rest e left is found)) in
        ap₂ (λ n h. is_valid_entry e && (nat_le (n + room_in e) MOST_ROOM && not h)) (sym b.roomy) own

pub begun : (text : List ℕ) (names : List Numbered) → names ≡ [] → Begun text [] names 0 text
begun text names none = record { read = none_read text; named = λ own. ap (λ (ks : List _). has_text ks own) none; roomy = refl }

pub begun_more : (text : List ℕ) (s : List Plain) (names : List Numbered) (room : ℕ) (rest : List ℕ) (e : Plain) (left : List ℕ) (all : ℕ) (more : List Numbered) (t : List Plain)
    → Begun text s names room rest → entry rest ≡ got e left → true ≡ fits_among names room (name_in rest) e → all ≡ room + room_in e
    → ((own : List ℕ) → has_text more own ≡ (bytes_eq own (name_in rest) || has_text names own)) → t ≡ s ++ e ∷ [] → Begun text t more all left
begun_more text s names room rest e left all more t b found fits room_is names_are is =
    let valid = valid_last s e (fits_known text s names room rest e left b found ∙ sym fits) in
    let own_name : name_in rest ≡ name_of e = name_read rest e left valid found in
    subst (λ t. Begun text t more all left) (sym is)
    (record {
      read = one_more text s rest e left b.read found (fits_known text s names room rest e left b found ∙ sym fits);
      named = λ own.
          names_are own ∙ ap₂ (λ x y. x || y) (bytes_turned own (name_in rest) ∙ ap (λ n. bytes_eq n own) own_name) (b.named own)
          ∙ or_turned (has_name s own) (bytes_eq (name_of e) own) ∙ sym (name_more s e own);
      roomy = room_is ∙ ap (λ n. n + room_in e) b.roomy ∙ sym (sum_by_push room_in s e);
    })

pub begun_unread : (text : List ℕ) (s : List Plain) (names : List Numbered) (room : ℕ) (rest : List ℕ) (line : ℕ) → Begun text s names room rest → (rest ≡ [] → ⊥)
    → entry rest ≡ stuck → line ≡ length s + 1 → IsReading text (Err (Refused line))
begun_unread text s names room rest line b some found is = subst (λ n. IsReading text (Err (Refused n))) (sym is) (unread text s rest b.read some found)

pub begun_unfit : (text : List ℕ) (s : List Plain) (names : List Numbered) (room : ℕ) (rest : List ℕ) (e : Plain) (left : List ℕ) (line : ℕ)
    → Begun text s names room rest → (rest ≡ [] → ⊥) → entry rest ≡ got e left → false ≡ fits_among names room (name_in rest) e → line ≡ length s + 1 → IsReading text (Err (Refused line))
begun_unfit text s names room rest e left line b some found fits is =
    subst (λ n. IsReading text (Err (Refused n))) (sym is) (unfit text s rest e left b.read some found (fits_known text s names room rest e left b found ∙ sym fits))

pub begun_whole : (text : List ℕ) (s : List Plain) (names : List Numbered) (room : ℕ) (rest : List ℕ) → Begun text s names room rest → rest ≡ [] → IsReading text (Ok s)
begun_whole text s names room rest b none = all_read text s (subst (HasRead text s) none b.read)

pub nothing : (t : List ℕ) → length t ≡ 0 → t ≡ []
nothing [] h = refl
nothing (b ∷ t) h = absurd (omega (arith, h))

some_bytes : (e : Plain) → 0 < length (entry_text e)
some_bytes (plain.Int own z) = omega arith
some_bytes (plain.Str own bytes) = omega arith
some_bytes (plain.Object own def limit capacity peak rows) = omega arith

-- each entry takes bytes
pub shorter : (text : List ℕ) (s : List Plain) (names : List Numbered) (room : ℕ) (rest : List ℕ) (e : Plain) (left : List ℕ)
    → Begun text s names room rest → entry rest ≡ got e left → true ≡ fits_among names room (name_in rest) e → length left < length rest
shorter text s names room rest e left b found fits =
    let valid = valid_last s e (fits_known text s names room rest e left b found ∙ sym fits) in
    omega (arith, ap length (entries_read.0 rest e left valid found), length-append (entry_text e) left, some_bytes e)
