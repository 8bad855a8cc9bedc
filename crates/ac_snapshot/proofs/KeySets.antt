-- What a set of keys tells of those that it was given.
use Rattle.std.proofs.Common.{◌≡◌, ◌==◌, ◌&&◌, ◌||◌, ℕ, ℤ, Bool, true, false, not, List, [], ◌∷◌, refl, sym, ap, ap₂, ◌∙◌}
use Rattle.std.specs.List.{list_any}
use Rattle.std.specs.Str.{bytes_eq}
use Rattle.std.specs.declared.cmp.Ordering.{Ordering}
use Rattle.std.specs.declared.cmp.Ordering.TheVariants.{Less, Equal, Greater}
use Rattle.std.specs.Ordering.{is_eq, eq_by_cmp, match_ordering, ordering_then, int_cmp, int_eq, nat_cmp}
use Rattle.std.specs.Cmp.{unsigned_ties}
use Rattle.std.specs.Cmp.Lexicographic.{slice_cmp, texts_ties}
use Rattle.std.specs.BTreeSet.{insert_key}
use Rattle.std.proofs.lemmas.Bool.{not-true, eq-eqb}
use Rattle.std.proofs.lemmas.Slice.Eq.{bytes_eq-Decides}
use Rattle.ac_snapshot.specs.Keys.{number_of, Numbered, has_text}

and_false : (a : Bool) → (a && false) ≡ false
and_false true = refl
and_false false = refl

swapped : (a b c : Bool) → (a || (b || c)) ≡ (b || (a || c))
swapped true true c = refl
swapped true false c = refl
swapped false b c = refl

-- a test that a new key or one of those before it passes
any_inserted : {K : Type 0} (cmp : K → K → Ordering) (test : K → Bool) (key : K) (keys : List K) → list_any (eq_by_cmp cmp key) keys ≡ false
    → list_any test (insert_key cmp keys key) ≡ (test key || list_any test keys)
any_inserted cmp test key [] none = refl
any_inserted cmp test key (k ∷ keys) none = by_order (cmp key k) (any_inserted cmp test key keys) none
  where
    by_order : (order : Ordering) → (list_any (eq_by_cmp cmp key) keys ≡ false → list_any test (insert_key cmp keys key) ≡ (test key || list_any test keys))
        → (is_eq order || list_any (eq_by_cmp cmp key) keys) ≡ false
        → list_any test (match_ordering order (key ∷ k ∷ keys) (k ∷ keys) (k ∷ insert_key cmp keys key)) ≡ (test key || (test k || list_any test keys))
    by_order Less later none = refl
    by_order Equal later none = absurd (cc none)
    by_order Greater later none = ap (λ b. test k || b) (later none) ∙ swapped (test k) (test key) (list_any test keys)

added : {K : Type 0} (cmp : K → K → Ordering) (key : K) (keys more : List K) (new : Bool) → new ≡ not (list_any (eq_by_cmp cmp key) keys) → more ≡ insert_key cmp keys key
    → new ≡ true → (test : K → Bool) → list_any test more ≡ (test key || list_any test keys)
added cmp key keys more new tells is fresh test =
    ap (list_any test) is ∙ any_inserted cmp test key keys (not-true (list_any (eq_by_cmp cmp key) keys) (sym tells ∙ fresh))

pub integer_added : (key : ℤ) (keys more : List ℤ) (new : Bool) → new ≡ not (list_any (int_eq key) keys) → more ≡ insert_key int_cmp keys key
    → new ≡ true → (own : ℤ) → list_any (int_eq own) more ≡ (int_eq own key || list_any (int_eq own) keys)
integer_added key keys more new tells is fresh own = added int_cmp key keys more new tells is fresh (int_eq own)

abbrev pub text_cmp : Numbered → Numbered → Ordering
text_cmp x y = ordering_then (nat_cmp x.0 y.0) (slice_cmp nat_cmp x.1.now y.1.now)

both_equal : (a b : Ordering) → is_eq (ordering_then a b) ≡ (is_eq a && is_eq b)
both_equal Less b = refl
both_equal Equal b = refl
both_equal Greater b = refl

-- a key and its number
abbrev IsNumbered : Numbered → Type 0
IsNumbered key = key.0 ≡ number_of key.1.now

same_texts : (key : Numbered) (keys : List Numbered) → IsNumbered key → list_any (eq_by_cmp text_cmp key) keys ≡ has_text keys key.1.now
same_texts key [] is = refl
same_texts key (k ∷ keys) is =
    ap₂ (λ a b. a || b)
    (both_equal (nat_cmp key.0 k.0) (slice_cmp nat_cmp key.1.now k.1.now)
    ∙ ap₂ (λ a b. a && b) (sym (unsigned_ties key.0 k.0) ∙ ap (λ n. n == k.0) is) (sym (texts_ties key.1.now k.1.now)))
    (same_texts key keys is)

-- of two keys the bytes alone tell whether they are the same
bytes_tell : (own : List ℕ) (key : Numbered) → IsNumbered key → ((number_of own == key.0) && bytes_eq own key.1.now) ≡ bytes_eq own key.1.now
bytes_tell own key is = by_test (bytes_eq own key.1.now) refl
  where
    by_test : (same : Bool) → bytes_eq own key.1.now ≡ same → ((number_of own == key.0) && bytes_eq own key.1.now) ≡ bytes_eq own key.1.now
    by_test true e =
        let equal : number_of own ≡ key.0 = ap number_of ((bytes_eq-Decides own key.1.now).0 e) ∙ sym is in
        ap (λ b. b && bytes_eq own key.1.now) (eq-eqb (number_of own) key.0 equal)
    by_test false e = ap (λ b. (number_of own == key.0) && b) e ∙ and_false (number_of own == key.0) ∙ sym e

pub text_new : (key : Numbered) (keys : List Numbered) (new : Bool) → IsNumbered key → new ≡ not (list_any (eq_by_cmp text_cmp key) keys) → new ≡ not (has_text keys key.1.now)
text_new key keys new is tells = tells ∙ ap not (same_texts key keys is)

pub text_added : (key : Numbered) (keys more : List Numbered) (new : Bool) → IsNumbered key → new ≡ not (list_any (eq_by_cmp text_cmp key) keys) → more ≡ insert_key text_cmp keys key
    → new ≡ true → (own : List ℕ) → has_text more own ≡ (bytes_eq own key.1.now || has_text keys own)
text_added key keys more new is tells put fresh own =
    added text_cmp key keys more new tells put fresh (λ k. (number_of own == k.0) && bytes_eq own k.1.now) ∙ ap (λ b. b || has_text keys own) (bytes_tell own key is)
