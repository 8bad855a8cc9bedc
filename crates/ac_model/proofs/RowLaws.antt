-- The laws of rows that show what the words mean.
use Rattle.std.proofs.Common.{◌≡◌, ◌==◌, ◌+◌, ◌≤◌, ◌<◌, ℕ, zero, suc, Bool, cond, true, false, ◌||◌, List, [], ◌∷◌, ◌++◌, length, take, drop, refl, ap, subst, ◌∙◌, arith, Option, Some, None, if◌then◌else◌, zero-add, take-append-drop}
use Rattle.std.specs.Prelude.{slice_get, slice_index, filter}
use Rattle.std.specs.List.{list_any}
use Rattle.std.proofs.Math.Nat.{suc-add}
use Rattle.std.proofs.Math.Seq.{drop-append_seam}
use Rattle.ac_base.specs.Rows.{Row, names, values}
use Rattle.ac_base.specs.WeakOrders.{asymmetric, level_transitive}
use Rattle.ac_base.specs.Order.{are_level, IsWeakOrder}
use Rattle.ac_model.specs.Rows.{fresh, cut, put, place_of, named, row_by, sorted, sorted_in, is_ascending, merged, merged_in, HasRowsOf}
use Rattle.ac_model.specs.Sequences.{are_equal}

pub cut_of_put : {V : Type 0} (rows : List (Row ℕ V)) (place : ℕ) (more : List (Row ℕ V)) → place ≤ length rows → cut (put rows place more) place (length more) ≡ rows
cut_of_put rows zero more h = rw zero-add (drop-append_seam more rows)
cut_of_put [] (suc place) more h = absurd (omega arith)
cut_of_put (r ∷ rows) (suc place) more h = rw (suc-add place (length more)) (ap (λ rest. r ∷ rest) (cut_of_put rows place more (omega arith)))

pub put_of_cut : {V : Type 0} (rows : List (Row ℕ V)) (place count : ℕ) → put (cut rows place count) place (take count (drop place rows)) ≡ rows
put_of_cut rows zero count = rw zero-add (take-append-drop count rows)
put_of_cut [] (suc place) zero = rw (suc-add place 0)
put_of_cut [] (suc place) (suc count) = rw (suc-add place (suc count))
put_of_cut (r ∷ rows) (suc place) count = rw (suc-add place count) (ap (λ rest. r ∷ rest) (put_of_cut rows place count))

pub fresh_names : {V : Type 0} (next : ℕ) (vs : List V) (k : ℕ) → k < length vs → slice_index (names (fresh next vs)) k ≡ next + k
fresh_names next [] k h = absurd (omega arith)
fresh_names next (v ∷ vs) zero h = omega arith
fresh_names next (v ∷ vs) (suc k) h = omega (arith, fresh_names (next + 1) vs k (omega arith))

pub fresh_values : {V : Type 0} (next : ℕ) (vs : List V) → values (fresh next vs) ≡ vs
fresh_values next [] = refl
fresh_values next (v ∷ vs) = ap (λ rest. v ∷ rest) (fresh_values (next + 1) vs)

pub at_its_place : {V : Type 0} (rows : List (Row ℕ V)) (name : ℕ) → slice_get rows (place_of rows name) ≡ named rows name
at_its_place [] name = refl
at_its_place (r ∷ rows) name =
    elim (r.name == name) as (λ b. slice_get (r ∷ rows) (if b then 0 else suc (place_of rows name)) ≡ cond b (Some r) (named rows name)) [
      | true ↦ refl
      | false ↦ at_its_place rows name
    ]

found_step : {V : Type 0} (matches : V → Bool) (s : Row ℕ V) (rows : List (Row ℕ V)) (r : Row ℕ V) (b : Bool) → matches s.value ≡ b →
    (row_by matches rows ≡ Some r → matches r.value ≡ true) → cond b (Some s) (row_by matches rows) ≡ Some r → matches r.value ≡ true
found_step matches s rows r true e later h = let is : s ≡ r = cc in subst (λ x. matches x.value ≡ true) is e
found_step matches s rows r false e later h = later h

none_step : {V : Type 0} (b : Bool) (s : Row ℕ V) (later : Option (Row ℕ V)) (any : Bool) → (later ≡ None → any ≡ false) → cond b (Some s) later ≡ None → (b || any) ≡ false
none_step true s later any h k = cc
none_step false s later any h k = h k

counted_after : {V : Type 0} (test : Row ℕ V → Bool) (r : Row ℕ V) (xs ys : List (Row ℕ V)) → length (filter test xs) ≡ length (filter test ys) → length (filter test (r ∷ xs)) ≡ length (filter test (r ∷ ys))
counted_after test r xs ys h = elim (test r) as (λ b. length (cond b (r ∷ filter test xs) (filter test xs)) ≡ length (cond b (r ∷ filter test ys) (filter test ys))) [ true ↦ ap suc h | false ↦ h ]

turned : {V : Type 0} (r s : Row ℕ V) (b c : Bool) (xs : List (Row ℕ V)) →
    length (cond b (r ∷ cond c (s ∷ xs) xs) (cond c (s ∷ xs) xs)) ≡ length (cond c (s ∷ cond b (r ∷ xs) xs) (cond b (r ∷ xs) xs))
turned r s true true xs = refl
turned r s true false xs = refl
turned r s false true xs = refl
turned r s false false xs = refl

counted_turned : {V : Type 0} (test : Row ℕ V → Bool) (r s : Row ℕ V) (xs : List (Row ℕ V)) → length (filter test (r ∷ s ∷ xs)) ≡ length (filter test (s ∷ r ∷ xs))
counted_turned test r s xs = turned r s (test r) (test s) (filter test xs)

counted_within : {V : Type 0} (test : Row ℕ V → Bool) (s : Row ℕ V) (xs ys : List (Row ℕ V)) → length (filter test (s ∷ xs ++ ys)) ≡ length (filter test (xs ++ s ∷ ys))
counted_within test s [] ys = refl
counted_within test s (x ∷ xs) ys = counted_turned test s x (xs ++ ys) ∙ counted_after test x (s ∷ xs ++ ys) (xs ++ s ∷ ys) (counted_within test s xs ys)

pub found_matches : {V : Type 0} (matches : V → Bool) (rows : List (Row ℕ V)) (r : Row ℕ V) → row_by matches rows ≡ Some r → matches r.value ≡ true
found_matches matches [] r h = cc
found_matches matches (s ∷ rows) r h = found_step matches s rows r (matches s.value) refl (found_matches matches rows r) h

pub none_matches : {V : Type 0} (matches : V → Bool) (rows : List (Row ℕ V)) → row_by matches rows ≡ None → list_any matches (values rows) ≡ false
none_matches matches [] h = refl
none_matches matches (s ∷ rows) h =
    none_step (matches s.value) s (row_by matches rows) (list_any matches (values rows)) (none_matches matches rows) h

sorted_in_rows : {V : Type 0} (less : V → V → Bool) (r : Row ℕ V) (rows : List (Row ℕ V)) → HasRowsOf (sorted_in less r rows) (r ∷ rows)
sorted_in_rows less r [] test = refl
sorted_in_rows less r (s ∷ rows) test =
    elim (less s.value r.value) as (λ b. length (filter test (if b then s ∷ sorted_in less r rows else r ∷ s ∷ rows)) ≡ length (filter test (r ∷ s ∷ rows))) [
      | true ↦ counted_after test s (sorted_in less r rows) (r ∷ rows) (sorted_in_rows less r rows test) ∙ counted_turned test s r rows
      | false ↦ refl
    ]

pub sorted_rows : {V : Type 0} (less : V → V → Bool) (rows : List (Row ℕ V)) → HasRowsOf (sorted less rows) rows
sorted_rows less [] test = refl
sorted_rows less (r ∷ rows) test = sorted_in_rows less r (sorted less rows) test ∙ counted_after test r (sorted less rows) rows (sorted_rows less rows test)

merged_in_rows : {V : Type 0} (less : V → V → Bool) (r : Row ℕ V) (rows : List (Row ℕ V)) (rest : List (Row ℕ V) → List (Row ℕ V)) →
    ((others : List (Row ℕ V)) → HasRowsOf (rest others) (rows ++ others)) → (others : List (Row ℕ V)) → HasRowsOf (merged_in less r rest others) (r ∷ rows ++ others)
merged_in_rows less r rows rest h [] test = counted_after test r (rest []) (rows ++ []) (h [] test)
merged_in_rows less r rows rest h (s ∷ others) test =
    elim (less s.value r.value) as (λ b. length (filter test (if b then s ∷ merged_in less r rest others else r ∷ rest (s ∷ others))) ≡ length (filter test (r ∷ rows ++ s ∷ others))) [
      | true ↦ counted_after test s (merged_in less r rest others) (r ∷ rows ++ others) (merged_in_rows less r rows rest h others test) ∙ counted_within test s (r ∷ rows) others
      | false ↦ counted_after test r (rest (s ∷ others)) (rows ++ s ∷ others) (h (s ∷ others) test)
    ]

pub merged_rows : {V : Type 0} (less : V → V → Bool) (rows others : List (Row ℕ V)) → HasRowsOf (merged less rows others) (rows ++ others)
merged_rows less [] others test = refl
merged_rows less (r ∷ rows) others test = merged_in_rows less r rows (merged less rows) (merged_rows less rows) others test

pub merged_with_none : {V : Type 0} (less : V → V → Bool) (rows : List (Row ℕ V)) → merged less rows [] ≡ rows
merged_with_none less [] = refl
merged_with_none less (r ∷ rows) = ap (λ rest. r ∷ rest) (merged_with_none less rows)

pub merged_heads : {V : Type 0} (less : V → V → Bool) (r s : Row ℕ V) (rows others : List (Row ℕ V)) →
    merged less (r ∷ rows) (s ∷ others) ≡ (if less s.value r.value then s ∷ merged less (r ∷ rows) others else r ∷ merged less rows (s ∷ others))
merged_heads less r s rows others = refl

-- a list that is in order after its first element, which the second isn't less than
ascending_on : {V : Type 0} (less : V → V → Bool) (v w : V) (vs : List V) → less w v ≡ false → is_ascending less (w ∷ vs) ≡ true → is_ascending less (v ∷ w ∷ vs) ≡ true
ascending_on less v w vs h k = rw h k

ascending_rest : {V : Type 0} (less : V → V → Bool) (v : V) (vs : List V) → is_ascending less (v ∷ vs) ≡ true → is_ascending less vs ≡ true
ascending_rest less v [] h = refl
ascending_rest less v (w ∷ vs) h = grind arith

ascending_first : {V : Type 0} (less : V → V → Bool) (v w : V) (vs : List V) → is_ascending less (v ∷ w ∷ vs) ≡ true → less w v ≡ false
ascending_first less v w vs h = grind arith

-- r put into a list in order, with an element before it that r isn't less than
put_step : {V : Type 0} (less : V → V → Bool) → IsWeakOrder less → (r s : Row ℕ V) (rows : List (Row ℕ V)) → is_ascending less (values (s ∷ rows)) ≡ true →
    (is_ascending less (values rows) ≡ true → less r.value s.value ≡ false → is_ascending less (s.value ∷ values rows) ≡ true → is_ascending less (s.value ∷ values (sorted_in less r rows)) ≡ true) →
    (b : Bool) → less s.value r.value ≡ b → is_ascending less (values (if b then s ∷ sorted_in less r rows else r ∷ s ∷ rows)) ≡ true
put_step less order r s rows h later true e = later (ascending_rest less s.value (values rows) h) (asymmetric order s.value r.value e) h
put_step less order r s rows h later false e = ascending_on less r.value s.value (values rows) e h

after_step : {V : Type 0} (less : V → V → Bool) (r s : Row ℕ V) (rows : List (Row ℕ V)) (v : V) → less r.value v ≡ false → less s.value v ≡ false →
    (b : Bool) → is_ascending less (values (if b then s ∷ sorted_in less r rows else r ∷ s ∷ rows)) ≡ true →
    is_ascending less (v ∷ values (if b then s ∷ sorted_in less r rows else r ∷ s ∷ rows)) ≡ true
after_step less r s rows v below under true h = ascending_on less v s.value (values (sorted_in less r rows)) under h
after_step less r s rows v below under false h = ascending_on less v r.value (s.value ∷ values rows) below h

sorted_in_ascends : {V : Type 0} (less : V → V → Bool) → IsWeakOrder less → (r : Row ℕ V) (rows : List (Row ℕ V)) → is_ascending less (values rows) ≡ true →
    (v : V) → less r.value v ≡ false → is_ascending less (v ∷ values rows) ≡ true → is_ascending less (v ∷ values (sorted_in less r rows)) ≡ true
sorted_in_ascends less order r [] h v below k = rw below
sorted_in_ascends less order r (s ∷ rows) h v below k =
    after_step less r s rows v below (ascending_first less v s.value (values rows) k) (less s.value r.value)
    (put_step less order r s rows h (λ a b c. sorted_in_ascends less order r rows a s.value b c) (less s.value r.value) refl)

put_in_order : {V : Type 0} (less : V → V → Bool) → IsWeakOrder less → (r : Row ℕ V) (rows : List (Row ℕ V)) → is_ascending less (values rows) ≡ true → is_ascending less (values (sorted_in less r rows)) ≡ true
put_in_order less order r [] h = refl
put_in_order less order r (s ∷ rows) h =
    put_step less order r s rows h (λ a b c. sorted_in_ascends less order r rows a s.value b c) (less s.value r.value) refl

pub sorted_ascends : {V : Type 0} (less : V → V → Bool) → IsWeakOrder less → (rows : List (Row ℕ V)) → is_ascending less (values (sorted less rows)) ≡ true
sorted_ascends less order [] = refl
sorted_ascends less order (r ∷ rows) = put_in_order less order r (sorted less rows) (sorted_ascends less order rows)

level_sym : {V : Type 0} (less : V → V → Bool) (v w : V) → are_level less v w ≡ true → are_level less w v ≡ true
level_sym less v w h = grind arith

-- two rows that both are level with v aren't less than one another
stable_step : {V : Type 0} (less : V → V → Bool) → IsWeakOrder less → (v : V) (r s : Row ℕ V) → less s.value r.value ≡ true → (b c : Bool) → are_level less r.value v ≡ b → are_level less s.value v ≡ c → (xs : List (Row ℕ V)) →
    cond c (s ∷ cond b (r ∷ xs) xs) (cond b (r ∷ xs) xs) ≡ cond b (r ∷ cond c (s ∷ xs) xs) (cond c (s ∷ xs) xs)
stable_step less order v r s e true true h k xs =
    let not_less : less s.value r.value ≡ false = level_transitive order s.value v r.value k (level_sym less r.value v h) in cc
stable_step less order v r s e true false h k xs = refl
stable_step less order v r s e false true h k xs = refl
stable_step less order v r s e false false h k xs = refl

in_case : {V : Type 0} (less : V → V → Bool) → IsWeakOrder less → (v : V) (r s : Row ℕ V) (rows : List (Row ℕ V)) →
    filter (λ x. are_level less x.value v) (sorted_in less r rows) ≡ filter (λ x. are_level less x.value v) (r ∷ rows) →
    (b : Bool) → less s.value r.value ≡ b → filter (λ x. are_level less x.value v) (if b then s ∷ sorted_in less r rows else r ∷ s ∷ rows) ≡ filter (λ x. are_level less x.value v) (r ∷ s ∷ rows)
in_case less order v r s rows h true e =
    ap (λ xs. cond (are_level less s.value v) (s ∷ xs) xs) h
    ∙ stable_step less order v r s e (are_level less r.value v) (are_level less s.value v) refl refl (filter (λ x. are_level less x.value v) rows)
in_case less order v r s rows h false e = refl

sorted_in_stable : {V : Type 0} (less : V → V → Bool) → IsWeakOrder less → (v : V) (r : Row ℕ V) (rows : List (Row ℕ V)) →
    filter (λ x. are_level less x.value v) (sorted_in less r rows) ≡ filter (λ x. are_level less x.value v) (r ∷ rows)
sorted_in_stable less order v r [] = refl
sorted_in_stable less order v r (s ∷ rows) = in_case less order v r s rows (sorted_in_stable less order v r rows) (less s.value r.value) refl

pub sorted_stable : {V : Type 0} (less : V → V → Bool) → IsWeakOrder less → (v : V) (rows : List (Row ℕ V)) →
    filter (λ x. are_level less x.value v) (sorted less rows) ≡ filter (λ x. are_level less x.value v) rows
sorted_stable less order v [] = refl
sorted_stable less order v (r ∷ rows) =
    sorted_in_stable less order v r (sorted less rows) ∙ ap (λ xs. cond (are_level less r.value v) (r ∷ xs) xs) (sorted_stable less order v rows)

-- values are equal to themselves
pub equal_to_itself : {V : Type 0} (same : V → V → Bool) → ((v : V) → same v v ≡ true) → (vs : List V) → are_equal same vs vs ≡ true
equal_to_itself same itself [] = refl
equal_to_itself same itself (v ∷ vs) = rw (itself v) (equal_to_itself same itself vs)
