-- How many rows pass a test, after each change of a list of rows.
use Rattle.std.proofs.Common.{◌≡◌, ◌==◌, ◌+◌, ◌≤◌, ℕ, zero, suc, Bool, cond, true, false, ◌||◌, List, [], ◌∷◌, ◌++◌, length, take, drop, refl, ap, sym, subst, arith, Option, Some, None, if◌then◌else◌}
use Rattle.std.specs.Prelude.{filter}
use Rattle.std.specs.List.{list_any}
use Rattle.std.proofs.lemmas.Bool.Decides.{nat_tests}
use Rattle.std.proofs.lemmas.List.{drop-drop}
use Rattle.ac_base.specs.Rows.{Row, row, values}
use Rattle.ac_model.specs.Rows.{fresh, cut, put, named, is_named, with_value, row_by}
use Rattle.ac_model.specs.Objects.{times}
use Rattle.ac_model.specs.Keyed.{place_in, Order, added}

abbrev pub count : {V : Type 0} → (V → Bool) → List (Row ℕ V) → ℕ
count p rows = length (filter (λ r. p r.value) rows)

pub count_step : {X : Type 0} (b : Bool) (x : X) (xs : List X) → length (cond b (x ∷ xs) xs) ≡ (if b then 1 else 0) + length xs
count_step true x xs = omega arith
count_step false x xs = omega arith

pub count-cons : {V : Type 0} (p : V → Bool) (r : Row ℕ V) (rows : List (Row ℕ V)) → count p (r ∷ rows) ≡ (if p r.value then 1 else 0) + count p rows
count-cons p r rows = count_step (p r.value) r (filter (λ x. p x.value) rows)

pub count-append : {V : Type 0} (p : V → Bool) (xs ys : List (Row ℕ V)) → count p (xs ++ ys) ≡ count p xs + count p ys
count-append p [] ys = omega arith
count-append p (x ∷ xs) ys = omega (arith, count-cons p x (xs ++ ys), count-cons p x xs, count-append p xs ys)

pub count-split : {V : Type 0} (p : V → Bool) (n : ℕ) (xs : List (Row ℕ V)) → count p (take n xs) + count p (drop n xs) ≡ count p xs
count-split p zero xs = omega arith
count-split p (suc n) [] = omega arith
count-split p (suc n) (x ∷ xs) = omega (arith, count-cons p x (take n xs), count-cons p x xs, count-split p n xs)

pub count-cut : {V : Type 0} (p : V → Bool) (xs : List (Row ℕ V)) (place n : ℕ) → count p (cut xs place n) ≤ count p xs
count-cut p xs place n =
    let dropped : count p (drop (place + n) xs) ≤ count p (drop place xs) = rw (← drop-drop n place xs) (omega (arith, count-split p n (drop place xs))) in
    omega (arith, count-append p (take place xs) (drop (place + n) xs), count-split p place xs)

pub count-put : {V : Type 0} (p : V → Bool) (xs : List (Row ℕ V)) (place : ℕ) (more : List (Row ℕ V)) → count p (put xs place more) ≡ count p xs + count p more
count-put p xs place more =
    omega (arith, count-append p (take place xs ++ more) (drop place xs), count-append p (take place xs) more, count-split p place xs)

pub count-added : {V : Type 0} (p : V → Bool) (order : Order V) (vs : List V) (rows : List (Row ℕ V)) (next : ℕ) → count p (added order rows next vs) ≡ count p rows + length (filter p vs)
count-added p order [] rows next = omega arith
count-added p order (v ∷ vs) rows next =
    let place = place_in order (length rows) (values rows) v in
    omega (arith, count-added p order vs (put rows place (row next v ∷ [])) (next + 1), count-put p rows place (row next v ∷ []), count-cons p (row next v) [], count_step (p v) v (filter p vs))

filter_case : {V : Type 0} (p : V → Bool) (r : Row ℕ V) (b : Bool) (some rows : List (Row ℕ V)) → count p some ≤ count p rows → count p (cond b (r ∷ some) some) ≤ count p (r ∷ rows)
filter_case p r true some rows h = omega (arith, count-cons p r some, count-cons p r rows)
filter_case p r false some rows h = omega (arith, count-cons p r rows)

pub count-filter : {V : Type 0} (p : V → Bool) (test : Row ℕ V → Bool) (rows : List (Row ℕ V)) → count p (filter test rows) ≤ count p rows
count-filter p test [] = omega arith
count-filter p test (r ∷ rows) = filter_case p r (test r) (filter test rows) rows (count-filter p test rows)

of_filter_case : {X : Type 0} (p : X → Bool) (x : X) (b : Bool) (some xs : List X) → length (filter p some) ≤ length (filter p xs) → length (filter p (cond b (x ∷ some) some)) ≤ length (filter p (x ∷ xs))
of_filter_case p x true some xs h = omega (arith, count_step (p x) x (filter p some), count_step (p x) x (filter p xs))
of_filter_case p x false some xs h = omega (arith, count_step (p x) x (filter p xs))

pub filter_of_filter : {X : Type 0} (p q : X → Bool) (xs : List X) → length (filter p (filter q xs)) ≤ length (filter p xs)
filter_of_filter p q [] = omega arith
filter_of_filter p q (x ∷ xs) = of_filter_case p x (q x) (filter q xs) xs (filter_of_filter p q xs)

implied_step : {V : Type 0} (p q : V → Bool) (r : Row ℕ V) (b : Bool) → p r.value ≡ b → (p r.value ≡ true → q r.value ≡ true) → (rows : List (Row ℕ V)) → count p rows ≤ count q rows → count p (r ∷ rows) ≤ count q (r ∷ rows)
implied_step p q r true e implied rows h =
    let passes = implied e in
    let one : ◌≡◌ {A = ℕ} (if q r.value then 1 else 0) 1 = rw passes in
    let other : ◌≡◌ {A = ℕ} (if p r.value then 1 else 0) 1 = rw e in
    omega (arith, one, other, count-cons p r rows, count-cons q r rows)
implied_step p q r false e implied rows h =
    let other : ◌≡◌ {A = ℕ} (if p r.value then 1 else 0) 0 = rw e in
    omega (arith, other, count-cons p r rows, count-cons q r rows)

-- what passes one test passes another
pub count_implied : {V : Type 0} (p q : V → Bool) → ((v : V) → p v ≡ true → q v ≡ true) → (rows : List (Row ℕ V)) → count p rows ≤ count q rows
count_implied p q implied [] = omega arith
count_implied p q implied (r ∷ rows) = implied_step p q r (p r.value) refl (implied r.value) rows (count_implied p q implied rows)

absent_step : {V : Type 0} (b : Bool) (r : Row ℕ V) (later : Option (Row ℕ V)) (some : List (Row ℕ V)) → (later ≡ None → length some ≡ 0) → cond b (Some r) later ≡ None → length (cond b (r ∷ some) some) ≡ 0
absent_step true r later some h k = cc
absent_step false r later some h k = h k

none_step : {X : Type 0} (b : Bool) (x : X) (later : Bool) (some : List X) → (later ≡ false → length some ≡ 0) → (b || later) ≡ false → length (cond b (x ∷ some) some) ≡ 0
none_step true x later some h k = cc
none_step false x later some h k = h k

-- where no row is found, none passes
pub absent_zero : {V : Type 0} (p : V → Bool) (rows : List (Row ℕ V)) → row_by p rows ≡ None → count p rows ≡ 0
absent_zero p [] h = refl
absent_zero p (r ∷ rows) h = absent_step (p r.value) r (row_by p rows) (filter (λ x. p x.value) rows) (absent_zero p rows) h

pub none_zero : {X : Type 0} (p : X → Bool) (xs : List X) → list_any p xs ≡ false → length (filter p xs) ≡ 0
none_zero p [] h = refl
none_zero p (x ∷ xs) h = none_step (p x) x (list_any p xs) (filter p xs) (none_zero p xs) h

some_same : {X : Type 0} (x y : X) → Some x ≡ Some y → x ≡ y
some_same x y h = cc

itself : {V : Type 0} (x : Row ℕ V) (rows : List (Row ℕ V)) → named (x ∷ rows) x.name ≡ Some x
itself x rows = let same : (x.name == x.name) ≡ true = grind (arith, nat_tests) in rw same

name_case : (b : Bool) (n : ℕ) → 1 ≤ n → (if b then 1 else 0) + n ≤ 1 → b ≡ false
name_case true n h k = absurd (omega arith)
name_case false n h k = refl

absent_name : {V : Type 0} (x : Row ℕ V) (rows : List (Row ℕ V)) (r : Row ℕ V) → 1 ≤ times r.name rows → times r.name (x ∷ rows) ≤ 1 → (x.name == r.name) ≡ false
absent_name x rows r there once = name_case (x.name == r.name) (times r.name rows) there once

named_later : {V : Type 0} (x : Row ℕ V) (rows : List (Row ℕ V)) (r : Row ℕ V) (b : Bool) → b ≡ false → named rows r.name ≡ Some r → cond b (Some x) (named rows r.name) ≡ Some r
named_later x rows r true h k = cc
named_later x rows r false h k = k

once_itself : {V : Type 0} (x : Row ℕ V) (rows : List (Row ℕ V)) → 1 ≤ times x.name (x ∷ rows)
once_itself x rows = let same : (x.name == x.name) ≡ true = grind (arith, nat_tests) in rw same (omega arith)

there_step : {V : Type 0} (x : Row ℕ V) (rows : List (Row ℕ V)) (r : Row ℕ V) (b : Bool) (later : Option (Row ℕ V)) → (later ≡ Some r → 1 ≤ times r.name rows) → cond b (Some x) later ≡ Some r → 1 ≤ times r.name (x ∷ rows)
there_step x rows r true later h k = subst (λ y. 1 ≤ times y.name (x ∷ rows)) (some_same x r k) (once_itself x rows)
there_step x rows r false later h k = omega (arith, h k)

pub found_there : {V : Type 0} (p : V → Bool) (rows : List (Row ℕ V)) (r : Row ℕ V) → row_by p rows ≡ Some r → 1 ≤ times r.name rows
found_there p [] r h = cc
found_there p (x ∷ rows) r h = there_step x rows r (p x.value) (row_by p rows) (found_there p rows r) h

is_named_step : {V : Type 0} (p : V → Bool) (x : Row ℕ V) (rows : List (Row ℕ V)) (r : Row ℕ V) (b : Bool) →
    (row_by p rows ≡ Some r → times r.name rows ≤ 1 → named rows r.name ≡ Some r) → cond b (Some x) (row_by p rows) ≡ Some r → times r.name (x ∷ rows) ≤ 1 → named (x ∷ rows) r.name ≡ Some r
is_named_step p x rows r true later h once =
    subst (λ y. named (x ∷ rows) y.name ≡ Some y) (some_same x r h) (itself x rows)
is_named_step p x rows r false later h once =
    let there = found_there p rows r h in
    named_later x rows r (x.name == r.name) (absent_name x rows r there once) (later h (omega arith))

-- the row that is found is the one that its name names
pub found_is_named : {V : Type 0} (p : V → Bool) (rows : List (Row ℕ V)) (r : Row ℕ V) → row_by p rows ≡ Some r → times r.name rows ≤ 1 → named rows r.name ≡ Some r
found_is_named p [] r h once = cc
found_is_named p (x ∷ rows) r h once = is_named_step p x rows r (p x.value) (found_is_named p rows r) h once

unnamed_step : {V : Type 0} (x : Row ℕ V) (rows : List (Row ℕ V)) (name : ℕ) (v : V) (b : Bool) → (times name rows ≡ 0 → with_value rows name v ≡ rows) → (if b then 1 else 0) + times name rows ≡ 0 →
    (if b then row name v else x) ∷ with_value rows name v ≡ x ∷ rows
unnamed_step x rows name v true later h = absurd (omega arith)
unnamed_step x rows name v false later h = ap (λ rest. x ∷ rest) (later (omega arith))

pub unnamed : {V : Type 0} (rows : List (Row ℕ V)) (name : ℕ) (v : V) → times name rows ≡ 0 → with_value rows name v ≡ rows
unnamed [] name v h = refl
unnamed (x ∷ rows) name v h = unnamed_step x rows name v (x.name == name) (unnamed rows name v) h

replaced_step : {V : Type 0} (p : V → Bool) (x : Row ℕ V) (rows : List (Row ℕ V)) (name : ℕ) (v : V) (r : Row ℕ V) (b : Bool) →
    (named rows name ≡ Some r → times name rows ≤ 1 → p r.value ≡ p v → count p (with_value rows name v) ≡ count p rows) →
    cond b (Some x) (named rows name) ≡ Some r → (if b then 1 else 0) + times name rows ≤ 1 → p r.value ≡ p v →
    count p ((if b then row name v else x) ∷ with_value rows name v) ≡ count p (x ∷ rows)
replaced_step p x rows name v r true later h once same =
    let is : x ≡ r = some_same x r h in
    let value : p x.value ≡ p v = subst (λ y. p y.value ≡ p v) (sym is) same in
    let rest : with_value rows name v ≡ rows = unnamed rows name v (omega arith) in
    let weight : ◌≡◌ {A = ℕ} (if p x.value then 1 else 0) (if p v then 1 else 0) = rw value in
    rw rest (omega (arith, weight, count-cons p (row name v) rows, count-cons p x rows))
replaced_step p x rows name v r false later h once same =
    omega (arith, later h (omega arith) same, count-cons p x (with_value rows name v), count-cons p x rows)

-- one row of a name, with another value
pub count-replaced : {V : Type 0} (p : V → Bool) (rows : List (Row ℕ V)) (name : ℕ) (v : V) (r : Row ℕ V) → named rows name ≡ Some r → times name rows ≤ 1 → p r.value ≡ p v → count p (with_value rows name v) ≡ count p rows
count-replaced p [] name v r h once same = cc
count-replaced p (x ∷ rows) name v r h once same = replaced_step p x rows name v r (x.name == name) (count-replaced p rows name v r) h once same

or_true : (b : Bool) → (b || true) ≡ true
or_true true = refl
or_true false = refl

names_itself : {V : Type 0} (x : Row ℕ V) (rows : List (Row ℕ V)) → is_named (x ∷ rows) x.name ≡ true
names_itself x rows = let same : (x.name == x.name) ≡ true = grind (arith, nat_tests) in rw same

name_step : {V : Type 0} (x : Row ℕ V) (rows : List (Row ℕ V)) (r : Row ℕ V) (b : Bool) (later : Option (Row ℕ V)) → (later ≡ Some r → is_named rows r.name ≡ true) → cond b (Some x) later ≡ Some r → is_named (x ∷ rows) r.name ≡ true
name_step x rows r true later h k = subst (λ y. is_named (x ∷ rows) y.name ≡ true) (some_same x r k) (names_itself x rows)
name_step x rows r false later h k = rw (h k) (or_true (x.name == r.name))

pub found_name : {V : Type 0} (p : V → Bool) (rows : List (Row ℕ V)) (r : Row ℕ V) → row_by p rows ≡ Some r → is_named rows r.name ≡ true
found_name p [] r h = cc
found_name p (x ∷ rows) r h = name_step x rows r (p x.value) (row_by p rows) (found_name p rows r) h

pub count_values : {V : Type 0} (p : V → Bool) (rows : List (Row ℕ V)) → length (filter p (values rows)) ≡ count p rows
count_values p [] = refl
count_values p (x ∷ rows) = omega (arith, count_step (p x.value) x.value (filter p (values rows)), count-cons p x rows, count_values p rows)

pub count-fresh : {V : Type 0} (p : V → Bool) (vs : List V) (next : ℕ) → count p (fresh next vs) ≡ length (filter p vs)
count-fresh p [] next = refl
count-fresh p (v ∷ vs) next = omega (arith, count-cons p (row next v) (fresh (next + 1) vs), count_step (p v) v (filter p vs), count-fresh p vs (next + 1))
