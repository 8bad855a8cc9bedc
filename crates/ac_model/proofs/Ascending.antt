-- Strictly ascending rows stay so in each change that a call of an ordered map or set makes.
use Rattle.std.proofs.Common.{◌≡◌, ◌==◌, ◌+◌, ◌≤◌, ℕ, zero, suc, Bool, cond, true, false, not, ◌&&◌, List, [], ◌∷◌, length, drop, refl, sym, subst, arith, Option, Some, zero-add, one-add, if◌then◌else◌}
use Rattle.std.specs.Prelude.{filter}
use Rattle.std.specs.List.{list_all, prefix_len}
use Rattle.std.proofs.Math.Nat.{suc-add}
use Rattle.ac_base.specs.Rows.{Row, row, values}
use Rattle.ac_base.specs.Order.{are_level, IsWeakOrder}
use Rattle.ac_model.specs.Rows.{cut, put, named, with_value}
use Rattle.ac_model.specs.Objects.{times}
use Rattle.std.specs.Cmp.{IsEquivalence, IsPartialEquivalence, equiv}
use Rattle.ac_base.specs.WeakOrders.{level_transitive}
use Rattle.ac_model.specs.Keyed.{ascending, is_strictly_ascending, added}
use Rattle.ac_model.proofs.Counts.{count, count-cons, count-put, count_step, unnamed}

and_left : (a b : Bool) → (a && b) ≡ true → a ≡ true
and_left true b h = refl
and_left false b h = cc

and_right : (a b : Bool) → (a && b) ≡ true → b ≡ true
and_right true b h = h
and_right false b h = cc

both_true : (a b : Bool) → a ≡ true → b ≡ true → (a && b) ≡ true
both_true a b h k = rw h k

asc_tail : {V : Type 0} (less : V → V → Bool) (v : V) (vs : List V) → is_strictly_ascending less (v ∷ vs) ≡ true → is_strictly_ascending less vs ≡ true
asc_tail less v [] h = refl
asc_tail less v (w ∷ vs) h = and_right (less v w) (is_strictly_ascending less (w ∷ vs)) h

asc_cons : {V : Type 0} (less : V → V → Bool) (v : V) (vs : List V) → list_all (less v) vs ≡ true → is_strictly_ascending less vs ≡ true → is_strictly_ascending less (v ∷ vs) ≡ true
asc_cons less v [] h k = refl
asc_cons less v (w ∷ vs) h k = both_true (less v w) (is_strictly_ascending less (w ∷ vs)) (and_left (less v w) (list_all (less v) vs) h) k

all_implied : {X : Type 0} (p q : X → Bool) → ((x : X) → p x ≡ true → q x ≡ true) → (xs : List X) → list_all p xs ≡ true → list_all q xs ≡ true
all_implied p q implied [] h = refl
all_implied p q implied (x ∷ xs) h =
    both_true (q x) (list_all q xs) (implied x (and_left (p x) (list_all p xs) h)) (all_implied p q implied xs (and_right (p x) (list_all p xs) h))

asc_all : {V : Type 0} (less : V → V → Bool) → IsWeakOrder less → (v : V) (vs : List V) → is_strictly_ascending less (v ∷ vs) ≡ true → list_all (less v) vs ≡ true
asc_all less order v [] h = refl
asc_all less order v (w ∷ vs) h =
    let first : less v w ≡ true = and_left (less v w) (is_strictly_ascending less (w ∷ vs)) h in
    let rest = asc_all less order w vs (and_right (less v w) (is_strictly_ascending less (w ∷ vs)) h) in
    both_true (less v w) (list_all (less v) vs) first (all_implied (less w) (less v) (λ x k. order.transitive v w x first k) vs rest)

all_drop : {V : Type 0} (p : V → Bool) (n : ℕ) (rows : List (Row ℕ V)) → list_all p (values rows) ≡ true → list_all p (values (drop n rows)) ≡ true
all_drop p zero rows h = h
all_drop p (suc n) [] h = refl
all_drop p (suc n) (x ∷ rows) h = all_drop p n rows (and_right (p x.value) (list_all p (values rows)) h)

all_cut : {V : Type 0} (p : V → Bool) (rows : List (Row ℕ V)) (place n : ℕ) → list_all p (values rows) ≡ true → list_all p (values (cut rows place n)) ≡ true
all_cut p rows zero n h = rw zero-add (all_drop p n rows h)
all_cut p [] (suc place) n h = rw (suc-add place n)
all_cut p (x ∷ rows) (suc place) n h =
    rw (suc-add place n) (both_true (p x.value) (list_all p (values (cut rows place n))) (and_left (p x.value) (list_all p (values rows)) h) (all_cut p rows place n (and_right (p x.value) (list_all p (values rows)) h)))

asc_drop : {V : Type 0} (less : V → V → Bool) (n : ℕ) (rows : List (Row ℕ V)) → is_strictly_ascending less (values rows) ≡ true → is_strictly_ascending less (values (drop n rows)) ≡ true
asc_drop less zero rows h = h
asc_drop less (suc n) [] h = refl
asc_drop less (suc n) (x ∷ rows) h = asc_drop less n rows (asc_tail less x.value (values rows) h)

pub asc_cut : {V : Type 0} (less : V → V → Bool) → IsWeakOrder less → (rows : List (Row ℕ V)) (place n : ℕ) → is_strictly_ascending less (values rows) ≡ true → is_strictly_ascending less (values (cut rows place n)) ≡ true
asc_cut less order rows zero n h = rw zero-add (asc_drop less n rows h)
asc_cut less order [] (suc place) n h = rw (suc-add place n)
asc_cut less order (x ∷ rows) (suc place) n h =
    rw (suc-add place n) (asc_cons less x.value (values (cut rows place n)) (all_cut (less x.value) rows place n (asc_all less order x.value (values rows) h)) (asc_cut less order rows place n (asc_tail less x.value (values rows) h)))

filter_all_step : {V : Type 0} (p : V → Bool) (x : Row ℕ V) (b : Bool) (some : List (Row ℕ V)) → p x.value ≡ true → list_all p (values some) ≡ true → list_all p (values (cond b (x ∷ some) some)) ≡ true
filter_all_step p x true some h k = both_true (p x.value) (list_all p (values some)) h k
filter_all_step p x false some h k = k

all_filter : {V : Type 0} (p : V → Bool) (test : Row ℕ V → Bool) (rows : List (Row ℕ V)) → list_all p (values rows) ≡ true → list_all p (values (filter test rows)) ≡ true
all_filter p test [] h = refl
all_filter p test (x ∷ rows) h =
    filter_all_step p x (test x) (filter test rows) (and_left (p x.value) (list_all p (values rows)) h) (all_filter p test rows (and_right (p x.value) (list_all p (values rows)) h))

filter_asc_step : {V : Type 0} (less : V → V → Bool) (x : Row ℕ V) (b : Bool) (some : List (Row ℕ V)) → list_all (less x.value) (values some) ≡ true → is_strictly_ascending less (values some) ≡ true → is_strictly_ascending less (values (cond b (x ∷ some) some)) ≡ true
filter_asc_step less x true some h k = asc_cons less x.value (values some) h k
filter_asc_step less x false some h k = k

pub asc_filter : {V : Type 0} (less : V → V → Bool) → IsWeakOrder less → (test : Row ℕ V → Bool) (rows : List (Row ℕ V)) → is_strictly_ascending less (values rows) ≡ true → is_strictly_ascending less (values (filter test rows)) ≡ true
asc_filter less order test [] h = refl
asc_filter less order test (x ∷ rows) h =
    filter_asc_step less x (test x) (filter test rows) (all_filter (less x.value) test rows (asc_all less order x.value (values rows) h)) (asc_filter less order test rows (asc_tail less x.value (values rows) h))

all_put : {V : Type 0} (p : V → Bool) (rows : List (Row ℕ V)) (place : ℕ) (r : Row ℕ V) → list_all p (values rows) ≡ true → p r.value ≡ true → list_all p (values (put rows place (r ∷ []))) ≡ true
all_put p rows zero r h k = both_true (p r.value) (list_all p (values rows)) k h
all_put p [] (suc place) r h k = both_true (p r.value) true k refl
all_put p (x ∷ rows) (suc place) r h k =
    both_true (p x.value) (list_all p (values (put rows place (r ∷ [])))) (and_left (p x.value) (list_all p (values rows)) h) (all_put p rows place r (and_right (p x.value) (list_all p (values rows)) h) k)

-- neither level nor less: greater
greater : {V : Type 0} (less : V → V → Bool) (x v : V) → less x v ≡ false → are_level less x v ≡ false → less v x ≡ true
greater less x v h k = grind arith

count_head : {V : Type 0} (p : V → Bool) (x : Row ℕ V) (rows : List (Row ℕ V)) (b : Bool) → p x.value ≡ b → count p (x ∷ rows) ≡ 0 → (b ≡ false) × (count p rows ≡ 0)
count_head p x rows true e h = let one : ◌≡◌ {A = ℕ} (if p x.value then 1 else 0) 1 = rw e in absurd (omega (arith, one, count-cons p x rows))
count_head p x rows false e h = (refl, omega (arith, count-cons p x rows))

put_case : {V : Type 0} (less : V → V → Bool) → IsWeakOrder less → (x : Row ℕ V) (rows : List (Row ℕ V)) (name : ℕ) (v : V) → is_strictly_ascending less (values (x ∷ rows)) ≡ true → are_level less x.value v ≡ false →
    is_strictly_ascending less (values (put rows (prefix_len (λ w. less w v) (values rows)) (row name v ∷ []))) ≡ true →
    (b : Bool) → less x.value v ≡ b →
    is_strictly_ascending less (values (put (x ∷ rows) (cond b (1 + prefix_len (λ w. less w v) (values rows)) 0) (row name v ∷ []))) ≡ true
put_case less order x rows name v h apart later true e =
    let place = prefix_len (λ w. less w v) (values rows) in
    rw (one-add place) (asc_cons less x.value (values (put rows place (row name v ∷ []))) (all_put (less x.value) rows place (row name v) (asc_all less order x.value (values rows) h) e) later)
put_case less order x rows name v h apart later false e =
    both_true (less v x.value) (is_strictly_ascending less (values (x ∷ rows))) (greater less x.value v e apart) h

pub asc_put : {V : Type 0} (less : V → V → Bool) → IsWeakOrder less → (rows : List (Row ℕ V)) (name : ℕ) (v : V) → is_strictly_ascending less (values rows) ≡ true → count (λ w. are_level less w v) rows ≡ 0 →
    is_strictly_ascending less (values (put rows (prefix_len (λ w. less w v) (values rows)) (row name v ∷ []))) ≡ true
asc_put less order [] name v h none = refl
asc_put less order (x ∷ rows) name v h none =
    let parts = count_head (λ w. are_level less w v) x rows (are_level less x.value v) refl none in
    put_case less order x rows name v h parts.0 (asc_put less order rows name v (asc_tail less x.value (values rows) h) parts.1) (less x.value v) refl

level_sym : {V : Type 0} (less : V → V → Bool) (v w : V) → are_level less v w ≡ true → are_level less w v ≡ true
level_sym less v w h = grind arith

both_not : (a b : Bool) → a ≡ false → b ≡ false → (not a && not b) ≡ true
both_not a b h k = rw (h, k)

and_swapped : (a b : Bool) → (a && b) ≡ (b && a)
and_swapped true true = refl
and_swapped true false = refl
and_swapped false true = refl
and_swapped false false = refl

pub level_equal : {V : Type 0} (less : V → V → Bool) → IsWeakOrder less → IsEquivalence (are_level less)
level_equal less order =
    let partial : IsPartialEquivalence (are_level less) = record {
      symm = λ v w. and_swapped (not (less v w)) (not (less w v));
      trans = λ v w x h k. both_not (less v x) (less x v) (level_transitive order v w x h k)
          (level_transitive order x w v (level_sym less w x k) (level_sym less v w h));
    } in
    equiv partial (λ v. both_not (less v v) (less v v) (order.irreflexive v) (order.irreflexive v))

-- what is less than a value is less than one that is level with it, and so with what a value is less than
less_level : {V : Type 0} (less : V → V → Bool) → IsWeakOrder less → (a r v : V) → less a r ≡ true → are_level less r v ≡ true → (b c : Bool) → less a v ≡ b → less v a ≡ c → less a v ≡ true
less_level less order a r v h k true c e f = e
less_level less order a r v h k false true e f = let before : less v r ≡ true = order.transitive v a r f h in grind arith
less_level less order a r v h k false false e f =
    let level_too : are_level less a v ≡ true = both_not (less a v) (less v a) e f in
    let not_less : less a r ≡ false = level_transitive order a v r level_too (level_sym less r v k) in cc

level_less : {V : Type 0} (less : V → V → Bool) → IsWeakOrder less → (r v y : V) → less r y ≡ true → are_level less r v ≡ true → (b c : Bool) → less v y ≡ b → less y v ≡ c → less v y ≡ true
level_less less order r v y h k true c e f = e
level_less less order r v y h k false true e f = let before : less r v ≡ true = order.transitive r y v h f in grind arith
level_less less order r v y h k false false e f =
    let level_too : are_level less v y ≡ true = both_not (less v y) (less y v) e f in
    let not_less : less r y ≡ false = level_transitive order r v y k level_too in cc

all_replaced_step : {V : Type 0} (p : V → Bool) (x : Row ℕ V) (rows : List (Row ℕ V)) (name : ℕ) (v : V) (b : Bool) → p x.value ≡ true → p v ≡ true → list_all p (values (with_value rows name v)) ≡ true →
    list_all p (values ((if b then row name v else x) ∷ with_value rows name v)) ≡ true
all_replaced_step p x rows name v true h k rest = both_true (p v) (list_all p (values (with_value rows name v))) k rest
all_replaced_step p x rows name v false h k rest = both_true (p x.value) (list_all p (values (with_value rows name v))) h rest

same_some : {X : Type 0} (x y : X) → Some x ≡ Some y → x ≡ y
same_some x y h = cc

all_named_step : {V : Type 0} (p : V → Bool) (x : Row ℕ V) (rows : List (Row ℕ V)) (r : Row ℕ V) (b : Bool) (later : Option (Row ℕ V)) → p x.value ≡ true → (later ≡ Some r → p r.value ≡ true) → cond b (Some x) later ≡ Some r → p r.value ≡ true
all_named_step p x rows r true later h rest k = subst (λ y. p y.value ≡ true) (same_some x r k) h
all_named_step p x rows r false later h rest k = rest k

all_replaced : {V : Type 0} (p : V → Bool) (rows : List (Row ℕ V)) (name : ℕ) (v : V) → list_all p (values rows) ≡ true → p v ≡ true → list_all p (values (with_value rows name v)) ≡ true
all_replaced p [] name v h k = refl
all_replaced p (x ∷ rows) name v h k =
    all_replaced_step p x rows name v (x.name == name) (and_left (p x.value) (list_all p (values rows)) h) k (all_replaced p rows name v (and_right (p x.value) (list_all p (values rows)) h) k)

all_named : {V : Type 0} (p : V → Bool) (rows : List (Row ℕ V)) (name : ℕ) (r : Row ℕ V) → list_all p (values rows) ≡ true → named rows name ≡ Some r → p r.value ≡ true
all_named p [] name r h there = cc
all_named p (x ∷ rows) name r h there =
    all_named_step p x rows r (x.name == name) (named rows name) (and_left (p x.value) (list_all p (values rows)) h) (all_named p rows name r (and_right (p x.value) (list_all p (values rows)) h)) there

replaced_case : {V : Type 0} (less : V → V → Bool) → IsWeakOrder less → (x : Row ℕ V) (rows : List (Row ℕ V)) (name : ℕ) (v : V) (r : Row ℕ V) → is_strictly_ascending less (values (x ∷ rows)) ≡ true → are_level less r.value v ≡ true →
    (named rows name ≡ Some r → times name rows ≤ 1 → is_strictly_ascending less (values (with_value rows name v)) ≡ true) →
    (b : Bool) → cond b (Some x) (named rows name) ≡ Some r → (if b then 1 else 0) + times name rows ≤ 1 →
    is_strictly_ascending less (values ((if b then row name v else x) ∷ with_value rows name v)) ≡ true
replaced_case less order x rows name v r h like later true there once =
    let is : x ≡ r = same_some x r there in
    let rest : with_value rows name v ≡ rows = unnamed rows name v (omega arith) in
    let level_x : are_level less x.value v ≡ true = subst (λ y. are_level less y.value v ≡ true) (sym is) like in
    rw rest (asc_cons less v (values rows)
    (all_implied (less x.value) (less v) (λ y k. level_less less order x.value v y k level_x (less v y) (less y v) refl refl) (values rows) (asc_all less order x.value (values rows) h))
    (asc_tail less x.value (values rows) h))
replaced_case less order x rows name v r h like later false there once =
    let below = asc_all less order x.value (values rows) h in
    let less_r : less x.value r.value ≡ true = all_named (less x.value) rows name r below there in
    asc_cons less x.value (values (with_value rows name v))
    (all_replaced (less x.value) rows name v below (less_level less order x.value r.value v less_r like (less x.value v) (less v x.value) refl refl))
    (later there (omega arith))

pub asc_replaced : {V : Type 0} (less : V → V → Bool) → IsWeakOrder less → (rows : List (Row ℕ V)) (name : ℕ) (v : V) (r : Row ℕ V) → is_strictly_ascending less (values rows) ≡ true → times name rows ≤ 1 → named rows name ≡ Some r → are_level less r.value v ≡ true →
    is_strictly_ascending less (values (with_value rows name v)) ≡ true
asc_replaced less order [] name v r h once there like = refl
asc_replaced less order (x ∷ rows) name v r h once there like =
    replaced_case less order x rows name v r h like (λ k o. asc_replaced less order rows name v r (asc_tail less x.value (values rows) h) o k like) (x.name == name) there once

-- values of which none is level with a row or with another of them, added in turn
pub asc_added : {V : Type 0} (less : V → V → Bool) → IsWeakOrder less → (vs : List V) (rows : List (Row ℕ V)) (next : ℕ) → is_strictly_ascending less (values rows) ≡ true →
    ((u : V) → count (λ w. are_level less w u) rows + length (filter (λ w. are_level less w u) vs) ≤ 1) → is_strictly_ascending less (values (added (ascending less) rows next vs)) ≡ true
asc_added less order [] rows next h apart = h
asc_added less order (v ∷ vs) rows next h apart =
    let place = prefix_len (λ w. less w v) (values rows) in
    let itself : are_level less v v ≡ true = (level_equal less order).refl v in
    let one : ◌≡◌ {A = ℕ} (if are_level less v v then 1 else 0) 1 = rw itself in
    let none : count (λ w. are_level less w v) rows ≡ 0 = omega (arith, one, apart v, count_step (are_level less v v) v (filter (λ w. are_level less w v) vs)) in
    asc_added less order vs (put rows place (row next v ∷ [])) (next + 1) (asc_put less order rows next v h none)
    (λ u. omega (arith, apart u, count-put (λ w. are_level less w u) rows place (row next v ∷ []), count-cons (λ w. are_level less w u) (row next v) [], count_step (are_level less v u) v (filter (λ w. are_level less w u) vs)))
