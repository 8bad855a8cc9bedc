-- No two keys become equivalent in a call of a map or a set.
use Rattle.std.proofs.Common.{◌≡◌, ◌==◌, ◌+◌, ◌≤◌, ℕ, suc, Bool, cond, true, false, not, ◌&&◌, ◌||◌, List, [], ◌∷◌, length, refl, sym, ◌∙◌, arith, inl, inr, Some, None, if◌then◌else◌}
use Rattle.std.specs.Prelude.{filter}
use Rattle.std.specs.List.{list_any}
use Rattle.std.proofs.lemmas.Bool.{cases_lt}
use Rattle.std.proofs.Math.Nat.{suc-add}
use Rattle.ac_base.proofs.Equivalences.{turned, chained}
use Rattle.ac_base.specs.Rows.{Row, row, values}
use Rattle.ac_model.specs.Rows.{cut, place_of, named, with_value, row_by}
use Rattle.ac_model.specs.Objects.{times}
use Rattle.std.specs.Cmp.{IsEquivalence}
use Rattle.ac_model.specs.Keyed.{place_in, Order, added, with_reordered, another_is_like, has}
use Rattle.ac_model.proofs.Counts.{count, count_step, count-cons, count-cut, count-put, count-added, count-filter, count_implied, absent_zero, count-replaced, filter_of_filter}

-- no value is equivalent to two rows' values
abbrev pub Differ : {V : Type 0} → (V → V → Bool) → List (Row ℕ V) → Type 0
Differ {V} alike rows = (v : V) → length (filter (λ r. alike r.value v) rows) ≤ 1

-- a value that has no equivalent among the rows, and one that is equivalent to it, if at all
pub one_more : {V : Type 0} (alike : V → V → Bool) → IsEquivalence alike → (rows : List (Row ℕ V)) (v u : V) → count (λ w. alike w v) rows ≡ 0 → count (λ w. alike w u) rows ≤ 1 →
    (b : Bool) → alike v u ≡ b → count (λ w. alike w u) rows + (if b then 1 else 0) ≤ 1
one_more alike equal rows v u none most true e =
    let turned_back : alike u v ≡ true = turned equal v u e in
    let fewer : count (λ w. alike w u) rows ≤ count (λ w. alike w v) rows = count_implied (λ w. alike w u) (λ w. alike w v) (λ w h. chained equal w u v h turned_back) rows in
    omega arith
one_more alike equal rows v u none most false e = omega arith

-- an insertion where no equivalent is there
pub insert_apart : {V : Type 0} (alike : V → V → Bool) → IsEquivalence alike → (rows : List (Row ℕ V)) (v : V) → Differ alike rows → row_by (λ w. alike w v) rows ≡ None →
    (u : V) → count (λ w. alike w u) rows + length (filter (λ w. alike w u) (v ∷ [])) ≤ 1
insert_apart alike equal rows v differ absent u =
    omega (arith, count_step (alike v u) v [], one_more alike equal rows v u (absent_zero (λ w. alike w v) rows absent) (differ u) (alike v u) refl)

same_class : {V : Type 0} (alike : V → V → Bool) → IsEquivalence alike → (r v u : V) → alike r v ≡ true → (b c : Bool) → alike r u ≡ b → alike v u ≡ c → alike r u ≡ alike v u
same_class alike equal r v u like true true e f = e ∙ sym f
same_class alike equal r v u like false false e f = e ∙ sym f
same_class alike equal r v u like true false e f = let both : alike v u ≡ true = chained equal v r u (turned equal r v like) e in cc
same_class alike equal r v u like false true e f = let both : alike r u ≡ true = chained equal r v u like f in cc

-- a replacement in place
pub differ_replaced : {V : Type 0} (alike : V → V → Bool) → IsEquivalence alike → (rows : List (Row ℕ V)) (name : ℕ) (v : V) (r : Row ℕ V) → Differ alike rows → times name rows ≤ 1 → named rows name ≡ Some r → alike r.value v ≡ true → Differ alike (with_value rows name v)
differ_replaced alike equal rows name v r differ once there like u =
    let same : alike r.value u ≡ alike v u = same_class alike equal r.value v u like (alike r.value u) (alike v u) refl refl in
    omega (arith, differ u, count-replaced (λ w. alike w u) rows name v r there once same)

pub differ_cut : {V : Type 0} (alike : V → V → Bool) (rows : List (Row ℕ V)) (place n : ℕ) → Differ alike rows → Differ alike (cut rows place n)
differ_cut alike rows place n differ u = omega (arith, differ u, count-cut (λ w. alike w u) rows place n)

pub differ_filter : {V : Type 0} (alike : V → V → Bool) (test : Row ℕ V → Bool) (rows : List (Row ℕ V)) → Differ alike rows → Differ alike (filter test rows)
differ_filter alike test rows differ u = omega (arith, differ u, count-filter (λ w. alike w u) test rows)

-- the others of a name have no equivalent of a value, where no other row has
or_parts : (a b : Bool) → (a || b) ≡ false → (a ≡ false) × (b ≡ false)
or_parts true b h = cc
or_parts false b h = (refl, h)

zero_step : {V : Type 0} (p : V → Bool) (x : Row ℕ V) (some : List (Row ℕ V)) → p x.value ≡ false → count p some ≡ 0 → count p (x ∷ some) ≡ 0
zero_step p x some e h = let none : ◌≡◌ {A = ℕ} (if p x.value then 1 else 0) 0 = rw e in omega (arith, none, count-cons p x some)

unnamed_step : {V : Type 0} (order : Order V) (x : Row ℕ V) (rows : List (Row ℕ V)) (name : ℕ) (v : V) (b : Bool) →
    (times name rows ≡ 0 → another_is_like order rows name v ≡ false → count (λ w. order.alike w v) rows ≡ 0) →
    (if b then 1 else 0) + times name rows ≡ 0 → ((not b && order.alike x.value v) || another_is_like order rows name v) ≡ false → count (λ w. order.alike w v) (x ∷ rows) ≡ 0
unnamed_step order x rows name v true later h none = absurd (omega arith)
unnamed_step order x rows name v false later h none =
    let parts = or_parts (order.alike x.value v) (another_is_like order rows name v) none in
    zero_step (λ w. order.alike w v) x rows parts.0 (later (omega arith) parts.1)

unnamed_zero : {V : Type 0} (order : Order V) (rows : List (Row ℕ V)) (name : ℕ) (v : V) → times name rows ≡ 0 → another_is_like order rows name v ≡ false → count (λ w. order.alike w v) rows ≡ 0
unnamed_zero order [] name v h none = refl
unnamed_zero order (x ∷ rows) name v h none = unnamed_step order x rows name v (x.name == name) (unnamed_zero order rows name v) h none

others_step : {V : Type 0} (order : Order V) (x : Row ℕ V) (rows : List (Row ℕ V)) (name : ℕ) (v : V) (b : Bool) →
    (times name rows ≤ 1 → another_is_like order rows name v ≡ false → count (λ w. order.alike w v) (cut rows (place_of rows name) 1) ≡ 0) →
    (if b then 1 else 0) + times name rows ≤ 1 → ((not b && order.alike x.value v) || another_is_like order rows name v) ≡ false →
    count (λ w. order.alike w v) (cut (x ∷ rows) (if b then 0 else suc (place_of rows name)) 1) ≡ 0
others_step order x rows name v true later h none = unnamed_zero order rows name v (omega arith) none
others_step order x rows name v false later h none =
    let parts = or_parts (order.alike x.value v) (another_is_like order rows name v) none in
    rw (suc-add (place_of rows name) 1) (zero_step (λ w. order.alike w v) x (cut rows (place_of rows name) 1) parts.0 (later (omega arith) parts.1))

pub others_zero : {V : Type 0} (order : Order V) (rows : List (Row ℕ V)) (name : ℕ) (v : V) → times name rows ≤ 1 → another_is_like order rows name v ≡ false → count (λ w. order.alike w v) (cut rows (place_of rows name) 1) ≡ 0
others_zero order [] name v once none = refl
others_zero order (x ∷ rows) name v once none = others_step order x rows name v (x.name == name) (others_zero order rows name v) once none

pub differ_reordered : {V : Type 0} (order : Order V) → IsEquivalence order.alike → (rows : List (Row ℕ V)) (name : ℕ) (v : V) → Differ order.alike rows → times name rows ≤ 1 → another_is_like order rows name v ≡ false → Differ order.alike (with_reordered order rows name v)
differ_reordered order equal rows name v differ once none u =
    let place = place_of rows name in
    let others = cut rows place 1 in
    let zero_like = others_zero order rows name v once none in
    let fewer = differ_cut order.alike rows place 1 differ in
    omega (
      arith,
      count-put (λ w. order.alike w u) others (place_in order place (values others) v) (row name v ∷ []),
      count-cons (λ w. order.alike w u) (row name v) [],
      one_more order.alike equal others v u zero_like (fewer u) (order.alike v u) refl,
    )

none_among : {V : Type 0} (p : V → Bool) (rows : List (Row ℕ V)) → list_any p (values rows) ≡ false → count p rows ≡ 0
none_among p [] h = refl
none_among p (x ∷ rows) h = let parts = or_parts (p x.value) (list_any p (values rows)) h in zero_step p x rows parts.0 (none_among p rows parts.1)

additions_step : {V : Type 0} (order : Order V) (v : V) (more : List V) (u : V) → IsEquivalence order.alike → (rows : List (Row ℕ V)) →
    (b : Bool) → has order (values rows) v ≡ b → (c : Bool) → order.alike v u ≡ c →
    (1 ≤ length (filter (λ w. order.alike w u) (filter (λ w. not (has order (values rows) w)) more)) → count (λ w. order.alike w u) rows ≡ 0) →
    1 ≤ length (filter (λ w. order.alike w u) (cond (not b) (v ∷ filter (λ w. not (has order (values rows) w)) more) (filter (λ w. not (has order (values rows) w)) more))) →
    count (λ w. order.alike w u) rows ≡ 0
additions_step order v more u equal rows true e c f later h = later h
additions_step order v more u equal rows false e true f later h =
    let none = none_among (λ w. order.alike w v) rows e in
    let turned_back : order.alike u v ≡ true = turned equal v u f in
    let fewer : count (λ w. order.alike w u) rows ≤ count (λ w. order.alike w v) rows = count_implied (λ w. order.alike w u) (λ w. order.alike w v) (λ w k. chained equal w u v k turned_back) rows in
    omega arith
additions_step order v more u equal rows false e false f later h =
    let rest = filter (λ w. not (has order (values rows) w)) more in
    let skipped : length (cond (order.alike v u) (v ∷ filter (λ w. order.alike w u) rest) (filter (λ w. order.alike w u) rest)) ≡ length (filter (λ w. order.alike w u) rest) = rw f in
    later (rw skipped at h)

-- the source's additions have no equivalent among the target's rows
additions_zero : {V : Type 0} (order : Order V) (more : List V) (u : V) → IsEquivalence order.alike → (rows : List (Row ℕ V)) →
    1 ≤ length (filter (λ w. order.alike w u) (filter (λ v. not (has order (values rows) v)) more)) → count (λ w. order.alike w u) rows ≡ 0
additions_zero order [] u equal rows h = absurd (omega arith)
additions_zero order (v ∷ more) u equal rows h =
    additions_step order v more u equal rows (has order (values rows) v) refl (order.alike v u) refl (additions_zero order more u equal rows) h

-- of the source's additions and some of the target's rows, at most one is equivalent to a value
pub union_apart : {V : Type 0} (order : Order V) → IsEquivalence order.alike → (target some : List (Row ℕ V)) (source : List V) →
    Differ order.alike some → ((u : V) → count (λ w. order.alike w u) some ≤ count (λ w. order.alike w u) target) → ((u : V) → length (filter (λ w. order.alike w u) source) ≤ 1) →
    (u : V) → count (λ w. order.alike w u) some + length (filter (λ w. order.alike w u) (filter (λ v. not (has order (values target) v)) source)) ≤ 1
union_apart order equal target some source differ fewer source_differ u =
    let more = filter (λ v. not (has order (values target) v)) source in
    let most : length (filter (λ w. order.alike w u) more) ≤ length (filter (λ w. order.alike w u) source) = filter_of_filter (λ w. order.alike w u) (λ v. not (has order (values target) v)) source in
    elim (cases_lt 0 (length (filter (λ w. order.alike w u) more))) [
      | inl there ↦ omega (arith, additions_zero order source u equal target there, fewer u, source_differ u)
      | inr absent ↦ omega (arith, differ u)
    ]

pub differ_all_added : {V : Type 0} (order : Order V) (rows : List (Row ℕ V)) (next : ℕ) (vs : List V) → ((u : V) → count (λ w. order.alike w u) rows + length (filter (λ w. order.alike w u) vs) ≤ 1) → Differ order.alike (added order rows next vs)
differ_all_added order rows next vs apart u = omega (arith, count-added (λ w. order.alike w u) order vs rows next, apart u)
