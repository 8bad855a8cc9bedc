-- Equality of maps and of sets, as the definitions have it.
use Rattle.std.proofs.Common.{◌≡◌, ◌==◌, ◌&&◌, ◌||◌, ◌+◌, ◌≤◌, ℕ, Bool, true, false, true≢false, List, [], ◌∷◌, Option, Some, None, refl, sym, ap, ◌∙◌, inl, inr, arith, if◌then◌else◌}
use Rattle.std.specs.List.{list_all, list_any}
use Rattle.std.proofs.lemmas.Bool.{cases_Bool}
use Rattle.ac_base.specs.Rows.{Row, values}
use Rattle.ac_model.specs.Keyed.{Order, IsValidKeyed}
use Rattle.ac_model.specs.Maps as maps
use Rattle.ac_model.specs.Maps.{is_equal_element}
use Rattle.ac_model.specs.Objects.{Object, contents, length_of}
use Rattle.ac_model.specs.Rows.{Entry, row_by}
use Rattle.ac_model.specs.Sets as sets
use Rattle.ac_model.proofs.Counts.{count, count-cons}
use Rattle.ac_setwork.specs.Filling.{is_equal_row}
use Rattle.ac_setwork.specs.TableCalls.{equal_call}

all_same : {X : Type 0} (f g : X → Bool) → ((x : X) → f x ≡ g x) → (xs : List X) → list_all f xs ≡ list_all g xs
all_same f g same [] = refl
all_same f g same (x ∷ xs) = λ i. same x i && all_same f g same xs i

is_one : (b : Bool) (m : ℕ) → (if b then 1 else 0) + m ≤ 1 → b ≡ true → m ≡ 0
is_one true m few t = omega (arith, few)
is_one false m few t = absurd (true≢false (sym t))

is_none : (b : Bool) (m : ℕ) → (if b then 1 else 0) + m ≡ 0 → b ≡ false
is_none true m h = absurd (omega (arith, h))
is_none false m h = refl

or_false : (b : Bool) → (b || false) ≡ b
or_false true = refl
or_false false = refl

module _ {V : Type 0} (alike same : V → V → Bool) (v : V) (likes : (w : V) → same v w ≡ true → alike w v ≡ true) where
  unlike : (w : V) → alike w v ≡ false → same v w ≡ false
  unlike w off = elim (cases_Bool (same v w)) [ inl t ↦ absurd (true≢false (sym (likes w t) ∙ off)) | inr f ↦ f ]

  none_same : (rows : List (Row ℕ V)) → count (λ w. alike w v) rows ≡ 0 → list_any (same v) (values rows) ≡ false
  none_same [] none = refl
  none_same (r ∷ rows) none =
      let step = count-cons (λ w. alike w v) r rows in
      let off = is_none (alike r.value v) (count (λ w. alike w v) rows) (sym step ∙ none) in
      ap (λ b. b || list_any (same v) (values rows)) (unlike r.value off) ∙ none_same rows (omega (arith, step, none))

  matched_any : (rows : List (Row ℕ V)) → count (λ w. alike w v) rows ≤ 1 → is_equal_row same v (row_by (λ w. alike w v) rows) ≡ list_any (same v) (values rows)
  matched_any [] few = refl
  matched_any (r ∷ rows) few =
      let step = count-cons (λ w. alike w v) r rows in
      elim (cases_Bool (alike r.value v)) [
        | inl t ↦
            let none = is_one (alike r.value v) (count (λ w. alike w v) rows) (omega (arith, few, step)) t in
            ap (λ b. is_equal_row same v (if b then Some r else row_by (λ w. alike w v) rows)) t ∙ sym (or_false (same v r.value)) ∙ ap (λ b. same v r.value || b) (sym (none_same rows none))
        | inr f ↦
            ap (λ b. is_equal_row same v (if b then Some r else row_by (λ w. alike w v) rows)) f ∙ matched_any rows (omega (arith, few, step)) ∙ ap (λ b. b || list_any (same v) (values rows)) (sym (unlike r.value f))
      ]

-- of sets: what is the same is equivalent
pub sets_equal : {V : Type 0} (order : Order V) (same : V → V → Bool) → ((v w : V) → same v w ≡ true → order.alike w v ≡ true) → (left right : Object ℕ V) → IsValidKeyed order right → equal_call order same left right ≡ sets.equal_call same left right
sets_equal order same likes left right valid =
    ap (λ b. (length_of left == length_of right) && b)
    (all_same (λ v. is_equal_row same v (row_by (λ w. order.alike w v) right.rows)) (λ v. list_any (same v) (contents right)) (λ v. matched_any order.alike same v (likes v) right.rows (valid.keys_differ v)) (contents left))

element_row : {K T : Type 0} (same : T → T → Bool) (e : Entry K T) (r : Option (Row ℕ (Entry K T))) → is_equal_row (λ (e f : Entry K T). same e.element f.element) e r ≡ is_equal_element same e.element r
element_row same e None = refl
element_row same e (Some r) = refl

-- of maps
pub maps_equal : {K T : Type 0} (keys : Order K) (same : T → T → Bool) (left right : Object ℕ (Entry K T)) → equal_call (maps.order_of keys) (λ (e f : Entry K T). same e.element f.element) left right ≡ maps.equal_call keys same left right
maps_equal {K} {T} keys same left right =
    ap (λ b. (length_of left == length_of right) && b)
    (all_same (λ (e : Entry K T). is_equal_row (λ (e f : Entry K T). same e.element f.element) e (row_by (λ (f : Entry K T). keys.alike f.key e.key) right.rows)) (λ (e : Entry K T). is_equal_element same e.element (row_by (maps.has_key keys e.key) right.rows))
    (λ e. element_row same e (row_by (λ (f : Entry K T). keys.alike f.key e.key) right.rows)) (contents left))
