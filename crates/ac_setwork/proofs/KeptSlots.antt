-- Names that keep their slots, through one change and through two.
use Rattle.std.proofs.Common.{◌≡◌, ◌==◌, ◌||◌, ◌<◌, ◌≤◌, ℕ, suc, true, false, List, [], ◌∷◌, length, IsTrue, refl, sym, ap, ◌∙◌, subst, inl, inr, arith, eq-eqb, if◌then◌else◌}
use Rattle.std.specs.Prelude.{All}
use Rattle.std.proofs.lemmas.Bool.{cases_Bool, cases_lt}
use Rattle.ac_base.specs.declared.name.Name.{Name}
use Rattle.ac_base.specs.Rows.{Row, names, row}
use Rattle.ac_model.specs.Calls.{KeepsSlots}
use Rattle.ac_model.specs.Letters.{is_among, is_same_name}
use Rattle.ac_model.specs.Objects.{IsValid, Object, plain, plain_row, plains, times}
use Rattle.ac_model.proofs.Moves.{times-named}
use Rattle.ac_setwork.proofs.Found.{is_same, named_among, or_true, same_is}
use Rattle.ac_setwork.proofs.Tables.{all_from}

pub all_at : (P : Name → Type 0) (rest : List Name) → All P rest → (a : Name) → is_among rest a ≡ true → P a
all_at P [] all a h = absurd (let k : false ≡ true = h in cc)
all_at P (b ∷ rest) all a h = elim (cases_Bool (is_same_name a b)) [
  | inl t ↦ subst P (sym (same_is a b t)) (all 0 a (omega arith))
  | inr f ↦ all_at P rest (λ i d lt. all (suc i) d (omega arith)) a (subst (λ t. (t || is_among rest a) ≡ true) f h)
]

module _ {V : Type 0} where
  pub keeps_itself : (o : Object Name V) → KeepsSlots o o
  keeps_itself o = all_from (λ a. a.serial < o.next → IsTrue (is_among (names o.rows) a)) (names o.rows) (λ a t _. t)

  pub keeps_both : (old now new : Object Name V) → old.next ≤ now.next → KeepsSlots old now → KeepsSlots now new → KeepsSlots old new
  keeps_both old now new risen first second =
      all_from (λ a. a.serial < old.next → IsTrue (is_among (names old.rows) a)) (names new.rows) (λ a t lt.
      let there : is_among (names now.rows) a ≡ true = all_at (λ b. b.serial < now.next → IsTrue (is_among (names now.rows) b)) (names new.rows) second a t (omega (arith, lt, risen)) in
      all_at (λ b. b.serial < old.next → IsTrue (is_among (names old.rows) b)) (names now.rows) first a there lt)

  -- of names with different serials, one that is among them is told by its serial
  pub by_serial : (rows : List (Row Name V)) → ((n : ℕ) → times n (plains rows) ≤ 1) → (a b : Name) → is_among (names rows) a ≡ true → is_among (names rows) b ≡ true → a.serial ≡ b.serial → a ≡ b
  by_serial [] differ a b h k e = absurd (let f : false ≡ true = h in cc)
  by_serial (r ∷ rows) differ a b h k e =
      let n = r.name.serial in
      let own : ◌≡◌ {A = ℕ} (if n == n then 1 else 0) 1 = ap (λ c. if c then 1 else 0) (eq-eqb n n refl) in
      let alone : (c : Name) → is_among (names rows) c ≡ true → c.serial ≡ n → a ≡ b =
      λ c t same. absurd (let few = differ n in let more = times-named c.serial (plains rows) (named_among c rows t) in let is = ap (λ m. times m (plains rows)) same in omega (arith, own, few, more, is)) in
      elim (cases_Bool (is_same_name a r.name)) [
        | inl t ↦ let first = same_is a r.name t in elim (cases_Bool (is_same_name b r.name)) [
          | inl u ↦ first ∙ sym (same_is b r.name u)
          | inr f ↦ alone b (subst (λ c. (c || is_among (names rows) b) ≡ true) f k) (sym e ∙ ap (λ (m : Name). m.serial) first)
        ]
        | inr f ↦ let there = subst (λ c. (c || is_among (names rows) a) ≡ true) f h in elim (cases_Bool (is_same_name b r.name)) [
          | inl u ↦ alone a there (e ∙ ap (λ (m : Name). m.serial) (same_is b r.name u))
          | inr g ↦ by_serial rows (λ m. let few = differ m in omega (arith, few)) a b there (subst (λ c. (c || is_among (names rows) b) ≡ true) g k) e
        ]
      ]

  one_row : (x y : Row Name V) → x.name ≡ y.name → x.value ≡ y.value → x ≡ y
  one_row x y name value = λ i. row (name i) (value i)

  -- rows that are the same without slots, and have names of these
  pub same_with_slots : (old : List Name) (next : ℕ) → ((a b : Name) → is_among old a ≡ true → is_among old b ≡ true → a.serial ≡ b.serial → a ≡ b) → ((a : Name) → is_among old a ≡ true → a.serial < next)
      → (xs ys : List (Row Name V)) → All (λ a. a.serial < next → IsTrue (is_among old a)) (names xs) → ((a : Name) → is_among (names ys) a ≡ true → is_among old a ≡ true) → plains xs ≡ plains ys → xs ≡ ys
  same_with_slots old next unique below [] [] h k e = refl
  same_with_slots old next unique below [] (y ∷ ys) h k e = absurd (let n = ap length e in omega (arith, n))
  same_with_slots old next unique below (x ∷ xs) [] h k e = absurd (let n = ap length e in omega (arith, n))
  same_with_slots old next unique below (x ∷ xs) (y ∷ ys) h k e =
      let heads : plain_row x ≡ plain_row y = cc in let tails : plains xs ≡ plains ys = cc in
      let serial : x.name.serial ≡ y.name.serial = ap (λ (r : Row ℕ V). r.name) heads in
      let there = k y.name (ap (λ c. c || is_among (names ys) y.name) (is_same y.name y.name refl)) in
      let was : is_among old x.name ≡ true = h 0 x.name (omega arith) (let lt = below y.name there in omega (arith, serial, lt)) in
      let first = one_row x y (unique x.name y.name was there serial) (ap (λ (r : Row ℕ V). r.value) heads) in
      let rest = same_with_slots old next unique below xs ys (λ i d lt. h (suc i) d (omega arith)) (λ a t. k a (ap (λ c. is_same_name a y.name || c) t ∙ or_true (is_same_name a y.name))) tails in
      λ i. first i ∷ rest i

  -- a valid object's names have serials below the next one
  pub below_next : (o : Object Name V) → IsValid (plain o) → (a : Name) → is_among (names o.rows) a ≡ true → a.serial < o.next
  below_next o valid a t = elim (cases_lt a.serial o.next) [
    | inl lt ↦ lt
    | inr past ↦ absurd (let none = valid.names_below_next a.serial past in let one = times-named a.serial (plains o.rows) (named_among a o.rows t) in omega (arith, none, one))
  ]
