-- No row of a valid object has the name of a tree's root.
use Rattle.std.proofs.Common.{◌≡◌, ◌==◌, ◌&&◌, ◌||◌, ◌+◌, ◌≤◌, ◌⊎◌, inl, inr, ℕ, Bool, true, false, List, [], ◌∷◌, map, refl, sym, subst, arith, eq-eqb, if◌then◌else◌}
use Rattle.std.proofs.lemmas.Bool.{eqb-true}
use Rattle.ac_base.specs.declared.name.Name.{Name}
use Rattle.ac_base.specs.Rows.{Row, names}
use Rattle.ac_model.specs.Letters.{is_among, is_same_name}
use Rattle.ac_model.specs.Objects.{Object, IsValid, plain_row, times}
use Rattle.ac_model.specs.Rows.{is_named}

or_cases : (a b : Bool) → (a || b) ≡ true → (a ≡ true) ⊎ (b ≡ true)
or_cases true b h = inl refl
or_cases false b h = inr h

or_left : (a b : Bool) → a ≡ true → (a || b) ≡ true
or_left true b h = refl
or_left false b h = absurd (cc)

or_right : (a b : Bool) → b ≡ true → (a || b) ≡ true
or_right true b h = refl
or_right false b h = h

and_right : (a b : Bool) → (a && b) ≡ true → b ≡ true
and_right true b h = h
and_right false b h = absurd (cc)

module _ {V : Type 0} where
  pub named_among : (a : Name) (rows : List (Row Name V)) → is_among (names rows) a ≡ true → is_named (map plain_row rows) a.serial ≡ true
  named_among a [] h = h
  named_among a (r ∷ rows) h = elim (or_cases (is_same_name a r.name) (is_among (names rows) a) h) [
    | inl same ↦ or_left (r.name.serial == a.serial) (is_named (map plain_row rows) a.serial)
        (eq-eqb r.name.serial a.serial (sym (eqb-true a.serial r.name.serial (and_right (a.slot == r.name.slot) (a.serial == r.name.serial) same))))
    | inr more ↦ or_right (r.name.serial == a.serial) (is_named (map plain_row rows) a.serial) (named_among a rows more)
  ]

  -- a name that is there stands at least once
  pub counted : (n : ℕ) (rows : List (Row ℕ V)) → is_named rows n ≡ true → 1 ≤ times n rows
  counted n [] h = absurd (cc)
  counted n (r ∷ rows) h = elim (or_cases (r.name == n) (is_named rows n) h) [
    | inl here ↦ here_at (r.name == n) (times n rows) here
    | inr more ↦ there_at (r.name == n) (times n rows) (counted n rows more)
  ]
    where
      here_at : (b : Bool) (k : ℕ) → b ≡ true → 1 ≤ (if b then 1 else 0) + k
      here_at true k h = omega arith
      here_at false k h = absurd (cc)

      there_at : (b : Bool) (k : ℕ) → 1 ≤ k → 1 ≤ (if b then 1 else 0) + k
      there_at true k h = omega arith
      there_at false k h = omega arith

  -- a name that is there isn't the root
  pub no_root : (o : Object ℕ V) (n : ℕ) → IsValid o → is_named o.rows n ≡ true → n ≡ 0 → ⊥
  no_root o n v h zero = omega (arith, subst (λ k. 1 ≤ times k o.rows) zero (counted n o.rows h), v.names_from_one)
