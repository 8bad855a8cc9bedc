-- The first and the last name of rows, and of rows that are cut at one.
use Rattle.std.proofs.Common.{◌≡◌, suc, List, [], ◌∷◌, ◌++◌, length, Some, refl}
use Rattle.ac_base.specs.declared.name.Name.{Name}
use Rattle.ac_base.specs.Rows.{Row}
use Rattle.ac_pool.specs.NamedRows.{name_at, name_before}
use Rattle.ac_balance.specs.Walking.{first_name, last_name}

module _ {X : Type 0} where
  pub name_at-after : (xs : List (Row Name X)) (r : Row Name X) (ys : List (Row Name X)) → name_at (xs ++ r ∷ ys) (suc (length xs)) ≡ first_name ys
  name_at-after [] r ys = refl
  name_at-after (x ∷ xs) r ys = name_at-after xs r ys

  name_at-last : (x : Row Name X) (xs ys : List (Row Name X)) → name_at (x ∷ xs ++ ys) (length xs) ≡ last_name (x ∷ xs)
  name_at-last x [] ys = refl
  name_at-last x (y ∷ xs) ys = name_at-last y xs ys

  pub name_before-cut : (xs ys : List (Row Name X)) → name_before (xs ++ ys) (length xs) ≡ last_name xs
  name_before-cut [] ys = refl
  name_before-cut (x ∷ xs) ys = name_at-last x xs ys

  pub first_name-append : (xs ys : List (Row Name X)) (a : Name) → first_name xs ≡ Some a → first_name (xs ++ ys) ≡ Some a
  first_name-append [] ys a e = cc
  first_name-append (x ∷ xs) ys a e = e

  pub last_name-cut : (xs : List (Row Name X)) (r : Row Name X) → last_name (xs ++ r ∷ []) ≡ Some r.name
  last_name-cut [] r = refl
  last_name-cut (x ∷ []) r = refl
  last_name-cut (x ∷ y ∷ xs) r = last_name-cut (y ∷ xs) r

  pub last_name-append : (xs ys : List (Row Name X)) (a : Name) → last_name ys ≡ Some a → last_name (xs ++ ys) ≡ Some a
  last_name-append [] ys a e = e
  last_name-append (x ∷ xs) [] a e = cc
  last_name-append (x ∷ []) (y ∷ ys) a e = e
  last_name-append (x ∷ z ∷ xs) (y ∷ ys) a e = last_name-append (z ∷ xs) (y ∷ ys) a e
