-- The first and the last name of rows, and of rows that are cut at one. What stands before a place and from it on.
use Rattle.std.proofs.Common.{◌≡◌, suc, List, [], ◌∷◌, ◌++◌, length, Option, Some, None, refl, sym, ap, append-nil}
use Rattle.ac_base.specs.declared.name.Name.{Name}
use Rattle.ac_pool.proofs.Cuts.{Cut, cut}
use Rattle.ac_base.specs.Rows.{Row}
use Rattle.ac_pool.specs.NamedRows.{name_at, name_before, HasName}
use Rattle.ac_chain.specs.Rows.{place_of}
use Rattle.ac_chain.specs.ChainFields.{first_or, last_or}

module _ {X : Type 0} where
  pub first_or-append : (xs ys : List (Row Name X)) (o : Option Name) → first_or (xs ++ ys) o ≡ first_or xs (first_or ys o)
  first_or-append [] ys o = refl
  first_or-append (x ∷ xs) ys o = refl

  pub last_or-append : (p : Option Name) (xs ys : List (Row Name X)) → last_or p (xs ++ ys) ≡ last_or (last_or p xs) ys
  last_or-append p [] ys = refl
  last_or-append p (x ∷ xs) ys = last_or-append (Some x.name) xs ys

  pub name_at-first : (rows : List (Row Name X)) → name_at rows 0 ≡ first_or rows None
  name_at-first [] = refl
  name_at-first (r ∷ rows) = refl

  pub name_at-after : (xs : List (Row Name X)) (r : Row Name X) (ys : List (Row Name X)) → name_at (xs ++ r ∷ ys) (suc (length xs)) ≡ first_or ys None
  name_at-after [] r ys = name_at-first ys
  name_at-after (x ∷ xs) r ys = name_at-after xs r ys

  name_at-last : (x : Row Name X) (xs ys : List (Row Name X)) → name_at (x ∷ xs ++ ys) (length xs) ≡ last_or (Some x.name) xs
  name_at-last x [] ys = refl
  name_at-last x (y ∷ xs) ys = name_at-last y xs ys

  pub name_before-cut : (xs ys : List (Row Name X)) → name_before (xs ++ ys) (length xs) ≡ last_or None xs
  name_before-cut [] ys = refl
  name_before-cut (x ∷ xs) ys = name_at-last x xs ys

  -- the rows before the place, and those from it on
  pub record Split (place : Option Name) (rows : List (Row Name X)) : Type 0 where
    pub before : List (Row Name X)
    pub after : List (Row Name X)
    pub is : rows ≡ before ++ after
    pub named : place ≡ first_or after None
    pub at : place_of place rows ≡ length before

  pub split : (place : Option Name) (rows : List (Row Name X)) → ((a : Name) → place ≡ Some a → HasName a rows) → Split place rows
  split None rows h = record { before = rows; after = []; is = sym (append-nil rows); named = refl; at = refl }
  split (Some a) rows h = let k = cut a rows (h a refl) in record { before = k.before; after = k.at ∷ k.after; is = k.is; named = ap Some k.named; at = k.place }
