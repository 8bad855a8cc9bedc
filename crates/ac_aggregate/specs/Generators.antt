-- The generators in scope, each with something that it stands for, the innermost one first.
use Rattle.std.specs.Prelude.{ℕ, List, find, Option, option_map}
use Rattle.std.specs.Str.{bytes_eq}

pub record Generator (A : Type 0) : Type 0 where
  pub name : List ℕ
  pub is : A

abbrev pub generator : {A : Type 0} → List ℕ → A → Generator A
generator own is = record { name = own; is = is }

-- what the innermost generator of the name stands for
abbrev pub innermost : {A : Type 0} → List (Generator A) → List ℕ → Option A
innermost {A} gs word = option_map (λ (g : Generator A). g.is) (find (λ (g : Generator A). bytes_eq g.name word) gs)
