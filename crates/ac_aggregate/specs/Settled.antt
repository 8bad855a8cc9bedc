-- Reductions whose value no generator can change: one part stands for another wherever these generators are in scope.
use Rattle.std.specs.Prelude.{◌≡◌, ◌&&◌, ℕ, ℤ, Bool, true, false, not, List, map, Option}
use Rattle.std.specs.List.{list_any}
use Rattle.std.specs.Str.{bytes_eq}
use Rattle.ac_base.specs.declared.value.Value.{Value}
use Rattle.ac_calls.specs.declared.plains.Plain.{Plain}
use Rattle.ac_aggregate.specs.Asked.{Asked, literal, text, name, group, product, sum, all_of, each, reduced, always, compares, both, negated}
use Rattle.ac_aggregate.specs.Generators.{Generator}
use Rattle.ac_aggregate.specs.Values.{spelled_integer, value_of, truth_of, values_of, is_aggregate}

abbrev pub names_of : List (Generator Value) → List (List ℕ)
names_of gs = map (λ (g : Generator Value). g.name) gs

abbrev pub is_among : (generators : List (List ℕ)) → List ℕ → Bool
is_among ws word = list_any (λ w. bytes_eq w word) ws

-- none of these generators is named in a part
abbrev pub names_none : Asked → (generators : List (List ℕ)) → Bool
names_none (literal minus n) ws = true
names_none (text bytes) ws = true
names_none (name word) ws = not (is_among ws word)
names_none (group e) ws = names_none e ws
names_none (product l r) ws = names_none l ws && names_none r ws
names_none (sum l minus r) ws = names_none l ws && names_none r ws
names_none (all_of word) ws = true
names_none (each own object c e) ws = names_none c ws && names_none e ws
names_none (reduced source by minus n) ws = names_none source ws
names_none always ws = true
names_none (compares l by r) ws = names_none l ws && names_none r ws
names_none (both l r) ws = names_none l ws && names_none r ws
names_none (negated c) ws = names_none c ws

-- two parts come to the same, each where its generators have these values
pub record AreSame (ps : List Plain) (e : Asked) (gs : List (Generator Value)) (f : Asked) (hs : List (Generator Value)) : Type 0 where
  pub value : value_of ps e gs ≡ value_of ps f hs
  pub truth : truth_of ps e gs ≡ truth_of ps f hs
  pub values : values_of ps e gs ≡ values_of ps f hs

-- one part stands for another, whatever the values of these generators
pub record StandsFor (ps : List Plain) (generators : List (List ℕ)) (made part : Asked) : Type 0 where
  pub same : (gs : List (Generator Value)) → names_of gs ≡ generators → AreSame ps made gs part gs
  pub form : is_aggregate made ≡ is_aggregate part

abbrev pub is_reduction : Asked → Bool
is_reduction (reduced source by minus n) = true
is_reduction _ = false

-- a literal of this integer, or where there is none of a number that is no integer
abbrev pub IsSpelledAs : Asked → Option ℤ → Type 0
IsSpelledAs (literal minus n) z = spelled_integer minus n ≡ z
IsSpelledAs _ z = ⊥
