-- The longest front of a list that passes a test.
use Rattle.std.proofs.Common.{◌≡◌, ◌+◌, Bool, true, false, List, [], ◌∷◌, refl, cond, take, ◌&&◌}
use Rattle.std.proofs.Math.Numerals.{one-add}
use Rattle.std.specs.List.{prefix_len, AllPass, list_all}
use Rattle.std.proofs.lemmas.List.Sums.{AllPass-from_list_all}

list_all_front_by : {X : Type 0} (p : X → Bool) (x : X) (xs : List X) (b : Bool) → p x ≡ b → list_all p (take (prefix_len p xs) xs) ≡ true → list_all p (take (cond b (1 + prefix_len p xs) 0) (x ∷ xs)) ≡ true
list_all_front_by p x xs true e h = rw (one-add, e) h
list_all_front_by p x xs false e h = refl

pub list_all_front : {X : Type 0} (p : X → Bool) (xs : List X) → list_all p (take (prefix_len p xs) xs) ≡ true
list_all_front p [] = refl
list_all_front p (x ∷ xs) = list_all_front_by p x xs (p x) refl (list_all_front p xs)

pub AllPass_front : {X : Type 0} (p : X → Bool) (xs : List X) → AllPass p (take (prefix_len p xs) xs)
AllPass_front p xs = AllPass-from_list_all p _ (list_all_front p xs)

weaker_by : (x y p q : Bool) → (x ≡ true → y ≡ true) → (p ≡ true → q ≡ true) → (x && p) ≡ true → (y && q) ≡ true
weaker_by true y true q f g h = rw (f refl, g refl) refl
weaker_by true y false q f g h = absurd (cc h)
weaker_by false y p q f g h = absurd (cc h)

-- what passes a test passes a weaker one
pub list_all_weaker : {X : Type 0} (p q : X → Bool) → ((x : X) → p x ≡ true → q x ≡ true) → (xs : List X) → list_all p xs ≡ true → list_all q xs ≡ true
list_all_weaker p q f [] h = refl
list_all_weaker p q f (x ∷ xs) h = weaker_by (p x) (q x) (list_all p xs) (list_all q xs) (f x) (list_all_weaker p q f xs) h
