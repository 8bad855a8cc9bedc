-- Two lists that are seen as one list, compared place by place.
use Rattle.std.proofs.Common.{◌≡◌, ◌<◌, ℕ, Bool, false, List, map, length, get_or, sym, ap, ◌∙◌}
use Rattle.std.specs.Bool.{Decides}
use Rattle.std.proofs.lemmas.Bool.{false≢true}
use Rattle.std.proofs.lemmas.List.{get_or-map}

pub refuted : {P : Type 0} → (P → ⊥) → Decides false P
refuted differ = (λ yes. absurd (false≢true yes), λ same. absurd (differ same))

-- where the two lists are one, they are alike at each place
alike_at : {A B : Type 0} (f : A → B) (xs ys : List A) (k : ℕ) (x y : A) → map f xs ≡ map f ys → k < length xs → k < length ys → f (get_or xs k x) ≡ f (get_or ys k y)
alike_at f xs ys k x y same inside within =
    sym (get_or-map f xs k x (f x) inside) ∙ ap (λ zs. get_or zs k (f x)) same ∙ get_or-map f ys k y (f x) within

-- where a test answers false at one place, they are two
pub differ_at : {A B : Type 0} (f : A → B) (xs ys : List A) (k : ℕ) (x y : A) (r : Bool) → x ≡ get_or xs k x → y ≡ get_or ys k y → k < length xs → k < length ys → Decides r (f x ≡ f y) → r ≡ false
    → map f xs ≡ map f ys → ⊥
differ_at f xs ys k x y r own other inside within decides e same =
    false≢true (sym e ∙ decides.1 (ap f own ∙ alike_at f xs ys k x y same inside within ∙ ap f (sym other)))
