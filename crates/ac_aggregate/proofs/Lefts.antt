-- A list that is gone through by value: what was made of it so far, and what is left.
use Rattle.std.proofs.Common.{◌≡◌, List, [], ◌∷◌, ◌++◌, length, map, sym, ap, ◌∙◌, append_assoc}
use Rattle.std.proofs.lemmas.List.{append-nil, nil_from_length}

pub next_left : {X Y : Type 0} (view : X → Y) (made more : List Y) (left rest : List X) (x : X) (y : Y) (all : List Y)
    → left ≡ x ∷ rest → more ≡ made ++ y ∷ [] → y ≡ view x → made ++ map view left ≡ all → more ++ map view rest ≡ all
next_left view made more left rest x y all e f g h =
    ap (λ ys. ys ++ map view rest) f ∙ append_assoc made (y ∷ []) (map view rest) ∙ ap (λ z. made ++ z ∷ map view rest) g
    ∙ ap (λ xs. made ++ map view xs) (sym e) ∙ h

pub none_left : {X Y : Type 0} (view : X → Y) (made : List Y) (left : List X) (all : List Y) → length left ≡ 0 → made ++ map view left ≡ all → made ≡ all
none_left view made left all e h = sym (append-nil made) ∙ ap (λ xs. made ++ map view xs) (sym (nil_from_length left e)) ∙ h
