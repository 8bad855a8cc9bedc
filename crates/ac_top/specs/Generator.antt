-- The script that `--generate` runs, by its size.
use Rattle.std.specs.Prelude.{ℕ, codes, decimal, List, [], ◌∷◌, ◌++◌}
use Rattle.std.specs.List.{concat}

abbrev line : List ℕ → List ℕ
line words = words ++ 10 ∷ []

-- with the digits of the size
unfoldable pub script_with : List ℕ → List ℕ
script_with size = concat (
    line (codes "type V is vector (integer);")
    ∷ line (codes "type S is ordered_set (integer);")
    ∷ line (codes "type M is hashed_map (integer, integer);")
    ∷ line (codes "A : V;")
    ∷ line (codes "B : S;")
    ∷ line (codes "D : M;")
    ∷ line (codes "N : integer;")
    ∷ codes "A.Append (0, " ∷ size ∷ line (codes ");")
    ∷ codes "N := " ∷ size ∷ line (codes ";")
    ∷ line (codes "for C in A loop")
    ∷ line (codes "B.Insert (N);")
    ∷ line (codes "D.Include (N, N);")
    ∷ line (codes "N := N - 1;")
    ∷ line (codes "end loop;")
    ∷ line (codes "B.Length;")
    ∷ line (codes "B.First_Element;")
    ∷ line (codes "B.Last_Element;")
    ∷ codes "D.Element (" ∷ size ∷ line (codes ");")
    ∷ [])

abbrev pub generated : ℕ → List ℕ
generated number = script_with (decimal number)
