-- The generator's script, put together from its pieces, and how long it is.
use Rattle.std.proofs.Common.{◌≡◌, ◌<◌, ◌≤◌, ◌+◌, ◌^◌, ℕ, List, [], ◌++◌, length, refl, ◌∙◌, append_assoc, length-append, decimal, arith}
use Rattle.std.proofs.lemmas.Fmt.{length-decimal-le}

-- pieces with the same list behind each but the last
joined : (a b c d n : List ℕ) → ((((((a ++ n) ++ b) ++ n) ++ c) ++ n) ++ d) ≡ a ++ (n ++ (b ++ (n ++ (c ++ (n ++ d)))))
joined a b c d n =
    append_assoc (((((a ++ n) ++ b) ++ n) ++ c)) n d ∙ append_assoc ((((a ++ n) ++ b) ++ n)) c (n ++ d) ∙ append_assoc (((a ++ n) ++ b)) n (c ++ (n ++ d))
    ∙ append_assoc ((a ++ n)) b (n ++ (c ++ (n ++ d))) ∙ append_assoc a n (b ++ (n ++ (c ++ (n ++ d))))

-- what is appended to nothing, piece by piece
pub put_together : (empty a b c d n : List ℕ) (one two three all : List ℕ) → empty ≡ [] → one ≡ (empty ++ a) ++ n → two ≡ (one ++ b) ++ n → three ≡ (two ++ c) ++ n
    → all ≡ three ++ d → all ≡ a ++ (n ++ (b ++ (n ++ (c ++ (n ++ d)))))
put_together empty a b c d n one two three all none e1 e2 e3 e4 = rw (e4, e3, e2, e1, none) (joined a b c d n)

joined_length : (a b c d n : List ℕ) → length (a ++ (n ++ (b ++ (n ++ (c ++ (n ++ d)))))) ≡ length a + (length n + (length b + (length n + (length c + (length n + length d)))))
joined_length a b c d n =
    rw (
      length-append a (n ++ (b ++ (n ++ (c ++ (n ++ d))))),
      length-append n (b ++ (n ++ (c ++ (n ++ d)))),
      length-append b (n ++ (c ++ (n ++ d))),
      length-append n (c ++ (n ++ d)),
      length-append c (n ++ d),
      length-append n d,
    ) refl

-- with a number of 64 bits it is short
pub is_short : (empty a b c d : List ℕ) (number : ℕ) (one two three all : List ℕ) → empty ≡ [] → one ≡ (empty ++ a) ++ decimal number → two ≡ (one ++ b) ++ decimal number
    → three ≡ (two ++ c) ++ decimal number → all ≡ three ++ d → number < 2 ^ 64 → length a + (length b + (length c + length d)) ≤ 1000 → length all ≤ 1048576
is_short empty a b c d number one two three all none e1 e2 e3 e4 fits few =
    let digits = length-decimal-le 20 number (omega arith) (omega (arith, fits)) fits in
    let long = joined_length a b c d (decimal number) in
    rw (put_together empty a b c d (decimal number) one two three all none e1 e2 e3 e4, long) (omega (arith, few, digits))
