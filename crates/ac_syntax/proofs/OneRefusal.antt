-- A text is refused at one place for one kind, and not where it spells a script.
use Rattle.std.proofs.Common.{◌≡◌, ℕ, List, [], ◌∷◌, ◌++◌, length, refl, sym, ap, subst, ◌∙◌, length-append, arith}
use Rattle.std.proofs.lemmas.List.{append-nil}
use Rattle.std.proofs.lemmas.Option.{none-some}
use Rattle.std.specs.Prelude.{Some, None}
use Rattle.ac_syntax.specs.declared.token.Placed.{Placed}
use Rattle.ac_syntax.specs.declared.script.Script.{Script}
use Rattle.ac_syntax.specs.declared.refusal.RefusalKind.{RefusalKind}
use Rattle.ac_syntax.specs.Keywords.{script_cut}
use Rattle.ac_syntax.specs.Tokens.{Cut, tokens}
use Rattle.ac_syntax.specs.Grammar.{Derives}
use Rattle.ac_syntax.specs.Limits.{AreWithinLimits}
use Rattle.ac_syntax.specs.Refusals.{Spells, IsBadToken, begins_none, past_limit, HasNoBadToken, IsFirstBad, bad_token, malformed_piece, IsFirstRefusal, first_bad, ends_early}
use Rattle.ac_syntax.proofs.Withins.{begun_none_bad}

-- where the tokens x and y of one list stand, behind these tokens each
data Places (xs ys : List Placed) (x y : Placed) : Type 0 where
  at_once : xs ≡ ys → x ≡ y → Places xs ys x y
  earlier : (mid : List Placed) → ys ≡ xs ++ x ∷ mid → Places xs ys x y
  later : (mid : List Placed) → xs ≡ ys ++ y ∷ mid → Places xs ys x y

behind_one : (a b : Placed) (xs ys : List Placed) (x y : Placed) → a ≡ b → Places xs ys x y → Places (a ∷ xs) (b ∷ ys) x y
behind_one a b xs ys x y s (at_once p q) = at_once (λ i. s i ∷ p i) q
behind_one a b xs ys x y s (earlier mid p) = earlier mid (λ i. sym s i ∷ p i)
behind_one a b xs ys x y s (later mid p) = later mid (λ i. s i ∷ p i)

places : (xs ys : List Placed) (x y : Placed) (after more : List Placed) → xs ++ x ∷ after ≡ ys ++ y ∷ more → Places xs ys x y
places [] [] x y after more e = at_once refl (cc e)
places [] (b ∷ ys) x y after more e = let s : x ≡ b = cc e in earlier ys (λ i. sym s i ∷ ys)
places (a ∷ xs) [] x y after more e = let s : a ≡ y = cc e in later xs (λ i. s i ∷ xs)
places (a ∷ xs) (b ∷ ys) x y after more e =
    let s : a ≡ b = cc e in
    let tails : xs ++ x ∷ after ≡ ys ++ y ∷ more = cc e in
    behind_one a b xs ys x y s (places xs ys x y after more tails)

one_kind : (before : List Placed) (bad : Placed) (kind other : RefusalKind) → IsBadToken before bad kind → IsBadToken before bad other → kind ≡ other
one_kind before bad kind other (begins_none n) (begins_none m) = refl
one_kind before bad kind other (begins_none n) (past_limit b p) = absurd (n b)
one_kind before bad kind other (past_limit b p) (begins_none m) = absurd (m b)
one_kind before bad kind other (past_limit b p) (past_limit c q) = refl

same_bad : (xs ys : List Placed) (x y : Placed) (kind other : RefusalKind)
    → xs ≡ ys → x ≡ y → IsBadToken xs x kind → IsBadToken ys y other → (x.line ≡ y.line) × (kind ≡ other)
same_bad xs ys x y kind other p q h k = (
  ap (λ (t : Placed). t.line) q,
  one_kind ys y kind other (subst (λ (t : Placed). IsBadToken ys t kind) q (subst (λ ts. IsBadToken ts x kind) p h)) k,
)

first_of_two : (xs ys : List Placed) (x y : Placed) (kind other : RefusalKind) → Places xs ys x y → HasNoBadToken xs → HasNoBadToken ys
    → IsBadToken xs x kind → IsBadToken ys y other → (x.line ≡ y.line) × (kind ≡ other)
first_of_two xs ys x y kind other (at_once p q) n m h k = same_bad xs ys x y kind other p q h k
first_of_two xs ys x y kind other (earlier mid p) n m h k = absurd (m xs mid x kind p h)
first_of_two xs ys x y kind other (later mid p) n m h k = absurd (n ys mid y other p k)

some_inj : (m n : ℕ) → Some m ≡ Some n → m ≡ n
some_inj m n e = cc e

one_bad : (cut : Cut) (line place : ℕ) (kind other : RefusalKind) → IsFirstBad cut line kind → IsFirstBad cut place other → (line ≡ place) × (kind ≡ other)
one_bad cut line place kind other (bad_token xs after x k e n h) (bad_token ys more y j d m i) =
    first_of_two xs ys x y k j (places xs ys x y after more (sym e ∙ d)) n m h i
one_bad cut line place kind other (bad_token xs after x k e n h) (malformed_piece l m p) = absurd (m xs after x k e h)
one_bad cut line place kind other (malformed_piece l m p) (bad_token xs after x k e n h) = absurd (m xs after x k e h)
one_bad cut line place kind other (malformed_piece l m p) (malformed_piece j n q) = (some_inj l j (sym p ∙ q), refl)

-- a text with a bad token or a malformed piece doesn't only end too early
not_both : (cut : Cut) (line : ℕ) (kind : RefusalKind) → IsFirstBad cut line kind → cut.malformed ≡ None → HasNoBadToken cut.placed → ⊥
not_both cut line kind (bad_token xs after x k e n h) whole none = none xs after x k e h
not_both cut line kind (malformed_piece l m p) whole none = none-some l (sym whole ∙ p)

one_last : (xs ys : List Placed) (x y : Placed) → xs ++ x ∷ [] ≡ ys ++ y ∷ [] → Places xs ys x y → x.line ≡ y.line
one_last xs ys x y e (at_once p q) = ap (λ (t : Placed). t.line) q
one_last xs ys x y e (earlier mid p) = absurd (omega (arith, ap length e, ap length p, length-append xs (x ∷ []), length-append ys (y ∷ []), length-append xs (x ∷ mid)))
one_last xs ys x y e (later mid p) = absurd (omega (arith, ap length e, ap length p, length-append xs (x ∷ []), length-append ys (y ∷ []), length-append ys (y ∷ mid)))

pub one_refusal : (text : List ℕ) (line place : ℕ) (kind other : RefusalKind)
    → IsFirstRefusal text line kind → IsFirstRefusal text place other → (line ≡ place) × (kind ≡ other)
one_refusal text line place kind other (first_bad l k h) (first_bad m j i) = one_bad (script_cut text) l m k j h i
one_refusal text line place kind other (first_bad l k h) (ends_early ys y e whole none uneven) = absurd (not_both (script_cut text) l k h whole none)
one_refusal text line place kind other (ends_early xs x e whole none uneven) (first_bad m j i) = absurd (not_both (script_cut text) m j i whole none)
one_refusal text line place kind other (ends_early xs x e whole none uneven) (ends_early ys y d still nothing odd) =
    (one_last xs ys x y (sym e ∙ d) (places xs ys x y [] [] (sym e ∙ d)), refl)

-- the tokens of a script have no bad one
none_in : (placed : List Placed) (script : Script) → Derives placed script → AreWithinLimits (tokens placed) → HasNoBadToken placed
none_in placed script d within = begun_none_bad placed [] script (subst (λ all. Derives all script) (sym (append-nil placed)) d) within

pub spelled_or_refused : (script : Script) (text : List ℕ) (line : ℕ) (kind : RefusalKind) → Spells script text → IsFirstRefusal text line kind → ⊥
spelled_or_refused script text line kind s (first_bad l k h) =
    not_both (script_cut text) l k h s.whole (none_in (script_cut text).placed script s.derives s.within)
spelled_or_refused script text line kind s (ends_early xs x e whole none uneven) = uneven script s.derives
