-- What questions come to, worked out by hand.
use Rattle.std.specs.Prelude.{◌≡◌, ℕ, ℤ, pos, neg_ℤ, ◌-◌, ◌^◌, codes, false, true, List, [], ◌∷◌, map, Option, Some, None}
use Rattle.ac_base.specs.declared.value.Value.{Value}
use Rattle.ac_base.specs.declared.value.Value.TheVariants as value
use Rattle.ac_syntax.specs.declared.kind.Kind.{Kind}
use Rattle.ac_syntax.specs.declared.kind.Kind.TheVariants as kind
use Rattle.ac_syntax.specs.declared.kind.ElemKind.{ElemKind}
use Rattle.ac_syntax.specs.declared.kind.ElemKind.TheVariants.{Integer, Str}
use Rattle.ac_aggregate.specs.declared.oper.Comparison.TheVariants.{Less, LessEqual, Greater, GreaterEqual}
use Rattle.ac_aggregate.specs.declared.oper.Oper.TheVariants.{Sum, Product, Least, Greatest}
use Rattle.ac_calls.specs.declared.plains.Plain.{Plain}
use Rattle.ac_calls.specs.declared.plains.Plain.TheVariants as plain
use Rattle.ac_calls.specs.declared.plains.PlainRow.{PlainRow}
use Rattle.ac_aggregate.specs.Asked.{Asked, literal, name, product, sum, all_of, each, reduced, always, compares, both, negated}
use Rattle.ac_aggregate.specs.Values.{Answer, number, listing, overflow, ask_of}

abbrev row : Option Value → Value → PlainRow
row key v = record { depth = 0; key = key; value = v }

abbrev object : Kind → (first : ElemKind) → (second : Option ElemKind) → List ℕ → List PlainRow → Plain
object kind first second called rows =
    plain.Object called (record { bounded = false; kind = kind; first = first; second = second; keyed = false }) None None None rows

abbrev integers : List ℤ → List PlainRow
integers zs = map (λ z. row None (value.Int z)) zs

abbrev A : List ℕ
A = codes "a"

abbrev B : List ℕ
B = codes "b"

abbrev C : List ℕ
C = codes "c"

abbrev E : List ℕ
E = codes "e"

abbrev M : List ℕ
M = codes "m"

abbrev N : List ℕ
N = codes "n"

abbrev S : List ℕ
S = codes "s"

-- a list A of 5, 20 and 17, a list B of nothing, a list C of 1 and -2, a map M of numbers to texts, an integer N and a text S
abbrev plains : List Plain
plains =
    object kind.List Integer None A (integers (pos 5 ∷ pos 20 ∷ pos 17 ∷ []))
    ∷ object kind.List Integer None B []
    ∷ object kind.List Integer None C (integers (pos 1 ∷ neg_ℤ (pos 2) ∷ []))
    ∷ object kind.OrderedMap Integer (Some Str) M
    (row (Some (value.Int (pos 1))) (value.Text (codes "milk")) ∷ row (Some (value.Int (pos 2))) (value.Text (codes "bread")) ∷ [])
    ∷ plain.Int N (pos 15) ∷ plain.Str S (codes "m") ∷ []

abbrev of : ℕ → Asked
of n = literal false n

abbrev most : ℕ
most = 2 ^ 63 - 1

abbrev numbers : List ℤ → Answer
numbers zs = listing (map value.Int zs)

-- each element that is greater than 15, twice
abbrev pub Doubles : Type 0
Doubles =
    ask_of (each E A (compares (name E) Greater (of 15)) (product (name E) (of 2))) plains ≡ numbers (pos 40 ∷ pos 34 ∷ [])

abbrev pub Sums : Type 0
Sums = ask_of (reduced (all_of A) Sum false 0) plains ≡ number (pos 42)

-- a difference is taken from the left
abbrev pub TakesAway : Type 0
TakesAway = ask_of (each E A always (sum (sum (of 30) true (name E)) true (of 1))) plains ≡ numbers (pos 24 ∷ pos 9 ∷ pos 12 ∷ [])

-- a variable, and texts by their bytes; of a map the elements
abbrev pub ComparesTexts : Type 0
ComparesTexts = ask_of (each E M (compares (name E) Less (name S)) (name E)) plains ≡ listing (value.Text (codes "bread") ∷ [])

abbrev pub ComparesIntegers : Type 0
ComparesIntegers =
    ask_of (reduced (each E A (negated (compares (name E) LessEqual (name N))) (name E)) Least false 19) plains ≡ number (pos 17)

-- all operands of `and` are evaluated, in either order

abbrev is_great : Asked
is_great = compares (name E) Greater (of 15)

abbrev is_too_great : Asked
is_too_great = compares (product (name E) (of most)) Greater (of 0)

abbrev pub EvaluatesSecond : Type 0
EvaluatesSecond = ask_of (each E A (both is_great is_too_great) (of 1)) plains ≡ overflow

abbrev pub EvaluatesFirst : Type 0
EvaluatesFirst = ask_of (each E A (both is_too_great is_great) (of 1)) plains ≡ overflow

-- what is given is evaluated only where the condition holds

abbrev pub PassesOver : Type 0
PassesOver = ask_of (each E A (compares (name E) Greater (of 20)) (product (name E) (of most))) plains ≡ listing []

abbrev pub GivesTooMuch : Type 0
GivesTooMuch = ask_of (each E A (compares (name E) GreaterEqual (of 20)) (product (name E) (of most))) plains ≡ overflow

-- a reduction of nothing is the number that it begins with
abbrev pub LeastOfNone : Type 0
LeastOfNone = ask_of (reduced (all_of B) Least true 7) plains ≡ number (neg_ℤ (pos 7))

-- a reduction that names no generator, and one that does
abbrev pub Nests : Type 0
Nests = ask_of (each E A always (sum (reduced (all_of A) Greatest false 0) true (name E))) plains ≡ numbers (pos 15 ∷ pos 0 ∷ pos 3 ∷ [])

abbrev pub NestsByGenerator : Type 0
NestsByGenerator =
    ask_of (each E C always (reduced (each N A always (product (name N) (name E))) Sum false 0)) plains
    ≡ numbers (pos 42 ∷ neg_ℤ (pos 84) ∷ [])

-- each partial fold is an integer, or there is no answer
abbrev pub FoldsPast : Type 0
FoldsPast = ask_of (reduced (all_of C) Sum false most) plains ≡ overflow

abbrev pub MultipliesPast : Type 0
MultipliesPast = ask_of (reduced (all_of A) Product false most) plains ≡ overflow
