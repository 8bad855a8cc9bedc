-- Texts that are questions, and texts that are refused, worked out by hand: each refusal stands over each later one.
use Rattle.std.specs.Prelude.{ℕ, zero, suc, codes, false, true, List, [], ◌∷◌, ◌++◌, replicate, None}
use Rattle.ac_syntax.specs.declared.decl.Decl.{Decl}
use Rattle.ac_syntax.specs.declared.decl.Decl.TheVariants.{TypeDecl, Object, IntVar, TextVar}
use Rattle.ac_syntax.specs.declared.kind.Kind.{Kind}
use Rattle.ac_syntax.specs.declared.kind.Kind.TheVariants as kind
use Rattle.ac_syntax.specs.declared.kind.ElemKind.{ElemKind}
use Rattle.ac_syntax.specs.declared.kind.ElemKind.TheVariants.{Integer, Str}
use Rattle.ac_syntax.specs.declared.refusal.RefusalKind.{RefusalKind}
use Rattle.ac_syntax.specs.declared.refusal.RefusalKind.TheVariants.{Syntax, Limit, UnknownName, WrongType, Twice}
use Rattle.ac_syntax.specs.declared.type_def.TypeDef.{TypeDef}
use Rattle.ac_aggregate.specs.declared.oper.Comparison.TheVariants.{Equal, NotEqual, Less}
use Rattle.ac_aggregate.specs.declared.oper.Oper.TheVariants.{Sum, Greatest}
use Rattle.ac_aggregate.specs.Asked.{Asked, literal, text, name, group, product, sum, all_of, each, reduced, always, compares, both, negated}
use Rattle.ac_aggregate.specs.Refusals.{outermost, IsRefused, IsTaken}

abbrev def : Kind → (first : ElemKind) → TypeDef
def kind first = record { bounded = false; kind = kind; first = first; second = None; keyed = false }

-- a list A and a queue Q of integers, a list T of texts, an integer N and a text S
abbrev decls : List Decl
decls =
    TypeDecl 1 (codes "l") (def kind.List Integer) ∷ TypeDecl 1 (codes "p") (def kind.Queue Integer) ∷ TypeDecl 1 (codes "k") (def kind.List Str)
    ∷ Object 2 (codes "a") (codes "l") None ∷ Object 2 (codes "q") (codes "p") None ∷ Object 2 (codes "t") (codes "k") None
    ∷ IntVar 3 (codes "n") ∷ TextVar 3 (codes "s") ∷ []

abbrev Takes : List ℕ → Asked → Type 0
Takes word q = IsTaken (outermost decls) word q

abbrev Refuses : List ℕ → RefusalKind → Type 0
Refuses word kind = IsRefused (outermost decls) word kind

abbrev E : Asked
E = name (codes "e")

-- case, blanks and comments are as in scripts

abbrev loose_text : List ℕ
loose_text = codes "[FOR E of a -- of all" ++ 10 ∷ codes "when E/=3 and not(E<n)=>E*2 - 1-E]"

abbrev loose : Asked
loose =
    each (codes "e") (codes "a") (both (compares E NotEqual (literal false 3)) (negated (compares E Less (name (codes "n")))))
    (sum (sum (product E (literal false 2)) true (literal false 1)) true E)

abbrev pub TakesLoosely : Type 0
TakesLoosely = Takes loose_text loose

-- a minus belongs to a number, and a product binds more tightly than a sum

abbrev pub TakesReduction : Type 0
TakesReduction =
    Takes (codes "[for e of t when e = \"x\" => a'reduce(\"max\", -9223372036854775808) + n * (-1)]'Reduce (\"+\", 0)")
    (reduced
    (each (codes "e") (codes "t") (compares E Equal (text (codes "x")))
    (sum (reduced (all_of (codes "a")) Greatest true 9223372036854775808) false (product (name (codes "n")) (group (literal true 1)))))
    Sum false 0)

-- 16 parentheses, and one more

abbrev nested : ℕ → List ℕ
nested n = codes "[for e of a => " ++ (replicate n 40 ++ (codes "1" ++ (replicate n 41 ++ codes "]")))

abbrev groups : ℕ → Asked
groups zero = literal false 1
groups (suc n) = group (groups n)

abbrev pub TakesNested : Type 0
TakesNested = Takes (nested 15) (each (codes "e") (codes "a") always (groups 15))

abbrev pub RefusesDeep : Type 0
RefusesDeep = Refuses (nested 16) Limit

-- what is no question: nothing, a name alone, a minus before a name, a half, another word for `+`, a reserved name

abbrev pub RefusesNothing : Type 0
RefusesNothing = Refuses [] Syntax

abbrev pub RefusesName : Type 0
RefusesName = Refuses (codes "a") Syntax

abbrev pub RefusesMinus : Type 0
RefusesMinus = Refuses (codes "[for e of a => -e]") Syntax

abbrev pub RefusesWord : Type 0
RefusesWord = Refuses (codes "a'reduce (\"MIN\", 0)") Syntax

abbrev pub RefusesReserved : Type 0
RefusesReserved = Refuses (codes "[for and of a => 1]") Syntax

abbrev pub RefusesMalformed : Type 0
RefusesMalformed = Refuses (codes "[for e of a => e] #") Syntax

-- a length over everything else
abbrev pub RefusesLength : Type 0
RefusesLength = Refuses (replicate 4097 32) Limit

-- syntax over a limit, an unknown name, a wrong type, a name given twice

abbrev pub SyntaxOverLimit : Type 0
SyntaxOverLimit = Refuses (codes "a'reduce (\"+\", 9223372036854775808") Syntax

abbrev pub SyntaxOverName : Type 0
SyntaxOverName = Refuses (codes "z'reduce (\"+\", 0") Syntax

abbrev pub SyntaxOverType : Type 0
SyntaxOverType = Refuses (codes "t'reduce (\"+\", 0") Syntax

abbrev pub SyntaxOverTwice : Type 0
SyntaxOverTwice = Refuses (codes "[for n of a => n") Syntax

-- a limit over the last three

abbrev pub LimitOverName : Type 0
LimitOverName = Refuses (codes "z'reduce (\"+\", 9223372036854775808)") Limit

abbrev pub LimitOverType : Type 0
LimitOverType = Refuses (codes "t'reduce (\"+\", -9223372036854775809)") Limit

abbrev pub LimitOverTwice : Type 0
LimitOverTwice = Refuses (codes "[for n of a => 9223372036854775808]") Limit

-- an unknown name over the last two; the generator isn't in scope behind `of`

abbrev pub NameOverType : Type 0
NameOverType = Refuses (codes "[for e of e => e + s]") UnknownName

abbrev pub NameOverTwice : Type 0
NameOverTwice = Refuses (codes "[for n of a => z]") UnknownName

-- a wrong type over a name given twice: a name has the meaning of the innermost generator

abbrev pub TypeOverTwice : Type 0
TypeOverTwice = Refuses (codes "[for a of t => a'reduce (\"+\", 0)]") WrongType

abbrev pub RefusesTwice : Type 0
RefusesTwice = Refuses (codes "[for a of a => a + 1]") Twice

abbrev pub RefusesTwiceInside : Type 0
RefusesTwiceInside = Refuses (codes "[for e of a => [for e of a => e]'reduce (\"min\", 0)]") Twice

-- a queue has no elements to go over
abbrev pub RefusesQueue : Type 0
RefusesQueue = Refuses (codes "q'reduce (\"+\", 0)") WrongType

abbrev pub RefusesUnlike : Type 0
RefusesUnlike = Refuses (codes "[for e of a when e = s => e]") WrongType
