-- The tokens of marks next to each other, worked out by hand.
use Rattle.std.specs.Prelude.{◌≡◌, ℕ, codes, List, [], ◌∷◌, ◌++◌, map, Some, None}
use Rattle.ac_syntax.specs.declared.token.Mark.{Mark}
use Rattle.ac_syntax.specs.declared.token.Mark.TheVariants.{Colon, Semicolon, Comma, Open, Close, Dot, Assign, Plus, Minus, Arrow, BracketOpen, BracketClose, Tick, Star, Equal, NotEqual, Less, LessEqual, Greater, GreaterEqual}
use Rattle.ac_syntax.specs.declared.token.Token.{Token}
use Rattle.ac_syntax.specs.declared.token.Token.TheVariants as token
use Rattle.ac_syntax.specs.Parts.{marks, names, counts}
use Rattle.ac_syntax.specs.Tokens.{cut_of}
use Rattle.ac_syntax.specs.Canonical.{on_line, parts_text}

-- a text of one line is these tokens
abbrev pub IsCutInto : List ℕ → List Token → Type 0
IsCutInto text spelled = cut_of text ≡ record { placed = map (on_line 1) spelled; malformed = None }

-- it is these tokens up to a malformed piece
abbrev pub IsMalformedBehind : List ℕ → List Token → Type 0
IsMalformedBehind text spelled = cut_of text ≡ record { placed = map (on_line 1) spelled; malformed = Some 1 }

abbrev pub are_marks : List Mark → List Token
are_marks found = map (λ mark. token.Mark mark) found

abbrev pub CutsEachMark : Type 0
CutsEachMark =
    IsCutInto (codes ": ; , ( ) . := + - => [ ] ' * = /= < <= > >=") (are_marks (
    Colon ∷ Semicolon ∷ Comma ∷ Open ∷ Close ∷ Dot ∷ Assign ∷ Plus ∷ Minus ∷ Arrow
    ∷ BracketOpen ∷ BracketClose ∷ Tick ∷ Star ∷ Equal ∷ NotEqual ∷ Less ∷ LessEqual ∷ Greater ∷ GreaterEqual ∷ []))

-- the longer mark is taken where its two bytes stand next to each other

abbrev pub TakesLessEqual : Type 0
TakesLessEqual = IsCutInto (codes "<<=<==") (are_marks (Less ∷ LessEqual ∷ LessEqual ∷ Equal ∷ []))

abbrev pub TakesGreaterEqual : Type 0
TakesGreaterEqual = IsCutInto (codes ">>=>==") (are_marks (Greater ∷ GreaterEqual ∷ GreaterEqual ∷ Equal ∷ []))

abbrev pub TakesArrow : Type 0
TakesArrow = IsCutInto (codes "==>=>=<=>") (are_marks (Equal ∷ Arrow ∷ Arrow ∷ Equal ∷ LessEqual ∷ Greater ∷ []))

abbrev pub TakesNotEqual : Type 0
TakesNotEqual = IsCutInto (codes "/==/=/=>") (are_marks (NotEqual ∷ Equal ∷ NotEqual ∷ NotEqual ∷ Greater ∷ []))

abbrev pub TakesAssign : Type 0
TakesAssign = IsCutInto (codes ":=>:==") (are_marks (Assign ∷ Greater ∷ Assign ∷ Equal ∷ []))

abbrev pub TakesApart : Type 0
TakesApart = IsCutInto (codes "< = > = = >") (are_marks (Less ∷ Equal ∷ Greater ∷ Equal ∷ Equal ∷ Greater ∷ []))

-- what begins no mark, or only a longer one

abbrev pub RefusesSlash : Type 0
RefusesSlash =
    IsMalformedBehind (codes "<= / =") (are_marks (LessEqual ∷ [])) × IsMalformedBehind (codes "=//=") (are_marks (Equal ∷ [])) × IsMalformedBehind (codes "</") (are_marks (Less ∷ []))

abbrev pub RefusesOtherBytes : Type 0
RefusesOtherBytes = IsMalformedBehind (codes "[]!=") (are_marks (BracketOpen ∷ BracketClose ∷ [])) × IsMalformedBehind (codes "*#") (are_marks (Star ∷ []))

-- marks, words, numbers and a string without any space
abbrev pub CutsReduction : Type 0
CutsReduction = IsCutInto (codes "[C<=V=>C*2]'Reduce(" ++ 34 ∷ codes "+" ++ 34 ∷ codes ",-1)") (
    token.Mark BracketOpen ∷ token.Word (codes "c") ∷ token.Mark LessEqual ∷ token.Word (codes "v") ∷ token.Mark Arrow ∷ token.Word (codes "c")
    ∷ token.Mark Star ∷ token.Number 2 ∷ token.Mark BracketClose ∷ token.Mark Tick ∷ token.Word (codes "reduce") ∷ token.Mark Open
    ∷ token.Text (codes "+") ∷ token.Mark Comma ∷ token.Mark Minus ∷ token.Number 1 ∷ token.Mark Close ∷ [])

-- brackets are written as parentheses are
abbrev pub WritesBrackets : Type 0
WritesBrackets =
    parts_text (names (codes "a") ∷ marks BracketOpen ∷ marks BracketOpen ∷ counts 1 ∷ marks BracketClose ∷ marks Comma ∷ counts 2 ∷ marks BracketClose ∷ marks Star ∷ counts 3 ∷ [])
    ≡ codes "a [[1], 2] * 3"
