-- The marks that no script has.
use Rattle.std.specs.Prelude.{Bool, false, List, [], ◌∷◌}
use Rattle.std.specs.List.{list_any}
use denote.Enum.Bare.{sameb}
use Rattle.ac_syntax.specs.contracts.token.Mark.{the_type}
use Rattle.ac_syntax.specs.declared.token.Mark.{Mark}
use Rattle.ac_syntax.specs.declared.token.Mark.TheVariants.{BracketOpen, BracketClose, Tick, Star, Equal, NotEqual, Less, LessEqual, Greater, GreaterEqual}
use Rattle.ac_syntax.specs.declared.token.Token.{Token}
use Rattle.ac_syntax.specs.declared.token.Token.TheVariants as token

abbrev pub further_marks : List Mark
further_marks = BracketOpen ∷ BracketClose ∷ Tick ∷ Star ∷ Equal ∷ NotEqual ∷ Less ∷ LessEqual ∷ Greater ∷ GreaterEqual ∷ []

abbrev pub is_further : Token → Bool
is_further (token.Word _) = false
is_further (token.Keyword _) = false
is_further (token.Number _) = false
is_further (token.Text _) = false
is_further (token.Mark mark) = list_any (sameb the_type mark) further_marks
