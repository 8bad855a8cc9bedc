-- Worked inputs: what each means, to the byte.
use Rattle.std.specs.Prelude.{◌≡◌, ℕ, List, [], ◌∷◌, codes}
use Rattle.ac_syntax.specs.declared.refusal.RefusalKind.TheVariants.{Syntax, Limit, UnknownName, WrongType, Twice}
use Rattle.ac_syntax.specs.Code.{stop, one}
use Rattle.ac_syntax.specs.declared.script.Script.{Script}
use Rattle.ac_meaning.specs.Examples.{lines, number, called, script}
use Rattle.ac_meaning.specs.Meanings.{Meaning, IsMeaningBy, too_long, refused_at, ran}

abbrev pub meaning : (status : ℕ) → List (List ℕ) → Meaning
meaning status texts = record { text = lines texts; status = status }

-- a refusal is one line, with the line of the script and the kind
abbrev pub RefusalsAreOneLine : Type 0
RefusalsAreOneLine =
    (refused_at 3 Syntax ≡ meaning 1 (codes "line 3: syntax" ∷ []))
    × (refused_at 19 Limit ≡ meaning 1 (codes "line 19: limit" ∷ []))
    × (refused_at 1 UnknownName ≡ meaning 1 (codes "line 1: unknown name" ∷ []))
    × (refused_at 20 WrongType ≡ meaning 1 (codes "line 20: wrong type" ∷ []))
    × (refused_at 100 Twice ≡ meaning 1 (codes "line 100: twice" ∷ []))
    × (too_long ≡ meaning 1 (codes "input: limit" ∷ []))

abbrev pub unknown : Script
unknown = script [] (one (called 1 (codes "a") (codes "append") (number 1 ∷ [])) stop)

-- a script whose names aren't declared is refused, and an empty one writes nothing
abbrev pub UnknownNamesAreRefused : Type 0
UnknownNamesAreRefused = IsMeaningBy ran (codes "A.Append (1);") (meaning 1 (codes "line 1: unknown name" ∷ []))

abbrev pub NothingWritesNothing : Type 0
NothingWritesNothing = IsMeaningBy ran [] (meaning 0 [])
