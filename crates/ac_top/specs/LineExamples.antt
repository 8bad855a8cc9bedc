-- Lines that are just `--script`, worked out by hand.
use Rattle.std.specs.Prelude.{ℕ, List, [], ◌∷◌, ◌++◌, codes}
use Rattle.ac_top.specs.LineCuts.{IsFirstLine, HasNoLine}

abbrev script_line : List ℕ
script_line = codes "--script"

abbrev lines : List (List ℕ) → List ℕ
lines [] = []
lines (line ∷ later) = line ++ (10 ∷ lines later)

-- two of them: the first counts, behind the eleven bytes of `integer a 1` and an LF
abbrev pub FindsFirst : Type 0
FindsFirst = IsFirstLine script_line (lines (codes "integer a 1" ∷ script_line ∷ codes "null;" ∷ script_line ∷ [])) 12

abbrev pub FindsAtFront : Type 0
FindsAtFront = IsFirstLine script_line (lines (script_line ∷ codes "null;" ∷ [])) 0

-- the word within a line, at its start, its middle and its end
abbrev pub PassesMiddle : Type 0
PassesMiddle = HasNoLine script_line (lines (codes "--script a" ∷ codes "a --script b" ∷ codes "a --script" ∷ []))

-- the last line has no LF
abbrev pub PassesUnended : Type 0
PassesUnended = HasNoLine script_line (lines (codes "null;" ∷ []) ++ script_line)
