-- What is told of a text of lines: how many they are, and the last four.
use Rattle.std.specs.Prelude.{◌==◌, ◌-◌, ℕ, zero, suc, codes, decimal, List, [], ◌∷◌, ◌++◌, count_by, if◌then◌else◌}

-- each line ends with a line feed
abbrev pub line_count : List ℕ → ℕ
line_count text = count_by (λ b. b == 10) text

-- what stands behind so many lines
unfoldable pub past_lines : List ℕ → ℕ → List ℕ
past_lines [] lines = []
past_lines (b ∷ text) zero = b ∷ text
past_lines (b ∷ text) (suc lines) = past_lines text (if b == 10 then lines else suc lines)

abbrev pub last_lines : ℕ → List ℕ → List ℕ
last_lines shown text = past_lines text (line_count text - shown)

abbrev pub summary_text : List ℕ → List ℕ
summary_text text = codes "lines " ++ (decimal (line_count text) ++ (10 ∷ last_lines 4 text))
