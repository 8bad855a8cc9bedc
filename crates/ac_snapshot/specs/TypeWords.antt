-- Words of a type's text that may be wanted or not.
use Rattle.std.specs.Prelude.{ℕ, codes, Bool, List, [], ◌++◌, Option, Some, None, if◌then◌else◌}
use Rattle.ac_syntax.specs.declared.kind.ElemKind.{ElemKind}
use Rattle.ac_syntax.specs.Parts.{elem_word}

-- a word where it is wanted
abbrev pub word_if : Bool → List ℕ → List ℕ
word_if wanted word = if wanted then word else []

abbrev pub second_text : Option ElemKind → List ℕ
second_text None = []
second_text (Some elem) = codes ", " ++ elem_word elem
