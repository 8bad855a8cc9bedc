-- Readers of one token.
use Rattle.std.specs.Prelude.{ℕ, List, Option, Some, None, if◌then◌else◌}
use Rattle.std.specs.Str.{bytes_eq}
use denote.Enum.Bare.{sameb}
use Rattle.ac_syntax.specs.contracts.token.Keyword as keywords
use Rattle.ac_syntax.specs.contracts.token.Mark.{the_type}
use Rattle.ac_syntax.specs.declared.token.Token.{Token}
use Rattle.ac_syntax.specs.declared.token.Token.TheVariants as token
use Rattle.ac_syntax.specs.declared.token.Keyword.{Keyword}
use Rattle.ac_syntax.specs.declared.token.Mark.{Mark}
use Rattle.ac_syntax.specs.Grammar.{is_reserved}
use Rattle.ac_script.specs.Outcomes.{Reader, one}

abbrev pub as_word : List ℕ → Token → Option (Unit {0})
as_word wanted (token.Word found) = if bytes_eq found wanted then Some tt else None
as_word wanted (token.Keyword _) = None
as_word wanted (token.Number _) = None
as_word wanted (token.Text _) = None
as_word wanted (token.Mark _) = None

-- a word that is one of some, looked up by `pick`
abbrev pub as_word_of : {A : Type 0} → (List ℕ → Option A) → Token → Option A
as_word_of pick (token.Word found) = pick found
as_word_of pick (token.Keyword _) = None
as_word_of pick (token.Number _) = None
as_word_of pick (token.Text _) = None
as_word_of pick (token.Mark _) = None

abbrev pub as_mark : Mark → Token → Option (Unit {0})
as_mark wanted (token.Word _) = None
as_mark wanted (token.Keyword _) = None
as_mark wanted (token.Number _) = None
as_mark wanted (token.Text _) = None
as_mark wanted (token.Mark found) = if sameb the_type found wanted then Some tt else None

abbrev pub as_keyword : Keyword → Token → Option (Unit {0})
as_keyword wanted (token.Word _) = None
as_keyword wanted (token.Keyword found) = if sameb keywords.the_type found wanted then Some tt else None
as_keyword wanted (token.Number _) = None
as_keyword wanted (token.Text _) = None
as_keyword wanted (token.Mark _) = None

-- a keyword that is one of some, looked up by `pick`
abbrev pub as_keyword_of : {A : Type 0} → (Keyword → Option A) → Token → Option A
as_keyword_of pick (token.Word _) = None
as_keyword_of pick (token.Keyword found) = pick found
as_keyword_of pick (token.Number _) = None
as_keyword_of pick (token.Text _) = None
as_keyword_of pick (token.Mark _) = None

abbrev pub as_name : Token → Option (List ℕ)
as_name (token.Word word) = if is_reserved word then None else Some word
as_name (token.Keyword _) = None
as_name (token.Number _) = None
as_name (token.Text _) = None
as_name (token.Mark _) = None

abbrev pub as_number : Token → Option ℕ
as_number (token.Word _) = None
as_number (token.Keyword _) = None
as_number (token.Number n) = Some n
as_number (token.Text _) = None
as_number (token.Mark _) = None

abbrev pub word : List ℕ → Reader (Unit {0})
word wanted = one (as_word wanted)

abbrev pub keyword : Keyword → Reader (Unit {0})
keyword wanted = one (as_keyword wanted)

abbrev pub mark : Mark → Reader (Unit {0})
mark wanted = one (as_mark wanted)

-- an identifier
abbrev pub name : Reader (List ℕ)
name = one as_name

abbrev pub number : Reader ℕ
number = one as_number
