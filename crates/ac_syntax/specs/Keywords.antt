-- The words that are reserved in a script whose exceptions propagate, and which scripts those are.
use Rattle.std.specs.Prelude.{ℕ, codes, Bool, true, false, ◌&&◌, List, [], ◌∷◌, map, Option, Some, None, if◌then◌else◌}
use Rattle.std.specs.Str.{bytes_eq}
use Rattle.ac_base.specs.declared.reason.Exception.{Exception}
use Rattle.ac_base.specs.declared.reason.Exception.TheVariants as exception
use Rattle.ac_syntax.specs.declared.token.Keyword.{Keyword}
use Rattle.ac_syntax.specs.declared.token.Keyword.TheVariants as keyword
use Rattle.ac_syntax.specs.declared.token.Placed.{Placed}
use Rattle.ac_syntax.specs.declared.token.Token.{Token}
use Rattle.ac_syntax.specs.declared.token.Token.TheVariants as token
use Rattle.ac_syntax.specs.Tokens.{Cut, cut_of}

abbrev pub keyword_text : Keyword → List ℕ
keyword_text keyword.Pragma = codes "pragma"
keyword_text keyword.Propagate = codes "propagate"
keyword_text keyword.Exception = codes "exception"
keyword_text keyword.When = codes "when"
keyword_text keyword.Others = codes "others"
keyword_text keyword.ProgramError = codes "program_error"
keyword_text keyword.ConstraintError = codes "constraint_error"
keyword_text keyword.CapacityError = codes "capacity_error"

-- what a handler of this names: an exception, or with None all others
abbrev pub caught_keyword : Option Exception → Keyword
caught_keyword None = keyword.Others
caught_keyword (Some exception.ProgramError) = keyword.ProgramError
caught_keyword (Some exception.ConstraintError) = keyword.ConstraintError
caught_keyword (Some exception.CapacityError) = keyword.CapacityError

abbrev pub all_keywords : List Keyword
all_keywords =
    keyword.Pragma ∷ keyword.Propagate ∷ keyword.Exception ∷ keyword.When ∷ keyword.Others
    ∷ keyword.ProgramError ∷ keyword.ConstraintError ∷ keyword.CapacityError ∷ []

-- the one of these keywords that a word is, if it is one
abbrev pub keyword_among : List Keyword → List ℕ → Option Keyword
keyword_among [] word = None
keyword_among (first ∷ others) word = if bytes_eq (keyword_text first) word then Some first else keyword_among others word

abbrev pub keyword_of : List ℕ → Option Keyword
keyword_of word = keyword_among all_keywords word

-- a word as a token where the keywords are reserved
abbrev pub reserved_word : List ℕ → Option Keyword → Token
reserved_word word None = token.Word word
reserved_word word (Some found) = token.Keyword found

abbrev pub reserved_token : Token → Token
reserved_token (token.Word word) = reserved_word word (keyword_of word)
reserved_token (token.Keyword found) = token.Keyword found
reserved_token (token.Number n) = token.Number n
reserved_token (token.Text bytes) = token.Text bytes
reserved_token (token.Mark mark) = token.Mark mark

abbrev pub reserved_placed : Placed → Placed
reserved_placed placed = record { token = reserved_token placed.token; line = placed.line }

abbrev pub is_keyword_text : Keyword → Token → Bool
is_keyword_text own (token.Word word) = bytes_eq (keyword_text own) word
is_keyword_text own (token.Keyword _) = false
is_keyword_text own (token.Number _) = false
is_keyword_text own (token.Text _) = false
is_keyword_text own (token.Mark _) = false

-- the first two tokens are the words `pragma` and `propagate`
abbrev pub begins_propagating : List Placed → Bool
begins_propagating [] = false
begins_propagating (_ ∷ []) = false
begins_propagating (first ∷ second ∷ _) = is_keyword_text keyword.Pragma first.token && is_keyword_text keyword.Propagate second.token

-- the keywords are reserved where the exceptions propagate
abbrev pub reserved_where : (propagating : Bool) → List Placed → List Placed
reserved_where true placed = map reserved_placed placed
reserved_where false placed = placed

abbrev pub with_keywords : Cut → Cut
with_keywords cut = record { placed = reserved_where (begins_propagating cut.placed) cut.placed; malformed = cut.malformed }

-- a script's text cut into tokens
abbrev pub script_cut : List ℕ → Cut
script_cut text = with_keywords (cut_of text)
