-- Why a question is refused.
use Rattle.std.specs.Prelude.{◌≡◌, ◌≤◌, ◌<◌, ℕ, not, List, [], length, Option, Some, None, if◌then◌else◌}
use Rattle.ac_syntax.specs.declared.decl.Decl.{Decl}
use Rattle.ac_syntax.specs.declared.refusal.RefusalKind.{RefusalKind}
use Rattle.ac_syntax.specs.declared.refusal.RefusalKind.TheVariants.{Syntax, Limit, UnknownName, WrongType, Twice}
use Rattle.ac_syntax.specs.declared.token.Token.{Token}
use Rattle.ac_syntax.specs.Tokens.{cut_of, tokens}
use Rattle.ac_rules.specs.Scopes.{Scope, with_decls}
use Rattle.ac_aggregate.specs.Asked.{Asked}
use Rattle.ac_aggregate.specs.Grammar.{Asks}
use Rattle.ac_aggregate.specs.Limits.{is_past_limit}
use Rattle.ac_aggregate.specs.Names.{is_known, is_typed, names_differ}

-- the names of the outermost declarations
abbrev pub outermost : List Decl → Scope
outermost decls = with_decls [] decls

-- what is faulty in a question with these tokens: the first of these that is
abbrev pub first_fault : Scope → List Token → Asked → Option RefusalKind
first_fault scope ts q =
    if is_past_limit ts q then Some Limit
    else if not (is_known scope q []) then Some UnknownName
    else if not (is_typed scope q) then Some WrongType
    else if not (names_differ scope q []) then Some Twice
    else None

abbrev pub word_tokens : List ℕ → List Token
word_tokens word = tokens (cut_of word).placed

-- the first reason, in this order, to refuse a text
pub data IsRefused (scope : Scope) (word : List ℕ) : RefusalKind → Type 0 where
  too_long : 4096 < length word → IsRefused scope word Limit
  no_question : length word ≤ 4096 → ((q : Asked) → Asks q word → ⊥) → IsRefused scope word Syntax
  faulty : (q : Asked) (kind : RefusalKind) → length word ≤ 4096 → Asks q word → first_fault scope (word_tokens word) q ≡ Some kind
      → IsRefused scope word kind

-- a text is a question that is taken
pub record IsTaken (scope : Scope) (word : List ℕ) (q : Asked) : Type 0 where
  pub short : length word ≤ 4096
  pub asks : Asks q word
  pub faultless : first_fault scope (word_tokens word) q ≡ None
