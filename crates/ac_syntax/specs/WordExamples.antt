-- Words that name nothing, and words that may, worked out by hand.
use Rattle.std.specs.Prelude.{ℕ, codes, All, List, [], ◌∷◌}
use Rattle.ac_syntax.specs.declared.token.Token.{Token}
use Rattle.ac_syntax.specs.declared.token.Token.TheVariants as token
use Rattle.ac_syntax.specs.Parts.{names}
use Rattle.ac_syntax.specs.Grammar.{IsPart}

-- no tokens spell it as a name
abbrev pub NamesNothing : List ℕ → Type 0
NamesNothing word = (spelled : List Token) → IsPart (names word) spelled → ⊥

-- it spells itself as a name
abbrev pub MayName : List ℕ → Type 0
MayName word = IsPart (names word) (token.Word word ∷ [])

abbrev pub reserved_words : List (List ℕ)
reserved_words =
    codes "type" ∷ codes "bounded" ∷ codes "keyed" ∷ codes "cursor" ∷ codes "integer" ∷ codes "string" ∷ codes "vector" ∷ codes "list"
    ∷ codes "hashed_map" ∷ codes "ordered_map" ∷ codes "hashed_set" ∷ codes "ordered_set" ∷ codes "tree" ∷ codes "holder" ∷ codes "queue"
    ∷ codes "priority_queue" ∷ codes "for" ∷ codes "in" ∷ codes "of" ∷ codes "reverse" ∷ codes "loop" ∷ codes "end" ∷ codes "query"
    ∷ codes "update" ∷ codes "reference" ∷ codes "update_key" ∷ codes "at" ∷ codes "as" ∷ codes "do" ∷ codes "stable" ∷ codes "declare"
    ∷ codes "begin" ∷ codes "tasks" ∷ codes "task" ∷ codes "no_element" ∷ codes "is" ∷ []

abbrev pub ReservesWords : Type 0
ReservesWords = All NamesNothing reserved_words

-- one letter more or less, the names of operations, and words that are reserved in Ada alone
abbrev pub other_words : List (List ℕ)
other_words =
    codes "types" ∷ codes "typ" ∷ codes "i" ∷ codes "iss" ∷ codes "ends" ∷ codes "en" ∷ codes "task1" ∷ codes "tasks_" ∷ codes "loop_end"
    ∷ codes "no" ∷ codes "element" ∷ codes "no_elements" ∷ codes "update_keys" ∷ codes "key" ∷ codes "hashed" ∷ codes "map" ∷ codes "set"
    ∷ codes "queues" ∷ codes "integers" ∷ codes "append" ∷ codes "next" ∷ codes "procedure" ∷ codes "array" ∷ codes "with" ∷ []

abbrev pub LeavesWords : Type 0
LeavesWords = All MayName other_words
