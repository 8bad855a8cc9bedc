-- The reader of one item is exact, on each line.
use Rattle.std.proofs.Common.{◌≡◌, ℕ, Bool, true, false, List, [], ◌∷◌, ◌++◌, refl, ap, ◌⊎◌, inl, inr, Option, Some, None, codes}
use Rattle.std.proofs.lemmas.Option.{none-some, same_Some}
use Rattle.ac_base.specs.declared.reason.Exception.{Exception}
use Rattle.ac_base.specs.declared.reason.Exception.TheVariants as exception
use Rattle.ac_syntax.specs.Keywords.{caught_keyword}
use Rattle.ac_syntax.specs.declared.token.Keyword.{Keyword}
use Rattle.ac_syntax.specs.declared.token.Keyword.TheVariants as own
use Rattle.ac_syntax.specs.declared.token.Token.{Token}
use Rattle.ac_syntax.specs.declared.closing.Closing.{Closing}
use Rattle.ac_syntax.specs.declared.closing.Closing.TheVariants.{EndLoop, End, EndTasks, EndTask, EndTried, EndHandlers, EndOthers}
use Rattle.ac_syntax.specs.Items.{Item, declares, commands, opens, begins, closes, propagates, tries, catches}
use Rattle.ac_syntax.specs.Order.{Stage, fronting, listing, heading, running, tasking, tasked, preparing, stepping, catching}
use Rattle.ac_syntax.specs.declared.decl.Decl.TheVariants.{TypeDecl, IntVar}
use Rattle.ac_syntax.specs.Code.{task_at}
use Rattle.ac_syntax.specs.declared.type_def.TypeDef.{TypeDef}
use Rattle.ac_syntax.specs.declared.token.Token.TheVariants.{Word}
use Rattle.ac_syntax.specs.declared.token.Token.TheVariants as token
use Rattle.ac_syntax.specs.declared.token.Placed.{Placed}
use Rattle.ac_syntax.specs.declared.token.Mark.TheVariants.{Colon, Semicolon, Dot, Assign, Arrow}
use Rattle.ac_syntax.specs.Parts.{Part, says, keywords, marks, names, type_parts}
use Rattle.ac_syntax.specs.Grammar.{reserved, is_reserved}
use Rattle.ac_script.specs.declared.head.Lead.{Lead}
use Rattle.ac_script.specs.declared.head.Lead.TheVariants as lead
use Rattle.ac_script.specs.Readers.{as_word, as_word_of, as_keyword, as_mark}
use Rattle.ac_script.specs.Heads.{other_lead, lead_of}
use Rattle.ac_script.specs.ItemReader.{end_word, closing, type_item, declared_item, command_item, head_item, behind_name, named, ended, statement, tried, in_listing, pragma_item, in_fronting, caught_of, caught, handler_item, in_catching, handled, type_or_named, in_heading, task_item, in_tasking, end_of, in_tasked, local_item, local, in_preparing}
use Rattle.ac_script.proofs.Cases.{either_by}
use Rattle.ac_script.proofs.Spelled.{Spelled}
use Rattle.ac_script.proofs.Exact.{Exact, seq, give, mapped, recast}
use Rattle.ac_script.proofs.Forks.{Looks, Starts, single, forked, either_value}
use Rattle.ac_script.proofs.Looked.{word_looks, keyword_looks, mark_looks, name_looks, keyword_pick_looks, word_apart, keyword_apart, mark_apart, name_apart, free_apart, free_word}
use Rattle.ac_script.proofs.DeclarationsExact.{type_declaration_exact, integer_end_exact, Declared, declared_decl, declared_parts, declared_exact}
use Rattle.ac_script.proofs.HeadsExact.{lead_word, lead_looks, Told, told_head, told_parts, head_exact, task_head_exact}
use Rattle.ac_script.proofs.CommandsExact.{Commanded, a_call, an_assignment, commanded_simple, commanded_parts, command_exact}

-- the first part of what ends a block
abbrev pub end_part : Closing → Part
end_part EndLoop = says (codes "end")
end_part End = says (codes "end")
end_part EndTasks = says (codes "end")
end_part EndTask = says (codes "end")
end_part EndTried = keywords own.Exception
end_part EndHandlers = says (codes "end")
end_part EndOthers = says (codes "end")

end_looks : (words : Closing) → Looks (λ (i : Unit {0}). i) (λ _. end_part words) (end_word words)
end_looks EndLoop = word_looks (codes "end")
end_looks End = word_looks (codes "end")
end_looks EndTasks = word_looks (codes "end")
end_looks EndTask = word_looks (codes "end")
end_looks EndTried = keyword_looks own.Exception
end_looks EndHandlers = word_looks (codes "end")
end_looks EndOthers = word_looks (codes "end")

-- tokens that begin with it aren't seen by a look that sees neither word
end_apart : {X : Type 0} (look : Token → Option X) (words : Closing) (ps : List Part) → look (Word (codes "end")) ≡ None → look (token.Keyword own.Exception) ≡ None
    → (placed : List Placed) → Spelled (end_part words ∷ ps) placed → Starts look None placed
end_apart look EndLoop ps e k placed h = word_apart look (codes "end") ps e placed h
end_apart look End ps e k placed h = word_apart look (codes "end") ps e placed h
end_apart look EndTasks ps e k placed h = word_apart look (codes "end") ps e placed h
end_apart look EndTask ps e k placed h = word_apart look (codes "end") ps e placed h
end_apart look EndTried ps e k placed h = keyword_apart look own.Exception ps k placed h
end_apart look EndHandlers ps e k placed h = word_apart look (codes "end") ps e placed h
end_apart look EndOthers ps e k placed h = word_apart look (codes "end") ps e placed h

abbrev pub closing_rest : Closing → List Part
closing_rest EndLoop = says (codes "loop") ∷ marks Semicolon ∷ []
closing_rest End = marks Semicolon ∷ []
closing_rest EndTasks = says (codes "tasks") ∷ marks Semicolon ∷ []
closing_rest EndTask = marks Semicolon ∷ []
closing_rest EndTried = []
closing_rest EndHandlers = marks Semicolon ∷ []
closing_rest EndOthers = marks Semicolon ∷ []

closing_exact : (words : Closing) → Exact (λ (_ : Unit {0}). closes words) (λ _. closing_rest words) (closing words)
unfolding closing
closing_exact EndLoop =
    recast (seq (single (word_looks (codes "loop"))) (λ _. mapped (single (mark_looks Semicolon)) (λ _. closes EndLoop)))
    (λ _. (tt, refl, refl)) (λ _. ((tt, tt), refl, refl))
closing_exact End = mapped (single (mark_looks Semicolon)) (λ _. closes End)
closing_exact EndTasks =
    recast (seq (single (word_looks (codes "tasks"))) (λ _. mapped (single (mark_looks Semicolon)) (λ _. closes EndTasks)))
    (λ _. (tt, refl, refl)) (λ _. ((tt, tt), refl, refl))
closing_exact EndTask = mapped (single (mark_looks Semicolon)) (λ _. closes EndTask)
closing_exact EndTried = give (closes EndTried)
closing_exact EndHandlers = mapped (single (mark_looks Semicolon)) (λ _. closes EndHandlers)
closing_exact EndOthers = mapped (single (mark_looks Semicolon)) (λ _. closes EndOthers)

-- a declared type
abbrev pub Typed : Type 0
Typed = List ℕ × TypeDef

abbrev pub typed_item : ℕ → Typed → Item
typed_item line i = declares (TypeDecl line i.0 i.1)

abbrev pub typed_parts : Typed → List Part
typed_parts i = names i.0 ∷ says (codes "is") ∷ (type_parts i.1 ++ marks Semicolon ∷ [])

type_item_exact : (line : ℕ) → Exact (typed_item line) typed_parts (type_item line)
unfolding type_item
type_item_exact line = mapped (type_declaration_exact line) (λ decl. declares decl)

declared_item_exact : (line : ℕ) (n : List ℕ) → Exact (λ i. declares (declared_decl line n i)) declared_parts (declared_item line n)
unfolding declared_item
declared_item_exact line n = mapped (declared_exact line n) (λ decl. declares decl)

command_item_exact : (line : ℕ) (n : List ℕ) → Exact (λ i. commands (commanded_simple line n i)) commanded_parts (command_item line n)
unfolding command_item
command_item_exact line n = mapped (command_exact line n) (λ simple. commands simple)

head_item_exact : (line : ℕ) (l : Lead) → Exact (λ (t : Told l). opens (told_head line l t)) (told_parts l) (head_item l line)
unfolding head_item
head_item_exact line l = mapped (head_exact line l) (λ h. opens h)

-- what may follow a name with which an item begins
abbrev pub Named : Stage → Type 0
Named fronting = Commanded
Named listing = Declared ⊎ Commanded
Named heading = Declared
Named running = Commanded
Named tasking = Commanded
Named tasked = Commanded
Named preparing = Commanded
Named stepping = Commanded
Named catching = Commanded

abbrev pub named_item : (stage : Stage) → ℕ → List ℕ → Named stage → Item
named_item fronting line n = λ i. commands (commanded_simple line n i)
named_item listing line n = either_value (λ i. declares (declared_decl line n i)) (λ i. commands (commanded_simple line n i))
named_item heading line n = λ i. declares (declared_decl line n i)
named_item running line n = λ i. commands (commanded_simple line n i)
named_item tasking line n = λ i. commands (commanded_simple line n i)
named_item tasked line n = λ i. commands (commanded_simple line n i)
named_item preparing line n = λ i. commands (commanded_simple line n i)
named_item stepping line n = λ i. commands (commanded_simple line n i)
named_item catching line n = λ i. commands (commanded_simple line n i)

abbrev pub named_parts : (stage : Stage) → Named stage → List Part
named_parts fronting = commanded_parts
named_parts listing = either_value (λ i. marks Colon ∷ declared_parts i) commanded_parts
named_parts heading = λ i. marks Colon ∷ declared_parts i
named_parts running = commanded_parts
named_parts tasking = commanded_parts
named_parts tasked = commanded_parts
named_parts preparing = commanded_parts
named_parts stepping = commanded_parts
named_parts catching = commanded_parts

not_colon : (i : Commanded) (placed : List Placed) → Spelled (commanded_parts i) placed → Starts (as_mark Colon) None placed
not_colon (a_call op args) placed h = mark_apart (as_mark Colon) Dot _ refl placed h
not_colon (an_assignment i) placed h = mark_apart (as_mark Colon) Assign _ refl placed h

behind_name_exact : (stage : Stage) (line : ℕ) (n : List ℕ) → Exact (named_item stage line n) (named_parts stage) (behind_name stage line n)
unfolding behind_name
behind_name_exact fronting line n = command_item_exact line n
behind_name_exact listing line n =
    recast (forked (mark_looks Colon) (λ _. declared_item_exact line n) (command_item_exact line n) not_colon)
    (either_by _ (λ i. (inl i.1, refl, refl)) (λ i. (inr i, refl, refl)))
    (either_by _ (λ i. (inl (tt, i), refl, refl)) (λ i. (inr i, refl, refl)))
behind_name_exact heading line n = recast (seq (single (mark_looks Colon)) (λ _. declared_item_exact line n)) (λ i. (i.1, refl, refl)) (λ i. ((tt, i), refl, refl))
behind_name_exact running line n = command_item_exact line n
behind_name_exact tasking line n = command_item_exact line n
behind_name_exact tasked line n = command_item_exact line n
behind_name_exact preparing line n = command_item_exact line n
behind_name_exact stepping line n = command_item_exact line n
behind_name_exact catching line n = command_item_exact line n

-- an item that begins with a name
abbrev pub WithName : Stage → Type 0
WithName stage = List ℕ × Named stage

abbrev pub with_name_item : (stage : Stage) → ℕ → WithName stage → Item
with_name_item stage line i = named_item stage line i.0 i.1

abbrev pub with_name_parts : (stage : Stage) → WithName stage → List Part
with_name_parts stage i = names i.0 ∷ named_parts stage i.1

named_exact : (stage : Stage) (line : ℕ) → Exact (with_name_item stage line) (with_name_parts stage) (named stage line)
unfolding named
named_exact stage line = seq (single name_looks) (λ n. behind_name_exact stage line n)

-- the end of the innermost block, where one is open
abbrev pub Ending : Option Closing → Type 0
Ending None = ⊥
Ending (Some words) = Unit {0}

abbrev pub ending_item : (innermost : Option Closing) → Ending innermost → Item
ending_item None i = absurd i
ending_item (Some words) i = closes words

abbrev pub ending_parts : (innermost : Option Closing) → Ending innermost → List Part
ending_parts None i = absurd i
ending_parts (Some words) i = end_part words ∷ closing_rest words

abbrev pub Ended : Stage → Option Closing → Type 0
Ended stage innermost = Ending innermost ⊎ WithName stage

abbrev pub ended_item : (stage : Stage) (innermost : Option Closing) → ℕ → Ended stage innermost → Item
ended_item stage innermost line = either_value (ending_item innermost) (with_name_item stage line)

abbrev pub ended_parts : (stage : Stage) (innermost : Option Closing) → Ended stage innermost → List Part
ended_parts stage innermost = either_value (ending_parts innermost) (with_name_parts stage)

free_name : (w : List ℕ) → is_reserved w ≡ true → (v : List ℕ) (ps : List Part) (placed : List Placed) → Spelled (names v ∷ ps) placed → Starts (as_word w) None placed
free_name w h v ps placed s = name_apart (as_word w) v ps (free_word v w h) placed s

reserved_end : is_reserved (codes "end") ≡ true
unfolding reserved is_reserved
reserved_end = refl

free_end : (words : Closing) (v : List ℕ) (ps : List Part) (placed : List Placed) → Spelled (names v ∷ ps) placed → Starts (end_word words) None placed
free_end EndLoop v ps placed s = free_name (codes "end") reserved_end v ps placed s
free_end End v ps placed s = free_name (codes "end") reserved_end v ps placed s
free_end EndTasks v ps placed s = free_name (codes "end") reserved_end v ps placed s
free_end EndTask v ps placed s = free_name (codes "end") reserved_end v ps placed s
free_end EndTried v ps placed s = name_apart (as_keyword own.Exception) v ps (λ _. refl) placed s
free_end EndHandlers v ps placed s = free_name (codes "end") reserved_end v ps placed s
free_end EndOthers v ps placed s = free_name (codes "end") reserved_end v ps placed s

pub ended_exact : (stage : Stage) (innermost : Option Closing) (line : ℕ) → Exact (ended_item stage innermost line) (ended_parts stage innermost) (ended stage innermost line)
unfolding ended
ended_exact stage None line = recast (named_exact stage line) (λ i. (inr i, refl, refl)) (either_by _ (λ i. absurd i) (λ i. (i, refl, refl)))
ended_exact stage (Some words) line =
    recast (forked (end_looks words) (λ _. closing_exact words) (named_exact stage line) (λ i. free_end words i.0 (named_parts stage i.1)))
    (either_by _ (λ _. (inl tt, refl, refl)) (λ i. (inr i, refl, refl)))
    (either_by _ (λ _. (inl (tt, tt), refl, refl)) (λ i. (inr i, refl, refl)))

-- a statement, or what else may begin with a name
abbrev pub Block : Type 0
Block = (l : Lead) × Told l

abbrev pub block_item : ℕ → Block → Item
block_item line b = opens (told_head line b.0 b.1)

abbrev pub block_parts : Block → List Part
block_parts b = says (lead_word b.0) ∷ told_parts b.0 b.1

abbrev pub Statement : Stage → Option Closing → Type 0
Statement stage innermost = Block ⊎ Ended stage innermost

abbrev pub statement_item : (stage : Stage) (innermost : Option Closing) → ℕ → Statement stage innermost → Item
statement_item stage innermost line = either_value (block_item line) (ended_item stage innermost line)

abbrev pub statement_parts : (stage : Stage) (innermost : Option Closing) → Statement stage innermost → List Part
statement_parts stage innermost = either_value block_parts (ended_parts stage innermost)

not_lead : (v : List ℕ) → is_reserved v ≡ false → lead_of v ≡ None
unfolding lead_of other_lead reserved is_reserved
not_lead v free =
    rw (
      free_apart v (codes "for") refl free,
      free_apart v (codes "query") refl free,
      free_apart v (codes "update") refl free,
      free_apart v (codes "update_key") refl free,
      free_apart v (codes "reference") refl free,
      free_apart v (codes "stable") refl free,
      free_apart v (codes "declare") refl free,
      free_apart v (codes "tasks") refl free,
    ) refl

end_leads : lead_of (codes "end") ≡ None
unfolding lead_of other_lead
end_leads = refl

ended_apart : (stage : Stage) (innermost : Option Closing) (i : Ended stage innermost) (placed : List Placed) → Spelled (ended_parts stage innermost i) placed → Starts (as_word_of lead_of) None placed
ended_apart stage None (inl i) placed h = absurd i
ended_apart stage (Some words) (inl i) placed h = end_apart (as_word_of lead_of) words _ end_leads refl placed h
ended_apart stage innermost (inr i) placed h = name_apart (as_word_of lead_of) i.0 _ (not_lead i.0) placed h

pub statement_exact : (stage : Stage) (innermost : Option Closing) (line : ℕ) → Exact (statement_item stage innermost line) (statement_parts stage innermost) (statement stage innermost line)
unfolding statement
statement_exact stage innermost line =
    recast (forked lead_looks (λ l. head_item_exact line l) (ended_exact stage innermost line) (ended_apart stage innermost))
    (either_by _ (λ i. (inl i, refl, refl)) (λ i. (inr i, refl, refl)))
    (either_by _ (λ i. (inl i, refl, refl)) (λ i. (inr i, refl, refl)))

lead_type : (l : Lead) → as_word (codes "type") (Word (lead_word l)) ≡ None
lead_type lead.For = refl
lead_type lead.Query = refl
lead_type lead.Update = refl
lead_type lead.UpdateKey = refl
lead_type lead.Reference = refl
lead_type lead.Stable = refl
lead_type lead.Declare = refl
lead_type lead.Tasks = refl

reserved_type : is_reserved (codes "type") ≡ true
unfolding reserved is_reserved
reserved_type = refl

statement_apart : (stage : Stage) (innermost : Option Closing) (i : Statement stage innermost) (placed : List Placed) → Spelled (statement_parts stage innermost i) placed → Starts (as_word (codes "type")) None placed
statement_apart stage innermost (inl i) placed h = word_apart (as_word (codes "type")) (lead_word i.0) _ (lead_type i.0) placed h
statement_apart stage None (inr (inl i)) placed h = absurd i
statement_apart stage (Some words) (inr (inl i)) placed h = end_apart (as_word (codes "type")) words _ refl refl placed h
statement_apart stage innermost (inr (inr i)) placed h = free_name (codes "type") reserved_type i.0 _ placed h

-- the first word of a block isn't `begin` of one with handlers
lead_begin : (l : Lead) → as_word (codes "begin") (Word (lead_word l)) ≡ None
lead_begin lead.For = refl
lead_begin lead.Query = refl
lead_begin lead.Update = refl
lead_begin lead.UpdateKey = refl
lead_begin lead.Reference = refl
lead_begin lead.Stable = refl
lead_begin lead.Declare = refl
lead_begin lead.Tasks = refl

reserved_begin : is_reserved (codes "begin") ≡ true
unfolding reserved is_reserved
reserved_begin = refl

unbegun : (stage : Stage) (innermost : Option Closing) (i : Statement stage innermost) (placed : List Placed) → Spelled (statement_parts stage innermost i) placed → Starts (as_word (codes "begin")) None placed
unbegun stage innermost (inl i) placed h = word_apart (as_word (codes "begin")) (lead_word i.0) _ (lead_begin i.0) placed h
unbegun stage None (inr (inl i)) placed h = absurd i
unbegun stage (Some words) (inr (inl i)) placed h = end_apart (as_word (codes "begin")) words _ refl refl placed h
unbegun stage innermost (inr (inr i)) placed h = free_name (codes "begin") reserved_begin i.0 _ placed h

-- a statement, or `begin` of a block with handlers
abbrev pub Begun : (propagating : Bool) → Type 0
Begun true = Unit {0}
Begun false = ⊥

abbrev pub Tried : (propagating : Bool) → Stage → Option Closing → Type 0
Tried propagating stage innermost = Begun propagating ⊎ Statement stage innermost

abbrev pub tried_item : (propagating : Bool) (stage : Stage) (innermost : Option Closing) → ℕ → Tried propagating stage innermost → Item
tried_item propagating stage innermost line = either_value (λ _. tries line) (statement_item stage innermost line)

abbrev pub tried_parts : (propagating : Bool) (stage : Stage) (innermost : Option Closing) → Tried propagating stage innermost → List Part
tried_parts propagating stage innermost = either_value (λ _. says (codes "begin") ∷ []) (statement_parts stage innermost)

pub tried_exact : (propagating : Bool) (stage : Stage) (innermost : Option Closing) (line : ℕ)
    → Exact (tried_item propagating stage innermost line) (tried_parts propagating stage innermost) (tried propagating stage innermost line)
unfolding tried
tried_exact true stage innermost line =
    recast (forked (word_looks (codes "begin")) (λ _. give (tries line)) (statement_exact stage innermost line) (unbegun stage innermost))
    (either_by _ (λ _. (inl tt, refl, refl)) (λ i. (inr i, refl, refl)))
    (either_by _ (λ _. (inl (tt, tt), refl, refl)) (λ i. (inr i, refl, refl)))
tried_exact false stage innermost line =
    recast (statement_exact stage innermost line) (λ i. (inr i, refl, refl)) (either_by _ (λ b. absurd b) (λ i. (i, refl, refl)))

tried_apart : (propagating : Bool) (stage : Stage) (innermost : Option Closing) (i : Tried propagating stage innermost) (placed : List Placed) → Spelled (tried_parts propagating stage innermost i) placed
    → Starts (as_word (codes "type")) None placed
tried_apart propagating stage innermost (inl _) placed h = word_apart (as_word (codes "type")) (codes "begin") _ refl placed h
tried_apart propagating stage innermost (inr i) placed h = statement_apart stage innermost i placed h

-- where declarations may come too
abbrev pub Listed : (propagating : Bool) → Option Closing → Type 0
Listed propagating innermost = Typed ⊎ Tried propagating listing innermost

abbrev pub listed_item : (propagating : Bool) (innermost : Option Closing) → ℕ → Listed propagating innermost → Item
listed_item propagating innermost line = either_value (typed_item line) (tried_item propagating listing innermost line)

abbrev pub listed_parts : (propagating : Bool) (innermost : Option Closing) → Listed propagating innermost → List Part
listed_parts propagating innermost = either_value (λ i. says (codes "type") ∷ typed_parts i) (tried_parts propagating listing innermost)

pub in_listing_exact : (propagating : Bool) (innermost : Option Closing) (line : ℕ) → Exact (listed_item propagating innermost line) (listed_parts propagating innermost) (in_listing propagating innermost line)
unfolding in_listing
in_listing_exact propagating innermost line =
    recast (forked (word_looks (codes "type")) (λ _. type_item_exact line) (tried_exact propagating listing innermost line) (tried_apart propagating listing innermost))
    (either_by _ (λ i. (inl i.1, refl, refl)) (λ i. (inr i, refl, refl)))
    (either_by _ (λ i. (inl (tt, i), refl, refl)) (λ i. (inr i, refl, refl)))

-- no keyword begins what isn't a handler, a pragma or the end of what is tried

lead_keyword : (k : Keyword) (b : Block) (placed : List Placed) → Spelled (block_parts b) placed → Starts (as_keyword k) None placed
lead_keyword k b placed h = word_apart (as_keyword k) (lead_word b.0) _ refl placed h

tried_keyword : (k : Keyword) → as_keyword k (token.Keyword own.Exception) ≡ None → (propagating : Bool) (stage : Stage) (innermost : Option Closing) (i : Tried propagating stage innermost) (placed : List Placed)
    → Spelled (tried_parts propagating stage innermost i) placed → Starts (as_keyword k) None placed
tried_keyword k apart propagating stage innermost (inl _) placed h = word_apart (as_keyword k) (codes "begin") _ refl placed h
tried_keyword k apart propagating stage innermost (inr (inl b)) placed h = lead_keyword k b placed h
tried_keyword k apart propagating stage None (inr (inr (inl i))) placed h = absurd i
tried_keyword k apart propagating stage (Some words) (inr (inr (inl i))) placed h = end_apart (as_keyword k) words _ refl apart placed h
tried_keyword k apart propagating stage innermost (inr (inr (inr i))) placed h = name_apart (as_keyword k) i.0 _ (λ _. refl) placed h

not_pragma : (propagating : Bool) (innermost : Option Closing) (i : Listed propagating innermost) (placed : List Placed) → Spelled (listed_parts propagating innermost i) placed → Starts (as_keyword own.Pragma) None placed
not_pragma propagating innermost (inl i) placed h = word_apart (as_keyword own.Pragma) (codes "type") _ refl placed h
not_pragma propagating innermost (inr i) placed h = tried_keyword own.Pragma refl propagating listing innermost i placed h

-- at the front of a script
abbrev pub Fronted : (propagating : Bool) → Option Closing → Type 0
Fronted propagating innermost = Unit {0} ⊎ Listed propagating innermost

abbrev pub fronted_item : (propagating : Bool) (innermost : Option Closing) → ℕ → Fronted propagating innermost → Item
fronted_item propagating innermost line = either_value (λ _. propagates line) (listed_item propagating innermost line)

abbrev pub fronted_parts : (propagating : Bool) (innermost : Option Closing) → Fronted propagating innermost → List Part
fronted_parts propagating innermost = either_value (λ _. keywords own.Pragma ∷ keywords own.Propagate ∷ marks Semicolon ∷ []) (listed_parts propagating innermost)

pragma_item_exact : (line : ℕ) → Exact (λ (_ : Unit {0}). propagates line) (λ _. keywords own.Propagate ∷ marks Semicolon ∷ []) (pragma_item line)
unfolding pragma_item
pragma_item_exact line =
    recast (seq (single (keyword_looks own.Propagate)) (λ _. mapped (single (mark_looks Semicolon)) (λ _. propagates line)))
    (λ _. (tt, refl, refl)) (λ _. ((tt, tt), refl, refl))

pub in_fronting_exact : (propagating : Bool) (innermost : Option Closing) (line : ℕ) → Exact (fronted_item propagating innermost line) (fronted_parts propagating innermost) (in_fronting propagating innermost line)
unfolding in_fronting
in_fronting_exact propagating innermost line =
    recast (forked (keyword_looks own.Pragma) (λ _. pragma_item_exact line) (in_listing_exact propagating innermost line) (not_pragma propagating innermost))
    (either_by _ (λ _. (inl tt, refl, refl)) (λ i. (inr i, refl, refl)))
    (either_by _ (λ _. (inl (tt, tt), refl, refl)) (λ i. (inr i, refl, refl)))

-- a handler

caught_picked : (k : Keyword) (e : Option Exception) → caught_of k ≡ Some e → k ≡ caught_keyword e
caught_picked own.Pragma e h = absurd (none-some e h)
caught_picked own.Propagate e h = absurd (none-some e h)
caught_picked own.Exception e h = absurd (none-some e h)
caught_picked own.When e h = absurd (none-some e h)
caught_picked own.Others e h = ap caught_keyword (same_Some None e h)
caught_picked own.ProgramError e h = ap caught_keyword (same_Some (Some exception.ProgramError) e h)
caught_picked own.ConstraintError e h = ap caught_keyword (same_Some (Some exception.ConstraintError) e h)
caught_picked own.CapacityError e h = ap caught_keyword (same_Some (Some exception.CapacityError) e h)

caught_again : (e : Option Exception) → caught_of (caught_keyword e) ≡ Some e
caught_again None = refl
caught_again (Some exception.ProgramError) = refl
caught_again (Some exception.ConstraintError) = refl
caught_again (Some exception.CapacityError) = refl

caught_exact : Exact (λ (e : Option Exception). e) (λ e. keywords (caught_keyword e) ∷ []) caught
caught_exact = single (keyword_pick_looks caught_picked caught_again None)

handler_item_exact : (line : ℕ) → Exact (λ (e : Option Exception). catches line e) (λ e. keywords (caught_keyword e) ∷ marks Arrow ∷ []) (handler_item line)
unfolding handler_item
handler_item_exact line =
    recast (seq caught_exact (λ e. mapped (single (mark_looks Arrow)) (λ _. catches line e)))
    (λ i. (i.0, refl, refl)) (λ e. ((e, tt), refl, refl))

abbrev pub handler_parts : Option Exception → List Part
handler_parts e = keywords own.When ∷ keywords (caught_keyword e) ∷ marks Arrow ∷ []

pub in_catching_exact : (line : ℕ) → Exact (λ (e : Option Exception). catches line e) handler_parts (in_catching line)
unfolding in_catching
in_catching_exact line = recast (seq (single (keyword_looks own.When)) (λ _. handler_item_exact line)) (λ i. (i.1, refl, refl)) (λ e. ((tt, e), refl, refl))

-- a statement, or another handler where one may come
abbrev pub Another : (another : Bool) → Type 0
Another true = Option Exception
Another false = ⊥

abbrev pub another_item : (another : Bool) → ℕ → Another another → Item
another_item true line e = catches line e
another_item false line e = absurd e

abbrev pub another_parts : (another : Bool) → Another another → List Part
another_parts true e = handler_parts e
another_parts false e = absurd e

abbrev pub Handled : (another propagating : Bool) → Option Closing → Type 0
Handled another propagating innermost = Another another ⊎ Tried propagating running innermost

abbrev pub handled_item : (another propagating : Bool) (innermost : Option Closing) → ℕ → Handled another propagating innermost → Item
handled_item another propagating innermost line = either_value (another_item another line) (tried_item propagating running innermost line)

abbrev pub handled_parts : (another propagating : Bool) (innermost : Option Closing) → Handled another propagating innermost → List Part
handled_parts another propagating innermost = either_value (another_parts another) (tried_parts propagating running innermost)

pub handled_exact : (another propagating : Bool) (innermost : Option Closing) (line : ℕ)
    → Exact (handled_item another propagating innermost line) (handled_parts another propagating innermost) (handled another propagating innermost line)
unfolding handled
handled_exact true propagating innermost line =
    recast (forked (keyword_looks own.When) (λ _. handler_item_exact line) (tried_exact propagating running innermost line) (tried_keyword own.When refl propagating running innermost))
    (either_by _ (λ i. (inl i.1, refl, refl)) (λ i. (inr i, refl, refl)))
    (either_by _ (λ e. (inl (tt, e), refl, refl)) (λ i. (inr i, refl, refl)))
handled_exact false propagating innermost line =
    recast (tried_exact propagating running innermost line) (λ i. (inr i, refl, refl)) (either_by _ (λ e. absurd e) (λ i. (i, refl, refl)))

-- at the front of a block with declarations
abbrev pub Declares : Type 0
Declares = Typed ⊎ WithName heading

abbrev pub declares_item : ℕ → Declares → Item
declares_item line = either_value (typed_item line) (with_name_item heading line)

abbrev pub declares_parts : Declares → List Part
declares_parts = either_value (λ i. says (codes "type") ∷ typed_parts i) (with_name_parts heading)

type_or_named_exact : (line : ℕ) → Exact (declares_item line) declares_parts (type_or_named line)
unfolding type_or_named
type_or_named_exact line =
    recast (forked (word_looks (codes "type")) (λ _. type_item_exact line) (named_exact heading line) (λ i. free_name (codes "type") reserved_type i.0 (named_parts heading i.1)))
    (either_by _ (λ i. (inl i.1, refl, refl)) (λ i. (inr i, refl, refl)))
    (either_by _ (λ i. (inl (tt, i), refl, refl)) (λ i. (inr i, refl, refl)))

declares_apart : (i : Declares) (placed : List Placed) → Spelled (declares_parts i) placed → Starts (as_word (codes "begin")) None placed
declares_apart (inl i) placed h = word_apart (as_word (codes "begin")) (codes "type") _ refl placed h
declares_apart (inr i) placed h = free_name (codes "begin") reserved_begin i.0 _ placed h

abbrev pub Headed : Type 0
Headed = Unit {0} ⊎ Declares

abbrev pub headed_item : ℕ → Headed → Item
headed_item line = either_value (λ _. begins) (declares_item line)

abbrev pub headed_parts : Headed → List Part
headed_parts = either_value (λ _. says (codes "begin") ∷ []) declares_parts

pub in_heading_exact : (line : ℕ) → Exact (headed_item line) headed_parts (in_heading line)
unfolding in_heading
in_heading_exact line =
    recast (forked (word_looks (codes "begin")) (λ _. give begins) (type_or_named_exact line) declares_apart)
    (either_by _ (λ _. (inl tt, refl, refl)) (λ i. (inr i, refl, refl)))
    (either_by _ (λ _. (inl (tt, tt), refl, refl)) (λ i. (inr i, refl, refl)))

-- in a block of tasks

task_item_exact : (line : ℕ) → Exact (λ (n : List ℕ). opens (task_at line n [])) (λ n. names n ∷ says (codes "is") ∷ []) (task_item line)
unfolding task_item
task_item_exact line = mapped (task_head_exact line) (λ h. opens h)

abbrev pub task_parts : List ℕ → List Part
task_parts n = says (codes "task") ∷ names n ∷ says (codes "is") ∷ []

pub in_tasking_exact : (line : ℕ) → Exact (λ (n : List ℕ). opens (task_at line n [])) task_parts (in_tasking line)
unfolding in_tasking
in_tasking_exact line = recast (seq (single (word_looks (codes "task"))) (λ _. task_item_exact line)) (λ i. (i.1, refl, refl)) (λ n. ((tt, n), refl, refl))

end_of_exact : (words : Closing) → Exact (λ (_ : Unit {0}). closes words) (λ _. end_part words ∷ closing_rest words) (end_of words)
end_of_exact words = recast (seq (single (end_looks words)) (λ _. closing_exact words)) (λ _. (tt, refl, refl)) (λ _. ((tt, tt), refl, refl))

-- a task, or the end of the innermost block, where one is open
abbrev pub Tasked : Option Closing → Type 0
Tasked innermost = List ℕ ⊎ Ending innermost

abbrev pub tasked_item : (innermost : Option Closing) → ℕ → Tasked innermost → Item
tasked_item innermost line = either_value (λ n. opens (task_at line n [])) (ending_item innermost)

abbrev pub tasked_parts : (innermost : Option Closing) → Tasked innermost → List Part
tasked_parts innermost = either_value task_parts (ending_parts innermost)

pub in_tasked_exact : (innermost : Option Closing) (line : ℕ) → Exact (tasked_item innermost line) (tasked_parts innermost) (in_tasked innermost line)
unfolding in_tasked
in_tasked_exact None line = recast (in_tasking_exact line) (λ n. (inl n, refl, refl)) (either_by _ (λ n. (n, refl, refl)) (λ i. absurd i))
in_tasked_exact (Some words) line =
    recast (forked (word_looks (codes "task")) (λ _. task_item_exact line) (end_of_exact words) (λ _. end_apart (as_word (codes "task")) words _ refl refl))
    (either_by _ (λ i. (inl i.1, refl, refl)) (λ _. (inr tt, refl, refl)))
    (either_by _ (λ n. (inl (tt, n), refl, refl)) (λ _. (inr tt, refl, refl)))

-- at the front of a task

local_item_exact : (line : ℕ) (n : List ℕ) → Exact (λ (_ : Unit {0}). declares (IntVar line n)) (λ _. marks Semicolon ∷ []) (local_item line n)
unfolding local_item
local_item_exact line n = mapped (integer_end_exact line n) (λ decl. declares decl)

abbrev pub local_parts : List ℕ → List Part
local_parts n = names n ∷ marks Colon ∷ says (codes "integer") ∷ marks Semicolon ∷ []

local_exact : (line : ℕ) → Exact (λ (n : List ℕ). declares (IntVar line n)) local_parts (local line)
unfolding local
local_exact line =
    recast (seq (single name_looks) (λ n. seq (single (mark_looks Colon)) (λ _. seq (single (word_looks (codes "integer"))) (λ _. local_item_exact line n))))
    (λ i. (i.0, refl, refl)) (λ n. ((n, (tt, (tt, tt))), refl, refl))

-- `begin`, or a local
abbrev pub Prepared : Type 0
Prepared = Unit {0} ⊎ List ℕ

abbrev pub prepared_item : ℕ → Prepared → Item
prepared_item line = either_value (λ _. begins) (λ n. declares (IntVar line n))

abbrev pub prepared_parts : Prepared → List Part
prepared_parts = either_value (λ _. says (codes "begin") ∷ []) local_parts

pub in_preparing_exact : (line : ℕ) → Exact (prepared_item line) prepared_parts (in_preparing line)
unfolding in_preparing
in_preparing_exact line =
    recast (forked (word_looks (codes "begin")) (λ _. give begins) (local_exact line) (λ n. free_name (codes "begin") reserved_begin n _))
    (either_by _ (λ _. (inl tt, refl, refl)) (λ n. (inr n, refl, refl)))
    (either_by _ (λ _. (inl (tt, tt), refl, refl)) (λ n. (inr n, refl, refl)))
