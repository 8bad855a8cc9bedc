-- The limits of a script's text, each a test of one token behind what was seen of the tokens before it.
use Rattle.std.specs.Prelude.{◌≡◌, ◌+◌, ◌-◌, ◌^◌, ◌&&◌, ◌||◌, ℕ, nat_lt, nat_le, codes, Bool, true, false, not, List, [], ◌∷◌, ◌++◌, length, if◌then◌else◌}
use Rattle.std.specs.List.{list_any, fold}
use Rattle.std.specs.Str.{bytes_eq}
use denote.Enum.Bare.{sameb}
use Rattle.ac_syntax.specs.contracts.token.Mark.{the_type}
use Rattle.ac_syntax.specs.declared.token.Token.{Token}
use Rattle.ac_syntax.specs.declared.token.Token.TheVariants as token
use Rattle.ac_syntax.specs.declared.token.Mark.{Mark}
use Rattle.ac_syntax.specs.declared.token.Mark.TheVariants.{Semicolon, Comma, Open, Assign, Minus}

abbrev pub is_mark : Mark → Token → Bool
is_mark mark (token.Word _) = false
is_mark mark (token.Keyword _) = false
is_mark mark (token.Number _) = false
is_mark mark (token.Text _) = false
is_mark mark (token.Mark found) = sameb the_type found mark

abbrev pub is_word_of : List (List ℕ) → Token → Bool
is_word_of words (token.Word word) = list_any (bytes_eq word) words
is_word_of words (token.Keyword _) = false
is_word_of words (token.Number _) = false
is_word_of words (token.Text _) = false
is_word_of words (token.Mark _) = false

-- the first words of blocks, but for `begin`
abbrev pub block_words : List (List ℕ)
block_words =
    codes "for" ∷ codes "query" ∷ codes "update" ∷ codes "update_key" ∷ codes "reference" ∷ codes "stable" ∷ codes "declare" ∷ codes "tasks" ∷ []

-- the word that ends any of them, and a task
abbrev pub end_words : List (List ℕ)
end_words = codes "end" ∷ []

-- the first word of a block of tasks, of a task, and of its commands
abbrev pub tasks_words : List (List ℕ)
tasks_words = codes "tasks" ∷ []

abbrev pub task_words : List (List ℕ)
task_words = codes "task" ∷ []

abbrev pub begin_words : List (List ℕ)
begin_words = codes "begin" ∷ []

abbrev pub declare_words : List (List ℕ)
declare_words = codes "declare" ∷ []

-- a literal may begin behind these marks
abbrev pub is_before_literal : Token → Bool
is_before_literal t = is_mark Open t || is_mark Comma t || is_mark Assign t

-- how far a task has come
pub data Progress : Type 0 where
  -- no task is open
  no_task : Progress
  -- at its front, up to `begin`
  task_opened : Progress
  -- a command of it comes, or its end
  command_due : Progress
  in_command : Progress

abbrev pub is_open : Progress → Bool
is_open no_task = false
is_open task_opened = true
is_open command_due = true
is_open in_command = true

abbrev pub is_at_front : Progress → Bool
is_at_front no_task = false
is_at_front task_opened = true
is_at_front command_due = false
is_at_front in_command = false

abbrev pub is_due : Progress → Bool
is_due no_task = false
is_due task_opened = false
is_due command_due = true
is_due in_command = false

-- the same behind one token more, which neither begins nor ends a task
abbrev pub goes_on : Progress → Token → Progress
goes_on no_task token = no_task
goes_on task_opened token = if is_word_of begin_words token then command_due else task_opened
goes_on command_due token = in_command
goes_on in_command token = if is_mark Semicolon token then command_due else in_command

-- and behind any
abbrev pub progress_after : Progress → Token → Progress
progress_after progress token =
    if is_word_of task_words token then task_opened
    else if is_word_of end_words token then no_task
    else goes_on progress token

-- what the tokens so far say of the limits of the next one
pub record Seen : Type 0 where
  -- how many blocks are open, of which a task is none
  pub depth : ℕ
  -- a literal may begin here
  pub opened : Bool
  -- the last token is a literal's minus
  pub minus : Bool
  -- the last token is `end`
  pub ended : Bool
  -- the declarations of a block await its `begin`
  pub awaited : Bool
  -- how many tasks the open block of tasks has so far
  pub tasks : ℕ
  pub progress : Progress
  -- how many commands the task has so far
  pub commands : ℕ

abbrev pub none_seen : Seen
none_seen = record { depth = 0; opened = false; minus = false; ended = false; awaited = false; tasks = 0; progress = no_task; commands = 0 }

-- `begin` is the first word of a block where neither a block's declarations nor a task's locals await it
abbrev pub begins_handled : Seen → Token → Bool
begins_handled seen token = is_word_of begin_words token && (not seen.awaited && not (is_at_front seen.progress))

-- a block begins with this token; `tasks` behind `end` begins none
abbrev pub begins_block : Seen → Token → Bool
begins_block seen token = (is_word_of block_words token && not seen.ended) || begins_handled seen token

-- a command of a task begins with this token
abbrev pub begins_command : Seen → Token → Bool
begins_command seen token = is_due seen.progress && not (is_word_of end_words token)

-- a block begins with its first word, and ends at its own `end`
abbrev pub depth_after : Seen → Token → ℕ
depth_after seen token =
    if begins_block seen token then seen.depth + 1
    else if is_word_of end_words token && not (is_open seen.progress) then seen.depth - 1
    else seen.depth

abbrev pub awaited_after : Seen → Token → Bool
awaited_after seen token = is_word_of declare_words token || (seen.awaited && not (is_word_of begin_words token))

abbrev pub tasks_after : Seen → Token → ℕ
tasks_after seen token =
    if is_word_of tasks_words token then 0
    else if is_word_of task_words token then seen.tasks + 1
    else seen.tasks

abbrev pub commands_after : Seen → Token → ℕ
commands_after seen token =
    if is_word_of task_words token then 0
    else if begins_command seen token then seen.commands + 1
    else seen.commands

-- the same behind one token more
abbrev pub seen_after : Seen → Token → Seen
seen_after seen token =
    record {
      depth = depth_after seen token;
      opened = is_before_literal token;
      minus = is_mark Minus token && seen.opened;
      ended = is_word_of end_words token;
      awaited = awaited_after seen token;
      tasks = tasks_after seen token;
      progress = progress_after seen.progress token;
      commands = commands_after seen token;
    }

abbrev pub seen_of : List Token → Seen
seen_of tokens = fold seen_after none_seen tokens

-- the greatest number that may stand behind what was seen
abbrev pub most : Seen → ℕ
most seen = if seen.minus then 2 ^ 63 else 2 ^ 63 - 1

-- a block at depth 17 begins with this word, or the ninth task of a block, or the 1,001st command of a task
abbrev pub is_one_too_many : Seen → Token → Bool
is_one_too_many seen token =
    (begins_block seen token && nat_le 16 seen.depth)
    || ((is_word_of task_words token && nat_le 8 seen.tasks) || (begins_command seen token && nat_le 1000 seen.commands))

-- this token, behind what was seen, is past a limit
abbrev pub is_past_limit : Seen → Token → Bool
is_past_limit seen (token.Word word) = nat_lt 64 (length word) || is_one_too_many seen (token.Word word)
is_past_limit seen (token.Keyword _) = false
is_past_limit seen (token.Number n) = nat_lt (most seen) n
is_past_limit seen (token.Text bytes) = nat_lt 1000 (length bytes)
is_past_limit seen (token.Mark _) = false

-- no token is past a limit
abbrev pub AreWithinLimits : List Token → Type 0
AreWithinLimits all = (before after : List Token) (token : Token) → all ≡ before ++ token ∷ after → is_past_limit (seen_of before) token ≡ false
