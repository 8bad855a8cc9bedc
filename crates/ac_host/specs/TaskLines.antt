-- The lines of a block of tasks.
use Rattle.std.specs.Prelude.{Option, Some, None}
use Rattle.ac_history.specs.declared.entry.Reply.{Reply}
use Rattle.ac_calls.specs.Answers.{Answer, answers_stalled}
use Rattle.ac_meaning.specs.TaskBlocks.{reply_answer}

-- what a step answered, or that it is stalled
abbrev pub shown : Option Reply → Answer
shown None = answers_stalled
shown (Some answer) = reply_answer answer
