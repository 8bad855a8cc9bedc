use Rattle.std.proofs.Common.{refl, take, drop, [], ◌∷◌, ◌++◌}
use Rattle.std.specs.Prelude.{codes}
use Rattle.ac_syntax.specs.Code.{tasks_at, task_at, stop, block}
use Rattle.ac_syntax.specs.declared.script.Script.{Script}
use Rattle.ac_syntax.specs.declared.token.Token.TheVariants as token
use Rattle.ac_syntax.specs.Parts.{item_parts}
use Rattle.ac_syntax.specs.Grammar.{reserved, is_reserved}
use Rattle.ac_syntax.specs.Tokens.{tokens}
use Rattle.ac_syntax.specs.Canonical.{canonical_placed, on_line}
use Rattle.ac_syntax.specs.Examples.{two_lines, heads_text}
use Rattle.ac_syntax.specs.TaskExamples.{with_tasks, tasks_text, a_block_text, task_blocks, deep_with}
use Rattle.ac_syntax.proofs.Derivations.{script_derives}
use Rattle.ac_syntax.proofs.Withins.{within}
use Rattle.ac_syntax.proofs.FirstFaults.{limit_at}
use Rattle.ac_syntax.proofs.law.task_limits.Goals as goal

pub returns-clause-tasks_8 : goal.returns-clause-tasks_8
unfolding reserved is_reserved item_parts canonical_placed
returns-clause-tasks_8 c = record { whole = refl; derives = script_derives (with_tasks 8) refl; within = within (tokens (canonical_placed (with_tasks 8))) refl }

-- a task is six tokens
pub returns-clause-task_9 : goal.returns-clause-task_9
unfolding reserved is_reserved item_parts canonical_placed
returns-clause-task_9 c =
    limit_at (tasks_text 9) (with_tasks 9) (take 49 (canonical_placed (with_tasks 9))) (drop 50 (canonical_placed (with_tasks 9))) (drop 50 (canonical_placed (with_tasks 9)))
    (on_line 10 (token.Word (codes "task"))) refl refl refl refl refl

abbrev at_16 : Script
at_16 = two_lines (deep_with 3 15 (task_blocks 18 2))

pub returns-clause-depth_16 : goal.returns-clause-depth_16
unfolding reserved is_reserved item_parts canonical_placed
returns-clause-depth_16 c = record { whole = refl; derives = script_derives at_16 refl; within = within (tokens (canonical_placed at_16)) refl }

abbrev at_17 : Script
at_17 = two_lines (deep_with 3 16 (task_blocks 19 1))

pub returns-clause-depth_17 : goal.returns-clause-depth_17
unfolding reserved is_reserved item_parts canonical_placed
returns-clause-depth_17 c =
    limit_at (heads_text 16 ++ codes "tasks") at_17 (take 60 (canonical_placed at_17)) [] (drop 61 (canonical_placed at_17))
    (on_line 19 (token.Word (codes "tasks"))) refl refl refl refl refl

abbrev behind_tasks : Script
behind_tasks = two_lines (deep_with 3 15 (block (tasks_at 18) (block (task_at 18 (codes "t") []) stop stop) (deep_with 19 2 stop)))

pub returns-clause-behind : goal.returns-clause-behind
unfolding reserved is_reserved item_parts canonical_placed
returns-clause-behind c =
    limit_at (heads_text 15 ++ (a_block_text ++ 10 ∷ codes "stable A do" ++ 10 ∷ codes "stable")) behind_tasks (take 70 (canonical_placed behind_tasks)) [] (drop 71 (canonical_placed behind_tasks))
    (on_line 20 (token.Word (codes "stable"))) refl refl refl refl refl
