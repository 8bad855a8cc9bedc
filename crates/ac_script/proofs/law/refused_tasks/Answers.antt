use Rattle.std.proofs.Common.{false, drop, List, [], ◌∷◌, refl}
use Rattle.std.specs.Prelude.{codes, None}
use Rattle.ac_syntax.specs.declared.closing.Closing.TheVariants.{EndTasks, EndTask}
use Rattle.ac_syntax.specs.declared.token.Mark.TheVariants.{Semicolon}
use Rattle.ac_syntax.specs.declared.token.Token.TheVariants as token
use Rattle.ac_syntax.specs.Code.{call_at, tasks_at, task_at}
use Rattle.ac_syntax.specs.Items.{Item, commands, opens, begins, closes}
use Rattle.ac_syntax.specs.Parts.{item_parts}
use Rattle.ac_syntax.specs.Grammar.{reserved, is_reserved}
use Rattle.ac_syntax.specs.Canonical.{on_line}
use Rattle.ac_syntax.specs.Examples.{lines}
use Rattle.ac_syntax.specs.Order.{tasking, tasked, preparing, stepping, at_front, Context}
use Rattle.ac_syntax.specs.Keywords.{script_cut}
use Rattle.ac_syntax.proofs.Orders.{at}
use Rattle.ac_script.specs.Heads.{lead_of, other_lead}
use Rattle.ac_script.specs.ItemReader.{in_fronting, in_listing, tried, statement, ended, named, in_tasking, in_tasked, in_preparing, local, closing}
use Rattle.ac_script.specs.RefusalExamples.{in_task_text}
use Rattle.ac_script.proofs.Refused.{stops_at}
use Rattle.ac_script.proofs.law.refused_tasks.Goals as goal

pub returns-clause-no_task : goal.returns-clause-no_task
unfolding reserved is_reserved item_parts in_tasking
returns-clause-no_task c =
    let placed = (script_cut (lines ([] ∷ codes "tasks" ∷ codes "end tasks;" ∷ []))).placed in
    stops_at (lines ([] ∷ codes "tasks" ∷ codes "end tasks;" ∷ [])) (opens (tasks_at 2) ∷ []) (at false (EndTasks ∷ []) tasking) (drop 1 placed) (drop 2 placed) (on_line 3 (token.Word (codes "end"))) refl refl refl refl refl

pub returns-clause-bare_task : goal.returns-clause-bare_task
unfolding reserved is_reserved in_fronting in_listing tried statement lead_of other_lead ended named
returns-clause-bare_task c =
    let placed = (script_cut (lines ([] ∷ codes "task T" ∷ []))).placed in
    stops_at (lines ([] ∷ codes "task T" ∷ [])) [] at_front placed (drop 1 placed) (on_line 2 (token.Word (codes "task"))) refl refl refl refl refl

-- the items of a task that has begun
abbrev task_items : List Item
task_items = opens (tasks_at 1) ∷ opens (task_at 2 (codes "t") []) ∷ begins ∷ []

abbrev in_task : Context
in_task = at false (EndTask ∷ EndTasks ∷ []) stepping

abbrev behind_task : Context
behind_task = at false (EndTasks ∷ []) tasked

pub returns-clause-block_inside : goal.returns-clause-block_inside
unfolding reserved is_reserved item_parts ended named
returns-clause-block_inside c =
    let placed = (script_cut (in_task_text (codes "stable A do end;" ∷ []))).placed in
    stops_at (in_task_text (codes "stable A do end;" ∷ [])) task_items in_task (drop 5 placed) (drop 6 placed) (on_line 3 (token.Word (codes "stable"))) refl refl refl refl refl

pub returns-clause-task_inside : goal.returns-clause-task_inside
unfolding reserved is_reserved item_parts ended named
returns-clause-task_inside c =
    let placed = (script_cut (in_task_text (codes "task U" ∷ []))).placed in
    stops_at (in_task_text (codes "task U" ∷ [])) task_items in_task (drop 5 placed) (drop 6 placed) (on_line 3 (token.Word (codes "task"))) refl refl refl refl refl

-- and of one that has ended
abbrev ended_items : List Item
ended_items = opens (tasks_at 1) ∷ opens (task_at 2 (codes "t") []) ∷ begins ∷ commands (call_at 3 None (codes "a") (codes "print") []) ∷ closes EndTask ∷ []

pub returns-clause-command_behind : goal.returns-clause-command_behind
unfolding reserved is_reserved item_parts in_tasked
returns-clause-command_behind c =
    let placed = (script_cut (in_task_text (codes "A.Print; end;" ∷ codes "A.Print;" ∷ []))).placed in
    stops_at (in_task_text (codes "A.Print; end;" ∷ codes "A.Print;" ∷ [])) ended_items behind_task (drop 11 placed) (drop 12 placed) (on_line 4 (token.Word (codes "a"))) refl refl refl refl refl

pub returns-clause-bare_end : goal.returns-clause-bare_end
unfolding reserved is_reserved item_parts in_tasked closing
returns-clause-bare_end c =
    let placed = (script_cut (in_task_text (codes "A.Print; end;" ∷ codes "end" ∷ codes ";" ∷ []))).placed in
    stops_at (in_task_text (codes "A.Print; end;" ∷ codes "end" ∷ codes ";" ∷ [])) ended_items behind_task (drop 11 placed) (drop 13 placed) (on_line 5 (token.Mark Semicolon)) refl refl refl refl refl

pub returns-clause-text_inside : goal.returns-clause-text_inside
unfolding reserved is_reserved item_parts in_preparing local
returns-clause-text_inside c =
    let placed = (script_cut (lines (codes "tasks" ∷ codes "task T is" ∷ codes "X : " ∷ codes "string;" ∷ []))).placed in
    stops_at (lines (codes "tasks" ∷ codes "task T is" ∷ codes "X : " ∷ codes "string;" ∷ [])) (opens (tasks_at 1) ∷ opens (task_at 2 (codes "t") []) ∷ []) (at false (EndTask ∷ EndTasks ∷ []) preparing)
    (drop 4 placed) (drop 7 placed) (on_line 4 (token.Word (codes "string"))) refl refl refl refl refl
