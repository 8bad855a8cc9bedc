-- Whether statements have a block of tasks.
use Rattle.std.specs.Prelude.{Bool, true, false, ◌||◌}
use Rattle.ac_rules.specs.Resolved.{ResolvedHead, loops_at, views_at, stables_at, declares_at, gathers_at, works_at, begins_at, tries_at, handles_at, ResolvedCode, no_statement, a_command, a_block}

abbrev pub begins_tasks : ResolvedHead → Bool
begins_tasks (loops_at line elements backward object) = false
begins_tasks (views_at line kind object at) = false
begins_tasks (stables_at line object) = false
begins_tasks (declares_at line decls) = false
begins_tasks (gathers_at line) = true
begins_tasks (works_at line name locals) = false
begins_tasks begins_at = false
begins_tasks tries_at = false
begins_tasks (handles_at catches) = false

abbrev pub has_tasks : ResolvedCode → Bool
has_tasks no_statement = false
has_tasks (a_command simple rest) = has_tasks rest
has_tasks (a_block head body rest) = (begins_tasks head || has_tasks body) || has_tasks rest
