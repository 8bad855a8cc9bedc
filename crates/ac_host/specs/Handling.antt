-- Which handler takes an exception.
use Rattle.std.specs.Prelude.{Option, Some, None, if◌then◌else◌}
use Rattle.ac_base.specs.declared.reason.Exception.{Exception}
use Rattle.ac_rules.specs.Resolved.{ResolvedCode, no_statement, a_command, a_block}
use Rattle.ac_meaning.specs.Execution.{takes}

-- the statements of the first that does
abbrev pub handler_in : ResolvedCode → Exception → Option ResolvedCode
handler_in no_statement raised = None
handler_in (a_command simple rest) raised = handler_in rest raised
handler_in (a_block head body rest) raised = if takes head raised then Some body else handler_in rest raised
