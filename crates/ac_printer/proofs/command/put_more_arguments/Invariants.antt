use Rattle.std.proofs.Common.{◌≡◌, drop}
use Rattle.ac_syntax.specs.Parts.{more_args}
use Rattle.ac_printer.specs.Page.{put_parts}
use Rattle.ac_printer.proofs.command.put_more_arguments.Given as goal

abbrev pub invariant-loop-arg : goal.invariant-loop-arg
invariant-loop-arg l = put_parts l.page (more_args (drop l.arg-index l.args)) ≡ put_parts l.initial.page (more_args l.args)
