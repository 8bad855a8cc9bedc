use Rattle.std.proofs.Common.{◌∙◌}
use Rattle.ac_printer.proofs.Pages.{ends_alike}
use Rattle.ac_printer.proofs.block.put_handlers_end.Goals as goal

pub returns : goal.returns
returns c handlers = c.in_ok-put_end.ensures ∙ ends_alike _ handlers
