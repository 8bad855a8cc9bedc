use Rattle.std.proofs.Common.{◌≡◌, map, drop}
use Rattle.ac_syntax.specs.Items.{declares}
use Rattle.ac_printer.specs.Page.{put_items}
use Rattle.ac_printer.proofs.declaration.put_declarations.Given as goal

abbrev pub invariant-loop-decl : goal.invariant-loop-decl
invariant-loop-decl l = put_items l.page (map declares (drop l.decl-index l.decl-items)) ≡ put_items l.initial.page (map declares l.decls)
