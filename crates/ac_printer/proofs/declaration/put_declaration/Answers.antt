use Rattle.ac_syntax.specs.Parts.{item_parts}
use Rattle.ac_printer.proofs.declaration.put_declaration.Goals as goal

pub returns-in-IntVar : goal.returns-in-IntVar
unfolding item_parts
returns-in-IntVar c = rw c.in-IntVar.is c.put_variable.ensures

pub returns-in-TextVar : goal.returns-in-TextVar
unfolding item_parts
returns-in-TextVar c = rw c.in-TextVar.is c.put_variable-in-TextVar.ensures
