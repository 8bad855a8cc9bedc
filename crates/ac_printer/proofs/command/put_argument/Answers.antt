use Rattle.ac_printer.proofs.command.put_argument.Goals as goal

pub returns-in-NoElement : goal.returns-in-NoElement
returns-in-NoElement c = rw c.in-NoElement.is c.word.ensures
