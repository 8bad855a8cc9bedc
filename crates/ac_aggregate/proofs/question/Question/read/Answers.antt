use Rattle.ac_aggregate.specs.Refusals.{outermost}
use Rattle.ac_aggregate.proofs.Asking.{taken_so, refused_so, takes, refuses}
use Rattle.ac_aggregate.proofs.question.Question.read.Goals as goal

pub returns-clause-taken : goal.returns-clause-taken
returns-clause-taken c = taken_so (outermost c.args.decls.now) c.args.word.now c.answer.result (rw c.items.ensures at c.answer.ensures)

pub returns-clause-refused : goal.returns-clause-refused
returns-clause-refused c kind is = refused_so (outermost c.args.decls.now) c.args.word.now c.answer.result kind (rw c.items.ensures at c.answer.ensures) is

pub returns-clause-takes : goal.returns-clause-takes
returns-clause-takes c q taken = takes (outermost c.args.decls.now) c.args.word.now c.answer.result q (rw c.items.ensures at c.answer.ensures) taken

pub returns-clause-refuses : goal.returns-clause-refuses
returns-clause-refuses c kind refused = refuses (outermost c.args.decls.now) c.args.word.now c.answer.result kind (rw c.items.ensures at c.answer.ensures) refused
