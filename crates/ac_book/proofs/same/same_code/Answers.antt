use Rattle.std.proofs.Common.{rules}
use Rattle.ac_book.specs.Tasks.{code_of}
use Rattle.ac_book.proofs.Alike.{refuted, differ_at}
use Rattle.ac_book.proofs.same.same_code.Goals as goal

pub returns-then-not-has_same_code : goal.returns-then-not-has_same_code
returns-then-not-has_same_code c =
    refuted (differ_at code_of c.args.tasks.now c.args.others.now c.loop-i.i c.index-tasks-i.result c.index-others-i.result c.has_same_code.result c.index-tasks-i.is c.index-others-i.is (search rules) (search rules) c.has_same_code.ensures (search rules))
