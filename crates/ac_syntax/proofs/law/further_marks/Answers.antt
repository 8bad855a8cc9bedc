use Rattle.ac_syntax.proofs.FurtherMarks.{item_without, begun_without, refused_at}
use Rattle.ac_syntax.proofs.law.further_marks.Goals as goal

pub returns-clause-items : goal.returns-clause-items
returns-clause-items c = item_without

pub returns-clause-begun : goal.returns-clause-begun
returns-clause-begun c = begun_without

pub returns-clause-refused : goal.returns-clause-refused
returns-clause-refused c = refused_at
