use Rattle.std.proofs.Common.{refl}
use Rattle.ac_syntax.specs.Grammar.{is_reserved, reserved}
use Rattle.ac_aggregate.specs.Grammar.{is_name}
use Rattle.ac_aggregate.specs.Readers.{heading, spelled, negation, reducing, signed_number}
use Rattle.ac_aggregate.specs.Reading.{read_by}
use Rattle.ac_aggregate.proofs.Judged.{takes_by}
use Rattle.ac_aggregate.proofs.law.question_examples.Goals as goal

pub returns-clause-takes_loosely : goal.returns-clause-takes_loosely
unfolding read_by heading spelled negation reducing signed_number is_name is_reserved reserved
returns-clause-takes_loosely c = takes_by _ _ _ refl refl refl refl

pub returns-clause-takes_reduction : goal.returns-clause-takes_reduction
unfolding read_by heading spelled negation reducing signed_number is_name is_reserved reserved
returns-clause-takes_reduction c = takes_by _ _ _ refl refl refl refl

pub returns-clause-takes_nested : goal.returns-clause-takes_nested
unfolding read_by heading spelled negation reducing signed_number is_name is_reserved reserved
returns-clause-takes_nested c = takes_by _ _ _ refl refl refl refl
