use Rattle.ac_aggregate.proofs.Asking.{not_both, one_kind}
use Rattle.ac_aggregate.proofs.EachText.{each_word}
use Rattle.ac_aggregate.proofs.OneQuestion.{asks_one}
use Rattle.ac_aggregate.proofs.law.one_question.Goals as goal

pub returns-clause-one : goal.returns-clause-one
returns-clause-one c = asks_one

pub returns-clause-each : goal.returns-clause-each
returns-clause-each c = each_word

pub returns-clause-not_both : goal.returns-clause-not_both
returns-clause-not_both c = not_both

pub returns-clause-one_reason : goal.returns-clause-one_reason
returns-clause-one_reason c = one_kind
