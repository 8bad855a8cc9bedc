use Rattle.ac_top.specs.Modes.{meant_by}
use Rattle.ac_top.proofs.Becoming.{each_becoming, one_becoming}
use Rattle.ac_top.proofs.Beginning.{each_of_script, one_beginning}
use Rattle.ac_top.proofs.Checked as checked
use Rattle.ac_top.proofs.Meant as meant
use Rattle.ac_top.proofs.law.one_meaning.Goals as goal

pub returns-clause-some : goal.returns-clause-some
returns-clause-some c = meant.each_meaning

pub returns-clause-one : goal.returns-clause-one
returns-clause-one c = meant.one_meaning

pub returns-clause-by_orders : goal.returns-clause-by_orders
returns-clause-by_orders c orders task asking beginning s = checked.one_meaning (meant_by orders task asking beginning s)

pub returns-clause-serial : goal.returns-clause-serial
returns-clause-serial c = meant.serial_meaning

pub returns-clause-beginning : goal.returns-clause-beginning
returns-clause-beginning c = each_of_script

pub returns-clause-one_beginning : goal.returns-clause-one_beginning
returns-clause-one_beginning c = one_beginning

pub returns-clause-question : goal.returns-clause-question
returns-clause-question c = each_becoming

pub returns-clause-one_question : goal.returns-clause-one_question
returns-clause-one_question c = one_becoming
