use Rattle.ac_rules.proofs.FirstFaults as first
use Rattle.ac_rules.proofs.law.one_fault.Goals as goal

pub returns-clause-one : goal.returns-clause-one
returns-clause-one c = first.one_fault

pub returns-clause-none : goal.returns-clause-none
returns-clause-none c = first.no_fault
