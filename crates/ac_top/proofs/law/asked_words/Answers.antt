use Rattle.std.proofs.Common.{refl}
use Rattle.clap.proofs.OnLiterals.{clap_on_literals}
use Rattle.ac_top.specs.Words.{asked_by}
use Rattle.ac_top.proofs.law.asked_words.Goals as goal

pub returns-clause-none : goal.returns-clause-none
unfolding asked_by clap_on_literals
returns-clause-none c = refl

pub returns-clause-audit : goal.returns-clause-audit
unfolding asked_by clap_on_literals
returns-clause-audit c = refl

pub returns-clause-check : goal.returns-clause-check
unfolding asked_by clap_on_literals
returns-clause-check c = refl

pub returns-clause-generate : goal.returns-clause-generate
unfolding asked_by clap_on_literals
returns-clause-generate c = refl

pub returns-clause-before : goal.returns-clause-before
unfolding asked_by clap_on_literals
returns-clause-before c = refl

pub returns-clause-audited_check : goal.returns-clause-audited_check
unfolding asked_by clap_on_literals
returns-clause-audited_check c = refl

pub returns-clause-audited_size : goal.returns-clause-audited_size
unfolding asked_by clap_on_literals
returns-clause-audited_size c = refl

pub returns-clause-joined : goal.returns-clause-joined
unfolding asked_by clap_on_literals
returns-clause-joined c = refl

pub returns-clause-plus : goal.returns-clause-plus
unfolding asked_by clap_on_literals
returns-clause-plus c = refl

pub returns-clause-zeros : goal.returns-clause-zeros
unfolding asked_by clap_on_literals
returns-clause-zeros c = refl

pub returns-clause-most : goal.returns-clause-most
unfolding asked_by clap_on_literals
returns-clause-most c = refl

pub returns-clause-trailing : goal.returns-clause-trailing
unfolding asked_by clap_on_literals
returns-clause-trailing c = refl

pub returns-clause-too_small : goal.returns-clause-too_small
unfolding asked_by clap_on_literals
returns-clause-too_small c = refl

pub returns-clause-too_large : goal.returns-clause-too_large
unfolding asked_by clap_on_literals
returns-clause-too_large c = refl

pub returns-clause-no_number : goal.returns-clause-no_number
unfolding asked_by clap_on_literals
returns-clause-no_number c = refl

pub returns-clause-negative : goal.returns-clause-negative
unfolding asked_by clap_on_literals
returns-clause-negative c = refl

pub returns-clause-alone : goal.returns-clause-alone
unfolding asked_by clap_on_literals
returns-clause-alone c = refl

pub returns-clause-twice : goal.returns-clause-twice
unfolding asked_by clap_on_literals
returns-clause-twice c = refl

pub returns-clause-valued : goal.returns-clause-valued
unfolding asked_by clap_on_literals
returns-clause-valued c = refl

pub returns-clause-help : goal.returns-clause-help
unfolding asked_by clap_on_literals
returns-clause-help c = refl

pub returns-clause-other : goal.returns-clause-other
unfolding asked_by clap_on_literals
returns-clause-other c = refl

pub returns-clause-ask : goal.returns-clause-ask
unfolding asked_by clap_on_literals
returns-clause-ask c = refl

pub returns-clause-audited_ask : goal.returns-clause-audited_ask
unfolding asked_by clap_on_literals
returns-clause-audited_ask c = refl

pub returns-clause-checked_ask : goal.returns-clause-checked_ask
unfolding asked_by clap_on_literals
returns-clause-checked_ask c = refl

pub returns-clause-asked_size : goal.returns-clause-asked_size
unfolding asked_by clap_on_literals
returns-clause-asked_size c = refl

pub returns-clause-joined_ask : goal.returns-clause-joined_ask
unfolding asked_by clap_on_literals
returns-clause-joined_ask c = refl

pub returns-clause-empty_ask : goal.returns-clause-empty_ask
unfolding asked_by clap_on_literals
returns-clause-empty_ask c = refl

pub returns-clause-asked_nothing : goal.returns-clause-asked_nothing
unfolding asked_by clap_on_literals
returns-clause-asked_nothing c = refl

pub returns-clause-asked_twice : goal.returns-clause-asked_twice
unfolding asked_by clap_on_literals
returns-clause-asked_twice c = refl

pub returns-clause-save : goal.returns-clause-save
unfolding asked_by clap_on_literals
returns-clause-save c = refl

pub returns-clause-resume : goal.returns-clause-resume
unfolding asked_by clap_on_literals
returns-clause-resume c = refl

pub returns-clause-resume_all : goal.returns-clause-resume_all
unfolding asked_by clap_on_literals
returns-clause-resume_all c = refl

pub returns-clause-checked_resume : goal.returns-clause-checked_resume
unfolding asked_by clap_on_literals
returns-clause-checked_resume c = refl

pub returns-clause-saved_size : goal.returns-clause-saved_size
unfolding asked_by clap_on_literals
returns-clause-saved_size c = refl

pub returns-clause-saved_twice : goal.returns-clause-saved_twice
unfolding asked_by clap_on_literals
returns-clause-saved_twice c = refl

pub returns-clause-valued_resume : goal.returns-clause-valued_resume
unfolding asked_by clap_on_literals
returns-clause-valued_resume c = refl
