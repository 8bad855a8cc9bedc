use Rattle.std.proofs.Common.{◌≡◌, subst}
use Rattle.ac_model.specs.Cursors.{plain_mark}
use Rattle.ac_meaning.specs.Walks.{first_mark}
use Rattle.ac_objects.specs.Given.{GivenBy}
use Rattle.ac_objects.proofs.Walked.{next_given, next_marks, err_never}
use Rattle.ac_objects.proofs.walking.next_in.Goals as goal

pub returns-in-Ok-At-clause-given : goal.returns-in-Ok-At-clause-given
returns-in-Ok-At-clause-given g c =
    let o = (g.C.RowObject.rows c.args.object.now).object in
    subst (λ k. GivenBy o k) c.in-Ok-At.field-0-is (next_given o c.args.backward c.args.at c.requires c.law.ensures c.in-Ok-At.field-0 c.in-Ok-At.ensures.1)

pub returns-in-Ok-At-clause-next : goal.returns-in-Ok-At-clause-next
returns-in-Ok-At-clause-next g c before name after e stands =
    let o = (g.C.RowObject.rows c.args.object.now).object in
    subst (λ k. plain_mark k ≡ first_mark o.number after) c.in-Ok-At.field-0-is
    (next_marks o c.args.backward c.args.at c.requires c.law.ensures before name after e stands c.in-Ok-At.field-0 c.in-Ok-At.ensures.1)

pub returns-in-Ok-NoElement-clause-next : goal.returns-in-Ok-NoElement-clause-next
returns-in-Ok-NoElement-clause-next g c before name after e stands =
    let o = (g.C.RowObject.rows c.args.object.now).object in
    subst (λ k. plain_mark k ≡ first_mark o.number after) c.in-Ok-NoElement.field-0-is
    (next_marks o c.args.backward c.args.at c.requires c.law.ensures before name after e stands c.in-Ok-NoElement.field-0 c.in-Ok-NoElement.ensures.1)

pub returns-in-Err-clause-given : goal.returns-in-Err-clause-given
returns-in-Err-clause-given g c = record { number = tt; agrees = tt }

pub returns-in-Err-clause-next : goal.returns-in-Err-clause-next
returns-in-Err-clause-next g c before name after e stands =
    absurd (err_never (g.C.RowObject.rows c.args.object.now).object c.args.backward c.args.at c.requires c.law.ensures before name after e stands _ c.in-Err.ensures)
