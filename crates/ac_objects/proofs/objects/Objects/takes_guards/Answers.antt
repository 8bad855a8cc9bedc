use Rattle.std.proofs.Common.{sym, ap, ◌∙◌}
use Rattle.ac_meaning.specs.Environment.{only_guarded}
use Rattle.ac_objects.proofs.Found.{found_guarded, found_unguarded}
use Rattle.ac_objects.proofs.objects.Objects.takes_guards.Goals as goal

pub returns-in-Some-clause-yes : goal.returns-in-Some-clause-yes
returns-in-Some-clause-yes c e =
    found_guarded c.args.self.now c.args.place c.in-Some.object.now c.in-Some.ensures (sym c.takes_guards.ensures ∙ e)

pub returns-in-Some-clause-no : goal.returns-in-Some-clause-no
returns-in-Some-clause-no c e =
    found_unguarded c.args.self.now c.args.place c.in-Some.object.now c.in-Some.ensures (sym c.takes_guards.ensures ∙ e)

pub returns-in-None-clause-no : goal.returns-in-None-clause-no
returns-in-None-clause-no c e = ap only_guarded c.in-None.ensures
