use Rattle.std.proofs.Common.{sym, ◌∙◌}
use Rattle.ac_objects.proofs.Found.{found_object}
use Rattle.ac_objects.proofs.objects.Objects.is_object.Goals as goal

pub returns-clause-yes : goal.returns-clause-yes
returns-clause-yes c e = found_object c.args.self.now c.args.place c.object_at.result c.object_at.ensures (sym c.is_some.ensures ∙ e)
