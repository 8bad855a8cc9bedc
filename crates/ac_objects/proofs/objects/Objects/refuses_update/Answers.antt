use Rattle.std.proofs.Common.{◌≡◌}
use Rattle.ac_model.specs.Cursors.{plain_mark}
use Rattle.ac_calls.specs.Holdings.{key_update_reason}
use Rattle.ac_objects.proofs.Found.{holds_there, found_agrees}
use Rattle.ac_objects.proofs.objects.Objects.refuses_update.Goals as goal

pub refused_update-requires : goal.refused_update-requires
refused_update-requires c = found_agrees c.args.self.now c.args.place c.in-Some.object.now c.args.at c.in-Some.ensures c.requires

pub returns-in-Some : goal.returns-in-Some
returns-in-Some c =
    holds_there (λ h. c.refused_update.result ≡ key_update_reason h (plain_mark c.args.at)) c.args.self.now c.args.place c.in-Some.object.now c.in-Some.ensures
    c.refused_update.ensures
