use Rattle.ac_model.specs.Cursors.{plain_mark}
use Rattle.ac_objects.proofs.Updating.{keyed_refused, none_refused}
use Rattle.ac_objects.proofs.object.Object.refused_update.Goals as goal

pub returns-in-KeyedSet : goal.returns-in-KeyedSet
returns-in-KeyedSet c =
    keyed_refused c.args.self.now c.in-KeyedSet.set c.args.at c.in-KeyedSet.is c.requires c.refuses_update.result c.refuses_update.ensures

pub returns-in_default : goal.returns-in_default
returns-in_default c = none_refused c.args.self.now (plain_mark c.args.at) c.in_default.not-KeyedSet
