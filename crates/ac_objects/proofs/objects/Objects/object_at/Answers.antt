use Rattle.std.proofs.Common.{length, refl, sym}
use Rattle.std.proofs.lemmas.Bool.{ltb-false}
use Rattle.ac_objects.specs.World.{counted}
use Rattle.ac_objects.proofs.Found.{holds_object, holds_none}
use Rattle.ac_meaning.proofs.Places.{seen_there, seen_past}
use Rattle.ac_objects.proofs.objects.Objects.object_at.Goals as goal

pub returns-in-Some : goal.returns-in-Some
returns-in-Some c =
    let bs = c.self.inside.bounds.items in
    let b = c.in-Some.bound.now in
    holds_object c.args.self.now bs (counted c.self.inside.mint c.self.inside.blocks) c.args.place c.self.view_is b c.object.result
    (seen_there c.deref.result.now bs c.args.place b b c.deref.ensures.value c.in-Some.ensures.lookup.3.0 c.in-Some.ensures.lookup.1 refl) c.object.ensures

pub returns-in-None : goal.returns-in-None
returns-in-None c =
    let bs = c.self.inside.bounds.items in
    holds_none c.args.self.now bs (counted c.self.inside.mint c.self.inside.blocks) c.args.place c.self.view_is (seen_past c.deref.result.now bs c.args.place c.deref.ensures.value
    (ltb-false c.args.place (length c.deref.result.now) (sym c.in-None.ensures.lookup.0)))
