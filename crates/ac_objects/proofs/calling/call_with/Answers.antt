use Rattle.std.proofs.Common.{arith}
use Rattle.ac_objects.specs.declared.bound.Bound.TheVariants as bound
use Rattle.ac_calls.specs.Replied.{told}
use Rattle.ac_meaning.proofs.Places.{within}
use Rattle.ac_objects.proofs.InPlaces.{taken_is, left_is, both_ready, put_back}
use Rattle.ac_objects.proofs.calling.call_with.Goals as goal

pub call_bounds-called-requires : goal.call_bounds-called-requires
call_bounds-called-requires c =
    let bs = c.args.bounds.now.items in
    both_ready bs c.args.place c.args.source c.replace-target.result c.index_mut-2.result.now c.args.frame.now.arguments c.requires.apart
    (λ o here. taken_is bs c.args.place c.replace-target.result c.index_mut.result.now o c.replace-target.ensures.value c.index_mut.ensures.value here)
    (λ s there. left_is bs c.args.place c.args.source c.replace-target.new.dest c.index_mut-2.result.now s c.requires.places c.index_mut-2.ensures.value there)
    c.requires.object c.requires.source

pub index_mut-requires-3 : goal.index_mut-requires-3
index_mut-requires-3 c = let w = within c.args.bounds.now.items c.args.place (bound.Object c.requires.object.0) c.requires.object.1 in omega (arith, w)

pub returns : goal.returns
returns c o s here there =
    let bs = c.args.bounds.now.items in
    put_back c.args.operation c.args.frame.now.arguments bs c.args.place c.args.source c.replace-target.result c.index_mut-2.result.now c.replace-target.new.dest
    c.call_bounds-called.new.target c.call_bounds-called.new.source o s (told c.call_bounds-called.new.frame.reply c.call_bounds-called.result) c.requires.places
    (taken_is bs c.args.place c.replace-target.result c.index_mut.result.now o c.replace-target.ensures.value c.index_mut.ensures.value here)
    (left_is bs c.args.place c.args.source c.replace-target.new.dest c.index_mut-2.result.now s c.requires.places c.index_mut-2.ensures.value there)
    c.call_bounds-called.ensures
