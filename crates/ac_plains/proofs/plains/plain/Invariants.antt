use Rattle.std.proofs.Common.{◌≡◌, ◌++◌, map}
use Rattle.ac_rules.specs.Faults.{decl_name}
use Rattle.ac_meaning.specs.Plains.{plains_of}
use Rattle.ac_objects.specs.World.{state_of}
use Rattle.ac_plains.proofs.PlainsMade.{plains_from}
use Rattle.ac_plains.proofs.plains.plain.Given as goal

abbrev pub invariant-loop-place : goal.invariant-loop-place
invariant-loop-place l =
    let names = map decl_name l.decls in
    l.made.items ++ plains_from l.place names (state_of l.objects).bounds ≡ plains_of names (state_of l.objects)
