use Rattle.std.proofs.Common.{length, refl, sym, false, Decides}
use Rattle.std.proofs.lemmas.Bool.{ltb-false}
use Rattle.ac_meaning.proofs.Places.{seen_there, seen_past}
use Rattle.ac_plains.specs.Resumed.{Matches}
use Rattle.ac_plains.proofs.AtPlaces.{told_there, told_past, nothing_matches}
use Rattle.ac_plains.proofs.resuming.matches_at.Goals as goal

pub returns-in-Some : goal.returns-in-Some
returns-in-Some c =
    let b = c.in-Some.bound.now in
    told_there (λ k. Decides c.matches.result (Matches c.args.entry.now k)) c.args.objects.now c.args.place b
    (seen_there c.bounds.result.now c.args.objects.now.bounds c.args.place b b c.bounds.ensures c.in-Some.ensures.lookup.3.0 c.in-Some.ensures.lookup.1 refl)
    c.matches.ensures

pub returns-in-None : goal.returns-in-None
returns-in-None c =
    told_past (λ k. Decides false (Matches c.args.entry.now k)) c.args.objects.now c.args.place
    (seen_past c.bounds.result.now c.args.objects.now.bounds c.args.place c.bounds.ensures
    (ltb-false c.args.place (length c.bounds.result.now) (sym c.in-None.ensures.lookup.0)))
    (nothing_matches c.args.entry.now)
