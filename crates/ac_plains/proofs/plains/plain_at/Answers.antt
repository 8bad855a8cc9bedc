use Rattle.std.proofs.Common.{◌≡◌, length, refl, sym, None}
use Rattle.std.specs.Prelude.{IfOk}
use Rattle.std.proofs.lemmas.Bool.{ltb-false}
use Rattle.ac_meaning.proofs.Places.{seen_there, seen_past}
use Rattle.ac_meaning.specs.Plains.{plain_in}
use Rattle.ac_plains.proofs.AtPlaces.{told_there, told_past}
use Rattle.ac_plains.proofs.plains.plain_at.Goals as goal

pub returns-in-Some : goal.returns-in-Some
returns-in-Some c =
    let b = c.in-Some.bound.now in
    told_there (λ k. IfOk c.plain_bound.result (λ made. made ≡ plain_in c.args.name.now k)) c.args.objects.now c.args.place b
    (seen_there c.bounds.result.now c.args.objects.now.bounds c.args.place b b c.bounds.ensures c.in-Some.ensures.lookup.3.0 c.in-Some.ensures.lookup.1 refl)
    c.plain_bound.ensures

pub returns-in-None : goal.returns-in-None
returns-in-None c =
    told_past (λ k. None ≡ plain_in c.args.name.now k) c.args.objects.now c.args.place
    (seen_past c.bounds.result.now c.args.objects.now.bounds c.args.place c.bounds.ensures
    (ltb-false c.args.place (length c.bounds.result.now) (sym c.in-None.ensures.lookup.0)))
    refl
