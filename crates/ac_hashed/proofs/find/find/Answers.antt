use Rattle.std.proofs.Common.{◌≡◌, [], sym, ◌∙◌, subst, ap}
use Rattle.ac_buckets.specs.Places.{names_left, IsPlace, Begins, IsNext}
use Rattle.ac_hashed.proofs.Seeking.{by_key, begun, met_live, passed_on, hit, missed}
use Rattle.ac_hashed.proofs.find.find.Goals as goal

pub loop-name-init : goal.loop-name-init
loop-name-init g c =
    begun (λ v. g.S.Key.Hashed.wide_hash_of (g.S.Keys.key_of v)) (λ v w. g.S.Key.Hashed.is_alike (g.S.Keys.key_of v) (g.S.Keys.key_of w)) (λ v. g.S.Key.Hashed.is_alike (g.S.Keys.key_of v) c.args.key.now) (g.S.Key.Hashed.wide_hash_of c.args.key.now) c.args.chain.now c.args.buckets.now c.requires.tied
    (by_key g.met.S.Key.Hashed.equivalence g.met.S.Key.Hashed.alike_wide_hashes g.S.Keys.key_of c.args.key.now) c.walk-place.result (subst (λ h. Begins c.args.buckets.now h c.walk-place.result) c.wide_hash-hash.ensures c.walk-place.ensures)

pub step-requires : goal.step-requires
step-requires g c = subst (λ h. IsPlace c.args.buckets.now h c.loop-name.place.left) (sym c.wide_hash-hash.ensures) c.loop-name.invariant.stands

pub at-requires : goal.at-requires
at-requires g c =
    met_live (λ v. g.S.Key.Hashed.wide_hash_of (g.S.Keys.key_of v)) (λ v w. g.S.Key.Hashed.is_alike (g.S.Keys.key_of v) (g.S.Keys.key_of w)) (λ v. g.S.Key.Hashed.is_alike (g.S.Keys.key_of v) c.args.key.now) (g.S.Key.Hashed.wide_hash_of c.args.key.now) c.args.chain.now c.args.buckets.now c.requires.tied
    c.loop-name.place c.in-Some.next c.in-Some.name (subst (λ h. IsNext c.args.buckets.now h c.loop-name.place c.in-Some.name c.in-Some.next) c.wide_hash-hash.ensures c.in-Some.ensures)

pub returns-then-alike : goal.returns-then-alike
returns-then-alike g c =
    let live = met_live (λ v. g.S.Key.Hashed.wide_hash_of (g.S.Keys.key_of v)) (λ v w. g.S.Key.Hashed.is_alike (g.S.Keys.key_of v) (g.S.Keys.key_of w)) (λ v. g.S.Key.Hashed.is_alike (g.S.Keys.key_of v) c.args.key.now) (g.S.Key.Hashed.wide_hash_of c.args.key.now) c.args.chain.now c.args.buckets.now c.requires.tied
    c.loop-name.place c.in-Some.next c.in-Some.name (subst (λ h. IsNext c.args.buckets.now h c.loop-name.place c.in-Some.name c.in-Some.next) c.wide_hash-hash.ensures c.in-Some.ensures) in
    hit (λ v. g.S.Key.Hashed.wide_hash_of (g.S.Keys.key_of v)) (λ v w. g.S.Key.Hashed.is_alike (g.S.Keys.key_of v) (g.S.Keys.key_of w)) (λ v. g.S.Key.Hashed.is_alike (g.S.Keys.key_of v) c.args.key.now) (g.S.Key.Hashed.wide_hash_of c.args.key.now) c.args.chain.now c.args.buckets.now c.requires.tied
    (by_key g.met.S.Key.Hashed.equivalence g.met.S.Key.Hashed.alike_wide_hashes g.S.Keys.key_of c.args.key.now) c.in-Some.name c.at.result.now live c.at.ensures.value
    (ap (λ k. g.S.Key.Hashed.is_alike k c.args.key.now) (sym c.key.ensures) ∙ sym c.alike.ensures ∙ c.if-alike.true)

pub loop-name-preserved : goal.loop-name-preserved
loop-name-preserved g c =
    passed_on (λ v. g.S.Key.Hashed.wide_hash_of (g.S.Keys.key_of v)) (λ v w. g.S.Key.Hashed.is_alike (g.S.Keys.key_of v) (g.S.Keys.key_of w)) (λ v. g.S.Key.Hashed.is_alike (g.S.Keys.key_of v) c.args.key.now) (g.S.Key.Hashed.wide_hash_of c.args.key.now) c.args.chain.now c.args.buckets.now
    c.loop-name.place c.in-Some.next c.in-Some.name c.at.result.now c.loop-name.invariant (subst (λ h. IsNext c.args.buckets.now h c.loop-name.place c.in-Some.name c.in-Some.next) c.wide_hash-hash.ensures c.in-Some.ensures) c.at.ensures.value
    (ap (λ k. g.S.Key.Hashed.is_alike k c.args.key.now) (sym c.key.ensures) ∙ sym c.alike.ensures ∙ c.if-alike.false)

pub loop-name-smaller : goal.loop-name-smaller
loop-name-smaller g c = (subst (λ h. IsNext c.args.buckets.now h c.loop-name.place c.in-Some.name c.in-Some.next) c.wide_hash-hash.ensures c.in-Some.ensures).nearer

pub returns : goal.returns
returns g c = missed (λ v. g.S.Key.Hashed.wide_hash_of (g.S.Keys.key_of v)) (λ v w. g.S.Key.Hashed.is_alike (g.S.Keys.key_of v) (g.S.Keys.key_of w)) (λ v. g.S.Key.Hashed.is_alike (g.S.Keys.key_of v) c.args.key.now) (g.S.Key.Hashed.wide_hash_of c.args.key.now) c.args.chain.now c.args.buckets.now c.requires.tied c.loop-name.place c.loop-name.invariant (subst (λ h. names_left c.args.buckets.now h c.loop-name.place.left ≡ []) c.wide_hash-hash.ensures c.in_default.ensures)
