use Rattle.std.proofs.Common.{◌≡◌, ◌%◌, length, get_or, slice_get, ap, ◌∙◌, subst, arith}
use Rattle.std.proofs.lemmas.List.{get_or_default}
use Rattle.ac_buckets.specs.Linked.{name_behind}
use Rattle.ac_buckets.specs.Pairs.{IsSound, names_in}
use Rattle.ac_buckets.proofs.Bucketing.{sound, first_met}
use Rattle.ac_buckets.proofs.buckets.Buckets.first_in.Goals as goal

pub returns-then-is_empty-clause-sound : goal.returns-then-is_empty-clause-sound
returns-then-is_empty-clause-sound c = subst IsSound c.self.view_is (sound _ _ _ c.self.invariant)

pub returns-clause-first : goal.returns-clause-first
returns-clause-first c =
    let nodes = c.self.inside.nodes.items in let heads = c.self.inside.heads.items in let link = c.index.result.now in
    let len : c.len.result ≡ length heads = omega (arith, c.len.ensures, c.self.inside.heads.ok.0) in
    let bucket : c.bucket_of-bucket.result ≡ c.args.hash % length heads = c.bucket_of-bucket.ensures.bucket ∙ ap (λ n. c.args.hash % n) len in
    let is : link ≡ get_or heads (c.args.hash % length heads) 0 = c.index.ensures ∙ get_or_default heads c.bucket_of-bucket.result link 0 (omega (arith, c.bucket_of-bucket.ensures.within)) ∙ ap (λ b. get_or heads b 0) bucket in
    c.name_behind.ensures ∙ ap (λ ns. name_behind ns link) c.as_slice.ensures.value ∙ first_met nodes heads _ c.args.hash link c.self.invariant (omega (arith, c.bucket_of-bucket.ensures.within)) is
    ∙ ap (λ b. slice_get (names_in b c.args.hash) 0) c.self.view_is

pub returns-clause-sound : goal.returns-clause-sound
returns-clause-sound c = subst IsSound c.self.view_is (sound _ _ _ c.self.invariant)
