use Rattle.std.proofs.Common.{◌≡◌, ◌%◌, length, get_or, ap, ◌∙◌, subst, arith}
use Rattle.std.proofs.lemmas.List.{get_or_default}
use Rattle.ac_buckets.specs.Places.{Begins}
use Rattle.ac_buckets.proofs.PlaceSteps.{begins}
use Rattle.ac_buckets.proofs.buckets.Buckets.walk.Goals as goal

pub returns : goal.returns
returns c =
    let nodes = c.self.inside.nodes.items in let heads = c.self.inside.heads.items in let link = c.index.result.now in
    let len : c.len.result ≡ length heads = omega (arith, c.len.ensures, c.self.inside.heads.ok.0) in
    let bucket : c.bucket_of.result ≡ c.args.hash % length heads = c.bucket_of.ensures.bucket ∙ ap (λ n. c.args.hash % n) len in
    let is : link ≡ get_or heads (c.args.hash % length heads) 0 = c.index.ensures ∙ get_or_default heads c.bucket_of.result link 0 (omega (arith, c.bucket_of.ensures.within)) ∙ ap (λ b. get_or heads b 0) bucket in
    subst (λ b. Begins b c.args.hash (record { left = link })) c.self.view_is (begins nodes heads _ c.args.hash (record { left = link }) c.self.invariant (omega (arith, c.bucket_of.ensures.within)) is)
