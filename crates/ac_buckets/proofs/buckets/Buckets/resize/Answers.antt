use Rattle.std.proofs.Common.{◌≡◌, ◌≤◌, ◌++◌, length, take, drop, vec_capacity, sym, ap, ◌∙◌, subst, arith}
use Rattle.std.proofs.lemmas.List.{take_at, length-reverse}
use Rattle.ac_buckets.specs.BucketFields.{seen_in}
use Rattle.ac_buckets.specs.Linked.{rows_of}
use Rattle.ac_buckets.specs.Pairs.{IsSound}
use Rattle.ac_buckets.proofs.Bucketing.{sound, IsBuckets-resized}
use Rattle.ac_buckets.proofs.Walks.{length-rows}
use Rattle.ac_buckets.proofs.buckets.Buckets.resize.Goals as goal

pub returns-in_err-heads-clause-sound : goal.returns-in_err-heads-clause-sound
returns-in_err-heads-clause-sound c = subst IsSound c.self.view_is (sound _ _ _ c.self.invariant)

pub returns-in_err-reserve_exact-clause-sound : goal.returns-in_err-reserve_exact-clause-sound
returns-in_err-reserve_exact-clause-sound c = subst (λ nodes. IsSound (seen_in nodes c.self.inside.heads.items)) (sym c.in_err-reserve_exact.ensures.items) (sound _ _ _ c.self.invariant)

pub returns-clause-sound : goal.returns-clause-sound
returns-clause-sound c =
    let nodes = c.link_all.new.nodes in let heads = c.link_all.new.heads in
    let to_nodes : take c.reserve_exact.new.self.len (nodes ++ drop (length nodes) c.reserve_exact.new.self.items) ≡ nodes = take_at nodes _ _ (omega (arith, c.link_all.auto.nodes, c.as_mut_slice-2.ensures.len)) in
    let to_heads : take c.in_ok-heads.heads.len (heads ++ drop (length heads) c.in_ok-heads.heads.items) ≡ heads = take_at heads _ _ (omega (arith, c.link_all.auto.heads, c.as_mut_slice.ensures.len)) in
    let few : length c.self.inside.nodes.items ≤ c.args.size = omega (arith, subst (λ b. length b.pairs ≤ c.args.size) (sym c.self.view_is) c.requires.room, length-reverse (rows_of c.self.inside.nodes.items), length-rows c.self.inside.nodes.items) in
    rw (to_nodes, to_heads) (sound nodes heads (vec_capacity c.reserve_exact.new.self) (IsBuckets-resized c.self.inside.nodes.items nodes c.self.inside.heads.items heads _ _ c.args.size c.self.invariant
    (c.link_all.ensures.rows ∙ ap rows_of (c.as_mut_slice-2.ensures.value ∙ c.reserve_exact.ensures.items)) (omega (arith, c.link_all.auto.heads, c.as_mut_slice.ensures.len, c.in_ok-heads.ensures.len)) few
    (omega (arith, c.in_ok-reserve_exact.ensures.ok, c.len.ensures, c.self.inside.nodes.ok.0)) c.requires.few c.requires.power c.link_all.ensures.linked))
