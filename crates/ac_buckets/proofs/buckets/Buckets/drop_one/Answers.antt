use Rattle.std.proofs.Common.{◌≡◌, ◌++◌, ◌∷◌, Contains, length, get_or, take, drop, reverse, refl, sym, ap, ◌∙◌, subst, arith}
use Rattle.std.specs.List.Sorted.{IsPermutation}
use Rattle.std.proofs.lemmas.List.{take_at}
use Rattle.ac_base.specs.Rows.{row}
use Rattle.ac_buckets.specs.Linked.{rows_of, blank_row}
use Rattle.ac_buckets.specs.Pairs.{IsSound}
use Rattle.ac_buckets.proofs.Bucketing.{sound, IsBuckets-dropped, dropped_is, pair_there}
use Rattle.ac_buckets.proofs.buckets.Buckets.drop_one.Goals as goal

pub returns-in_default-clause-sound : goal.returns-in_default-clause-sound
returns-in_default-clause-sound c = subst IsSound c.self.view_is (sound _ _ _ c.self.invariant)

pub invariant_of-self : goal.invariant_of-self
invariant_of-self c =
    let nodes = c.self.inside.nodes.items in let after = c.take_out.new.nodes.items in let heads = c.self.inside.heads.items in let heads_after = c.take_out.new.heads in
    let to_heads : take c.self.inside.heads.len (heads_after ++ drop (length heads_after) heads) ≡ heads_after = take_at heads_after _ _ (omega (arith, c.take_out.auto.heads, c.as_mut_slice.ensures.len)) in
    rw to_heads (IsBuckets-dropped nodes after heads heads_after _ _ c.in-Some.index c.self.invariant (omega (arith, c.in-Some.ensures.within, ap length c.as_slice-2.ensures.value)) c.take_out.ensures.rows
    (c.take_out.auto.heads ∙ ap length c.as_mut_slice.ensures.value) c.take_out.ensures.capacity c.take_out.ensures.linked)

pub returns-clause-there : goal.returns-clause-there
returns-clause-there c =
    let r = row c.args.name c.args.hash in let nodes = c.self.inside.nodes.items in let i = c.in-Some.index in
    let is : get_or (rows_of nodes) i blank_row ≡ r = ap (λ ns. get_or (rows_of ns) i blank_row) (sym c.as_slice-2.ensures.value) ∙ c.in-Some.ensures.some in
    (λ _. subst (λ b. Contains b.pairs r) c.self.view_is (pair_there nodes i c.args.name c.args.hash (omega (arith, c.in-Some.ensures.within, ap length c.as_slice-2.ensures.value)) is), λ _. refl)

pub returns-clause-gone : goal.returns-clause-gone
returns-clause-gone c =
    let r = row c.args.name c.args.hash in let nodes = c.self.inside.nodes.items in let after = c.take_out.new.nodes.items in let i = c.in-Some.index in
    let is : get_or (rows_of nodes) i blank_row ≡ r = ap (λ ns. get_or (rows_of ns) i blank_row) (sym c.as_slice-2.ensures.value) ∙ c.in-Some.ensures.some in
    subst (λ b. IsPermutation b.pairs (r ∷ reverse (rows_of after))) c.self.view_is
    (dropped_is nodes after i c.args.name c.args.hash (omega (arith, c.in-Some.ensures.within, ap length c.as_slice-2.ensures.value)) is c.take_out.ensures.rows)

pub returns-clause-sound : goal.returns-clause-sound
returns-clause-sound c = sound _ _ _ (invariant_of-self c)
