use Rattle.std.proofs.Common.{◌≡◌, ◌<◌, ◌++◌, ◌∷◌, List, Contains, length, slice_get, vec_capacity, sym, ap, ◌∙◌, subst, arith, rules}
use Rattle.std.proofs.lemmas.List.{get_or_default}
use Rattle.ac_base.specs.declared.name.Name.{Name}
use Rattle.ac_buckets.specs.BucketFields.{seen_in, IsBuckets}
use Rattle.ac_buckets.specs.Linked.{blank_node, name_behind}
use Rattle.ac_buckets.specs.Pairs.{IsSound, names_in}
use Rattle.ac_buckets.proofs.Bucketing.{sound, next_met, none_met, met}
use Rattle.ac_buckets.proofs.Walks.{node_at, IsLastNode-next}
use Rattle.ac_buckets.proofs.buckets.Buckets.next_in.Goals as goal

pub returns-then-is_empty-clause-sound : goal.returns-then-is_empty-clause-sound
returns-then-is_empty-clause-sound c = subst IsSound c.self.view_is (sound _ _ _ c.self.invariant)

pub returns-in_err-index-clause-next : goal.returns-in_err-index-clause-next
returns-in_err-index-clause-next c =
    let heads = c.as_slice.result.now in let nodes = c.as_slice-2.result.now in
    let h : IsBuckets nodes heads (vec_capacity c.self.inside.nodes) = rw (c.as_slice-2.ensures.value, c.as_slice.ensures.value) c.self.invariant in
    let view : seen_in nodes heads ≡ c.args.self.now = rw (c.as_slice-2.ensures.value, c.as_slice.ensures.value) c.self.view_is in
    subst (λ b. (before rest : List Name) → names_in b c.args.hash ≡ before ++ (c.args.name ∷ rest) → c.from_residual.result ≡ slice_get rest 0) view
    (λ before rest e. absurd (none_met nodes heads _ c.args.hash before rest c.args.name h (search rules) c.in_err-index.ensures.none e))

pub returns-in_err-index-clause-sound : goal.returns-in_err-index-clause-sound
returns-in_err-index-clause-sound c = subst IsSound c.self.view_is (sound _ _ _ c.self.invariant)

pub name_behind-requires : goal.name_behind-requires
name_behind-requires c =
    let heads = c.self.inside.heads.items in let nodes = c.self.inside.nodes.items in let i = c.in_ok-index.index in
    let less : i < length nodes = omega (arith, c.in_ok-index.ensures.within, ap length c.as_slice-2.ensures.value) in
    let at : c.index.result.now ≡ node_at nodes i = c.index.ensures ∙ get_or_default nodes i c.index.result.now blank_node less in
    let next = IsLastNode-next nodes heads i c.self.invariant.linked (search rules) less in
    omega (arith, next.within, ap (λ n. n.next) at, ap length c.as_slice-3.ensures.value)

pub returns-clause-next : goal.returns-clause-next
returns-clause-next c =
    let heads = c.as_slice.result.now in let nodes = c.as_slice-2.result.now in let i = c.in_ok-index.index in
    let h : IsBuckets nodes heads (vec_capacity c.self.inside.nodes) = rw (c.as_slice-2.ensures.value, c.as_slice.ensures.value) c.self.invariant in
    let view : seen_in nodes heads ≡ c.args.self.now = rw (c.as_slice-2.ensures.value, c.as_slice.ensures.value) c.self.view_is in
    let at : c.index.result.now ≡ node_at nodes i = c.index.ensures ∙ get_or_default c.self.inside.nodes.items i c.index.result.now blank_node (omega (arith, c.in_ok-index.ensures.within, ap length c.as_slice-2.ensures.value)) ∙ ap (λ l. node_at l i) (sym c.as_slice-2.ensures.value) in
    subst (λ b. (before rest : List Name) → names_in b c.args.hash ≡ before ++ (c.args.name ∷ rest) → c.name_behind.result ≡ slice_get rest 0) view
    (λ before rest e. c.name_behind.ensures ∙ ap (λ ns. name_behind ns c.index.result.now.next) (c.as_slice-3.ensures.value ∙ sym c.as_slice-2.ensures.value) ∙ ap (λ n. name_behind nodes n.next) at
    ∙ next_met nodes heads _ c.args.hash i before rest c.args.name h (search rules) c.in_ok-index.ensures.within c.in_ok-index.ensures.some c.in_ok-index.ensures.bucket e)

pub returns-clause-absent : goal.returns-clause-absent
returns-clause-absent c =
    let heads = c.as_slice.result.now in let nodes = c.as_slice-2.result.now in let i = c.in_ok-index.index in
    let h : IsBuckets nodes heads (vec_capacity c.self.inside.nodes) = rw (c.as_slice-2.ensures.value, c.as_slice.ensures.value) c.self.invariant in
    let view : seen_in nodes heads ≡ c.args.self.now = rw (c.as_slice-2.ensures.value, c.as_slice.ensures.value) c.self.view_is in
    λ none. absurd (none (subst (λ b. Contains (names_in b c.args.hash) c.args.name) view
    (met nodes heads _ c.args.hash i c.args.name h (search rules) c.in_ok-index.ensures.within c.in_ok-index.ensures.some c.in_ok-index.ensures.bucket)))

pub returns-clause-sound : goal.returns-clause-sound
returns-clause-sound c = subst IsSound c.self.view_is (sound _ _ _ c.self.invariant)
