use Rattle.std.proofs.Common.{◌≡◌, ◌-◌, ◌<◌, ◌++◌, ◌∷◌, [], Contains, length, take, drop, sym, ap, ◌∙◌, subst, arith}
use Rattle.std.proofs.lemmas.List.{take_at, map_push}
use Rattle.ac_base.specs.Rows.{row, names}
use Rattle.ac_buckets.specs.declared.linked.Node.{Node}
use Rattle.ac_buckets.specs.Linked.{name_of, Relinks, rows_of}
use Rattle.ac_buckets.proofs.Bucketing.{sound, Relinks-pushed, IsBuckets-added}
use Rattle.ac_buckets.proofs.buckets.Buckets.add.Goals as goal

pub relink-requires-clause-linked : goal.relink-requires-clause-linked
relink-requires-clause-linked c =
    let nodes = c.self.inside.nodes.items in let heads = c.self.inside.heads.items in let n : Node = record { hash = c.args.hash; next = 0; slot = c.args.name.slot; serial = c.args.name.serial } in
    let at : c.len-index.result ≡ length nodes = omega (arith, c.len-index.ensures, c.self.inside.nodes.ok.0) in
    subst (λ ns. Relinks c.len-index.result ns c.as_mut_slice.result.now) (sym (c.as_mut_slice-2.ensures.value ∙ c.push_reserved.ensures.items))
    (subst (λ hs. Relinks c.len-index.result (nodes ++ n ∷ []) hs) (sym c.as_mut_slice.ensures.value) (subst (λ k. Relinks k (nodes ++ n ∷ []) heads) (sym at) (Relinks-pushed nodes heads n c.self.invariant.linked)))

pub invariant_of-self : goal.invariant_of-self
invariant_of-self c =
    let nodes = c.self.inside.nodes.items in let after = c.relink.new.nodes in let heads = c.self.inside.heads.items in let heads_after = c.relink.new.heads in let n : Node = record { hash = c.args.hash; next = 0; slot = c.args.name.slot; serial = c.args.name.serial } in
    let to_nodes : take c.push_reserved.new.self.len (after ++ drop (length after) c.push_reserved.new.self.items) ≡ after = take_at after _ _ (omega (arith, c.relink.auto.nodes, c.as_mut_slice-2.ensures.len)) in
    let to_heads : take c.self.inside.heads.len (heads_after ++ drop (length heads_after) heads) ≡ heads_after = take_at heads_after _ _ (omega (arith, c.relink.auto.heads, c.as_mut_slice.ensures.len)) in
    let spare : 0 < length heads - length nodes = subst (λ b. 0 < b.spare) (sym c.self.view_is) c.requires.spare in
    rw (to_nodes, to_heads) (IsBuckets-added nodes after heads heads_after _ _ c.args.name c.args.hash c.self.invariant (omega arith) (subst (λ b. Contains (names b.pairs) c.args.name → ⊥) (sym c.self.view_is) c.requires.absent)
    (c.relink.ensures.rows ∙ ap rows_of (c.as_mut_slice-2.ensures.value ∙ c.push_reserved.ensures.items) ∙ map_push (λ (n : Node). row (name_of n) n.hash) nodes n)
    (c.relink.auto.heads ∙ ap length c.as_mut_slice.ensures.value) c.push_reserved.ensures.capacity c.relink.ensures.linked)

pub returns-clause-sound : goal.returns-clause-sound
returns-clause-sound c = sound _ _ _ (invariant_of-self c)
