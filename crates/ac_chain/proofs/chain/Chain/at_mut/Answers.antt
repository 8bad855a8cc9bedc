use Rattle.std.proofs.Common.{◌≡◌, Some, sym, ap, ◌∙◌, subst, refl}
use Rattle.ac_pool.specs.Contents as pool
use Rattle.ac_pool.proofs.ContentsLaws.{live_value}
use Rattle.ac_chain.specs.declared.links.Node.{Node}
use Rattle.std.specs.Option.{option_map}
use Rattle.ac_chain.specs.Rows.{IsLive, value_of, with_value}
use Rattle.ac_chain.specs.ChainFields.{rows_in, with_node_value}
use Rattle.ac_chain.proofs.Chains.{view_of, value_at, live_in}
use Rattle.ac_chain.proofs.Values.{written_chain}
use Rattle.ac_chain.proofs.chain.Chain.at_mut.Goals as goal

pub value_mut-requires : goal.value_mut-requires
value_mut-requires g c =
    let l = c.self.inside.links in let a = c.args.name in live_in l c.self.invariant a (subst (λ x. IsLive x a) (sym c.self.view_is) c.requires)

pub invariant_of-self-lent : goal.invariant_of-self-lent
invariant_of-self-lent g c = λ w.
    let l = c.self.inside.links in let a = c.args.name in (written_chain l c.self.invariant a w (subst (λ x. IsLive x a) (sym c.self.view_is) c.requires)).0

pub returns : goal.returns
returns g c =
    let l = c.self.inside.links in let a = c.args.name in
    let h = subst (λ x. IsLive x a) (sym c.self.view_is) c.requires in
    let n = live_value (pool.value_of l.nodes a) (live_in l c.self.invariant a h) in
    let v : Some n.0.value ≡ Some c.value_mut.result.now = ap (option_map (λ (m : Node _). m.value)) (sym n.1) ∙ c.value_mut.ensures.value in (
      (refl, λ w. subst (λ x. view_of (with_node_value l a w) ≡ with_value x a w) c.self.view_is (written_chain l c.self.invariant a w h).1),
      record {
        writes_back = tt;
        value = subst (λ x. Some c.value_mut.result.now ≡ value_of x a) c.self.view_is (sym v ∙ value_at l (rows_in l) l.nodes.next_serial l.nodes.spare c.self.invariant a n.0 n.1);
      },
    )
