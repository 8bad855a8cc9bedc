use Rattle.std.proofs.Common.{◌≡◌, sym, ◌∙◌, subst, ℕ, ◌+◌, Some}
use Rattle.ac_pool.specs.Contents.{value_of}
use Rattle.ac_chain.specs.Rows.{IsLive, IsSound, next_name}
use Rattle.ac_pool.specs.NamedRows.{name_at}
use Rattle.ac_chain.specs.ChainFields.{rows_in, next_of}
use Rattle.ac_chain.proofs.Chains.{chain_sound, next_is, next_in_order}
use Rattle.ac_chain.proofs.chain.Chain.next.Goals as goal

pub returns-clause-name : goal.returns-clause-name
returns-clause-name g c =
    let l = c.self.inside.links in let a = c.args.name in
    c.next.ensures ∙ subst (λ x. next_of l.nodes (value_of l.nodes a) ≡ next_name x a) c.self.view_is (next_is l c.self.invariant a (subst (λ x. IsLive x a) (sym c.self.view_is) c.requires))

pub returns-clause-in_order : goal.returns-clause-in_order
returns-clause-in_order g c =
    let l = c.self.inside.links in let a = c.args.name in
    subst (λ x. (i : ℕ) → name_at x.rows i ≡ Some a → c.next.result ≡ name_at x.rows (i + 1)) c.self.view_is
    (λ i e. c.next.ensures ∙ next_is l c.self.invariant a (subst (λ x. IsLive x a) (sym c.self.view_is) c.requires) ∙ next_in_order (rows_in l) l.nodes.next_serial l.nodes.spare c.self.invariant.once a i e)

pub returns-clause-sound : goal.returns-clause-sound
returns-clause-sound g c = subst (λ x. IsSound x) c.self.view_is (chain_sound c.self.inside.links c.self.invariant)
