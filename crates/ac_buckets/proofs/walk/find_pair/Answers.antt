use Rattle.std.proofs.Common.{ℕ, ◌%◌, length, eqb, ap}
use Rattle.ac_base.specs.declared.name.Name.{Name}
use Rattle.ac_base.specs.Rows.{Row}
use Rattle.ac_buckets.proofs.Walks.{pair_at, none_then, other_hash, node_at}
use Rattle.ac_buckets.proofs.walk.find_pair.Goals as goal

pub returns-in_err-index-clause-none : goal.returns-in_err-index-clause-none
returns-in_err-index-clause-none c =
    rw c.from_residual.ensures (λ h. let at = pair_at c.args.nodes.now c.args.name c.args.hash h in
    c.in_err-index.ensures.none at.0 at.1 (ap (λ (r : Row Name ℕ). r.value % length c.args.heads.now) at.2) (ap (λ (r : Row Name ℕ). r.name) at.2))

pub returns-clause-none : goal.returns-clause-none
returns-clause-none c =
    let i = c.in_ok-index.index in
    rw c.then_some.ensures (none_then (eqb (node_at c.args.nodes.now i).hash c.args.hash) i _ (λ other. other_hash c.args.nodes.now c.args.name c.args.hash i c.requires.once c.in_ok-index.ensures.within c.in_ok-index.ensures.some other))
