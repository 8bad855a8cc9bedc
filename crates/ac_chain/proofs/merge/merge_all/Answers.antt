use Rattle.std.proofs.Common.{sym, ap, ◌∙◌, subst, ◌≤◌, ◌+◌, ◌<◌, ◌^◌, length}
use Rattle.ac_chain.specs.Rows.{reserved}
use Rattle.ac_base.specs.Rows.{values}
use Rattle.ac_chain.proofs.Puts.{reserved_enough}
use Rattle.ac_chain.proofs.Merges.{reserved_merged, merged_grown}
use Rattle.ac_chain.proofs.merge.merge_all.Goals as goal

pub merge_each-requires-clause-spare : goal.merge_each-requires-clause-spare
merge_each-requires-clause-spare g c =
    subst (λ n. n ≤ c.reserve.new.self.spare) c.len.ensures.count (reserved_enough c.args.target.now c.reserve.new.self c.len.result c.in_ok-reserve.ensures.ok).enough

pub merge_each-requires-clause-unspent : goal.merge_each-requires-clause-unspent
merge_each-requires-clause-unspent g c =
    subst (λ n. n + length c.args.source.now.rows < 2 ^ 64) (sym (reserved_enough c.args.target.now c.reserve.new.self c.len.result c.in_ok-reserve.ensures.ok).next) c.requires.unspent

pub returns-clause-merged : goal.returns-clause-merged
returns-clause-merged g c = reserved_merged g.T.Rank.is_less c.args.target.now c.reserve.new.self c.merge_each.new.target c.len.result (values c.args.source.now.rows) c.in_ok-reserve.ensures.ok c.merge_each.ensures.merged

pub returns-clause-slots : goal.returns-clause-slots
returns-clause-slots g c =
    merged_grown g.T.Rank.is_less c.args.target.now c.reserve.new.self c.merge_each.new.target c.args.source.now (c.in_ok-reserve.ensures.ok ∙ ap (reserved c.args.target.now) c.len.ensures.count)
    c.merge_each.ensures.merged c.merge_each.ensures.slots
