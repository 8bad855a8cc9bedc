use Rattle.std.proofs.Common.{sym, ap, ◌∙◌, subst, ◌≤◌, ◌+◌, ◌<◌, ◌^◌, length}
use Rattle.ac_chain.specs.Rows.{reserved}
use Rattle.ac_chain.proofs.Puts.{reserved_enough, reserved_live, reserved_put}
use Rattle.ac_chain.proofs.Transfers.{moved_grown}
use Rattle.ac_chain.proofs.transfer.move_before.Goals as goal

pub move_each-requires-clause-place : goal.move_each-requires-clause-place
move_each-requires-clause-place g c =
    reserved_live c.args.target.now c.reserve.new.self c.len.result c.args.place c.in_ok-reserve.ensures.ok c.requires.place

pub move_each-requires-clause-spare : goal.move_each-requires-clause-spare
move_each-requires-clause-spare g c =
    subst (λ n. n ≤ c.reserve.new.self.spare) c.len.ensures.count (reserved_enough c.args.target.now c.reserve.new.self c.len.result c.in_ok-reserve.ensures.ok).enough

pub move_each-requires-clause-unspent : goal.move_each-requires-clause-unspent
move_each-requires-clause-unspent g c =
    subst (λ n. n + length c.args.source.now.rows < 2 ^ 64) (sym (reserved_enough c.args.target.now c.reserve.new.self c.len.result c.in_ok-reserve.ensures.ok).next) c.requires.unspent

pub returns-clause-put : goal.returns-clause-put
returns-clause-put g c = reserved_put c.args.target.now c.reserve.new.self c.move_each.new.target c.len.result c.args.place _ c.in_ok-reserve.ensures.ok c.move_each.ensures.put

pub returns-clause-slots : goal.returns-clause-slots
returns-clause-slots g c =
    moved_grown c.args.target.now c.reserve.new.self c.move_each.new.target c.args.source.now c.args.place (c.in_ok-reserve.ensures.ok ∙ ap (reserved c.args.target.now) c.len.ensures.count)
    c.move_each.ensures.put c.move_each.ensures.slots
