use Rattle.std.proofs.Common.{◌≡◌, ap, ◌∙◌, arith}
use Rattle.ac_pool.specs.Contents.{slot_count}
use Rattle.ac_pool.proofs.ContentsLaws.{slot_count-no_values}
use Rattle.ac_pool.proofs.pool.Pool.with_slots.Goals as goal

pub grow-requires : goal.grow-requires
grow-requires g c =
    let none : slot_count c.new-pool.result ≡ 0 = ap slot_count c.new-pool.ensures.empty ∙ slot_count-no_values g.row.T.Denot 1 0 in omega (arith, c.requires)
