use Rattle.std.proofs.Common.{length, vec_capacity, ap, ◌∙◌}
use Rattle.ac_pool.specs.Contents.{contents}
use Rattle.ac_pool.specs.PoolFields.{entries_in}
use Rattle.ac_pool.proofs.Entries.{entries_in-nil}
use Rattle.ac_pool.proofs.Pooled.{sound, IsPool-new}
use Rattle.ac_pool.proofs.pool.Pool.starting_at.Goals as goal

pub invariant_of-result : goal.invariant_of-result
invariant_of-result g c = IsPool-new c.new.result c.new-2.result.items (vec_capacity c.new-2.result) c.args.serial c.requires c.ranges.serial.fits (ap length c.new.ensures) (ap length c.new-2.ensures.items)

pub returns-clause-empty : goal.returns-clause-empty
returns-clause-empty g c = ap (λ cells. contents (entries_in cells) c.args.serial 0) c.new.ensures ∙ ap (λ m. contents m c.args.serial 0) entries_in-nil

pub returns-clause-sound : goal.returns-clause-sound
returns-clause-sound g c = sound c.new.result c.new-2.result.items (vec_capacity c.new-2.result) 0 c.args.serial (IsPool-new c.new.result c.new-2.result.items (vec_capacity c.new-2.result) c.args.serial c.requires c.ranges.serial.fits (ap length c.new.ensures) (ap length c.new-2.ensures.items))
