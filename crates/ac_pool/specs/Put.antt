-- The fault of a put, with the value that it hands back and when it comes.
use Rattle.std.specs.Prelude.{◌≡◌, ◌<◌, ◌^◌, ◌-◌}
use Rattle.ac_pool.specs.declared.pool.PutFault.{PutFault}
use Rattle.ac_pool.specs.declared.pool.PutFault.TheVariants.{Spent, NoMemory}
use Rattle.ac_pool.specs.Contents.{Contents}

abbrev pub RefusesPut : {X : Type 0} → Contents X → X → PutFault X → Type 0
RefusesPut c v (Spent w) = (w ≡ v) × (c.next_serial ≡ 2 ^ 64 - 1)
RefusesPut c v (NoMemory w) = (w ≡ v) × (c.next_serial < 2 ^ 64 - 1) × (c.spare ≡ 0)
