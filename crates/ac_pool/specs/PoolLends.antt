-- What a pool ends as, once a `&mut` to a value of it has ended.
use Rattle.std.specs.Prelude.{Option}
use Rattle.std.specs.Borrow.{Fml, RattleType, MutBor, LendsIf}
use Rattle.ac_base.specs.declared.name.Name.{Name}
use Rattle.ac_pool.specs.contracts.pool.Pool.{the_row}
use Rattle.ac_pool.specs.Contents.{Contents, with_value}

-- the value under the name is the last one written through r, and at `None` the pool stays as it is
abbrev pub lends_value : (R : RattleType) → MutBor (Contents R.Denot) → Name → Option (MutBor R.Denot) → Fml
lends_value R c name r = LendsIf (the_row R) R c r (λ w. with_value c.now name w) c.now
