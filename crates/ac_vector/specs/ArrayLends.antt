-- What an array ends as, once a `&mut` to a value of it has ended.
use Rattle.std.specs.Borrow.{Fml, RattleType, MutBor, Lends}
use Rattle.ac_base.specs.declared.name.Name.{Name}
use Rattle.ac_vector.specs.contracts.array.Array.{the_row}
use Rattle.ac_chain.specs.Rows.{Chained, with_value}

-- the value under the name is the last one written through r
abbrev pub lends_value : (R : RattleType) → MutBor (Chained R.Denot) → Name → MutBor R.Denot → Fml
lends_value R c a r = Lends (the_row R) R c r (λ w. with_value c.now a w)
