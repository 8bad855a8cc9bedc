-- What an index ends as, once a `&mut` to a value of it has ended.
use Rattle.std.specs.Prelude.{ℕ, Bool, Option}
use Rattle.std.specs.Borrow.{Fml, RattleType, MutBor, LendsIf}
use Rattle.ac_base.specs.declared.name.Name.{Name}
use Rattle.ac_balance.specs.contracts.index.OrderIndex.{the_row}
use Rattle.ac_balance.specs.Indexed.{Indexed, with_value}

-- the value under the name is the last one written through r, and at `None` the index stays as it is
abbrev pub lends_value : (R S : RattleType) → (R.Denot → R.Denot → Bool) → (R.Denot → R.Denot → Bool) → (R.Denot → ℕ) → R.Denot → Bool
    → MutBor (Indexed R.Denot S.Denot) → Name → Option (MutBor S.Denot) → Fml
lends_value R S less same size blank unboxed c a r =
    LendsIf (the_row R S (record { is_less = less }) (record { is_same = same; size_of = size; blank_element = blank; is_unboxed = unboxed })) S c r (λ w. with_value c.now a w) c.now
