-- What the `&mut` that a stabilised view lends leaves behind.
use mir.Syntax.{named}
use Rattle.std.specs.Prelude.{[]}
use Rattle.std.specs.Borrow.{Lends, MutBor, Fml, RattleType}
use Rattle.ac_forms.specs.declared.stable.Stable.{Stable}
use Rattle.ac_forms.specs.contracts.stable.Stable.{the_row}

-- the view over the container as it is now
abbrev pub with_base : {C : Type 0} → Stable C → C → Stable C
with_base s now = record s { base = record s.base { now = now } }

module _ (C : RattleType) where
  -- the view ends with the last value behind r as its container. Its lifetime is the second of the signature
  abbrev pub LendsBase : MutBor (Stable C.Denot) → MutBor C.Denot → Fml
  LendsBase s r = Lends (the_row (record { mir = named 1; lft = [] }) C) C s r (with_base s.now)
