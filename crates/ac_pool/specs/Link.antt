-- What a link is: the slot of the value to which it leads. The live name of the slot tells it from those that were there before.
use Rattle.std.specs.Prelude.{ℕ, zero, suc, ◌-◌, ◌^◌, Option, Some, None, is_some, if◌then◌else◌}
use Rattle.ac_base.specs.declared.name.Name.{Name}
use Rattle.ac_pool.specs.Contents.{Contents, value_of}
use Rattle.ac_pool.specs.PoolFields.{name_at}

-- the name's slot, or at none a number that no slot has
abbrev pub link_of : Option Name → ℕ
link_of None = 2 ^ 32 - 1
link_of (Some a) = a.slot

module _ {Y : Type 0} where
  -- the live name of the slot whose serial is the greatest below a number
  abbrev pub name_below : ℕ → Contents Y → ℕ → Option Name
  name_below zero c slot = None
  name_below (suc serial) c slot = if is_some (value_of c (name_at slot serial)) then Some (name_at slot serial) else name_below serial c slot

  -- the live name of the slot
  unfoldable pub name_in : Contents Y → ℕ → Option Name
  name_in c slot = name_below c.next_serial c slot

  -- the value under the name, if there is one
  abbrev pub value_at : Contents Y → Option Name → Option Y
  value_at c None = None
  value_at c (Some a) = value_of c a

  -- the value under the live name of the slot
  abbrev pub value_in : Contents Y → ℕ → Option Y
  value_in c slot = value_at c (name_in c slot)
