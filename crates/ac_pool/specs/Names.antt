-- The names of a pool as keys of a map.
use Rattle.std.specs.declared.cmp.Ordering.{Ordering}
use Rattle.std.specs.Ordering.{nat_cmp, on, then_cmp}
use Rattle.ac_base.specs.declared.name.Name.{Name}

-- by slot, and then by serial
abbrev pub name_cmp : Name → Name → Ordering
name_cmp = then_cmp (on (λ a. a.slot) nat_cmp) (on (λ a. a.serial) nat_cmp)
