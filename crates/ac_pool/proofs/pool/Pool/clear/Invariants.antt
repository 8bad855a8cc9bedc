use Rattle.std.proofs.Common.{◌≡◌, ◌<◌, None}
use Rattle.ac_base.specs.declared.name.Name.{Name}
use Rattle.ac_pool.specs.Contents.{value_of, slot_count, IsSound}
use Rattle.ac_pool.proofs.pool.Pool.clear.Given as goal

abbrev pub invariant-loop-slot : goal.invariant-loop-slot
invariant-loop-slot g l = record {
  sound : IsSound l.self;
  slots : slot_count l.self ≡ slot_count l.initial.self;
  next : l.self.next_serial ≡ l.initial.self.next_serial;
  last : l.slot-end ≡ slot_count l.initial.self;
  emptied : (a : Name) → a.slot < l.slot → value_of l.self a ≡ None;
}
