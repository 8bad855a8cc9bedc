-- A table whose index has room for more rows.
use Rattle.std.proofs.Common.{◌≡◌, ◌≤◌, ℕ, length, map, Result, Ok, Err, sym, subst}
use Rattle.std.specs.Prelude.{OnOk, OnErr}
use Rattle.ac_base.specs.Guards.{GuardCounts}
use Rattle.ac_base.specs.declared.fault.NoMemory.{NoMemory}
use Rattle.ac_base.specs.declared.limit.Limit.{Limit}
use Rattle.ac_base.specs.declared.limit.TheConstants.{GREATEST_LENGTH}
use Rattle.ac_model.specs.Keyed.{Order, IsValidKeyed}
use Rattle.ac_model.specs.Objects.{capacity_after, plain, plain_row}
use Rattle.ac_model.proofs.Kept.{capacity-asked}
use Rattle.ac_setwork.specs.Filling.{Widens}
use Rattle.ac_setwork.specs.Indexed.{Indexed}
use Rattle.ac_setwork.specs.TableFields.{IsTable, object_of}

module _ {V : Type 0} (order : Order V) (g : GuardCounts) (l : Limit) (need : ℕ) (s s2 : Indexed V) where
  pub widened_is : Widens l need s s2 → plain (object_of g l s2) ≡ record (plain (object_of g l s)) { capacity = capacity_after l s.capacity need }
  widened_is w = λ i. record { number = g.number; limit = l; capacity = w.capacity i; next = w.next i; rows = map plain_row (w.rows i); cursor_guards = g.cursor_guards; element_guards = g.element_guards }

  widened_valid : need ≤ GREATEST_LENGTH → IsValidKeyed order (plain (object_of g l s)) → IsValidKeyed order (record (plain (object_of g l s)) { capacity = capacity_after l s.capacity need })
  widened_valid few valid =
      let v = valid.as_object in record {
        as_object = record {
          names_differ = v.names_differ;
          names_below_next = v.names_below_next;
          names_from_one = v.names_from_one;
          next_from_one = v.next_from_one;
          next_in_range = v.next_in_range;
          within_limit = v.within_limit;
          within_greatest = v.within_greatest;
          capacity_fits = capacity-asked l s.capacity (length (map plain_row s.rows)) need few v.capacity_fits;
        };
        keys_differ = valid.keys_differ;
        in_order = valid.in_order;
      }

  pub widened_table : (r : Result (Unit {0}) NoMemory) → need ≤ GREATEST_LENGTH → IsTable order g l s → OnOk r (Widens l need s s2) → OnErr r (s2 ≡ s) → IsTable order g l s2
  widened_table (Err e) few t ok err = subst (IsTable order g l) (sym err) t
  widened_table (Ok x) few t w err = record {
    valid = subst (IsValidKeyed order) (sym (widened_is w)) (widened_valid few t.valid);
    is_limit = t.is_limit;
    has_slots = w.has_slots;
  }
