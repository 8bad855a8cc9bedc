-- What holds of a table whatever guards are held, and a row that is added to one that has room for it.
use Rattle.std.proofs.Common.{◌≡◌, ◌+◌, ◌-◌, ◌<◌, length, [], ◌∷◌, None, refl, sym, arith}
use Rattle.ac_base.specs.FirstReason.{first_reason}
use Rattle.ac_base.specs.Guards.{GuardCounts}
use Rattle.ac_base.specs.declared.limit.Limit.{Limit}
use Rattle.ac_model.specs.Keyed.{Order, added}
use Rattle.ac_model.specs.Letters.{room_for_one}
use Rattle.ac_model.specs.Objects.{capacity_after, plain}
use Rattle.ac_model.proofs.KeyedLaws.{Closed}
use Rattle.ac_setwork.specs.Indexed.{Indexed, Becomes, plain_rows, slots}
use Rattle.ac_setwork.specs.TableFields.{IsTable, named_like, object_of}
use Rattle.ac_setwork.proofs.Slots.{after_kept}
use Rattle.ac_setwork.proofs.Tables.{added_table, first_guards, insertion_allowed}

module _ {V : Type 0} (order : Order V) (l : Limit) where
  other_guards : (g h : GuardCounts) (s : Indexed V) → IsTable order g l s → IsTable order h l s
  other_guards g h s t =
      let v = t.valid.as_object in record {
        valid = record {
          as_object = record {
            names_differ = v.names_differ;
            names_below_next = v.names_below_next;
            names_from_one = v.names_from_one;
            next_from_one = v.next_from_one;
            next_in_range = v.next_in_range;
            within_limit = v.within_limit;
            within_greatest = v.within_greatest;
            capacity_fits = v.capacity_fits;
          };
          keys_differ = t.valid.keys_differ;
          in_order = t.valid.in_order;
        };
        is_limit = t.is_limit;
        has_slots = t.has_slots;
      }

  pub added_here : Closed order → (g : GuardCounts) (s s2 : Indexed V) (v : V) → IsTable order g l s → 0 < s.spare → first_reason (room_for_one (plain (object_of g l s))) ≡ None → named_like order (object_of g l s) v ≡ None
      → capacity_after l s.capacity (length s.rows + 1) ≡ s.capacity → Becomes s s2 (added order (plain_rows s) s.next (v ∷ [])) (s.next + 1) (s.spare - 1) → IsTable order g l s2
  added_here closed g s s2 v t spare room absent capacity b =
      let free = first_guards g.number in
      other_guards free g s2 (added_table order free l closed s s s2 v (other_guards g free s t) (insertion_allowed order (object_of free l s) v absent room)
      (record { rows = refl; next = refl; capacity = sym capacity; enough = omega (arith, spare); has_slots = t.has_slots; most = omega arith; now_slots = sym (after_kept (slots s) (length s.rows + 1) (omega (arith, spare))) }) b)
