-- A row that is put in a slot that is there, unless another has an equivalent key.
use Rattle.std.proofs.Common.{◌≡◌, ◌+◌, ◌-◌, [], ◌∷◌, length, None, Some, Result, Ok, Err, refl, sym, ap, ◌∙◌, subst, arith}
use Rattle.std.specs.Prelude.{is_some, OnOk, OnErr}
use Rattle.ac_base.specs.FirstReason.{first_reason, earlier}
use Rattle.ac_base.specs.Guards.{GuardCounts}
use Rattle.ac_base.specs.declared.fault.Fault.TheVariants as fault
use Rattle.ac_base.specs.declared.limit.Limit.{Limit}
use Rattle.ac_base.specs.declared.name.Name.{Name}
use Rattle.ac_base.specs.declared.reason.Reason.TheVariants.{KeyPresent}
use Rattle.ac_model.specs.Calls.{Changing, Same}
use Rattle.ac_model.specs.Containers.{container}
use Rattle.ac_model.specs.Keyed as keyed
use Rattle.ac_model.specs.Keyed.{Order, added}
use Rattle.ac_model.specs.Letters.{reason_if, room_for_one, tampers_cursors}
use Rattle.ac_model.specs.Objects.{plain}
use Rattle.ac_model.proofs.KeyedLaws.{Closed}
use Rattle.ac_model.proofs.Reasons.{none_first, none_others}
use Rattle.ac_setwork.specs.Indexed.{Indexed, Becomes, MakesRoom, found_in, plain_rows, slots}
use Rattle.ac_setwork.specs.TableFields.{IsTable, TakesOne, object_of}
use Rattle.ac_setwork.proofs.Found.{row_named}
use Rattle.ac_setwork.proofs.Slots.{after_kept}
use Rattle.ac_setwork.proofs.Tables.{added_object, added_table, insertion_allowed}

module _ {V : Type 0} (order : Order V) (g : GuardCounts) (l : Limit) (s s2 : Indexed V) (v : V) (t : IsTable order g l s) (one : TakesOne (container (object_of g l s) s.spare)) where
  -- the room that is there, as if it had been made
  there : MakesRoom l 1 s s
  there = let spare = one.spare in record { rows = refl; next = refl; capacity = sym one.capacity; enough = omega (arith, spare); has_slots = t.has_slots; most = omega arith; now_slots = sym (after_kept (slots s) (length s.rows + 1) (omega (arith, spare))) }

  abbrev IsAdded : Type 0
  IsAdded = Becomes s s2 (added order (plain_rows s) s.next (v ∷ [])) (s.next + 1) (s.spare - 1)

  pub at_once_table : Closed order → (r : Result Name Name) → OnOk r (found_in (λ w. order.alike w v) s.rows ≡ None) → OnOk r IsAdded → OnErr r (s2 ≡ s) → IsTable order g l s2
  at_once_table closed (Ok name) absent b same = added_table order g l closed s s s2 v t (insertion_allowed order (object_of g l s) v absent one.allowed) there b
  at_once_table closed (Err name) absent b same = subst (IsTable order g l) (sym same) t

  pub at_once_done : found_in (λ w. order.alike w v) s.rows ≡ None → IsAdded → Changing Same (keyed.insert_call order (plain (object_of g l s)) v) (object_of g l s) (object_of g l s2) (Ok tt)
  at_once_done absent b = (insertion_allowed order (object_of g l s) v absent one.allowed, record { plainly = added_object order g l s s s2 v there b; slots = b.same_slots }, refl)

  pub at_once_present : (name : Name) → found_in (λ w. order.alike w v) s.rows ≡ Some name → s2 ≡ s → Changing Same (keyed.insert_call order (plain (object_of g l s)) v) (object_of g l s) (object_of g l s2) (Err (fault.Raised KeyPresent))
  at_once_present name is same =
      let o = plain (object_of g l s) in
      let free = none_first (tampers_cursors o) (room_for_one o) one.allowed in
      let room = none_others (tampers_cursors o) (room_for_one o) one.allowed in (
        ap (λ p. first_reason (tampers_cursors o ∷ reason_if (is_some p) KeyPresent ∷ room_for_one o)) (row_named (λ w. order.alike w v) s.rows name is).1 ∙ (λ i. earlier (free i) (earlier (Some KeyPresent) (room i))),
        ap (object_of g l) same,
      )
