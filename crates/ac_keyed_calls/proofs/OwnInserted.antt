-- The cursor that an insertion answers is the object's own.
use Rattle.std.proofs.Common.{◌≡◌, ℕ, Bool, sym, ap, subst}
use Rattle.std.specs.Prelude.{Result, Ok, Err}
use Rattle.ac_base.specs.declared.cursor.Cursor.{Cursor}
use Rattle.ac_base.specs.declared.fault.Fault.{Fault}
use Rattle.ac_base.specs.declared.fault.Fault.TheVariants as fault
use Rattle.ac_base.specs.declared.name.Name.{Name}
use Rattle.ac_model.specs.Calls.{Call, Changing}
use Rattle.ac_model.specs.Keyed.{Inserted}
use Rattle.ac_model.specs.Objects.{Object}
use Rattle.ac_setwork.specs.TableFields.{Places}
use Rattle.ac_calls.specs.RowCalls.{PlacesOwn}
use Rattle.ac_calls.proofs.Own.{IsOwnMark, own_cursor}

module _ {V : Type 0} where
  pub own_inserted : (old new : Object Name V) (c : Call (Object ℕ V) Inserted) (q : Cursor) (result : Result Bool Fault)
      → IsOwnMark c.after.number c.answer.position → Changing (Places new q) c old new result → Changing (PlacesOwn new q) c old new result
  own_inserted old new c q (Ok inserted) own h =
      let number : c.after.number ≡ new.number = ap (λ (p : Object ℕ V). p.number) (sym h.1.plainly) in
      (h.0, h.1, (h.2.0, own_cursor new q c.answer.position (subst (λ n. IsOwnMark n c.answer.position) number own) h.2.1))
  own_inserted old new c q (Err (fault.Raised reason)) own h = h
  own_inserted old new c q (Err fault.NoMemory) own h = h
