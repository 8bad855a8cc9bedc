-- The calls of a table that maps and sets have under different names.
use Rattle.std.specs.Prelude.{◌==◌, ℕ, Bool, not, ◌&&◌, [], ◌∷◌, Option, option_map, is_some}
use Rattle.ac_base.specs.declared.reason.Reason.TheVariants.{KeyAbsent}
use Rattle.ac_base.specs.FirstReason.{first_reason}
use Rattle.ac_model.specs.Rows.{row_by, value_at, with_some_value}
use Rattle.ac_model.specs.Objects.{Object, contents, length_of, with_rows}
use Rattle.ac_model.specs.Letters.{Mark, needs, name_of, tampers_elements, reason_if}
use Rattle.ac_model.specs.Calls.{Call, call, Look, look, Done, takes_none}
use Rattle.ac_model.specs.Keyed.{Order}
use Rattle.ac_setwork.specs.Filling.{are_matched}

module _ {V : Type 0} where
  -- the row with a key
  abbrev pub key_row_call : (V → Bool) → Object ℕ V → Look (Option V)
  key_row_call matches o =
      let present = row_by matches o.rows in
      look (first_reason (reason_if (not (is_some present)) KeyAbsent ∷ [])) (option_map (λ r. r.value) present)

  -- "=": as many, and each row has an equivalent one there that is equal
  abbrev pub equal_call : Order V → (V → V → Bool) → Object ℕ V → Object ℕ V → Bool
  equal_call order same left right = (length_of left == length_of right) && are_matched order same (contents left) right.rows

  -- another element under a row's key
  abbrev pub element_set : {E : Type 0} → (V → E → V) → Object ℕ V → Mark → E → Object ℕ V
  element_set with_element o c element =
      with_rows o (with_some_value o.rows (name_of c) (option_map (λ row. with_element row element) (value_at o.rows (name_of c))))

  abbrev pub set_element_call : {E : Type 0} → (V → E → V) → Object ℕ V → Mark → E → Call (Object ℕ V) Done
  set_element_call with_element o c element =
      call takes_none (first_reason (tampers_elements o ∷ needs o c ∷ [])) (element_set with_element o c element) tt

  -- through a name that a view or a loop gives for the element: no tampering
  abbrev pub write_call : {E : Type 0} → (V → E → V) → Object ℕ V → Mark → E → Call (Object ℕ V) Done
  write_call with_element o c element = call takes_none (first_reason (needs o c ∷ [])) (element_set with_element o c element) tt
