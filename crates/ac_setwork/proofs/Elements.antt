-- A row with another element, a row by its key, and a comparison of all rows, in the words of the definitions.
use Rattle.std.proofs.Common.{◌≡◌, ◌+◌, ◌&&◌, ℕ, true, [], ◌∷◌, length, List, Option, Some, None, Ok, IsTrue, sym, ap, ◌∙◌, subst, arith, eq-eqb}
use Rattle.std.specs.Prelude.{Bool, not, is_some, option_map}
use Rattle.std.specs.Borrow.{Bor}
use Rattle.std.proofs.lemmas.List.{length-map}
use Rattle.ac_base.specs.FirstReason.{first_reason}
use Rattle.ac_base.specs.Guards.{GuardCounts}
use Rattle.ac_base.specs.Rows.{Row, names, values}
use Rattle.ac_base.specs.declared.cursor.Cursor.{Cursor}
use Rattle.ac_base.specs.declared.limit.Limit.{Limit}
use Rattle.ac_base.specs.declared.name.Name.{Name}
use Rattle.ac_base.specs.declared.reason.Reason.TheVariants.{KeyAbsent}
use Rattle.ac_model.specs.Calls.{IsAfter, Looking, Lends}
use Rattle.ac_model.specs.Cursors.{mark, needs_cursor, name_in}
use Rattle.ac_model.specs.Keyed.{Order}
use Rattle.ac_model.specs.Letters.{is_among, name_of, reason_if}
use Rattle.ac_model.specs.Objects.{plain, plain_row, with_rows}
use Rattle.ac_model.specs.Rows.{value_at, with_some_value}
use Rattle.ac_model.proofs.KeyedLaws.{Closed, same_key_valid}
use Rattle.ac_model.proofs.Lengths.{length-with_some_value}
use Rattle.ac_model.proofs.Plains.{values-plains}
use Rattle.ac_setwork.specs.Filling.{NamesDiffer, are_matched}
use Rattle.ac_setwork.specs.Indexed.{Indexed, Becomes, found_in, plain_rows, slots, value_of}
use Rattle.ac_setwork.specs.TableCalls.{equal_call, element_set, key_row_call}
use Rattle.ac_setwork.specs.TableFields.{IsTable, object_of}
use Rattle.ac_setwork.proofs.Found.{named_among, none_found, stands}
use Rattle.ac_setwork.proofs.Tables.{becomes_after, becomes_slots, becomes_table}
use Rattle.ac_setwork.proofs.Walking.{row_under}

module _ {V : Type 0} where
  -- a row by its key
  pub row_lent : (g : GuardCounts) (l : Limit) (s : Indexed V) → NamesDiffer s → (matches : V → Bool) (a : Name) (lent : Bor V) → found_in matches s.rows ≡ Some a → value_of s a ≡ Some lent.now → Looking Lends (key_row_call matches (plain (object_of g l s))) (Ok lent)
  row_lent g l s differ matches a lent found is =
      let one = row_under s differ matches a lent.now found is in
      (ap (λ (p : Option (Row ℕ V)). first_reason (reason_if (not (is_some p)) KeyAbsent ∷ [])) one, ap (option_map (λ (r : Row ℕ V). r.value)) one)

  pub row_absent : (g : GuardCounts) (l : Limit) (s : Indexed V) (matches : V → Bool) → found_in matches s.rows ≡ None → (key_row_call matches (plain (object_of g l s))).reason ≡ Some KeyAbsent
  row_absent g l s matches found = ap (λ (p : Option (Row ℕ V)). first_reason (reason_if (not (is_some p)) KeyAbsent ∷ [])) (none_found matches s.rows found)

  -- as many, and each is matched
  pub equal_is : (order : Order V) (same : V → V → Bool) (g h : GuardCounts) (l m : Limit) (s t : Indexed V) (a b : ℕ) (r : Bool) → a ≡ length s.rows → b ≡ length t.rows → a ≡ b → r ≡ are_matched order same (values s.rows) (plain_rows t)
      → r ≡ equal_call order same (plain (object_of g l s)) (plain (object_of h m t))
  equal_is order same g h l m s t a b r left right as_many is =
      let count : length (plain_rows s) ≡ length (plain_rows t) = length-map s.rows plain_row ∙ sym left ∙ as_many ∙ right ∙ sym (length-map t.rows plain_row) in
      is ∙ ap (λ vs. are_matched order same vs (plain_rows t)) (values-plains s.rows) ∙ sym (ap (λ c. c && are_matched order same (values (plain_rows s)) (plain_rows t)) (eq-eqb (length (plain_rows s)) (length (plain_rows t)) count))

module _ {V E : Type 0} (order : Order V) (g : GuardCounts) (l : Limit) (with_element : V → E → V) (s s2 : Indexed V) (c : Cursor) (element : E) where
  abbrev pub rows_set : Name → List (Row ℕ V)
  rows_set a = with_some_value (plain_rows s) a.serial (option_map (λ row. with_element row element) (value_at (plain_rows s) a.serial))

  abbrev pub IsSet : Name → Type 0
  IsSet a = Becomes s s2 (rows_set a) s.next s.spare

  sum : (a : Name) → length (rows_set a) + s.spare ≡ slots s
  sum a = let count = length-with_some_value (plain_rows s) a.serial (option_map (λ row. with_element row element) (value_at (plain_rows s) a.serial)) in let same = length-map s.rows plain_row in omega arith

  pub element_stands : needs_cursor (object_of g l s) c ≡ None → IsTrue (is_among (names s.rows) (name_in c))
  element_stands none = (stands (object_of g l s) c none).there

  pub element_table : Closed order → ((row : V) (element : E) → order.alike row (with_element row element) ≡ true) → IsTable order g l s → needs_cursor (object_of g l s) c ≡ None → IsSet (name_in c) → IsTable order g l s2
  element_table closed same t none b =
      becomes_table order g l s s2 (rows_set (name_in c)) s.spare t b
      (same_key_valid order closed (plain (object_of g l s)) (name_in c).serial (λ row. with_element row element) (λ v. same v element) t.valid (named_among (name_in c) s.rows (element_stands none))) (sum (name_in c))

  pub element_slots : IsSet (name_in c) → slots s2 ≡ slots s
  element_slots b = becomes_slots order g l s s2 (rows_set (name_in c)) s.spare b (sum (name_in c))

  pub element_after : needs_cursor (object_of g l s) c ≡ None → IsSet (name_in c) → IsAfter (object_of g l s) (object_of g l s2) (element_set with_element (plain (object_of g l s)) (mark (object_of g l s) c) element)
  element_after none b =
      let is : name_of (mark (object_of g l s) c) ≡ (name_in c).serial = ap name_of (stands (object_of g l s) c none).is_mark in
      subst (λ n. IsAfter (object_of g l s) (object_of g l s2) (with_rows (plain (object_of g l s)) (with_some_value (plain_rows s) n (option_map (λ row. with_element row element) (value_at (plain_rows s) n))))) (sym is)
      (becomes_after order g l s s2 (rows_set (name_in c)) s.spare b)
