-- What a table's call comes to, in the words of maps. `inside` is the table, and `old` the map as it is seen.
use Rattle.std.proofs.Common.{◌≡◌, ℕ, Bool}
use Rattle.std.specs.Prelude.{Result}
use Rattle.ac_base.specs.declared.cursor.Cursor.{Cursor}
use Rattle.ac_base.specs.declared.fault.Fault.{Fault}
use Rattle.ac_model.specs.Objects.{Object, plain}
use Rattle.ac_model.specs.Letters.{Mark}
use Rattle.ac_model.specs.Calls.{Call, Done, Marks, Same}
use Rattle.ac_model.specs.Containers.{Container}
use Rattle.ac_model.specs.Forms.{Does, seen_by}
use Rattle.ac_model.specs.Keyed.{Order}

module _ {V X A : Type 0} (Answers : X → A → Type 0) where
  -- a call that puts a row
  pub put_in_words : (call : Order V → Object ℕ V → V → Call (Object ℕ V) A) {order given : Order V} {row meant : V} {inside old : Container V}
      (new : Container V) (result : Result X Fault) → order ≡ given → row ≡ meant → inside ≡ old
      → Does Answers (λ o. call order o row) inside new result → Does Answers (λ o. call given o meant) old new result
  put_in_words call new result orders rows views h = coe 0 1 (i. Does Answers (λ o. call (orders i) o (rows i)) (views i) new result) h

module _ {K V : Type 0} where
  -- a call that takes out the row with the key
  pub deletion_in_words : (call : (V → Bool) → Object ℕ V → Call (Object ℕ V) Done) {matches given : K → V → Bool} {inside old : Container V}
      (key : K) (new : Container V) (result : Result Done Fault) → matches ≡ given → inside ≡ old
      → Does (Same {A = Done}) (call (matches key)) inside new result → Does (Same {A = Done}) (call (given key)) old new result
  deletion_in_words call key new result matching views h = coe 0 1 (i. Does (Same {A = Done}) (call (matching i key)) (views i) new result) h

  -- a search for the row that a key passes the test with
  pub search_in_words : (call : (V → Bool) → Object ℕ V → Mark) {matches given : K → V → Bool} {inside old : Container V} (key : K) (c : Cursor)
      → matches ≡ given → inside ≡ old
      → Marks inside.object c (call (matches key) (plain inside.object)) → Marks old.object c (call (given key) (plain old.object))
  search_in_words call key c matching views h = coe 0 1 (i. Marks (views i).object c (call (matching i key) (plain (views i).object))) h

module _ {E V : Type 0} where
  -- a call that writes an element under its key
  pub write_in_words : (call : (V → E → V) → Object ℕ V → Mark → E → Call (Object ℕ V) Done) {with_element given : V → E → V} {inside old : Container V}
      (c : Cursor) (element : E) (new : Container V) (result : Result Done Fault) → with_element ≡ given → inside ≡ old
      → Does (Same {A = Done}) (λ o. call with_element o (seen_by inside c) element) inside new result
      → Does (Same {A = Done}) (λ o. call given o (seen_by old c) element) old new result
  write_in_words call c element new result withs views h =
      coe 0 1 (i. Does (Same {A = Done}) (λ o. call (withs i) o (seen_by (views i) c) element) (views i) new result) h
