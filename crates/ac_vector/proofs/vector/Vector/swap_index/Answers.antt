use Rattle.std.proofs.Common.{◌∷◌, [], refl, sym, ◌∙◌, subst, to_z-of_z, w64}
use Rattle.ac_base.proofs.FirstReason.{none_found}
use Rattle.ac_base.specs.FirstReason.{first_reason}
use Rattle.ac_model.specs.Calls.{IsAfter, Marks}
use Rattle.ac_model.specs.Letters.{index_in, tampers_elements}
use Rattle.ac_model.specs.Objects.{length_of, plain, with_rows}
use Rattle.ac_model.specs.Rows.{with_exchanged_values}
use Rattle.ac_model.specs.Vectors.{to_cursor_call}
use Rattle.ac_model.proofs.Reasons.{passed}
use Rattle.ac_vector.proofs.ByIndex.{index_stands}
use Rattle.ac_vector.proofs.vector.Vector.swap_index.Goals as goal

pub exchange-requires-clause-first : goal.exchange-requires-clause-first
exchange-requires-clause-first g c =
    let o = c.args.self.now.object in let one = to_z-of_z {w = w64} {z = c.args.first} c.ranges.first in let two = to_z-of_z {w = w64} {z = c.args.second} c.ranges.second in
    let reason = (λ i. first_reason (tampers_elements (plain o) ∷ index_in (sym one i) (length_of (plain o)) ∷ index_in (sym two i) (length_of (plain o)) ∷ [])) ∙ sym (passed _ _ c.in_ok-allowed.ensures c.refuses_swap_index.ensures) in
    let none = none_found (tampers_elements (plain o) ∷ index_in c.args.first (length_of (plain o)) ∷ index_in c.args.second (length_of (plain o)) ∷ []) reason in
    (index_stands o c.args.first c.to_cursor.result none.1.0 (subst (λ z. Marks o c.to_cursor.result (to_cursor_call (plain o) z)) one c.to_cursor.ensures)).0

pub exchange-requires-clause-second : goal.exchange-requires-clause-second
exchange-requires-clause-second g c =
    let o = c.args.self.now.object in let one = to_z-of_z {w = w64} {z = c.args.first} c.ranges.first in let two = to_z-of_z {w = w64} {z = c.args.second} c.ranges.second in
    let reason = (λ i. first_reason (tampers_elements (plain o) ∷ index_in (sym one i) (length_of (plain o)) ∷ index_in (sym two i) (length_of (plain o)) ∷ [])) ∙ sym (passed _ _ c.in_ok-allowed.ensures c.refuses_swap_index.ensures) in
    let none = none_found (tampers_elements (plain o) ∷ index_in c.args.first (length_of (plain o)) ∷ index_in c.args.second (length_of (plain o)) ∷ []) reason in
    (index_stands o c.args.second c.to_cursor-2.result none.1.1.0 (subst (λ z. Marks o c.to_cursor-2.result (to_cursor_call (plain o) z)) two c.to_cursor-2.ensures)).0

pub returns-clause-changed : goal.returns-clause-changed
returns-clause-changed g c =
    let o = c.args.self.now.object in let one = to_z-of_z {w = w64} {z = c.args.first} c.ranges.first in let two = to_z-of_z {w = w64} {z = c.args.second} c.ranges.second in
    let reason = (λ i. first_reason (tampers_elements (plain o) ∷ index_in (sym one i) (length_of (plain o)) ∷ index_in (sym two i) (length_of (plain o)) ∷ [])) ∙ sym (passed _ _ c.in_ok-allowed.ensures c.refuses_swap_index.ensures) in
    let none = none_found (tampers_elements (plain o) ∷ index_in c.args.first (length_of (plain o)) ∷ index_in c.args.second (length_of (plain o)) ∷ []) reason in
    let left = index_stands o c.args.first c.to_cursor.result none.1.0 (subst (λ z. Marks o c.to_cursor.result (to_cursor_call (plain o) z)) one c.to_cursor.ensures) in
    let right = index_stands o c.args.second c.to_cursor-2.result none.1.1.0 (subst (λ z. Marks o c.to_cursor-2.result (to_cursor_call (plain o) z)) two c.to_cursor-2.ensures) in (
      reason,
      subst (λ n. n) (λ i. IsAfter o c.exchange.new.self.object (with_rows (plain o) (with_exchanged_values (plain o).rows (left.1 i) (right.1 i)))) c.exchange.ensures.exchanged,
      refl,
    )
