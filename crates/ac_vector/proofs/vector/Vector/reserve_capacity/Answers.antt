use Rattle.std.proofs.Common.{◌≡◌, ◌≤◌, ◌∷◌, [], IsTrue, false, sym, ap, ◌∙◌, subst, to_z-of_z, w64}
use Rattle.std.specs.Prelude.{max, OnOk, OnErr}
use Rattle.ac_base.specs.Growth.{pow8}
use Rattle.ac_base.specs.Limits.{is_past}
use Rattle.ac_base.specs.declared.limit.TheConstants.{GREATEST_LENGTH}
use Rattle.ac_base.specs.declared.reason.Reason.TheVariants.{CapacityFull}
use Rattle.ac_base.proofs.FirstReason.{none_found}
use Rattle.ac_model.specs.Calls.{Changing, IsAfter, Same}
use Rattle.ac_model.specs.Common.{asks_for_memory, reserve_capacity_call}
use Rattle.ac_model.specs.Containers.{slots_of}
use Rattle.ac_model.specs.Letters.{count_of, in_range, reason_if, tampers_cursors}
use Rattle.ac_model.specs.Objects.{plain}
use Rattle.ac_model.proofs.Reasons.{in_range_none, not_if, passed}
use Rattle.ac_model.specs.Capacities.{widened}
use Rattle.ac_vector.proofs.Reserves.{fault_same, reserve_changes, same_object}
use Rattle.ac_vector.proofs.vector.Vector.reserve_capacity.Goals as goal

pub widen-requires-clause-few : goal.widen-requires-clause-few
widen-requires-clause-few g c =
    let o = c.args.self.now.object in let same = to_z-of_z {w = w64} {z = c.args.n} c.ranges.n in
    let reason = ap (λ n. (reserve_capacity_call (plain o) n).reason) (sym same) ∙ sym (passed _ _ c.in_ok-allowed.ensures c.refuses_capacity.ensures) in
    let none = none_found (tampers_cursors (plain o) ∷ in_range c.args.n ∷ reason_if (is_past o.limit (count_of c.args.n)) CapacityFull ∷ []) reason in
    subst (λ m. m ≤ GREATEST_LENGTH) (sym (c.count_of.ensures ∙ ap count_of same)) (in_range_none c.args.n none.1.0)

pub widen-requires-clause-within : goal.widen-requires-clause-within
widen-requires-clause-within g c =
    let o = c.args.self.now.object in let same = to_z-of_z {w = w64} {z = c.args.n} c.ranges.n in
    let reason = ap (λ n. (reserve_capacity_call (plain o) n).reason) (sym same) ∙ sym (passed _ _ c.in_ok-allowed.ensures c.refuses_capacity.ensures) in
    let none = none_found (tampers_cursors (plain o) ∷ in_range c.args.n ∷ reason_if (is_past o.limit (count_of c.args.n)) CapacityFull ∷ []) reason in
    subst (λ m. is_past o.limit m ≡ false) (sym (c.count_of.ensures ∙ ap count_of same)) (not_if (is_past o.limit (count_of c.args.n)) CapacityFull none.1.1.0)

pub returns-clause-changed : goal.returns-clause-changed
returns-clause-changed g c =
    let o = c.args.self.now.object in let same = to_z-of_z {w = w64} {z = c.args.n} c.ranges.n in
    let reason = ap (λ n. (reserve_capacity_call (plain o) n).reason) (sym same) ∙ sym (passed _ _ c.in_ok-allowed.ensures c.refuses_capacity.ensures) in
    let count = c.count_of.ensures ∙ ap count_of same in let r = c.widen in
    subst (λ q. Changing Same (reserve_capacity_call (plain o) c.args.n) o r.new.self.object q) (sym c.as_fault.ensures)
    (reserve_changes r.result o r.new.self.object c.args.n reason (subst (λ m. OnOk r.result (IsAfter o r.new.self.object (widened (plain o) m))) count r.ensures.ok)
    (same_object r.result c.args.self.now r.new.self r.ensures.err) (subst (λ m. OnErr r.result (IsTrue (asks_for_memory o.limit o.capacity m))) count r.ensures.wants))

pub returns-clause-err : goal.returns-clause-err
returns-clause-err g c =
    subst (λ q. OnErr q (c.widen.new.self ≡ c.args.self.now)) (sym c.as_fault.ensures) (fault_same c.widen.result c.args.self.now c.widen.new.self c.widen.ensures.err)

pub returns-clause-slots : goal.returns-clause-slots
returns-clause-slots g c =
    let same = to_z-of_z {w = w64} {z = c.args.n} c.ranges.n in
    subst (λ m. slots_of c.widen.new.self ≤ max (slots_of c.args.self.now) (pow8 m)) (c.count_of.ensures ∙ ap count_of same) c.widen.ensures.slots
