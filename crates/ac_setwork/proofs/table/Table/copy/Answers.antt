use Rattle.std.proofs.Common.{◌≡◌, ◌≤◌, ◌&&◌, ◌∷◌, [], None, Err, refl, sym, ap, ◌∙◌, subst}
use Rattle.std.specs.Prelude.{is_some, nat_lt}
use Rattle.std.proofs.lemmas.List.{length-map}
use Rattle.std.proofs.lemmas.Result.{err_from_is_err_and}
use Rattle.ac_base.specs.FirstReason.{first_reason}
use Rattle.ac_base.specs.Limits.{is_past}
use Rattle.ac_base.specs.declared.limit.TheConstants.{GREATEST_LENGTH}
use Rattle.ac_base.specs.declared.reason.Reason.TheVariants.{CapacityFull}
use Rattle.ac_model.specs.Capacities.{widened}
use Rattle.ac_model.specs.Common.{copy_call, limit_of_copy}
use Rattle.ac_model.specs.Containers.{Container}
use Rattle.ac_model.specs.Forms.{Makes}
use Rattle.ac_model.specs.Letters.{reason_if}
use Rattle.ac_model.specs.Objects.{length_of, plain, plain_row}
use Rattle.ac_model.proofs.Copying.{assign_wants, copied_is, copied_slots, copy_takes, copy_within}
use Rattle.ac_setwork.proofs.table.Table.copy.Goals as goal

pub raise_capacity-requires-clause-within : goal.raise_capacity-requires-clause-within
raise_capacity-requires-clause-within g c =
    ap (λ (p : Container _). is_past p.object.limit c.args.capacity) c.in_ok-made.ensures.empty ∙ ap (λ l. is_past l c.args.capacity) c.limit_of_copy-limit.ensures ∙ copy_within c.self.inside.limit c.args.capacity c.len-length.result

pub returns-in_err-raise_capacity-clause-made : goal.returns-in_err-raise_capacity-clause-made
returns-in_err-raise_capacity-clause-made g c =
    let i = c.self.inside in let s = g.I.Index.seen i.index in let o = c.args.self.now.object in
    let len : c.len-length.result ≡ length_of (plain o) = c.len-length.ensures ∙ sym (length-map s.rows plain_row) ∙ ap (λ (x : Container _). length_of (plain x.object)) c.self.view_is in
    let small = sym c.too_small.ensures ∙ c.in_default.is in
    let reason : (copy_call (plain o) c.args.tag c.args.capacity).reason ≡ None = ap (λ n. first_reason (reason_if (nat_lt 0 c.args.capacity && nat_lt c.args.capacity n) CapacityFull ∷ [])) (sym len) ∙ ap (λ a. first_reason (a ∷ [])) small in
    let fault = err_from_is_err_and c.from_residual-in_err-raise_capacity.result c.from_residual-in_err-raise_capacity.ensures.1 in
    subst (λ u. Makes (copy_call (plain o) c.args.tag c.args.capacity) u) (sym (fault.1 ∙ ap Err fault.2)) (refl, reason)

pub returns-in_err-assign-clause-made : goal.returns-in_err-assign-clause-made
returns-in_err-assign-clause-made g c =
    let i = c.self.inside in let s = g.I.Index.seen i.index in let o = c.args.self.now.object in
    let len : c.len-length.result ≡ length_of (plain o) = c.len-length.ensures ∙ sym (length-map s.rows plain_row) ∙ ap (λ (x : Container _). length_of (plain x.object)) c.self.view_is in
    let small = sym c.too_small.ensures ∙ c.in_default.is in
    let reason : (copy_call (plain o) c.args.tag c.args.capacity).reason ≡ None = ap (λ n. first_reason (reason_if (nat_lt 0 c.args.capacity && nat_lt c.args.capacity n) CapacityFull ∷ [])) (sym len) ∙ ap (λ a. first_reason (a ∷ [])) small in
    let limit : c.limit_of_copy-limit.result ≡ limit_of_copy o.limit c.args.capacity c.len-length.result = c.limit_of_copy-limit.ensures ∙ ap (λ (x : Container _). limit_of_copy x.object.limit c.args.capacity c.len-length.result) c.self.view_is in
    let is = c.in_ok-raise_capacity.ensures.ok.plainly ∙ ap (λ (p : Container _). widened (plain p.object) c.args.capacity) c.in_ok-made.ensures.empty in
    let fault = err_from_is_err_and c.from_residual-in_err-assign.result c.from_residual-in_err-assign.ensures.1 in
    assign_wants o c.raise_capacity.new.self.object c.assign.new.self.object c.args.tag c.args.capacity c.assign.result c.in_err-assign.field-0.0 c.from_residual-in_err-assign.result reason
    (copy_takes g.I.Index.has_capacity o (plain c.raise_capacity.new.self.object) c.args.tag c.args.capacity c.len-length.result c.limit_of_copy-limit.result
    (subst (λ (x : Container _). length_of (plain x.object) ≤ GREATEST_LENGTH) c.self.view_is c.self.invariant.valid.as_object.within_greatest) len small limit is)
    c.assign.ensures.changed c.in_err-assign.was (fault.1 ∙ ap Err fault.2)

pub returns-clause-made : goal.returns-clause-made
returns-clause-made g c =
    let i = c.self.inside in let s = g.I.Index.seen i.index in let o = c.args.self.now.object in
    let len : c.len-length.result ≡ length_of (plain o) = c.len-length.ensures ∙ sym (length-map s.rows plain_row) ∙ ap (λ (x : Container _). length_of (plain x.object)) c.self.view_is in
    let small = sym c.too_small.ensures ∙ c.in_default.is in
    let reason : (copy_call (plain o) c.args.tag c.args.capacity).reason ≡ None = ap (λ n. first_reason (reason_if (nat_lt 0 c.args.capacity && nat_lt c.args.capacity n) CapacityFull ∷ [])) (sym len) ∙ ap (λ a. first_reason (a ∷ [])) small in
    let limit : c.limit_of_copy-limit.result ≡ limit_of_copy o.limit c.args.capacity c.len-length.result = c.limit_of_copy-limit.ensures ∙ ap (λ (x : Container _). limit_of_copy x.object.limit c.args.capacity c.len-length.result) c.self.view_is in
    let is = c.in_ok-raise_capacity.ensures.ok.plainly ∙ ap (λ (p : Container _). widened (plain p.object) c.args.capacity) c.in_ok-made.ensures.empty in
    let some = subst (λ (x : Container _). is_some x.object.capacity ≡ g.I.Index.has_capacity) c.self.view_is (ap is_some (sym c.capacity-capacity.ensures.capacity) ∙ c.capacity-capacity.ensures.has) in (
      reason,
      c.in_ok-assign.ensures.changed.1.plainly
          ∙ copied_is g.I.Index.has_capacity (plain o) (plain c.raise_capacity.new.self.object) c.args.tag c.args.capacity c.limit_of_copy-limit.result some (limit ∙ ap (limit_of_copy o.limit c.args.capacity) len) reason is,
    )

pub returns-clause-slots : goal.returns-clause-slots
returns-clause-slots g c = λ unbounded.
    let i = c.self.inside in let s = g.I.Index.seen i.index in let o = c.args.self.now.object in
    let len : c.len-length.result ≡ length_of (plain o) = c.len-length.ensures ∙ sym (length-map s.rows plain_row) ∙ ap (λ (x : Container _). length_of (plain x.object)) c.self.view_is in
    let small = sym c.too_small.ensures ∙ c.in_default.is in
    let reason : (copy_call (plain o) c.args.tag c.args.capacity).reason ≡ None = ap (λ n. first_reason (reason_if (nat_lt 0 c.args.capacity && nat_lt c.args.capacity n) CapacityFull ∷ [])) (sym len) ∙ ap (λ a. first_reason (a ∷ [])) small in
    let limit : c.limit_of_copy-limit.result ≡ limit_of_copy o.limit c.args.capacity c.len-length.result = c.limit_of_copy-limit.ensures ∙ ap (λ (x : Container _). limit_of_copy x.object.limit c.args.capacity c.len-length.result) c.self.view_is in
    let is = c.in_ok-raise_capacity.ensures.ok.plainly ∙ ap (λ (p : Container _). widened (plain p.object) c.args.capacity) c.in_ok-made.ensures.empty in
    let some = subst (λ (x : Container _). is_some x.object.capacity ≡ g.I.Index.has_capacity) c.self.view_is (ap is_some (sym c.capacity-capacity.ensures.capacity) ∙ c.capacity-capacity.ensures.has) in
    copied_slots g.I.Index.has_capacity o c.in_ok-made.made c.raise_capacity.new.self c.assign.new.self c.args.tag c.args.capacity c.len-length.result c.limit_of_copy-limit.result unbounded limit (ap (λ (p : Container _). p.object) c.in_ok-made.ensures.empty) (ap (λ (p : Container _). p.spare) c.in_ok-made.ensures.empty) c.in_ok-raise_capacity.ensures.slots
    (c.in_ok-assign.ensures.changed.1.plainly ∙ copied_is g.I.Index.has_capacity (plain o) (plain c.raise_capacity.new.self.object) c.args.tag c.args.capacity c.limit_of_copy-limit.result some (limit ∙ ap (limit_of_copy o.limit c.args.capacity) len) reason is)
    c.in_ok-assign.ensures.slots
