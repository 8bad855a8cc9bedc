use Rattle.std.proofs.Common.{◌≡◌, ◌≤◌, ◌+◌, ◌^◌, ◌++◌, length, replicate, None, ap, ◌∙◌, subst, arith}
use Rattle.std.specs.Prelude.{Result, Ok, Err, OnErr}
use Rattle.ac_pool.specs.Slots.{cells_in}
use Rattle.ac_pool.proofs.Laid.{length-cells_in, IsSlots-same, IsSlots-more, cells_in-same, cells_in-more}
use Rattle.ac_pool.proofs.slots.Slots.grow.Goals as goal

on_err : {T E : Type 0} (r : Result T E) (P : Type 0) → P → OnErr r P
on_err (Ok x) P h = tt
on_err (Err e) P h = h

pub chunks_for-end-requires : goal.chunks_for-end-requires
chunks_for-end-requires g c =
    let a = c.self.inside in let h = c.self.invariant in let fits : length (cells_in a.chunks.items a.len) + c.args.by ≤ 2 ^ 30 = rw c.self.view_is c.requires in let long = length-cells_in a.chunks.items a.len h in omega arith

pub invariant_of-self : goal.invariant_of-self
invariant_of-self g c =
    let a = c.self.inside in let e = c.in_err-add_chunks.ensures.err in
    rw e.1 (IsSlots-same a.chunks.items a.len c.self.invariant e.0)

pub returns-in_err-add_chunks-clause-err : goal.returns-in_err-add_chunks-clause-err
returns-in_err-add_chunks-clause-err g c =
    let a = c.self.inside in let e = c.in_err-add_chunks.ensures.err in
    on_err c.from_residual.result _ (ap (λ chunks. cells_in chunks a.len) e.1 ∙ cells_in-same a.chunks.items a.len c.self.invariant e.0 ∙ c.self.view_is)

pub invariant_of-self-2 : goal.invariant_of-self-2
invariant_of-self-2 g c =
    let a = c.self.inside in let h = c.self.invariant in let fits : length (cells_in a.chunks.items a.len) + c.args.by ≤ 2 ^ 30 = rw c.self.view_is c.requires in let long = length-cells_in a.chunks.items a.len h in let more = c.saturating_sub-more.result in
    rw c.in_ok-add_chunks.ensures.ok (IsSlots-more a.chunks.items a.len h more c.args.by (omega (arith, c.chunks_for-end.ensures, c.len.ensures, c.saturating_sub-more.ensures)) (omega arith))

pub returns-clause-ok : goal.returns-clause-ok
returns-clause-ok g c =
    let a = c.self.inside in let h = c.self.invariant in let fits : length (cells_in a.chunks.items a.len) + c.args.by ≤ 2 ^ 30 = rw c.self.view_is c.requires in let long = length-cells_in a.chunks.items a.len h in let more = c.saturating_sub-more.result in
    subst (λ x. cells_in c.add_chunks.new.chunks.items (a.len + c.args.by) ≡ x ++ replicate c.args.by None) c.self.view_is
    (ap (λ chunks. cells_in chunks (a.len + c.args.by)) c.in_ok-add_chunks.ensures.ok
    ∙ cells_in-more a.chunks.items a.len h more c.args.by (omega (arith, c.chunks_for-end.ensures, c.len.ensures, c.saturating_sub-more.ensures)))
