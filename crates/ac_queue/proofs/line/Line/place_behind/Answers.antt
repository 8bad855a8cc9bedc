use Rattle.std.proofs.Common.{rules, ◌≡◌, true, false, subst, sym}
use Rattle.ac_queue.proofs.Places.{stays_before, parted, place_is}
use Rattle.std.specs.List.Sorted.{IsPartitionPoint}
use Rattle.ac_model.specs.Queues.{are_in_line}
use Rattle.std.proofs.lemmas.List.Sorted.{IsPartitionPoint-from_clause}
use Rattle.ac_queue.proofs.line.Line.place_behind.Goals as goal

pub returns-clause-place : goal.returns-clause-place
returns-clause-place c =
    let items = c.args.self.now.queue.items in
    let at = subst (λ s. IsPartitionPoint (λ y. stays_before c.args.item y ≡ true) (λ y. stays_before c.args.item y ≡ false) s.queue.items c.partition_point.result) c.self.view_is
    (IsPartitionPoint-from_clause (stays_before c.args.item) _ _ c.partition_point.ensures.partitioned (parted c.args.item _ (subst (λ s. are_in_line s.queue.items ≡ true) (sym c.self.view_is) c.requires)) (λ a r f' k. search rules)) in
    place_is (stays_before c.args.item) items c.partition_point.result (search rules) at
