use Rattle.std.proofs.Common.{◌≡◌, ◌+◌, ℕ, ℤ, pos, List, arith, length, sym, ap, ◌∙◌, to_z, of_z, to_z-of_z, w64, Some, rules}
use Rattle.std.proofs.lemmas.Result.{err_from_is_err_and}
use Rattle.ac_base.specs.declared.value.Value.TheVariants.{Int}
use Rattle.ac_io.proofs.Telling.{goes_on, ends, breaks, still, adds_nothing}
use Rattle.ac_queue.specs.Kinds.{state_of}
use Rattle.ac_syntax.specs.Canonical.{literal_text}
use Rattle.ac_calls.proofs.Listed.{listed_from, from_place, at_end}
use Rattle.ac_queue_calls.proofs.queue_listing.add_items.Goals as goal

same_count : (n m : ℕ) → pos n ≡ pos m → n ≡ m
same_count n m e = cc

pub returns-in_err-add_item-clause-adds : goal.returns-in_err-add_item-clause-adds
returns-in_err-add_item-clause-adds g c =
    let text : ℤ → List ℕ = λ item. literal_text (Int item) in
    let items = (state_of c.args.queue.now).queue.items in
    let place = c.loop-place.place in
    let passed = to_z w64 (of_z w64 c.unwrap.result) in
    let read = sym c.item.ensures ∙ (c.unwrap.ensures ∙ ap Some (sym (to_z-of_z {w = w64} {z = c.unwrap.result} (search rules)))) in
    breaks (err_from_is_err_and c.from_residual.result c.from_residual.ensures.1).1 (listed_from text (place + 1) items)
    (still (from_place text items place passed read) c.loop-place.invariant.adds) c.in_err-add_item.ensures.adds

pub loop-place-preserved : goal.loop-place-preserved
loop-place-preserved g c =
    let text : ℤ → List ℕ = λ item. literal_text (Int item) in
    let items = (state_of c.args.queue.now).queue.items in
    let place = c.loop-place.place in
    let passed = to_z w64 (of_z w64 c.unwrap.result) in
    let read = sym c.item.ensures ∙ (c.unwrap.ensures ∙ ap Some (sym (to_z-of_z {w = w64} {z = c.unwrap.result} (search rules)))) in
    record {
      adds = goes_on (still (from_place text items place passed read) c.loop-place.invariant.adds) c.in_ok-add_item.ensures.adds;
      short = λ h. c.in_ok-add_item.ensures.short (c.loop-place.invariant.short h);
    }

pub returns-clause-adds : goal.returns-clause-adds
returns-clause-adds g c =
    let text : ℤ → List ℕ = λ item. literal_text (Int item) in
    let items = (state_of c.args.queue.now).queue.items in
    let count : c.current_use-place-end.result ≡ length items = same_count c.current_use-place-end.result (length items) c.current_use-place-end.ensures.use_now in
    let all : c.loop-place.place ≡ length items = omega (arith, c.loop-place-test.false, c.loop-place.auto.place-end, count) in
    ends (still (at_end text items c.loop-place.place all) c.loop-place.invariant.adds) (adds_nothing _ _)
