use Rattle.std.proofs.Common.{◌≡◌, reverse, sym, ◌∙◌, arith}
use Rattle.std.proofs.Math.Bool.{true≢false}
use Rattle.ac_syntax.specs.Order.{IsEnd}
use Rattle.ac_script.specs.Outcomes.{got, stopped}
use Rattle.ac_script.specs.ItemReader.{item, innermost_of}
use Rattle.ac_script.specs.Readings.{context_of}
use Rattle.ac_script.specs.Views.{item_view, stage_view}
use Rattle.ac_script.proofs.ReadsItems.{item_leaves}
use Rattle.ac_script.proofs.Readings.{read_catch, one_read, stops_reading, ends_open, all_read, is_whole}
use Rattle.ac_script.proofs.reading.read.Goals as goal

pub loop-rest-smaller : goal.loop-rest-smaller
loop-rest-smaller c =
    let read : item c.loop-rest.propagating (stage_view c.loop-rest.stage) (innermost_of (reverse c.loop-rest.open_blocks.items)) c.loop-rest.rest.now ≡ got (item_view c.in-Ok.item) c.in-Ok.behind.now
    = rw (← c.deref.ensures.value, ← c.innermost.ensures) c.in-Ok.ensures in
    item_leaves _ _ _ (read_catch _ _ _ _ c.loop-rest.invariant) _ _ _ read

pub loop-rest-preserved : goal.loop-rest-preserved
loop-rest-preserved c =
    let read : item c.loop-rest.propagating (stage_view c.loop-rest.stage) (innermost_of (reverse c.loop-rest.open_blocks.items)) c.loop-rest.rest.now ≡ got (item_view c.in-Ok.item) c.in-Ok.behind.now
    = rw (← c.deref.ensures.value, ← c.innermost.ensures) c.in-Ok.ensures in
    one_read _ _ _ _ _ _ _ _ c.loop-rest.invariant c.in_ok-push-in-Ok.ensures.items read
    (λ to e. rw c.propagates_after-propagating.ensures (c.in_ok-stage-in-Ok.ensures c.loop-rest.propagating to e))

pub returns-in-Err-At : goal.returns-in-Err-At
returns-in-Err-At c =
    let at : item c.loop-rest.propagating (stage_view c.loop-rest.stage) (innermost_of (reverse c.loop-rest.open_blocks.items)) c.loop-rest.rest.now ≡ stopped c.in-Err-At.at.now
    = rw (← c.deref.ensures.value, ← c.innermost.ensures) (rw c.in-Err-At.field-0-is at c.in-Err-At.ensures) in
    rw (c.stopped.ensures, c.in-Err-At.at-is) (stops_reading _ _ _ _ _ c.loop-rest.invariant (grind (arith, c.is_empty.ensures, c.loop-rest-test.true)) at)

pub returns-then-not-may_end : goal.returns-then-not-may_end
returns-then-not-may_end c =
    let still : IsEnd (context_of c.loop-rest.propagating c.loop-rest.open_blocks.items c.loop-rest.stage) → ⊥
    = λ h. true≢false (sym (c.may_end.ensures.only c.loop-rest.propagating (rw c.deref-2.ensures.value h)) ∙ c.if-not-may_end.true) in
    ends_open _ _ _ (all_read _ _ _ _ c.loop-rest.invariant (grind (arith, c.is_empty.ensures, c.loop-rest-test.false))) still

pub returns : goal.returns
returns c =
    let ends : IsEnd (context_of c.loop-rest.propagating c.loop-rest.open_blocks.items c.loop-rest.stage)
    = rw (← c.deref-2.ensures.value) (c.may_end.ensures.ends c.loop-rest.propagating c.if-not-may_end.false) in
    is_whole _ _ _ (all_read _ _ _ _ c.loop-rest.invariant (grind (arith, c.is_empty.ensures, c.loop-rest-test.false))) ends
