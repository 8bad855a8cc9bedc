use Rattle.std.proofs.Common.{◌∙◌, inl, inr, arith}
use Rattle.std.proofs.lemmas.Bool.{cases_eq}
use Rattle.ac_pool.proofs.ContentsLaws.{cleared_is}
use Rattle.ac_pool.proofs.pool.Pool.clear.Goals as goal

pub vacate-requires : goal.vacate-requires
vacate-requires g c =
    let v = c.loop-slot.invariant in let d = c.loop-slot.self in omega (arith, v.slots, v.last, c.loop-slot-test.true)

pub loop-slot-preserved : goal.loop-slot-preserved
loop-slot-preserved g c =
    let v = c.loop-slot.invariant in let d = c.loop-slot.self in let e = c.vacate.ensures.0 in
    record {
      sound = c.vacate.ensures.1;
      slots = e.slots ∙ v.slots;
      next = e.next ∙ v.next;
      last = v.last;
      emptied = λ a less. elim (cases_eq a.slot c.loop-slot.slot) [ inl at ↦ e.gone a at | inr apart ↦ e.others a apart ∙ v.emptied a (omega arith) ];
    }

pub returns-clause-cleared : goal.returns-clause-cleared
returns-clause-cleared g c =
    let v = c.loop-slot.invariant in let d = c.loop-slot.self in cleared_is c.args.self.now d v.sound v.slots v.next (λ a less. v.emptied a (omega (arith, v.slots, v.last, c.loop-slot-test.false)))
