use Rattle.std.proofs.Common.{◌++◌, sym, ap, is_some, ◌∙◌}
use Rattle.std.specs.Option.{option_to_list}
use Rattle.ac_vector.proofs.Weaves.{stacking_more, stacking_name}
use Rattle.ac_vector.proofs.weaving.stack_last.Goals as goal

pub unwrap-name-requires : goal.unwrap-name-requires
unwrap-name-requires g c =
    let l = c.loop-i in let ls = c.pop.new.self.items in
    ap is_some (c.name_in.ensures.name ∙ (stacking_name c.args.places.now c.args.slots.now.items c.args.values.now.items c.args.stack.now.items l._i l.slots.items ls c.unwrap-slot.result l.values.items l.stack.items l.invariant.0
    (c.pop.ensures.items ∙ ap (λ o. ls ++ option_to_list o) c.unwrap-slot.ensures)).is)

pub loop-i-preserved : goal.loop-i-preserved
loop-i-preserved g c =
    let l = c.loop-i in let ls = c.pop.new.self.items in let us = c.pop-in-loop-i.new.self.items in (
      stacking_more c.args.places.now c.args.slots.now.items c.args.values.now.items c.args.stack.now.items l._i l.slots.items ls c.unwrap-slot.result l.values.items us l.stack.items c.push_reserved.new.self.items
          (record { name = c.unwrap-name.result; value = c.unwrap-value.result }) l.invariant.0
          (c.pop.ensures.items ∙ ap (λ o. ls ++ option_to_list o) c.unwrap-slot.ensures) (sym c.unwrap-name.ensures ∙ c.name_in.ensures.name)
          (c.pop-in-loop-i.ensures.items ∙ ap (λ o. us ++ option_to_list o) c.unwrap-value.ensures) c.push_reserved.ensures.items,
      c.pop.ensures.capacity ∙ l.invariant.1,
      c.pop-in-loop-i.ensures.capacity ∙ l.invariant.2,
      c.push_reserved.ensures.capacity ∙ l.invariant.3,
    )
