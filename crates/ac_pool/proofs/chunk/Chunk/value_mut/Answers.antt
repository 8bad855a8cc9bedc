use Rattle.std.proofs.Common.{set, map, Some, refl, sym, ap, ◌∙◌}
use Rattle.std.proofs.lemmas.List.{map-set}
use Rattle.ac_pool.specs.Cell.{IsKept}
use Rattle.ac_pool.specs.Places.{kept, serial_at_place}
use Rattle.ac_pool.proofs.Written.{serial_seen, shown_under, kept_there, below, set_written, mark_stands}
use Rattle.ac_pool.proofs.chunk.Chunk.value_mut.Goals as goal

pub value_mut-requires : goal.value_mut-requires
value_mut-requires g c = let cells = c.self.inside.block.cells in let i = c.args.index in let k : IsKept (map kept cells) i = rw c.self.view_is c.requires in (k.0, kept_there cells i k.0 k.1)

pub invariant_of-self-lent : goal.invariant_of-self-lent
invariant_of-self-lent g c = λ w.
    let a = c.self.inside in let cells = a.block.cells in let i = c.args.index in let h = c.self.invariant in let k : IsKept (map kept cells) i = rw c.self.view_is c.requires in
    let there = kept_there cells i k.0 k.1 in set_written cells a.reached h i (serial_at_place cells i) (Some w) (below cells a.reached h i (k.0.0, Some k.0.1) there) (mark_stands cells a.reached h i k.0 w there)

pub returns : goal.returns
returns g c =
    let cells = c.self.inside.block.cells in let i = c.args.index in let k : IsKept (map kept cells) i = rw c.self.view_is c.requires in let there = kept_there cells i k.0 k.1 in
    rw (← c.self.view_is) (
      (refl {a = c.value_mut.result.ghost_name}, λ w. map-set kept cells i (Some (serial_at_place cells i, Some w)) ∙ ap (λ n. set (map kept cells) i (Some (n, w))) (sym (serial_seen cells i k.0 there))),
      record { writes_back = tt; value = shown_under cells i k.0 c.value_mut.result.now there c.value_mut.ensures.value },
    )
