use Rattle.std.proofs.Common.{◌≡◌, get_or, set, map, Some, None, sym, ap, ◌∙◌, subst, inr, arith}
use Rattle.std.proofs.lemmas.List.{map-set}
use Rattle.ac_pool.specs.Places.{kept, value_of_place}
use Rattle.ac_pool.specs.Runs.{kept_in}
use Rattle.ac_pool.specs.Reached.{IsReached}
use Rattle.ac_pool.proofs.Written.{value_seen, same_kept, reached_put}
use Rattle.ac_pool.proofs.chunk.Chunk.put.Goals as goal

pub put-requires-clause-bare : goal.put-requires-clause-bare
put-requires-clause-bare g c =
    let cells = c.self.inside.block.cells in let i = c.args.index in let none : get_or (map kept cells) i None ≡ None = rw c.self.view_is c.requires.empty in
    ap value_of_place (c.reach-value.ensures.cells.outside i (inr (omega arith))) ∙ sym (value_seen cells i) ∙ ap kept_in none

pub invariant_of-self : goal.invariant_of-self
invariant_of-self g c =
    let a = c.self.inside in let i = c.args.index in let f = c.furthest-reached in
    subst (λ l. IsReached l f.result) (sym c.put.ensures)
    (reached_put a.block.cells a.reached c.self.invariant c.reach-value.new.block.cells i c.reach-value.ensures.cells c.args.serial c.reach-value.result f.result c.requires.within c.requires.serial f.ensures.bounds.0 f.ensures.bounds.1 f.ensures.one)

pub returns : goal.returns
returns g c =
    let a = c.self.inside in let cells = a.block.cells in let i = c.args.index in let now = c.reach-value.new.block.cells in let s = c.args.serial in
    rw (← c.self.view_is) (
    ap (map kept) c.put.ensures ∙ map-set kept now i (Some (s, Some c.reach-value.result)) ∙ ap (λ l. set l i (Some (s, c.reach-value.result))) (same_kept cells a.reached c.self.invariant now i c.reach-value.ensures.cells)
    ∙ ap (λ v. set (map kept cells) i (Some (s, v))) c.reach-value.ensures.value)
