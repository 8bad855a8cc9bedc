use Rattle.std.proofs.Common.{rules, ◌≡◌, ◌+◌, true, Some, is_some, sym, ap, ◌∙◌, subst}
use Rattle.std.specs.Prelude.{option_map}
use Rattle.ac_balance.specs.declared.entry.Entry.{Entry}
use Rattle.ac_balance.specs.Indexed.{value_at}
use Rattle.ac_pool.proofs.Cuts.{live_has}
use Rattle.ac_model.specs.Rows.{cut, place_of}
use Rattle.ac_setwork.specs.Indexed.{Becomes, is_there, value_of, plain_rows}
use Rattle.ac_ordered.specs.Ascents.{Nothing, ascent}
use Rattle.ac_ordered.proofs.Ascents.{there_live, alone, entry_there, value_is}
use Rattle.ac_ordered.proofs.Becoming.{key_of_row, taken_becomes}
use Rattle.ac_ordered.proofs.ascending.AscendingIndex.remove.Goals as goal

pub unwrap-sorted-requires : goal.unwrap-sorted-requires
unwrap-sorted-requires g c =
    let x = c.self.inside.tree in let a = c.args.name in let live = there_live x a (subst (λ x. is_there (ascent x) a ≡ true) (sym c.self.view_is) c.requires) in
    let there = ap is_some (c.take.ensures.row ∙ ap (option_map (λ (e : Entry g.row.S-Row.Denot Nothing). (e.key, e.value))) (entry_there a x.rows (live_has a x.rows live)).1) in search rules

pub returns-clause-value : goal.returns-clause-value
returns-clause-value g c =
    let x = c.self.inside.tree in let a = c.args.name in let live = there_live x a (subst (λ x. is_there (ascent x) a ≡ true) (sym c.self.view_is) c.requires) in
    sym (ap (λ x. value_of (ascent x) a) c.self.view_is) ∙ value_is x a (alone _ x a c.self.invariant live)
    ∙ key_of_row (value_at x.rows a) c.unwrap-sorted.result (sym c.take.ensures.row ∙ c.unwrap-sorted.ensures) ∙ ap Some (sym c.sorted.view_is)

pub returns-clause-removed : goal.returns-clause-removed
returns-clause-removed g c =
    let x = c.self.inside.tree in let a = c.args.name in let live = there_live x a (subst (λ x. is_there (ascent x) a ≡ true) (sym c.self.view_is) c.requires) in
    subst (λ x. Becomes (ascent x) (ascent c.take.new.self) (cut (plain_rows (ascent x)) (place_of (plain_rows (ascent x)) a.serial) 1) x.next_serial (x.spare + 1)) c.self.view_is
    (taken_becomes _ x c.self.invariant a live c.take.new.self c.take.ensures.taken)
