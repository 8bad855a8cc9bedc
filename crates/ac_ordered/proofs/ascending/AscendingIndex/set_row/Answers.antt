use Rattle.std.proofs.Common.{◌≡◌, Bool, true, false, sym, subst}
use Rattle.ac_base.specs.Order.{are_level}
use Rattle.ac_model.specs.Keyed.{ascending, with_reordered, another_is_like}
use Rattle.ac_setwork.specs.Indexed.{Becomes, is_there, plain_rows}
use Rattle.ac_pool.proofs.Cuts.{live_has}
use Rattle.ac_ordered.specs.Ascents.{ascent}
use Rattle.ac_ordered.proofs.Ascents.{there_live, alone, once_in, none_left}
use Rattle.ac_ordered.proofs.Becoming.{reordered_becomes}
use Rattle.ac_ordered.proofs.ascending.AscendingIndex.set_row.Goals as goal

pub set_row-requires-clause-there : goal.set_row-requires-clause-there
set_row-requires-clause-there g c = there_live c.self.inside.tree c.args.name (subst (λ x. is_there (ascent x) c.args.name ≡ true) (sym c.self.view_is) c.requires.there)

pub set_row-requires-clause-only : goal.set_row-requires-clause-only
set_row-requires-clause-only g c =
    let x = c.self.inside.tree in let a = c.args.name in let live = there_live x a (subst (λ x. is_there (ascent x) a ≡ true) (sym c.self.view_is) c.requires.there) in
    let test : g.row.S-Row.Denot → Bool = λ w. are_level g.S.Ranked.is_less w c.args.row in
    none_left a test x.rows (alone _ x a c.self.invariant live) (once_in _ x c.self.invariant) (live_has a x.rows live)
    (subst (λ x. another_is_like (ascending g.S.Ranked.is_less) (plain_rows (ascent x)) a.serial c.args.row ≡ false) (sym c.self.view_is) c.requires.only)

pub returns : goal.returns
returns g c =
    let x = c.self.inside.tree in let a = c.args.name in let live = there_live x a (subst (λ x. is_there (ascent x) a ≡ true) (sym c.self.view_is) c.requires.there) in
    let less = g.S.Ranked.is_less in
    subst (λ x. Becomes (ascent x) (ascent c.set_row.new.self) (with_reordered (ascending less) (plain_rows (ascent x)) a.serial c.args.row) x.next_serial x.spare) c.self.view_is
    (reordered_becomes less x c.self.invariant a live c.set_row.new.self c.args.row c.set_row.ensures.row)
