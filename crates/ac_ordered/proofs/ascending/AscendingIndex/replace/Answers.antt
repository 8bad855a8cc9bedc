use Rattle.std.proofs.Common.{◌≡◌, Bool, Some, sym, ◌∙◌, subst}
use Rattle.ac_base.specs.Order.{are_level}
use Rattle.ac_model.specs.Rows.{with_value}
use Rattle.ac_setwork.specs.Indexed.{Becomes, found, plain_rows}
use Rattle.ac_ordered.specs.Ascents.{ascent}
use Rattle.ac_ordered.proofs.Ascents.{found_is, found_there, found_passes, level_tied, once_in}
use Rattle.ac_ordered.proofs.Becoming.{key_there, changed_becomes}
use Rattle.ac_ordered.proofs.ascending.AscendingIndex.replace.Goals as goal

pub change_key-requires-clause-there : goal.change_key-requires-clause-there
change_key-requires-clause-there g c =
    let test : g.row.S-Row.Denot → Bool = λ w. are_level g.S.Ranked.is_less w c.args.row in
    found_there test c.self.inside.tree c.args.name (subst (λ x. found test (ascent x) ≡ Some c.args.name) (sym c.self.view_is) c.requires)

pub change_key-requires-clause-level : goal.change_key-requires-clause-level
change_key-requires-clause-level g c = λ k e.
    let x = c.self.inside.tree in let test : g.row.S-Row.Denot → Bool = λ w. are_level g.S.Ranked.is_less w c.args.row in
    let h = subst (λ x. found test (ascent x) ≡ Some c.args.name) (sym c.self.view_is) c.requires in
    level_tied g.S.Ranked.is_less k c.args.row (found_passes test x.rows c.args.name (once_in _ x c.self.invariant) (found_is test x.rows ∙ h) k e)

pub returns : goal.returns
returns g c =
    let x = c.self.inside.tree in let test : g.row.S-Row.Denot → Bool = λ w. are_level g.S.Ranked.is_less w c.args.row in
    let live = found_there test x c.args.name (subst (λ x. found test (ascent x) ≡ Some c.args.name) (sym c.self.view_is) c.requires) in
    let k = key_there _ x c.self.invariant c.args.name live in
    subst (λ x. Becomes (ascent x) (ascent c.change_key.new.self) (with_value (plain_rows (ascent x)) c.args.name.serial c.args.row) x.next_serial x.spare) c.self.view_is
    (changed_becomes _ x c.self.invariant c.args.name live c.change_key.new.self (λ _. c.args.row) k.0 c.change_key.ensures.key k.1)
