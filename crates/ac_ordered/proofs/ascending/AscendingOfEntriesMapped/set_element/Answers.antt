use Rattle.std.proofs.Common.{◌≡◌, true, sym, subst}
use Rattle.std.specs.Prelude.{option_map}
use Rattle.ac_model.specs.Rows.{Entry, entry, with_some_value, value_at}
use Rattle.ac_setwork.specs.Indexed.{Becomes, is_there, plain_rows}
use Rattle.ac_ordered.specs.Ascents.{ascent}
use Rattle.ac_ordered.proofs.Ascents.{there_live}
use Rattle.ac_ordered.proofs.Becoming.{element_becomes}
use Rattle.ac_ordered.proofs.ascending.AscendingOfEntriesMapped.set_element.Goals as goal

pub change_key-requires-clause-there : goal.change_key-requires-clause-there
change_key-requires-clause-there g c = there_live c.self.inside.tree c.args.name (subst (λ x. is_there (ascent x) c.args.name ≡ true) (sym c.self.view_is) c.requires)

pub returns : goal.returns
returns g c =
    let x = c.self.inside.tree in let a = c.args.name in let live = there_live x a (subst (λ x. is_there (ascent x) a ≡ true) (sym c.self.view_is) c.requires) in
    let with_element = λ (e : Entry g.row.K.Denot g.row.V.Denot). entry e.key c.args.element in
    subst (λ x. Becomes (ascent x) (ascent c.change_key.new.self) (with_some_value (plain_rows (ascent x)) a.serial (option_map with_element (value_at (plain_rows (ascent x)) a.serial))) x.next_serial x.spare) c.self.view_is
    (element_becomes _ x c.self.invariant a live c.change_key.new.self with_element c.change_key.ensures.key)
