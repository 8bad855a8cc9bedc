use Rattle.std.proofs.Common.{◌≡◌, true, sym, ap, ◌∙◌, subst}
use Rattle.ac_setwork.specs.Ends.{name_before}
use Rattle.ac_setwork.specs.Indexed.{is_there}
use Rattle.ac_ordered.specs.Ascents.{ascent}
use Rattle.ac_ordered.proofs.Ascents.{there_live, alone, before_is}
use Rattle.ac_ordered.proofs.ascending.AscendingIndex.previous.Goals as goal

pub before-requires : goal.before-requires
before-requires g c = there_live c.self.inside.tree c.args.name (subst (λ x. is_there (ascent x) c.args.name ≡ true) (sym c.self.view_is) c.requires)

pub returns : goal.returns
returns g c =
    let x = c.self.inside.tree in let live = there_live x c.args.name (subst (λ x. is_there (ascent x) c.args.name ≡ true) (sym c.self.view_is) c.requires) in
    c.before-2.ensures ∙ before_is x c.args.name (alone _ x c.args.name c.self.invariant live) ∙ ap (λ x. name_before (ascent x) c.args.name) c.self.view_is
