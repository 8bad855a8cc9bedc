use Rattle.std.proofs.Common.{◌≡◌, true, sym, ap, ◌∙◌, subst}
use Rattle.ac_setwork.specs.Indexed.{is_there, name_after}
use Rattle.ac_ordered.specs.Ascents.{ascent}
use Rattle.ac_ordered.proofs.Ascents.{there_live, alone, next_is}
use Rattle.ac_ordered.proofs.ascending.AscendingIndex.next.Goals as goal

pub after-requires : goal.after-requires
after-requires g c = there_live c.self.inside.tree c.args.name (subst (λ x. is_there (ascent x) c.args.name ≡ true) (sym c.self.view_is) c.requires)

pub returns : goal.returns
returns g c =
    let x = c.self.inside.tree in let live = there_live x c.args.name (subst (λ x. is_there (ascent x) c.args.name ≡ true) (sym c.self.view_is) c.requires) in
    c.after.ensures ∙ next_is x c.args.name (alone _ x c.args.name c.self.invariant live) ∙ ap (λ x. name_after (ascent x) c.args.name) c.self.view_is
