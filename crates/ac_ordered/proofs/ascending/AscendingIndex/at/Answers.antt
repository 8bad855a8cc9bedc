use Rattle.std.proofs.Common.{rules, ◌≡◌, true, Some, is_some, sym, ap, ◌∙◌, subst}
use Rattle.std.specs.Prelude.{option_copied}
use Rattle.ac_setwork.specs.Indexed.{is_there, value_of}
use Rattle.ac_ordered.specs.Ascents.{ascent}
use Rattle.ac_ordered.proofs.Ascents.{there_live, alone, value_is}
use Rattle.ac_ordered.proofs.Becoming.{key_there}
use Rattle.ac_ordered.proofs.ascending.AscendingIndex.at.Goals as goal

pub unwrap-requires : goal.unwrap-requires
unwrap-requires g c =
    let x = c.self.inside.tree in let live = there_live x c.args.name (subst (λ x. is_there (ascent x) c.args.name ≡ true) (sym c.self.view_is) c.requires) in
    let k = key_there _ x c.self.invariant c.args.name live in let there = ap is_some (c.key.ensures.key ∙ k.1) in search rules

pub returns : goal.returns
returns g c =
    let x = c.self.inside.tree in let live = there_live x c.args.name (subst (λ x. is_there (ascent x) c.args.name ≡ true) (sym c.self.view_is) c.requires) in
    sym (ap (λ x. value_of (ascent x) c.args.name) c.self.view_is) ∙ value_is x c.args.name (alone _ x c.args.name c.self.invariant live) ∙ sym c.key.ensures.key ∙ ap option_copied c.unwrap.ensures ∙ ap Some (sym c.behind-key.view_is)
