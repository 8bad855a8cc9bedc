use Rattle.std.proofs.Common.{[], ◌∷◌, ◌++◌, refl, sym, ap, subst, ◌∙◌}
use Rattle.ac_script.specs.declared.build.Level.{Level}
use Rattle.ac_script.specs.Building.{IsEmpty}
use Rattle.ac_script.proofs.build.Building.enter.Goals as goal

pub returns : goal.returns
returns c = record {
  pragma = refl;
  around = c.in_ok-push.ensures.items ∙ ap (λ (l : Level). c.args.self.now.around.items ++ record { level = l; opening = c.args.opening } ∷ []) c.replace-level.ensures.value;
  empty = subst IsEmpty (sym c.replace-level.ensures.after) c.new.ensures;
}
