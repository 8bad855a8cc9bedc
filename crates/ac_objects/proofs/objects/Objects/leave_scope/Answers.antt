use Rattle.std.proofs.Common.{take, sym, ap, subst, ◌∙◌}
use Rattle.ac_meaning.specs.Environment.{leaving}
use Rattle.ac_objects.specs.World.{counted, world, state_of, IsSound, Persists}
use Rattle.ac_objects.proofs.InScope.{left_sound, left_state, left_persists}
use Rattle.ac_objects.proofs.objects.Objects.leave_scope.Goals as goal

pub invariant_of-self : goal.invariant_of-self
invariant_of-self c =
    let s = c.self.inside in
    subst (λ bs. IsSound (world bs (counted s.mint s.blocks))) (sym c.truncate.ensures.items) (left_sound s.bounds.items (counted s.mint s.blocks) c.args.names c.self.invariant)

pub returns-clause-left : goal.returns-clause-left
returns-clause-left c =
    let s = c.self.inside in
    ap (λ bs. state_of (world bs (counted s.mint s.blocks))) c.truncate.ensures.items
    ∙ (left_state s.bounds.items (counted s.mint s.blocks) c.args.names ∙ ap (λ w. leaving c.args.names (state_of w)) c.self.view_is)

pub returns-clause-persists : goal.returns-clause-persists
returns-clause-persists c =
    let s = c.self.inside in
    subst (λ bs. Persists c.args.self.now (world bs (counted s.mint s.blocks))) (sym c.truncate.ensures.items)
    (subst (λ w. Persists w (world (take c.args.names s.bounds.items) (counted s.mint s.blocks))) c.self.view_is (left_persists s.bounds.items (counted s.mint s.blocks) c.args.names))
