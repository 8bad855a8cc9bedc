use Rattle.std.proofs.Common.{◌≡◌, length, take, drop}
use Rattle.ac_meaning.specs.Environment.{after_decls}
use Rattle.ac_objects.specs.World.{state_of, Persists}
use Rattle.ac_objects.proofs.objects.Objects.declare_all.Given as goal

abbrev pub invariant-loop-decl : goal.invariant-loop-decl
invariant-loop-decl l = record {
  rest : after_decls (drop l.decl-index l.decls) (state_of l.self) ≡ after_decls l.decls (state_of l.fn.self);
  before : take (length l.fn.self.bounds) l.self.bounds ≡ l.fn.self.bounds;
  persists : Persists l.fn.self l.self;
}
