-- Generators with their types as contracts see them.
use Rattle.std.specs.Prelude.{List, map}
use Rattle.ac_syntax.specs.declared.kind.ElemKind.{ElemKind}
use Rattle.ac_aggregate.specs.declared.sorting.Typed.{Typed}
use Rattle.ac_aggregate.specs.Generators.{Generator, generator}

abbrev pub typed_view : List Typed → List (Generator ElemKind)
typed_view generators = map (λ (g : Typed). generator g.name g.kind) generators
