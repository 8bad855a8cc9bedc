-- The exceptions that handlers name, as contracts see them.
use Rattle.std.specs.Prelude.{List, [], ◌∷◌, Option, Some, None}
use Rattle.ac_base.specs.declared.reason.Exception.{Exception}
use Rattle.ac_rules.specs.declared.resolved.ResolvedHandler.{ResolvedHandler}

-- with one in front, where there is one
abbrev pub named_before : Option Exception → List Exception → List Exception
named_before None named = named
named_before (Some own) named = own ∷ named

abbrev pub named_by : List ResolvedHandler → List Exception
named_by [] = []
named_by (handler ∷ handlers) = named_before handler.catches (named_by handlers)
