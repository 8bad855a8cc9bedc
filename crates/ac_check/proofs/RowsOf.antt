-- The calls of a type's objects, once its kind is known.
use Rattle.std.proofs.Common.{◌≡◌, ◌++◌, ◌∙◌, Bool, List, ap, sym}
use Rattle.ac_syntax.specs.declared.kind.Kind.{Kind}
use Rattle.ac_syntax.specs.declared.type_def.TypeDef.{TypeDef}
use Rattle.ac_syntax.specs.Kinds.{has_capacity}
use Rattle.ac_rules.specs.Table.{Row, rows_by, rows_if, rows_of, capacity_rows}

abbrev pub rows_with : Kind → (is_keyed : Bool) → List Row
rows_with k keyed = rows_by k keyed ++ rows_if (has_capacity k) capacity_rows

pub of_kind : (def : TypeDef) (k : Kind) → def.kind ≡ k → rows_with k def.keyed ≡ rows_of def
unfolding rows_of
of_kind def k is = ap (λ x. rows_with x def.keyed) (sym is)

pub of_set : (def : TypeDef) (k : Kind) (keyed : Bool) → def.kind ≡ k → def.keyed ≡ keyed → rows_with k keyed ≡ rows_of def
of_set def k keyed is keys = ap (rows_with k) (sym keys) ∙ of_kind def k is
