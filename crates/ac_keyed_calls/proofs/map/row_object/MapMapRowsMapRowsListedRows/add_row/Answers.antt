use Rattle.std.proofs.Common.{◌≡◌, subst, Some}
use Rattle.ac_model.specs.Forms.{seen_by}
use Rattle.ac_model.specs.Objects.{plain}
use Rattle.ac_model.specs.Sequences.{element_call}
use Rattle.ac_keyed_calls.specs.declared.map.Map.{Map}
use Rattle.ac_keyed_calls.specs.Maps.{entries_of}
use Rattle.ac_keyed_calls.proofs.map.row_object.MapMapRowsMapRowsListedRows.add_row.Goals as goal

pub returns-in-Hashed-clause-adds : goal.returns-in-Hashed-clause-adds
returns-in-Hashed-clause-adds g c row is =
    c.add_row.ensures.adds row
    (subst (λ (m : Map _ _). (element_call (plain (entries_of m).object) (seen_by (entries_of m) c.args.c)).answer ≡ Some row) c.in-Hashed.is is)

pub returns-in-Ordered-clause-adds : goal.returns-in-Ordered-clause-adds
returns-in-Ordered-clause-adds g c row is =
    c.add_row-in-Ordered.ensures.adds row
    (subst (λ (m : Map _ _). (element_call (plain (entries_of m).object) (seen_by (entries_of m) c.args.c)).answer ≡ Some row) c.in-Ordered.is is)
