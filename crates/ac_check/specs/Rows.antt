-- The table of calls in code, as contracts see it.
use Rattle.std.specs.Prelude.{Bool, List, [], ◌∷◌, ◌++◌, map, find, Option, option_map}
use Rattle.std.specs.Borrow.{Bor}
use Rattle.ac_rules.specs.Table.{Row}
use Rattle.ac_syntax.specs.declared.operation.Operation.{Operation}
use Rattle.ac_check.specs.declared.table.Row.{Row as Kept}

abbrev pub row_view : Kept → Row
row_view kept =
    record { word = kept.word.now; letters = kept.letters.now; optional = kept.optional; answer = kept.answer; operation = kept.operation }

-- the rows of all groups in order
abbrev pub joined : List (Bor (List Kept)) → List Row
joined [] = []
joined (rows ∷ groups) = map row_view rows.now ++ joined groups

-- the first row that passes the test
abbrev pub first_row : (Row → Bool) → List Kept → Option Row
first_row passes rows = option_map row_view (find (λ row. passes (row_view row)) rows)

-- the first that does in the groups in order
abbrev pub first_grouped : (Row → Bool) → List (Bor (List Kept)) → Option Row
first_grouped passes groups = find passes (joined groups)

abbrev pub row_operation : Row → Operation
row_operation row = row.operation
