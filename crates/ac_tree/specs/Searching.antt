-- Which rows a search looks at, in its order, and what it finds among them.
use Rattle.std.specs.Prelude.{◌==◌, ℕ, Bool, List, length, reverse, take, drop, filter, find, Option, if◌then◌else◌}
use Rattle.std.specs.Option.{option_map}
use Rattle.ac_base.specs.declared.name.Name.{Name}
use Rattle.ac_base.specs.Rows.{Row}
use Rattle.ac_model.specs.Rows.{Node}
use Rattle.ac_model.specs.Objects.{plains}
use Rattle.ac_model.specs.Outline.{run_of, run_start, subtree_length, subtree_start, path_to, is_in}

module _ {T : Type 0} where
  -- the name of the first of these rows with an equal element
  abbrev pub found_in : (T → T → Bool) → T → List (Row Name (Node T)) → Option Name
  found_in same e rows = option_map (λ (r : Row Name (Node T)). r.name) (find (λ (r : Row Name (Node T)). same r.value.element e) rows)

  -- the rows below the node with this serial
  abbrev pub rows_below : List (Row Name (Node T)) → ℕ → List (Row Name (Node T))
  rows_below rows serial = take (length (run_of (plains rows) serial)) (drop (run_start (plains rows) serial) rows)

  -- the node itself with them: all rows for the root
  abbrev pub rows_on : List (Row Name (Node T)) → ℕ → List (Row Name (Node T))
  rows_on rows serial = if serial == 0 then rows else take (subtree_length (plains rows) serial) (drop (subtree_start (plains rows) serial) rows)

  -- the node and those above it, upwards
  abbrev pub rows_up : List (Row Name (Node T)) → ℕ → List (Row Name (Node T))
  rows_up rows serial = reverse (filter (λ (r : Row Name (Node T)). is_in r.name.serial (path_to (plains rows) serial)) rows)
