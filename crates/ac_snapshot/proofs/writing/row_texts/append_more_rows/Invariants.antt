use Rattle.std.proofs.Common.{◌≡◌, ◌++◌, take}
use Rattle.ac_calls.specs.Listings.{after_commas}
use Rattle.ac_snapshot.specs.StateTexts.{row_text}
use Rattle.ac_snapshot.proofs.writing.row_texts.append_more_rows.Given as goal

abbrev pub invariant-loop-row : goal.invariant-loop-row
invariant-loop-row l = l.text.items ≡ l.initial.text.items ++ after_commas row_text (take l.row-index l.rows)
