use Rattle.ac_io.proofs.Telling.{adds_then, adds_text}
use Rattle.ac_calls.proofs.listing.add_item.Goals as goal

pub returns-clause-adds : goal.returns-clause-adds
returns-clause-adds g c row is = adds_then (adds_text c.comma.ensures c.in_ok-add.ensures.adds) (c.add_row.ensures.adds row is)
