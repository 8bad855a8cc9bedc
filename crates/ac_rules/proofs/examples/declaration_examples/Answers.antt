use Rattle.std.proofs.Common.{refl}
use Rattle.ac_rules.proofs.examples.declaration_examples.Goals as goal

pub returns-clause-fits_capacity : goal.returns-clause-fits_capacity
returns-clause-fits_capacity c = refl

pub returns-clause-needs_cursors : goal.returns-clause-needs_cursors
returns-clause-needs_cursors c = refl

pub returns-clause-makes_rows : goal.returns-clause-makes_rows
returns-clause-makes_rows c = refl

pub returns-clause-counts_names : goal.returns-clause-counts_names
returns-clause-counts_names c = refl
