use Rattle.std.proofs.Common.{refl}
use Rattle.ac_syntax.specs.Grammar.{reserved, is_reserved}
use Rattle.ac_snapshot.proofs.law.validity_examples.Goals as goal

pub returns-clause-states : goal.returns-clause-states
unfolding reserved is_reserved
returns-clause-states c = refl

pub returns-clause-names : goal.returns-clause-names
unfolding reserved is_reserved
returns-clause-names c = refl

pub returns-clause-names_apart : goal.returns-clause-names_apart
unfolding reserved is_reserved
returns-clause-names_apart c = refl

pub returns-clause-integers : goal.returns-clause-integers
unfolding reserved is_reserved
returns-clause-integers c = refl

pub returns-clause-texts : goal.returns-clause-texts
unfolding reserved is_reserved
returns-clause-texts c = refl

pub returns-clause-types : goal.returns-clause-types
unfolding reserved is_reserved
returns-clause-types c = refl

pub returns-clause-limits : goal.returns-clause-limits
unfolding reserved is_reserved
returns-clause-limits c = refl

pub returns-clause-room : goal.returns-clause-room
unfolding reserved is_reserved
returns-clause-room c = refl

pub returns-clause-capacities : goal.returns-clause-capacities
unfolding reserved is_reserved
returns-clause-capacities c = refl

pub returns-clause-peaks : goal.returns-clause-peaks
unfolding reserved is_reserved
returns-clause-peaks c = refl

pub returns-clause-rows : goal.returns-clause-rows
unfolding reserved is_reserved
returns-clause-rows c = refl

pub returns-clause-lengths : goal.returns-clause-lengths
unfolding reserved is_reserved
returns-clause-lengths c = refl

pub returns-clause-holders : goal.returns-clause-holders
unfolding reserved is_reserved
returns-clause-holders c = refl

pub returns-clause-keys : goal.returns-clause-keys
unfolding reserved is_reserved
returns-clause-keys c = refl

pub returns-clause-orders : goal.returns-clause-orders
unfolding reserved is_reserved
returns-clause-orders c = refl

pub returns-clause-outlines : goal.returns-clause-outlines
unfolding reserved is_reserved
returns-clause-outlines c = refl

pub returns-clause-priorities : goal.returns-clause-priorities
unfolding reserved is_reserved
returns-clause-priorities c = refl
