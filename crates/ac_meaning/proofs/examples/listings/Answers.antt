use Rattle.std.proofs.Common.{refl}
use Rattle.std.specs.Fmt.{digits}
use Rattle.ac_meaning.proofs.examples.listings.Goals as goal

pub returns-clause-map_is_listed : goal.returns-clause-map_is_listed
unfolding digits
returns-clause-map_is_listed c = refl

pub returns-clause-tree_is_listed : goal.returns-clause-tree_is_listed
unfolding digits
returns-clause-tree_is_listed c = refl

pub returns-clause-deep_tree_is_listed : goal.returns-clause-deep_tree_is_listed
unfolding digits
returns-clause-deep_tree_is_listed c = refl
