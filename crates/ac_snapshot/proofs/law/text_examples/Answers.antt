use Rattle.std.proofs.Common.{refl}
use Rattle.std.specs.Fmt.{digits}
use Rattle.ac_snapshot.proofs.law.text_examples.Goals as goal

pub returns-clause-list_and_integer : goal.returns-clause-list_and_integer
unfolding digits
returns-clause-list_and_integer c = refl

pub returns-clause-nothing : goal.returns-clause-nothing
unfolding digits
returns-clause-nothing c = refl

pub returns-clause-vector : goal.returns-clause-vector
unfolding digits
returns-clause-vector c = refl

pub returns-clause-integer : goal.returns-clause-integer
unfolding digits
returns-clause-integer c = refl

pub returns-clause-string : goal.returns-clause-string
unfolding digits
returns-clause-string c = refl

pub returns-clause-list : goal.returns-clause-list
unfolding digits
returns-clause-list c = refl

pub returns-clause-hashed_map : goal.returns-clause-hashed_map
unfolding digits
returns-clause-hashed_map c = refl

pub returns-clause-ordered_map : goal.returns-clause-ordered_map
unfolding digits
returns-clause-ordered_map c = refl

pub returns-clause-keyed_set : goal.returns-clause-keyed_set
unfolding digits
returns-clause-keyed_set c = refl

pub returns-clause-bounded_keyed_set : goal.returns-clause-bounded_keyed_set
unfolding digits
returns-clause-bounded_keyed_set c = refl

pub returns-clause-tree : goal.returns-clause-tree
unfolding digits
returns-clause-tree c = refl

pub returns-clause-empty_tree : goal.returns-clause-empty_tree
unfolding digits
returns-clause-empty_tree c = refl

pub returns-clause-holder : goal.returns-clause-holder
unfolding digits
returns-clause-holder c = refl

pub returns-clause-queue : goal.returns-clause-queue
unfolding digits
returns-clause-queue c = refl

pub returns-clause-priority_queue : goal.returns-clause-priority_queue
unfolding digits
returns-clause-priority_queue c = refl
