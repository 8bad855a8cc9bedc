use Rattle.std.proofs.Common.{refl}
use Rattle.std.specs.Fmt.{digits}
use Rattle.ac_syntax.specs.Grammar.{reserved, is_reserved}
use Rattle.ac_snapshot.specs.StateReading.{whole}
use Rattle.ac_snapshot.proofs.law.reading_examples.Goals as goal

pub returns-clause-nothing : goal.returns-clause-nothing
unfolding digits reserved is_reserved
returns-clause-nothing c = whole _ refl refl

pub returns-clause-bounded_list : goal.returns-clause-bounded_list
unfolding digits reserved is_reserved
returns-clause-bounded_list c = whole _ refl refl

pub returns-clause-list_and_integer : goal.returns-clause-list_and_integer
unfolding digits reserved is_reserved
returns-clause-list_and_integer c = whole _ refl refl
