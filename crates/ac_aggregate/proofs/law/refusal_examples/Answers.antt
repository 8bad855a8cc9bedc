use Rattle.std.proofs.Common.{refl}
use Rattle.ac_syntax.specs.Grammar.{is_reserved, reserved}
use Rattle.ac_aggregate.specs.Grammar.{is_name}
use Rattle.ac_aggregate.specs.Readers.{heading, spelled, negation, reducing, signed_number}
use Rattle.ac_aggregate.specs.Reading.{read_by}
use Rattle.ac_aggregate.proofs.Judged.{refuses_by, nothing_by, malformed_by, long_by}
use Rattle.ac_aggregate.proofs.law.refusal_examples.Goals as goal

pub returns-clause-refuses_deep : goal.returns-clause-refuses_deep
unfolding read_by heading spelled negation reducing signed_number is_name is_reserved reserved
returns-clause-refuses_deep c = refuses_by _ _ _ _ refl refl refl refl

pub returns-clause-refuses_nothing : goal.returns-clause-refuses_nothing
unfolding read_by heading spelled negation reducing signed_number is_name is_reserved reserved
returns-clause-refuses_nothing c = nothing_by _ _ refl refl

pub returns-clause-refuses_name : goal.returns-clause-refuses_name
unfolding read_by heading spelled negation reducing signed_number is_name is_reserved reserved
returns-clause-refuses_name c = nothing_by _ _ refl refl

pub returns-clause-refuses_minus : goal.returns-clause-refuses_minus
unfolding read_by heading spelled negation reducing signed_number is_name is_reserved reserved
returns-clause-refuses_minus c = nothing_by _ _ refl refl

pub returns-clause-refuses_word : goal.returns-clause-refuses_word
unfolding read_by heading spelled negation reducing signed_number is_name is_reserved reserved
returns-clause-refuses_word c = nothing_by _ _ refl refl

pub returns-clause-refuses_reserved : goal.returns-clause-refuses_reserved
unfolding read_by heading spelled negation reducing signed_number is_name is_reserved reserved
returns-clause-refuses_reserved c = nothing_by _ _ refl refl

pub returns-clause-refuses_malformed : goal.returns-clause-refuses_malformed
unfolding read_by heading spelled negation reducing signed_number is_name is_reserved reserved
returns-clause-refuses_malformed c = malformed_by _ _ _ refl refl

pub returns-clause-refuses_length : goal.returns-clause-refuses_length
unfolding read_by heading spelled negation reducing signed_number is_name is_reserved reserved
returns-clause-refuses_length c = long_by _ _ refl

pub returns-clause-syntax_over_limit : goal.returns-clause-syntax_over_limit
unfolding read_by heading spelled negation reducing signed_number is_name is_reserved reserved
returns-clause-syntax_over_limit c = nothing_by _ _ refl refl

pub returns-clause-syntax_over_name : goal.returns-clause-syntax_over_name
unfolding read_by heading spelled negation reducing signed_number is_name is_reserved reserved
returns-clause-syntax_over_name c = nothing_by _ _ refl refl

pub returns-clause-syntax_over_type : goal.returns-clause-syntax_over_type
unfolding read_by heading spelled negation reducing signed_number is_name is_reserved reserved
returns-clause-syntax_over_type c = nothing_by _ _ refl refl

pub returns-clause-syntax_over_twice : goal.returns-clause-syntax_over_twice
unfolding read_by heading spelled negation reducing signed_number is_name is_reserved reserved
returns-clause-syntax_over_twice c = nothing_by _ _ refl refl

pub returns-clause-limit_over_name : goal.returns-clause-limit_over_name
unfolding read_by heading spelled negation reducing signed_number is_name is_reserved reserved
returns-clause-limit_over_name c = refuses_by _ _ _ _ refl refl refl refl

pub returns-clause-limit_over_type : goal.returns-clause-limit_over_type
unfolding read_by heading spelled negation reducing signed_number is_name is_reserved reserved
returns-clause-limit_over_type c = refuses_by _ _ _ _ refl refl refl refl

pub returns-clause-limit_over_twice : goal.returns-clause-limit_over_twice
unfolding read_by heading spelled negation reducing signed_number is_name is_reserved reserved
returns-clause-limit_over_twice c = refuses_by _ _ _ _ refl refl refl refl

pub returns-clause-name_over_type : goal.returns-clause-name_over_type
unfolding read_by heading spelled negation reducing signed_number is_name is_reserved reserved
returns-clause-name_over_type c = refuses_by _ _ _ _ refl refl refl refl

pub returns-clause-name_over_twice : goal.returns-clause-name_over_twice
unfolding read_by heading spelled negation reducing signed_number is_name is_reserved reserved
returns-clause-name_over_twice c = refuses_by _ _ _ _ refl refl refl refl

pub returns-clause-type_over_twice : goal.returns-clause-type_over_twice
unfolding read_by heading spelled negation reducing signed_number is_name is_reserved reserved
returns-clause-type_over_twice c = refuses_by _ _ _ _ refl refl refl refl

pub returns-clause-refuses_twice : goal.returns-clause-refuses_twice
unfolding read_by heading spelled negation reducing signed_number is_name is_reserved reserved
returns-clause-refuses_twice c = refuses_by _ _ _ _ refl refl refl refl

pub returns-clause-refuses_twice_inside : goal.returns-clause-refuses_twice_inside
unfolding read_by heading spelled negation reducing signed_number is_name is_reserved reserved
returns-clause-refuses_twice_inside c = refuses_by _ _ _ _ refl refl refl refl

pub returns-clause-refuses_queue : goal.returns-clause-refuses_queue
unfolding read_by heading spelled negation reducing signed_number is_name is_reserved reserved
returns-clause-refuses_queue c = refuses_by _ _ _ _ refl refl refl refl

pub returns-clause-refuses_unlike : goal.returns-clause-refuses_unlike
unfolding read_by heading spelled negation reducing signed_number is_name is_reserved reserved
returns-clause-refuses_unlike c = refuses_by _ _ _ _ refl refl refl refl
