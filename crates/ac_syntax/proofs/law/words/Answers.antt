use Rattle.std.proofs.Common.{not, get_or, refl, sym, ◌∙◌, true≢false}
use Rattle.std.proofs.lemmas.List.Sums.{AllPass-from_list_all}
use Rattle.ac_syntax.specs.Grammar.{reserved, is_reserved}
use Rattle.ac_syntax.specs.WordExamples.{reserved_words, other_words}
use Rattle.ac_syntax.proofs.Derivations.{false-not}
use Rattle.ac_syntax.proofs.law.words.Goals as goal

pub returns-clause-reserved : goal.returns-clause-reserved
unfolding reserved is_reserved
returns-clause-reserved c k d h = λ spelled named. true≢false (sym (AllPass-from_list_all is_reserved reserved_words refl k d h) ∙ named.0)

pub returns-clause-others : goal.returns-clause-others
unfolding reserved is_reserved
returns-clause-others c k d h = (false-not (is_reserved (get_or other_words k d)) (AllPass-from_list_all (λ word. not (is_reserved word)) other_words refl k d h), refl)
