-- Reading a question from the front of its tokens, in at most so many steps.
use Rattle.std.specs.Prelude.{ℕ, zero, suc, codes, List}
use Rattle.ac_syntax.specs.declared.token.Mark.TheVariants as mark
use Rattle.ac_aggregate.specs.Asked.{Asked, group, product, sum, each, always, compares, both, negated}
use Rattle.ac_aggregate.specs.Outcomes.{stuck, Reader, gives, ◌>>=◌, fork}
use Rattle.ac_aggregate.specs.Readers.{marked, word, signs, comparing, heading, spelled, negation, object, reduced_or, as_factor, as_question, closed}

pub data Rule : Type 0 where
  factor : Rule
  term : Rule
  expr : Rule
  atom : Rule
  condition : Rule
  -- a condition behind `when`, where there is one
  filter : Rule
  -- behind the bracket of an aggregate
  aggregate : Rule
  source : Rule
  question : Rule
  -- what goes on behind a term, an expression, the left side of a comparison and a condition
  factors : Asked → Rule
  terms : Asked → Rule
  compared : Asked → Rule
  conditions : Asked → Rule
  -- the end of an aggregate, behind its condition
  given : (generator object : List ℕ) → (condition : Asked) → Rule

-- `by` reads by any rule in one step less
module _ (by : Rule → Reader Asked) where
  abbrev pub read_factor : Reader Asked
  read_factor =
      fork (marked mark.Open) (λ _. by expr >>= closed mark.Close group)
      (fork spelled (λ e. gives e) (by source >>= reduced_or as_factor))

  abbrev pub read_atom : Reader Asked
  read_atom = fork negation (λ _. by condition >>= closed mark.Close negated) (by expr >>= λ l. by (compared l))

  abbrev pub read_given : (generator own : List ℕ) → Asked → Reader Asked
  read_given generator own c = marked mark.Arrow >>= λ _. by expr >>= closed mark.BracketClose (each generator own c)

  abbrev pub read_rule : Rule → Reader Asked
  read_rule factor = read_factor
  read_rule term = by factor >>= λ e. by (factors e)
  read_rule expr = by term >>= λ e. by (terms e)
  read_rule atom = read_atom
  read_rule condition = by atom >>= λ c. by (conditions c)
  read_rule filter = fork (word (codes "when")) (λ _. by condition) (gives always)
  read_rule aggregate = heading >>= λ h. by filter >>= λ c. by (given h.0 h.1 c)
  read_rule source = fork (marked mark.BracketOpen) (λ _. by aggregate) object
  read_rule question = by source >>= reduced_or as_question
  read_rule (factors l) = fork (marked mark.Star) (λ _. by factor >>= λ r. by (factors (product l r))) (gives l)
  read_rule (terms l) = fork signs (λ minus. by term >>= λ r. by (terms (sum l minus r))) (gives l)
  read_rule (compared l) = comparing >>= λ op. by expr >>= λ r. gives (compares l op r)
  read_rule (conditions l) = fork (word (codes "and")) (λ _. by atom >>= λ r. by (conditions (both l r))) (gives l)
  read_rule (given generator own c) = read_given generator own c

unfoldable pub read_by : ℕ → Rule → Reader Asked
read_by zero rule ts = stuck
read_by (suc n) rule ts = read_rule (read_by n) rule ts
