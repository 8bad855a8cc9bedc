-- A text asks at most one question.
use Rattle.std.proofs.Common.{◌≡◌, ◌+◌, ◌*◌, ℕ, List, [], length, arith, sym, ◌∙◌}
use Rattle.ac_syntax.specs.declared.token.Token.{Token}
use Rattle.ac_syntax.specs.Tokens.{cut_of, tokens}
use Rattle.ac_aggregate.specs.Asked.{Asked}
use Rattle.ac_aggregate.specs.Outcomes.{got}
use Rattle.ac_aggregate.specs.Grammar.{Derives, questions, Asks}
use Rattle.ac_aggregate.proofs.Complete.{all_read}

pub derives_one : (ts : List Token) (q other : Asked) → Derives questions q ts → Derives questions other ts → q ≡ other
derives_one ts q other d e =
    let n : ℕ = 4 * length ts + 1 in
    let same : got q [] ≡ got other [] = sym (all_read q ts n d (omega arith)) ∙ all_read other ts n e (omega arith) in
    cc same

pub asks_one : (word : List ℕ) (q other : Asked) → Asks q word → Asks other word → q ≡ other
asks_one word q other d e = derives_one (tokens (cut_of word).placed) q other d.derives e.derives
