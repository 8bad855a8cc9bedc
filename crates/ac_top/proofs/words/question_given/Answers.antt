use Rattle.std.proofs.Common.{rules, codes, Some, ap, ◌∙◌}
use Rattle.clap.specs.Words.{found_of}
use Rattle.clap.proofs.WalkLemmas.{first_value-rows}
use Rattle.ac_top.proofs.words.question_given.Goals as goal

pub returns-in_ok-to_vec-in-Some : goal.returns-in_ok-to_vec-in-Some
returns-in_ok-to_vec-in-Some c =
    ap Some (search rules) ∙ c.in-Some.ensures ∙ first_value-rows (found_of c.args.matches.now) (codes "ask")

pub returns-in-None : goal.returns-in-None
returns-in-None c = c.in-None.ensures ∙ first_value-rows (found_of c.args.matches.now) (codes "ask")
