use Rattle.std.proofs.Common.{◌∙◌, ◌∷◌, ◌++◌, drop, ap}
use Rattle.std.proofs.lemmas.Bool.Decides.{Decides-eqb}
use Rattle.std.proofs.lemmas.Option.{MatchOption-at_some, MatchOption-at_none}
use Rattle.std.proofs.lemmas.Slice.Eq.{strip_prefix_is}
use Rattle.ac_top.proofs.LinePlaces.{behind_lf}
use Rattle.ac_top.proofs.line_cut.begins_with_line.Goals as goal

pub returns-in_default-clause-no : goal.returns-in_default-clause-no
returns-in_default-clause-no c begins = absurd (
    MatchOption-at_none _ _ c.in_default.is (strip_prefix_is Decides-eqb c.args.text.now c.args.line.now _ c.strip_prefix.ensures.cases)
    (10 ∷ begins.0) begins.1)

pub returns-in-len1-up-clause-yes : goal.returns-in-len1-up-clause-yes
returns-in-len1-up-clause-yes c lf =
    let behind = MatchOption-at_some _ _ _ c.in-Some.is (strip_prefix_is Decides-eqb c.args.text.now c.args.line.now _ c.strip_prefix.ensures.cases) in
    (drop 1 c.in-Some.behind.now, behind ∙ ap (λ rest. c.args.line.now ++ rest) (behind_lf c.in-Some.behind.now c.in-len1-up.len_at_least lf))
