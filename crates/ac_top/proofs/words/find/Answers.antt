use Rattle.ac_top.proofs.Asked.{found_by, refused_by}
use Rattle.ac_top.proofs.words.find.Goals as goal

pub returns-clause-taken : goal.returns-clause-taken
returns-clause-taken c =
    found_by _ _ c.try_get_matches_from.result c.in_ok-command.ensures c.try_get_matches_from.ensures.kinds c.try_get_matches_from.ensures.matches

pub returns-clause-refused : goal.returns-clause-refused
returns-clause-refused c = refused_by _ _ c.try_get_matches_from.result c.in_ok-command.ensures c.try_get_matches_from.ensures.kinds
