use Rattle.ac_script.proofs.Cutting.{given_some, given_within}
use Rattle.ac_script.proofs.piece.piece_at.Goals as goal

pub returns-clause-some : goal.returns-clause-some
returns-clause-some c = given_some c.any_piece.result c.args.text.now c.any_piece.ensures

pub returns-clause-within : goal.returns-clause-within
returns-clause-within c = given_within c.any_piece.result c.args.text.now c.any_piece.ensures
