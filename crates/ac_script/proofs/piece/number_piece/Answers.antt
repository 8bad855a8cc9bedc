use Rattle.std.specs.Char.{is_ascii_digit}
use Rattle.ac_syntax.proofs.Fronts.{AllPass_front}
use Rattle.ac_script.proofs.piece.number_piece.Goals as goal

pub number_value-requires : goal.number_value-requires
number_value-requires c = rw c.digits_len-len.ensures.len (AllPass_front is_ascii_digit c.args.text.now)
