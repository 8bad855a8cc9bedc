use Rattle.std.specs.Char.{is_ascii_digit}
use Rattle.ac_syntax.proofs.Fronts.{AllPass_front}
use Rattle.ac_snapshot.proofs.value_reader.number.Goals as goal

pub spelled-requires : goal.spelled-requires
spelled-requires c = rw (c.split_at.ensures.front, c.digits_len.ensures.len) (AllPass_front is_ascii_digit c.args.text.now)
