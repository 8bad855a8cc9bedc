use Rattle.ac_script.proofs.Strings.{IsRead}
use Rattle.ac_script.proofs.piece.string_piece.Given as goal

abbrev pub invariant-loop-len : goal.invariant-loop-len
invariant-loop-len l = IsRead l.text l.value.items l.len l.after_quote
