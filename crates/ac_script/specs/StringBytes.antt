-- What a byte behind a string's first quote does, as a function of the string's end behind the byte.
use Rattle.std.specs.Prelude.{ℕ, [], ◌∷◌, Option, Some, None}
use Rattle.ac_syntax.specs.Tokens.{Ending, with_byte}
use Rattle.ac_script.specs.declared.piece.StringByte.{StringByte}
use Rattle.ac_script.specs.declared.piece.StringByte.TheVariants.{Keeps, Quotes, Ends, Malformed}

abbrev pub by_byte : StringByte → ℕ → Option Ending → Option Ending
by_byte Keeps b ending = with_byte (b ∷ []) ending
by_byte Quotes b ending = with_byte [] ending
by_byte Ends b ending = Some (record { value = []; len = 0 })
by_byte Malformed b ending = None
