-- The tokens of a script's text can be written in its mode.
use Rattle.std.specs.Prelude.{ℕ, List, IsTrue}
use Rattle.std.specs.List.{list_all}
use Rattle.ac_syntax.specs.Tokens.{cut_of, tokens}
use Rattle.ac_syntax.specs.Keywords.{begins_propagating, script_cut}
use Rattle.ac_syntax.specs.Canonical.{is_written}
use Rattle.ac_syntax.proofs.CutTokens.{script_tidy}

pub cut_written : (text : List ℕ) → IsTrue (list_all (is_written (begins_propagating (cut_of text).placed)) (tokens (script_cut text).placed))
cut_written text = (script_tidy text).written
