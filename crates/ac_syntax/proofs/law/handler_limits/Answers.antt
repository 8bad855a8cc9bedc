use Rattle.std.proofs.Common.{refl, take, drop, ℕ, zero, suc, ◌+◌, None, [], ◌∷◌, ◌++◌}
use Rattle.std.specs.Prelude.{codes}
use Rattle.ac_syntax.specs.Code.{Code, declare_at, stop, block, handled, no_handler, handler}
use Rattle.ac_syntax.specs.declared.script.Script.{Script}
use Rattle.ac_syntax.specs.declared.token.Token.TheVariants as token
use Rattle.ac_syntax.specs.Parts.{item_parts}
use Rattle.ac_syntax.specs.Grammar.{reserved, is_reserved}
use Rattle.ac_syntax.specs.Tokens.{tokens}
use Rattle.ac_syntax.specs.Canonical.{canonical_placed, on_line}
use Rattle.ac_syntax.specs.Examples.{repeated}
use Rattle.ac_syntax.specs.HandlerExamples.{propagating, tried, begins_text, declared}
use Rattle.ac_syntax.proofs.Derivations.{script_derives}
use Rattle.ac_syntax.proofs.Withins.{within}
use Rattle.ac_syntax.proofs.FirstFaults.{limit_at}
use Rattle.ac_syntax.proofs.law.handler_limits.Goals as goal

abbrev at_16 : Script
at_16 = propagating [] (tried 2 16)

pub returns-clause-begin_16 : goal.returns-clause-begin_16
unfolding reserved is_reserved item_parts canonical_placed
returns-clause-begin_16 c = record { whole = refl; derives = script_derives at_16 refl; within = within (tokens (canonical_placed at_16)) refl }

-- a block whose only handler stands on line 18
abbrev trying : ℕ → Code → Code
trying line body = handled line body (handler 18 None stop no_handler) stop

-- so many of them from this line on, each in what the one before tries, and this code in the last
abbrev trying_deep : ℕ → ℕ → Code → Code
trying_deep line zero code = code
trying_deep line (suc n) code = trying line (trying_deep (line + 1) n code)

abbrev at_17 : Script
at_17 = propagating [] (trying_deep 2 17 stop)

-- the pragma is three tokens
pub returns-clause-begin_17 : goal.returns-clause-begin_17
unfolding reserved is_reserved item_parts canonical_placed
returns-clause-begin_17 c =
    limit_at (begins_text 17) at_17 (take 19 (canonical_placed at_17)) [] (drop 20 (canonical_placed at_17))
    (on_line 18 (token.Word (codes "begin"))) refl refl refl refl refl

abbrev in_handler : Script
in_handler = propagating [] (trying_deep 2 15 (handled 17 stop (handler 17 None (trying 18 stop) no_handler) stop))

pub returns-clause-in_handler : goal.returns-clause-in_handler
unfolding reserved is_reserved item_parts canonical_placed
returns-clause-in_handler c =
    limit_at (begins_text 16 ++ (codes " exception when others =>" ++ 10 ∷ codes "begin")) in_handler (take 23 (canonical_placed in_handler)) [] (drop 24 (canonical_placed in_handler))
    (on_line 18 (token.Word (codes "begin"))) refl refl refl refl refl

abbrev declared_16 : Script
declared_16 = propagating [] (declared 16)

pub returns-clause-declare_16 : goal.returns-clause-declare_16
unfolding reserved is_reserved item_parts canonical_placed
returns-clause-declare_16 c = record { whole = refl; derives = script_derives declared_16 refl; within = within (tokens (canonical_placed declared_16)) refl }

abbrev behind_declare : Script
behind_declare = propagating [] (block (declare_at 1 []) (trying_deep 2 16 stop) stop)

pub returns-clause-behind_declare : goal.returns-clause-behind_declare
unfolding reserved is_reserved item_parts canonical_placed
returns-clause-behind_declare c =
    limit_at (codes "pragma Propagate; declare begin" ++ repeated 16 (10 ∷ codes "begin")) behind_declare
    (take 20 (canonical_placed behind_declare)) [] (drop 21 (canonical_placed behind_declare))
    (on_line 17 (token.Word (codes "begin"))) refl refl refl refl refl
