use Rattle.std.proofs.Common.{refl, take, drop}
use Rattle.std.specs.Prelude.{codes}
use Rattle.std.specs.Fmt.{digits}
use Rattle.ac_syntax.specs.Parts.{item_parts}
use Rattle.ac_syntax.specs.Canonical.{canonical_text, canonical_placed, on_line}
use Rattle.ac_syntax.specs.Grammar.{reserved, is_reserved}
use Rattle.ac_syntax.specs.Tokens.{tokens, cut_of}
use Rattle.ac_syntax.specs.declared.script.Script.{Script}
use Rattle.ac_syntax.specs.declared.token.Token.TheVariants as token
use Rattle.ac_syntax.specs.Examples.{loose_script, nested_script, two_lines, deep, in_a_row, heads_text}
use Rattle.ac_syntax.proofs.Derivations.{script_derives}
use Rattle.ac_syntax.proofs.Withins.{within}
use Rattle.ac_syntax.proofs.FirstFaults.{limit_at}
use Rattle.ac_syntax.proofs.law.examples.Goals as goal

pub returns-clause-strict : goal.returns-clause-strict
unfolding digits item_parts canonical_text
returns-clause-strict c = refl

pub returns-clause-nested_text : goal.returns-clause-nested_text
unfolding digits item_parts canonical_text
returns-clause-nested_text c = refl

pub returns-clause-nothing : goal.returns-clause-nothing
unfolding canonical_text
returns-clause-nothing c = refl

pub returns-clause-loose : goal.returns-clause-loose
unfolding reserved is_reserved item_parts canonical_placed
returns-clause-loose c = record { whole = refl; derives = script_derives loose_script refl; within = within (tokens (canonical_placed loose_script)) refl }

pub returns-clause-nested : goal.returns-clause-nested
unfolding reserved is_reserved item_parts canonical_placed
returns-clause-nested c = record { whole = refl; derives = script_derives nested_script refl; within = within (tokens (canonical_placed nested_script)) refl }

-- 17 blocks, each in the one before
abbrev too_deep : Script
too_deep = two_lines (deep 3 17)

pub returns-clause-depth_16 : goal.returns-clause-depth_16
unfolding reserved is_reserved item_parts canonical_placed
returns-clause-depth_16 c =
    record { whole = refl; derives = script_derives (two_lines (deep 3 16)) refl; within = within (tokens (canonical_placed (two_lines (deep 3 16)))) refl }

pub returns-clause-depth_17 : goal.returns-clause-depth_17
unfolding reserved is_reserved item_parts canonical_placed
returns-clause-depth_17 c =
    limit_at (heads_text 17) too_deep (take 60 (canonical_placed too_deep)) (drop 61 (cut_of (heads_text 17)).placed) (drop 61 (canonical_placed too_deep))
    (on_line 19 (token.Word (codes "stable"))) refl refl refl refl refl

pub returns-clause-in_a_row : goal.returns-clause-in_a_row
unfolding reserved is_reserved item_parts canonical_placed
returns-clause-in_a_row c =
    record { whole = refl; derives = script_derives (two_lines (in_a_row 17)) refl; within = within (tokens (canonical_placed (two_lines (in_a_row 17)))) refl }
