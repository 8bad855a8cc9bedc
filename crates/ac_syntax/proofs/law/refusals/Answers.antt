use Rattle.std.proofs.Common.{refl, take, drop, ◌^◌}
use Rattle.std.specs.Prelude.{codes, replicate, [], ◌∷◌}
use Rattle.ac_syntax.specs.declared.token.Mark.TheVariants.{BracketOpen, Tick, Star, LessEqual}
use Rattle.ac_syntax.specs.declared.token.Token.TheVariants as token
use Rattle.ac_syntax.specs.Code.{stop}
use Rattle.ac_syntax.specs.Parts.{item_parts}
use Rattle.ac_syntax.specs.Grammar.{reserved, is_reserved}
use Rattle.ac_syntax.specs.Keywords.{script_cut}
use Rattle.ac_syntax.specs.Tokens.{tokens}
use Rattle.ac_syntax.specs.Canonical.{canonical_placed, on_line}
use Rattle.ac_syntax.specs.RefusalExamples.{on_list, named, naming, with_string, string_text, least, counting, counting_text, past_greatest, less_too_much, too_roomy, appended, assigned}
use Rattle.ac_syntax.proofs.Derivations.{script_derives}
use Rattle.ac_syntax.proofs.Withins.{within}
use Rattle.ac_syntax.proofs.FirstFaults.{limit_at, malformed_at}
use Rattle.ac_syntax.proofs.FurtherMarks.{further_at}
use Rattle.ac_syntax.proofs.law.refusals.Goals as goal

pub returns-clause-name_64 : goal.returns-clause-name_64
unfolding reserved is_reserved item_parts canonical_placed
returns-clause-name_64 c = record { whole = refl; derives = script_derives (named 64) refl; within = within (tokens (canonical_placed (named 64))) refl }

pub returns-clause-name_65 : goal.returns-clause-name_65
unfolding reserved is_reserved item_parts canonical_placed
returns-clause-name_65 c =
    limit_at (naming 65) (named 65) (take 0 (canonical_placed (named 65))) (drop 1 (canonical_placed (named 65))) (drop 1 (canonical_placed (named 65)))
    (on_line 1 (token.Word (replicate 65 97))) refl refl refl refl refl

pub returns-clause-string_1000 : goal.returns-clause-string_1000
unfolding reserved is_reserved item_parts canonical_placed
returns-clause-string_1000 c = record { whole = refl; derives = script_derives (with_string 1000) refl; within = within (tokens (canonical_placed (with_string 1000))) refl }

pub returns-clause-string_1001 : goal.returns-clause-string_1001
unfolding reserved is_reserved item_parts canonical_placed
returns-clause-string_1001 c =
    limit_at (string_text 1001) (with_string 1001) (take 2 (canonical_placed (with_string 1001))) (drop 3 (canonical_placed (with_string 1001))) (drop 3 (canonical_placed (with_string 1001)))
    (on_line 1 (token.Text (replicate 1001 97))) refl refl refl refl refl

pub returns-clause-least : goal.returns-clause-least
unfolding reserved is_reserved item_parts canonical_placed
returns-clause-least c = record { whole = refl; derives = script_derives least refl; within = within (tokens (canonical_placed least)) refl }

pub returns-clause-counting : goal.returns-clause-counting
unfolding reserved is_reserved item_parts canonical_placed
returns-clause-counting c = record { whole = refl; derives = script_derives (counting stop) refl; within = within (tokens (canonical_placed (counting stop))) refl }

pub returns-clause-past_greatest : goal.returns-clause-past_greatest
unfolding reserved is_reserved item_parts canonical_placed
returns-clause-past_greatest c =
    limit_at (counting_text (codes "N := 9223372036854775808;" ∷ [])) past_greatest (take 17 (canonical_placed past_greatest)) (drop 18 (canonical_placed past_greatest)) (drop 18 (canonical_placed past_greatest))
    (on_line 4 (token.Number (2 ^ 63))) refl refl refl refl refl

pub returns-clause-less_too_much : goal.returns-clause-less_too_much
unfolding reserved is_reserved item_parts canonical_placed
returns-clause-less_too_much c =
    limit_at (on_list (codes "x := y - 9223372036854775808;")) less_too_much (take 16 (canonical_placed less_too_much)) (drop 17 (canonical_placed less_too_much)) (drop 17 (canonical_placed less_too_much))
    (on_line 2 (token.Number (2 ^ 63))) refl refl refl refl refl

pub returns-clause-too_roomy : goal.returns-clause-too_roomy
unfolding reserved is_reserved item_parts canonical_placed
returns-clause-too_roomy c =
    limit_at (on_list (codes "b : l (9223372036854775808);")) too_roomy (take 16 (canonical_placed too_roomy)) (drop 17 (canonical_placed too_roomy)) (drop 17 (canonical_placed too_roomy))
    (on_line 2 (token.Number (2 ^ 63))) refl refl refl refl refl

pub returns-clause-malformed : goal.returns-clause-malformed
unfolding reserved is_reserved item_parts canonical_placed
returns-clause-malformed c = malformed_at (on_list (codes "a.append (12a);")) appended (drop 16 (canonical_placed appended)) 2 refl refl refl refl

pub returns-clause-bracket : goal.returns-clause-bracket
unfolding reserved is_reserved item_parts canonical_placed
returns-clause-bracket c =
    further_at (on_list (codes "a.append [12];")) appended (take 15 (canonical_placed appended)) (drop 16 (script_cut (on_list (codes "a.append [12];"))).placed) (drop 15 (canonical_placed appended))
    (on_line 2 (token.Mark BracketOpen)) refl refl refl refl refl

pub returns-clause-tick : goal.returns-clause-tick
unfolding reserved is_reserved item_parts canonical_placed
returns-clause-tick c =
    further_at (on_list (codes "x := a'length;")) assigned (take 15 (canonical_placed assigned)) (drop 16 (script_cut (on_list (codes "x := a'length;"))).placed) (drop 15 (canonical_placed assigned))
    (on_line 2 (token.Mark Tick)) refl refl refl refl refl

pub returns-clause-star : goal.returns-clause-star
unfolding reserved is_reserved item_parts canonical_placed
returns-clause-star c =
    further_at (on_list (codes "x := a*2;")) assigned (take 15 (canonical_placed assigned)) (drop 16 (script_cut (on_list (codes "x := a*2;"))).placed) (drop 15 (canonical_placed assigned))
    (on_line 2 (token.Mark Star)) refl refl refl refl refl

pub returns-clause-less_equal : goal.returns-clause-less_equal
unfolding reserved is_reserved item_parts canonical_placed
returns-clause-less_equal c =
    further_at (on_list (codes "x := a <= 2;")) assigned (take 15 (canonical_placed assigned)) (drop 16 (script_cut (on_list (codes "x := a <= 2; !"))).placed) (drop 15 (canonical_placed assigned))
    (on_line 2 (token.Mark LessEqual)) refl refl refl refl refl
