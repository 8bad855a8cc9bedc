use Rattle.std.proofs.Common.{refl, sym, take, drop, ℕ, List, [], ◌∷◌, ◌++◌, None}
use Rattle.std.proofs.Math.Bool.{true≢false}
use Rattle.std.specs.Prelude.{codes}
use Rattle.ac_syntax.specs.Code.{stop}
use Rattle.ac_syntax.specs.declared.script.Script.{Script}
use Rattle.ac_syntax.specs.declared.decl.Decl.TheVariants.{IntVar}
use Rattle.ac_syntax.specs.declared.token.Keyword.TheVariants as keyword
use Rattle.ac_syntax.specs.declared.token.Token.TheVariants as token
use Rattle.ac_syntax.specs.Keywords.{script_cut}
use Rattle.ac_syntax.specs.Parts.{item_parts}
use Rattle.ac_syntax.specs.Grammar.{reserved, is_reserved}
use Rattle.ac_syntax.specs.Tokens.{tokens}
use Rattle.ac_syntax.specs.Canonical.{canonical_placed, on_line}
use Rattle.ac_syntax.specs.Examples.{lines}
use Rattle.ac_syntax.specs.HandlerExamples.{propagating, named, naming}
use Rattle.ac_syntax.proofs.Derivations.{script_derives}
use Rattle.ac_syntax.proofs.Withins.{within}
use Rattle.ac_syntax.proofs.FirstFaults.{syntax_at}
use Rattle.ac_syntax.proofs.OuterItems.{front_past, two_words}
use Rattle.ac_syntax.proofs.HandledItems.{behind_pragma, no_keyword}
use Rattle.ac_syntax.proofs.law.pragma_words.Goals as goal

pub returns-clause-names_when : goal.returns-clause-names_when
unfolding reserved is_reserved item_parts canonical_placed
returns-clause-names_when c =
    record { whole = refl; derives = script_derives (named (codes "when")) refl; within = within (tokens (canonical_placed (named (codes "when")))) refl }

pub returns-clause-names_pragma : goal.returns-clause-names_pragma
unfolding reserved is_reserved item_parts canonical_placed
returns-clause-names_pragma c =
    record { whole = refl; derives = script_derives (named (codes "pragma")) refl; within = within (tokens (canonical_placed (named (codes "pragma")))) refl }

pub returns-clause-names_propagate : goal.returns-clause-names_propagate
unfolding reserved is_reserved item_parts canonical_placed
returns-clause-names_propagate c =
    record { whole = refl; derives = script_derives (named (codes "propagate")) refl; within = within (tokens (canonical_placed (named (codes "propagate")))) refl }

-- the pragma alone
abbrev alone : Script
alone = propagating [] stop

abbrev when_text : List ℕ
when_text = codes "pragma Propagate;" ++ 10 ∷ naming (codes "when")

pub returns-clause-reserves_when : goal.returns-clause-reserves_when
unfolding reserved is_reserved item_parts canonical_placed
returns-clause-reserves_when c =
    syntax_at when_text alone (canonical_placed alone) (drop 4 (script_cut when_text).placed) [] (on_line 2 (token.Keyword keyword.When)) refl refl refl refl
    (λ more. behind_pragma 1 _ _ _ (no_keyword 2 keyword.When more))

abbrev pragma_text : List ℕ
pragma_text = codes "pragma Propagate;" ++ 10 ∷ naming (codes "pragma")

pub returns-clause-reserves_pragma : goal.returns-clause-reserves_pragma
unfolding reserved is_reserved item_parts canonical_placed
returns-clause-reserves_pragma c =
    syntax_at pragma_text alone (canonical_placed alone) (drop 4 (script_cut pragma_text).placed) [] (on_line 2 (token.Keyword keyword.Pragma)) refl refl refl refl
    (λ more. behind_pragma 1 _ _ _ (no_keyword 2 keyword.Pragma more))

pub returns-clause-unwritten : goal.returns-clause-unwritten
unfolding item_parts canonical_placed
returns-clause-unwritten c = λ w. true≢false (sym w.written)

abbrev late_text : List ℕ
late_text = lines (codes "N : integer;" ∷ codes "pragma Propagate;" ∷ [])

-- there `pragma` is a name, behind which a mark would have to stand
abbrev late : Script
late = record { pragma = None; decls = IntVar 1 (codes "n") ∷ IntVar 2 (codes "pragma") ∷ []; stmts = stop }

pub returns-clause-front : goal.returns-clause-front
unfolding reserved is_reserved item_parts canonical_placed
returns-clause-front c =
    syntax_at late_text late (take 5 (canonical_placed late)) (drop 6 (script_cut late_text).placed) (drop 5 (canonical_placed late))
    (on_line 2 (token.Word (codes "propagate"))) refl refl refl refl
    (λ more. front_past _ _ (record { no_head = refl; no_pragma = refl })
    (two_words _ _ more (record { no_head = refl; no_pragma = refl }) (record { named = refl; word = refl })))

abbrev twice_text : List ℕ
twice_text = lines (codes "pragma Propagate;" ∷ codes "pragma Propagate;" ∷ [])

pub returns-clause-once : goal.returns-clause-once
unfolding reserved is_reserved item_parts canonical_placed
returns-clause-once c =
    syntax_at twice_text alone (canonical_placed alone) (drop 4 (script_cut twice_text).placed) [] (on_line 2 (token.Keyword keyword.Pragma)) refl refl refl refl
    (λ more. behind_pragma 1 _ _ _ (no_keyword 2 keyword.Pragma more))
