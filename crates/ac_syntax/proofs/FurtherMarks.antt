-- No item has a further mark, so no script begins with tokens of which one is such a mark.
use Rattle.std.proofs.Common.{◌≡◌, ℕ, Bool, true, false, ◌||◌, List, [], ◌∷◌, ◌++◌, refl, sym, ap, subst, ◌∙◌, Option, Some, None, inl, inr}
use Rattle.std.proofs.lemmas.Bool.{or_parts, or_from, or_right}
use Rattle.std.proofs.lemmas.List.{map-append}
use Rattle.std.proofs.lemmas.List.Folds.{list_any-append}
use Rattle.std.proofs.Math.Bool.{true≢false}
use Rattle.std.specs.List.{list_any}
use Rattle.ac_base.specs.declared.value.Value.TheVariants as value
use Rattle.ac_syntax.specs.Code.{Simple, call_at, set_at, sum_at, Head, loop_at, view_at, stable_at, declare_at, tasks_at, task_at}
use Rattle.ac_syntax.specs.declared.arg.Arg.{Arg}
use Rattle.ac_syntax.specs.declared.arg.Arg.TheVariants.{Lit, NoElement, Var}
use Rattle.ac_syntax.specs.declared.closing.Closing.{Closing}
use Rattle.ac_syntax.specs.declared.closing.Closing.TheVariants.{EndLoop, End, EndTasks, EndTask, EndTried, EndHandlers, EndOthers}
use Rattle.ac_syntax.specs.declared.decl.Decl.{Decl}
use Rattle.ac_syntax.specs.declared.decl.Decl.TheVariants.{TypeDecl, Object, CursorVar, IntVar, TextVar}
use Rattle.ac_syntax.specs.declared.kind.Kind.{Kind}
use Rattle.ac_syntax.specs.declared.kind.ElemKind.{ElemKind}
use Rattle.ac_syntax.specs.declared.refusal.RefusalKind.TheVariants.{Syntax}
use Rattle.ac_syntax.specs.declared.script.Script.{Script}
use Rattle.ac_syntax.specs.declared.token.Mark.TheVariants.{Semicolon, Close}
use Rattle.ac_syntax.specs.declared.token.Token.{Token}
use Rattle.ac_syntax.specs.declared.token.Token.TheVariants as token
use Rattle.ac_syntax.specs.declared.token.Placed.{Placed}
use Rattle.ac_syntax.specs.declared.view_kind.ViewKind.TheVariants.{Query, Update, Reference, UpdateKey}
use Rattle.ac_syntax.specs.FurtherMarks.{is_further}
use Rattle.ac_syntax.specs.Items.{Item, declares, commands, opens, begins, closes, propagates, tries, catches, script_items}
use Rattle.ac_syntax.specs.Keywords.{script_cut}
use Rattle.ac_syntax.specs.Parts.{Part, says, keywords, marks, names, counts, writes, lacks, type_parts, decl_parts, arg_part, more_args, args_parts, simple_parts, head_parts, closing_parts, item_parts}
use Rattle.ac_syntax.specs.Grammar.{IsPart, AreParts, IsItem, AreItems, Derives, BeginsScript}
use Rattle.ac_syntax.specs.Refusals.{HasNoBadToken, begins_none, bad_token, IsFirstRefusal, first_bad}
use Rattle.ac_syntax.specs.Tokens.{tokens}
use Rattle.ac_syntax.specs.Limits.{none_seen}
use Rattle.ac_syntax.specs.Canonical.{canonical_placed}
use Rattle.ac_syntax.proofs.Derivations.{is_derived, script_derives}
use Rattle.ac_syntax.proofs.Withins.{within_from, none_bad}

abbrev has_further : List Token → Bool
has_further ts = list_any is_further ts

-- parts

abbrev is_further_part : Part → Bool
is_further_part (says _) = false
is_further_part (keywords _) = false
is_further_part (marks mark) = is_further (token.Mark mark)
is_further_part (names _) = false
is_further_part (counts _) = false
is_further_part (writes _) = false
is_further_part lacks = false

without : {front spelled : List Token} → front ≡ spelled → has_further spelled ≡ false → has_further front ≡ false
without e none = ap has_further e ∙ none

part_without : (part : Part) (front : List Token) → is_further_part part ≡ false → IsPart part front → has_further front ≡ false
part_without (says word) front none h = without h refl
part_without (keywords own) front none h = without h refl
part_without (marks mark) front none h = without h (or_from _ _ none refl)
part_without (names word) front none h = without h.1 refl
part_without (counts n) front none h = without h refl
part_without (writes (value.Int z)) front none (inl h) = without h.2 refl
part_without (writes (value.Int z)) front none (inr h) = without h.2 refl
part_without (writes (value.Text bytes)) front none h = without h refl
part_without lacks front none h = absurd h

both_without : (front rest : List Token) → has_further front ≡ false → has_further rest ≡ false → has_further (front ++ rest) ≡ false
both_without front rest h k = list_any-append is_further front rest ∙ or_from _ _ h k

parts_without : (parts : List Part) (spelled : List Token) → list_any is_further_part parts ≡ false → AreParts parts spelled → has_further spelled ≡ false
parts_without [] spelled none h = without h refl
parts_without (part ∷ parts) spelled none h =
    let each : (is_further_part part ≡ false) × (list_any is_further_part parts ≡ false) = or_parts _ _ none in
    without h.2 (both_without h.0 h.1 (part_without part h.0 each.0 h.3) (parts_without parts h.1 each.1 h.4))

-- items

type_plain : (bounded : Bool) (kind : Kind) (first : ElemKind) (second : Option ElemKind) (keyed : Bool)
    → list_any is_further_part (type_parts (record { bounded = bounded; kind = kind; first = first; second = second; keyed = keyed }) ++ marks Semicolon ∷ []) ≡ false
type_plain true kind first None true = refl
type_plain true kind first None false = refl
type_plain true kind first (Some _) true = refl
type_plain true kind first (Some _) false = refl
type_plain false kind first None true = refl
type_plain false kind first None false = refl
type_plain false kind first (Some _) true = refl
type_plain false kind first (Some _) false = refl

decl_plain : (d : Decl) → list_any is_further_part (decl_parts d) ≡ false
decl_plain (TypeDecl line name def) = type_plain def.bounded def.kind def.first def.second def.keyed
decl_plain (Object line name of None) = refl
decl_plain (Object line name of (Some n)) = refl
decl_plain (CursorVar line name of) = refl
decl_plain (IntVar line name) = refl
decl_plain (TextVar line name) = refl

arg_plain : (arg : Arg) → is_further_part (arg_part arg) ≡ false
arg_plain (Lit _) = refl
arg_plain NoElement = refl
arg_plain (Var _) = refl

more_plain : (args : List Arg) → list_any is_further_part ((more_args args ++ marks Close ∷ []) ++ marks Semicolon ∷ []) ≡ false
more_plain [] = refl
more_plain (arg ∷ args) = or_from _ _ (arg_plain arg) (more_plain args)

args_plain : (args : List Arg) → list_any is_further_part (args_parts args ++ marks Semicolon ∷ []) ≡ false
args_plain [] = refl
args_plain (arg ∷ args) = or_from _ _ (arg_plain arg) (more_plain args)

simple_plain : (s : Simple) → list_any is_further_part (simple_parts s) ≡ false
simple_plain (call_at line None object operation args) = args_plain args
simple_plain (call_at line (Some target) object operation args) = args_plain args
simple_plain (set_at line target from) = or_from _ _ (arg_plain from) refl
simple_plain (sum_at line target from true number) = refl
simple_plain (sum_at line target from false number) = refl

head_plain : (head : Head) → list_any is_further_part (head_parts head) ≡ false
head_plain (loop_at line name elements true object) = refl
head_plain (loop_at line name elements false object) = refl
head_plain (view_at line Query object None name) = refl
head_plain (view_at line Query object (Some at) name) = refl
head_plain (view_at line Update object None name) = refl
head_plain (view_at line Update object (Some at) name) = refl
head_plain (view_at line UpdateKey object None name) = refl
head_plain (view_at line UpdateKey object (Some at) name) = refl
head_plain (view_at line Reference object None name) = refl
head_plain (view_at line Reference object (Some at) name) = refl
head_plain (stable_at line object) = refl
head_plain (declare_at line decls) = refl
head_plain (tasks_at line) = refl
head_plain (task_at line name locals) = refl

closing_plain : (l : Closing) → list_any is_further_part (closing_parts l) ≡ false
closing_plain EndLoop = refl
closing_plain End = refl
closing_plain EndTasks = refl
closing_plain EndTask = refl
closing_plain EndTried = refl
closing_plain EndHandlers = refl
closing_plain EndOthers = refl

item_plain : (item : Item) → list_any is_further_part (item_parts item) ≡ false
unfolding item_parts
item_plain (declares d) = decl_plain d
item_plain (commands s) = simple_plain s
item_plain (opens head) = head_plain head
item_plain begins = refl
item_plain (closes l) = closing_plain l
item_plain (propagates line) = refl
item_plain (tries line) = refl
item_plain (catches line own) = refl

pub item_without : (item : Item) (placed : List Placed) → IsItem item placed → list_any is_further (tokens placed) ≡ false
item_without item placed h = parts_without (item_parts item) (tokens placed) (item_plain item) h.spelled

-- scripts

items_without : (items : List Item) (placed : List Placed) → AreItems items placed → has_further (tokens placed) ≡ false
items_without [] placed h = without (ap tokens h) refl
items_without (item ∷ items) placed h =
    without (ap tokens h.2 ∙ map-append (λ (p : Placed). p.token) h.0 h.1)
    (both_without (tokens h.0) (tokens h.1) (item_without item h.0 h.3) (items_without items h.1 h.4))

pub begun_without : (placed : List Placed) → BeginsScript placed → list_any is_further (tokens placed) ≡ false
begun_without placed begun =
    let all : has_further (tokens (placed ++ begun.0)) ≡ false = items_without (script_items begun.1) (placed ++ begun.0) begun.2.are in
    let split : has_further (tokens (placed ++ begun.0)) ≡ (has_further (tokens placed) || has_further (tokens begun.0)) =
    ap has_further (map-append (λ (p : Placed). p.token) placed begun.0) ∙ list_any-append is_further (tokens placed) (tokens begun.0) in
    (or_parts _ _ (sym split ∙ all)).0

-- so a further mark is bad behind tokens that aren't

last_further : (before : List Placed) (bad : Placed) → is_further bad.token ≡ true → has_further (tokens (before ++ bad ∷ [])) ≡ true
last_further [] bad is = ap (λ t. t || false) is
last_further (p ∷ before) bad is = or_right (is_further p.token) _ (last_further before bad is)

begun_not : (before : List Placed) (bad : Placed) → is_further bad.token ≡ true → BeginsScript (before ++ bad ∷ []) → ⊥
begun_not before bad is begun = true≢false (sym (last_further before bad is) ∙ begun_without (before ++ bad ∷ []) begun)

pub refused_at : (text : List ℕ) (before after : List Placed) (bad : Placed) → (script_cut text).placed ≡ before ++ bad ∷ after
    → is_further bad.token ≡ true → HasNoBadToken before → IsFirstRefusal text bad.line Syntax
refused_at text before after bad cut is none = first_bad bad.line Syntax (bad_token before after bad Syntax cut none (begins_none (begun_not before bad is)))

-- the same by tests that compute, where they are the first tokens of a script's canonical text
pub further_at : (text : List ℕ) (script : Script) (before after more : List Placed) (bad : Placed)
    → (script_cut text).placed ≡ before ++ bad ∷ after → canonical_placed script ≡ before ++ more → is_derived script ≡ true
    → within_from none_seen (tokens before) ≡ true → is_further bad.token ≡ true → IsFirstRefusal text bad.line Syntax
further_at text script before after more bad cut written sayable kept is =
    refused_at text before after bad cut is (none_bad before more script (subst (λ all. Derives all script) written (script_derives script sayable)) kept)
