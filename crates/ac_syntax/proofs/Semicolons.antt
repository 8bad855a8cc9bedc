-- Declarations and commands end with their only semicolon, and behind a name at their front stands a mark.
use Rattle.std.proofs.Common.{◌≡◌, ℕ, Bool, true, false, not, cond, List, [], ◌∷◌, ◌++◌, length, refl, sym, ap, subst, ◌∙◌, Option, Some, None, inl, inr, arith}
use Rattle.std.proofs.lemmas.Bool.{and_parts, and_from, cond-true, cond-false}
use Rattle.std.proofs.Math.Bool.{true≢false}
use Rattle.std.specs.List.{list_all}
use Rattle.std.specs.Prelude.{codes}
use Rattle.ac_base.specs.declared.value.Value.TheVariants as value
use Rattle.ac_syntax.specs.declared.arg.Arg.{Arg}
use Rattle.ac_syntax.specs.declared.arg.Arg.TheVariants.{Lit, NoElement, Var}
use Rattle.ac_syntax.specs.declared.decl.Decl.{Decl}
use Rattle.ac_syntax.specs.declared.decl.Decl.TheVariants.{TypeDecl, Object, CursorVar, IntVar, TextVar}
use Rattle.ac_syntax.specs.declared.kind.Kind.{Kind}
use Rattle.ac_syntax.specs.declared.kind.ElemKind.{ElemKind}
use Rattle.ac_syntax.specs.declared.token.Mark.{Mark}
use Rattle.ac_syntax.specs.declared.token.Mark.TheVariants.{Colon, Semicolon, Open, Close, Dot, Assign, Plus, Minus}
use Rattle.ac_syntax.specs.declared.token.Token.{Token}
use Rattle.ac_syntax.specs.declared.token.Token.TheVariants as token
use Rattle.ac_syntax.specs.declared.token.Placed.{Placed}
use Rattle.ac_syntax.specs.Code.{Simple, call_at, set_at, sum_at}
use Rattle.ac_syntax.specs.Parts.{Part, says, keywords, marks, names, counts, writes, lacks, type_parts, decl_parts, arg_part, more_args, args_parts, simple_parts}
use Rattle.ac_syntax.specs.Grammar.{reserved, is_reserved, IsPart, AreParts}
use Rattle.ac_syntax.specs.Limits.{is_mark}
use Rattle.ac_syntax.specs.Canonical.{is_part_mark}
use Rattle.ac_syntax.specs.Tokens.{tokens}
use Rattle.ac_syntax.proofs.Leading.{is_name, begins_so}
use Rattle.ac_syntax.proofs.Refusing.{none_there}

-- behind the first semicolon
abbrev pub behind_semicolon : List Placed → List Placed
behind_semicolon [] = []
behind_semicolon (p ∷ placed) = cond (is_mark Semicolon p.token) placed (behind_semicolon placed)

abbrev is_inner : Part → Bool
is_inner part = not (is_part_mark Semicolon part)

abbrev is_inside : Token → Bool
is_inside t = not (is_mark Semicolon t)

outside : (b : Bool) → not b ≡ true → b ≡ false
outside true h = sym h
outside false h = refl

part_inside : (part : Part) (front : List Token) → is_inner part ≡ true → IsPart part front → list_all is_inside front ≡ true
part_inside (says word) front i h = subst (λ ts. list_all is_inside ts ≡ true) (sym h) refl
part_inside (keywords own) front i h = subst (λ ts. list_all is_inside ts ≡ true) (sym h) refl
part_inside (marks mark) front i h = subst (λ ts. list_all is_inside ts ≡ true) (sym h) (and_from _ _ i refl)
part_inside (names word) front i h = subst (λ ts. list_all is_inside ts ≡ true) (sym h.1) refl
part_inside (counts n) front i h = subst (λ ts. list_all is_inside ts ≡ true) (sym h) refl
part_inside (writes (value.Int z)) front i (inl h) = subst (λ ts. list_all is_inside ts ≡ true) (sym h.2) refl
part_inside (writes (value.Int z)) front i (inr h) = subst (λ ts. list_all is_inside ts ≡ true) (sym h.2) refl
part_inside (writes (value.Text bytes)) front i h = subst (λ ts. list_all is_inside ts ≡ true) (sym h) refl
part_inside lacks front i h = absurd h

-- tokens that are passed over, and those behind them
record Passes (front rest : List Placed) (ys : List Token) : Type 0 where
  others : List Placed
  spelled : tokens others ≡ ys
  same : behind_semicolon (front ++ rest) ≡ behind_semicolon (others ++ rest)

passed_over : (xs ys : List Token) (front rest : List Placed) → list_all is_inside xs ≡ true → tokens front ≡ xs ++ ys → Passes front rest ys
passed_over [] ys front rest inside e = record { others = front; spelled = e; same = refl }
passed_over (x ∷ xs) ys [] rest inside e = absurd (omega (arith, ap length e))
passed_over (x ∷ xs) ys (p ∷ front) rest inside e =
    let both : (is_inside x ≡ true) × (list_all is_inside xs ≡ true) = and_parts _ _ inside in
    let first : p.token ≡ x = cc e in
    let more : tokens front ≡ xs ++ ys = cc e in
    let found = passed_over xs ys front rest both.1 more in
    let over : is_mark Semicolon p.token ≡ false = ap (is_mark Semicolon) first ∙ outside (is_mark Semicolon x) both.0 in
    record { others = found.others; spelled = found.spelled; same = cond-false (is_mark Semicolon p.token) _ _ over ∙ found.same }

ended : (parts : List Part) (front rest all : List Placed) → list_all is_inner parts ≡ true → AreParts (parts ++ marks Semicolon ∷ []) (tokens front) → all ≡ front ++ rest
    → behind_semicolon all ≡ rest
ended [] front rest all inner h e =
    let b = begins_so (marks Semicolon) [] front refl h in
    let whole : all ≡ b.first ∷ (b.rest ++ rest) = e ∙ ap (λ xs. xs ++ rest) b.whole in
    let here : is_mark Semicolon b.first.token ≡ true = subst (λ t. is_mark Semicolon t ≡ true) (sym b.leads) refl in
    ap behind_semicolon whole ∙ cond-true (is_mark Semicolon b.first.token) _ _ here ∙ ap (λ xs. xs ++ rest) (none_there b.rest b.others)
ended (part ∷ parts) front rest all inner h e =
    let both : (is_inner part ≡ true) × (list_all is_inner parts ≡ true) = and_parts _ _ inner in
    let over = passed_over h.0 h.1 front rest (part_inside part h.0 both.0 h.3) h.2 in
    ap behind_semicolon e ∙ over.same
    ∙ ended parts over.others rest (over.others ++ rest) both.1 (subst (AreParts (parts ++ marks Semicolon ∷ [])) (sym over.spelled) h.4) refl

type_inner : (bounded : Bool) (kind : Kind) (first : ElemKind) (second : Option ElemKind) (keyed : Bool)
    → list_all is_inner (type_parts (record { bounded = bounded; kind = kind; first = first; second = second; keyed = keyed })) ≡ true
type_inner true kind first None true = refl
type_inner true kind first None false = refl
type_inner true kind first (Some _) true = refl
type_inner true kind first (Some _) false = refl
type_inner false kind first None true = refl
type_inner false kind first None false = refl
type_inner false kind first (Some _) true = refl
type_inner false kind first (Some _) false = refl

pub decl_ended : (d : Decl) (front rest all : List Placed) → AreParts (decl_parts d) (tokens front) → all ≡ front ++ rest → behind_semicolon all ≡ rest
decl_ended (TypeDecl line name def) front rest all h e =
    ended (says (codes "type") ∷ names name ∷ says (codes "is") ∷ type_parts def) front rest all (type_inner def.bounded def.kind def.first def.second def.keyed) h e
decl_ended (Object line name of None) front rest all h e = ended (names name ∷ marks Colon ∷ names of ∷ []) front rest all refl h e
decl_ended (Object line name of (Some n)) front rest all h e = ended (names name ∷ marks Colon ∷ names of ∷ marks Open ∷ counts n ∷ marks Close ∷ []) front rest all refl h e
decl_ended (CursorVar line name of) front rest all h e = ended (names name ∷ marks Colon ∷ names of ∷ marks Dot ∷ says (codes "cursor") ∷ []) front rest all refl h e
decl_ended (IntVar line name) front rest all h e = ended (names name ∷ marks Colon ∷ says (codes "integer") ∷ []) front rest all refl h e
decl_ended (TextVar line name) front rest all h e = ended (names name ∷ marks Colon ∷ says (codes "string") ∷ []) front rest all refl h e

arg_inner : (arg : Arg) → is_inner (arg_part arg) ≡ true
arg_inner (Lit _) = refl
arg_inner NoElement = refl
arg_inner (Var _) = refl

more_inner : (args : List Arg) → list_all is_inner (more_args args ++ marks Close ∷ []) ≡ true
more_inner [] = refl
more_inner (arg ∷ args) = and_from _ _ (arg_inner arg) (more_inner args)

args_inner : (args : List Arg) → list_all is_inner (args_parts args) ≡ true
args_inner [] = refl
args_inner (arg ∷ args) = and_from _ _ (arg_inner arg) (more_inner args)

pub simple_ended : (s : Simple) (front rest all : List Placed) → AreParts (simple_parts s) (tokens front) → all ≡ front ++ rest → behind_semicolon all ≡ rest
simple_ended (call_at line None object operation args) front rest all h e =
    ended (names object ∷ marks Dot ∷ names operation ∷ args_parts args) front rest all (args_inner args) h e
simple_ended (call_at line (Some target) object operation args) front rest all h e =
    ended (names target ∷ marks Assign ∷ names object ∷ marks Dot ∷ names operation ∷ args_parts args) front rest all (args_inner args) h e
simple_ended (set_at line target from) front rest all h e = ended (names target ∷ marks Assign ∷ arg_part from ∷ []) front rest all (and_from _ _ (arg_inner from) refl) h e
simple_ended (sum_at line target from true number) front rest all h e =
    ended (names target ∷ marks Assign ∷ names from ∷ marks Minus ∷ counts number ∷ []) front rest all refl h e
simple_ended (sum_at line target from false number) front rest all h e =
    ended (names target ∷ marks Assign ∷ names from ∷ marks Plus ∷ counts number ∷ []) front rest all refl h e

-- a name at the front of an item has a mark behind it

second_marks : (word : List ℕ) (mark : Mark) (parts : List Part) (front rest : List Placed) (p q : Placed) (placed : List Placed)
    → AreParts (names word ∷ marks mark ∷ parts) (tokens front) → p ∷ q ∷ placed ≡ front ++ rest → q.token ≡ token.Mark mark
second_marks word mark parts front rest p q placed h e =
    let a = begins_so (names word) (marks mark ∷ parts) front refl h in
    let b = begins_so (marks mark) parts a.rest refl a.others in
    let whole : p ∷ q ∷ placed ≡ a.first ∷ b.first ∷ (b.rest ++ rest) = e ∙ ap (λ xs. xs ++ rest) (a.whole ∙ ap (λ xs. a.first ∷ xs) b.whole) in
    let same : q ≡ b.first = cc whole in
    ap (λ (r : Placed). r.token) same ∙ b.leads

abbrev is_word : Token → Bool
is_word (token.Word _) = true
is_word (token.Keyword _) = false
is_word (token.Number _) = false
is_word (token.Text _) = false
is_word (token.Mark _) = false

-- two words at the front of tokens, of which the first is a name
pub record AreTwoWords (p q : Placed) : Type 0 where
  pub named : is_name p.token ≡ true
  pub word : is_word q.token ≡ true

no_word : (p q : Placed) (mark : Mark) → AreTwoWords p q → q.token ≡ token.Mark mark → ⊥
no_word p q mark two e = true≢false (sym two.word ∙ ap is_word e)

abbrev others_of : List Part → List Part
others_of [] = []
others_of (_ ∷ parts) = parts

type_no_name : is_name (token.Word (codes "type")) ≡ false
unfolding reserved is_reserved
type_no_name = refl

no_type : (parts : List Part) (front rest : List Placed) (p q : Placed) (placed : List Placed)
    → AreParts (says (codes "type") ∷ parts) (tokens front) → p ∷ q ∷ placed ≡ front ++ rest → AreTwoWords p q → ⊥
no_type parts front rest p q placed h e two =
    let b = begins_so (says (codes "type")) parts front refl h in
    let whole : p ∷ q ∷ placed ≡ b.first ∷ (b.rest ++ rest) = e ∙ ap (λ xs. xs ++ rest) b.whole in
    let same : p ≡ b.first = cc whole in
    true≢false (sym two.named ∙ ap is_name (ap (λ (r : Placed). r.token) same ∙ b.leads) ∙ type_no_name)

-- so no declaration begins with them
pub no_decl : (d : Decl) (front rest : List Placed) (p q : Placed) (placed : List Placed) → AreParts (decl_parts d) (tokens front) → p ∷ q ∷ placed ≡ front ++ rest
    → AreTwoWords p q → ⊥
no_decl (TypeDecl line name def) front rest p q placed h e two = no_type (others_of (decl_parts (TypeDecl line name def))) front rest p q placed h e two
no_decl (Object line name of capacity) front rest p q placed h e two =
    no_word p q Colon two (second_marks name Colon (others_of (others_of (decl_parts (Object line name of capacity)))) front rest p q placed h e)
no_decl (CursorVar line name of) front rest p q placed h e two =
    no_word p q Colon two (second_marks name Colon (others_of (others_of (decl_parts (CursorVar line name of)))) front rest p q placed h e)
no_decl (IntVar line name) front rest p q placed h e two =
    no_word p q Colon two (second_marks name Colon (others_of (others_of (decl_parts (IntVar line name)))) front rest p q placed h e)
no_decl (TextVar line name) front rest p q placed h e two =
    no_word p q Colon two (second_marks name Colon (others_of (others_of (decl_parts (TextVar line name)))) front rest p q placed h e)

-- and no command
pub no_simple : (s : Simple) (front rest : List Placed) (p q : Placed) (placed : List Placed) → AreParts (simple_parts s) (tokens front) → p ∷ q ∷ placed ≡ front ++ rest
    → AreTwoWords p q → ⊥
no_simple (call_at line None object operation args) front rest p q placed h e two =
    no_word p q Dot two (second_marks object Dot (others_of (others_of (simple_parts (call_at line None object operation args)))) front rest p q placed h e)
no_simple (call_at line (Some target) object operation args) front rest p q placed h e two =
    no_word p q Assign two (second_marks target Assign (others_of (others_of (simple_parts (call_at line (Some target) object operation args)))) front rest p q placed h e)
no_simple (set_at line target from) front rest p q placed h e two =
    no_word p q Assign two (second_marks target Assign (others_of (others_of (simple_parts (set_at line target from)))) front rest p q placed h e)
no_simple (sum_at line target from minus number) front rest p q placed h e two =
    no_word p q Assign two (second_marks target Assign (others_of (others_of (simple_parts (sum_at line target from minus number)))) front rest p q placed h e)
