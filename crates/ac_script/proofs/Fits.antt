-- Items whose tokens keep the limits and can be written have literals that are values.
use Rattle.std.proofs.Common.{◌≡◌, ◌-◌, ◌^◌, ◌≤◌, ◌<◌, ℕ, zero, suc, pos, neg_ℤ, Bool, true, false, List, [], ◌∷◌, ◌++◌, length, Option, Some, None, refl, sym, ap, ◌∙◌, subst, inl, inr, arith, append_assoc, lt-ltb, true≢false, cond}
use Rattle.std.specs.Prelude.{nat_lt, All, IsTrue}
use Rattle.std.specs.List.{list_all, fold}
use Rattle.std.proofs.lemmas.Int.{ints}
use Rattle.std.proofs.lemmas.Bool.{cases_lt, and_parts}
use Rattle.std.proofs.lemmas.List.{map-append}
use Rattle.std.proofs.lemmas.List.Elements.{All-cons, All-nil}
use Rattle.std.proofs.lemmas.List.Folds.{list_all-append}
use Rattle.ac_base.specs.Text.{IsPrintable}
use Rattle.ac_base.specs.declared.value.Value.{Value}
use Rattle.ac_syntax.specs.Characters.{is_printable}
use Rattle.ac_base.specs.declared.value.Value.TheVariants as value
use Rattle.ac_syntax.specs.declared.token.Token.{Token}
use Rattle.ac_syntax.specs.declared.token.Token.TheVariants as token
use Rattle.ac_syntax.specs.declared.token.Mark.{Mark}
use Rattle.ac_syntax.specs.declared.token.Mark.TheVariants.{Colon, Semicolon, Comma, Open, Close, Dot, Assign, Plus, Minus, Arrow, BracketOpen, BracketClose, Tick, Star, Equal, NotEqual, Less, LessEqual, Greater, GreaterEqual}
use Rattle.ac_syntax.specs.declared.token.Placed.{Placed}
use Rattle.ac_syntax.specs.Tokens.{tokens}
use Rattle.ac_syntax.specs.Code.{Simple, call_at, set_at, sum_at}
use Rattle.ac_syntax.specs.Items.{Item, declares, commands, opens, begins, closes, propagates, tries, catches}
use Rattle.ac_syntax.specs.Parts.{Part, says, keywords, marks, names, counts, writes, lacks, arg_part, more_args, args_parts, target_parts, simple_parts, item_parts}
use Rattle.ac_syntax.specs.Grammar.{IsPart, AreParts, AreItems}
use Rattle.ac_syntax.specs.Limits.{is_before_literal, Seen, none_seen, seen_after, seen_of, most, is_past_limit, AreWithinLimits}
use Rattle.ac_syntax.specs.Canonical.{is_written}
use Rattle.ac_syntax.specs.declared.arg.Arg.{Arg}
use Rattle.ac_syntax.specs.declared.arg.Arg.TheVariants.{Lit, NoElement, Var}
use Rattle.ac_script.proofs.Within.{one_more_seen}
use Rattle.ac_script.specs.Fits.{IsInteger, FitsArg, FitArgs, FitsSimple, Fits}

-- behind a mark that opens a literal, a minus isn't last

abbrev IsNotBoth : Seen → Type 0
IsNotBoth seen = seen.opened ≡ true → seen.minus ≡ false

one_last : (seen : Seen) (t : Token) → IsNotBoth (seen_after seen t)
one_last seen (token.Word w) e = refl
one_last seen (token.Keyword _) e = refl
one_last seen (token.Number n) e = refl
one_last seen (token.Text t) e = refl
one_last seen (token.Mark Colon) e = refl
one_last seen (token.Mark Semicolon) e = refl
one_last seen (token.Mark Comma) e = refl
one_last seen (token.Mark Open) e = refl
one_last seen (token.Mark Close) e = refl
one_last seen (token.Mark Dot) e = refl
one_last seen (token.Mark Assign) e = refl
one_last seen (token.Mark Plus) e = refl
one_last seen (token.Mark Arrow) e = refl
one_last seen (token.Mark BracketOpen) e = refl
one_last seen (token.Mark BracketClose) e = refl
one_last seen (token.Mark Tick) e = refl
one_last seen (token.Mark Star) e = refl
one_last seen (token.Mark Equal) e = refl
one_last seen (token.Mark NotEqual) e = refl
one_last seen (token.Mark Less) e = refl
one_last seen (token.Mark LessEqual) e = refl
one_last seen (token.Mark Greater) e = refl
one_last seen (token.Mark GreaterEqual) e = refl
one_last seen (token.Mark Minus) e = absurd (cc e)

not_both : (seen : Seen) (before : List Token) → IsNotBoth seen → IsNotBoth (fold seen_after seen before)
not_both seen [] h = h
not_both seen (t ∷ before) h = not_both (seen_after seen t) before (one_last seen t)

not_minus : (before : List Token) → (seen_of before).opened ≡ true → (seen_of before).minus ≡ false
not_minus before = not_both none_seen before (λ e. refl)

not_less : (m n : ℕ) → nat_lt m n ≡ false → n ≤ m
not_less m n e = elim (cases_lt m n) [ inl lt ↦ absurd (true≢false (sym (lt-ltb m n lt) ∙ e)) | inr le ↦ le ]

at_most : (before : List Token) (n : ℕ) → is_past_limit (seen_of before) (token.Number n) ≡ false → n ≤ 2 ^ 63
at_most before n e = by (seen_of before).minus (not_less (most (seen_of before)) n e)
  where
    by : (b : Bool) → n ≤ cond b (2 ^ 63) (2 ^ 63 - 1) → n ≤ 2 ^ 63
    by true h = h
    by false h = omega arith

less : (before : List Token) (n : ℕ) → (seen_of before).opened ≡ true → is_past_limit (seen_of before) (token.Number n) ≡ false → n < 2 ^ 63
less before n opened e =
    let h : n ≤ cond false (2 ^ 63) (2 ^ 63 - 1) = subst (λ b. n ≤ cond b (2 ^ 63) (2 ^ 63 - 1)) (not_minus before opened) (not_less (most (seen_of before)) n e) in
    omega arith

positive : (n : ℕ) → n < 2 ^ 63 → IsInteger (pos n)
positive n h = (omega (arith, ints), omega (arith, ints))

negative : (n : ℕ) → n ≤ 2 ^ 63 → IsInteger (neg_ℤ (pos n))
negative zero h = (omega (arith, ints), omega (arith, ints))
negative (suc n) h = (omega (arith, ints), omega (arith, ints))

in_range : (b : ℕ) → is_printable b ≡ true → IsPrintable b
in_range b h = (grind (arith, h), grind (arith, h))

printable : (bytes : List ℕ) → list_all is_printable bytes ≡ true → All IsPrintable bytes
printable [] h = All-nil IsPrintable
printable (b ∷ bytes) h = let both = and_parts _ _ h in All-cons IsPrintable b bytes (in_range b both.0) (printable bytes both.1)

-- a literal's value behind these tokens, where the token before it is a mark that opens one
literal_fits : (propagating : Bool) (v : Value) (before front after : List Token) → (seen_of before).opened ≡ true → AreWithinLimits (before ++ (front ++ after)) → list_all (is_written propagating) front ≡ true → IsPart (writes v) front → FitsArg (Lit v)
literal_fits propagating (value.Int z) before front after opened within written (inl h) =
    let past = within before after (token.Number h.0) (ap (λ ts. before ++ (ts ++ after)) h.2) in
    subst IsInteger (sym h.1) (positive h.0 (less before h.0 opened past))
literal_fits propagating (value.Int z) before front after opened within written (inr h) =
    let past = within (before ++ token.Mark Minus ∷ []) after (token.Number h.0) (ap (λ ts. before ++ (ts ++ after)) h.2 ∙ sym (append_assoc before (token.Mark Minus ∷ []) (token.Number h.0 ∷ after))) in
    subst IsInteger (sym h.1) (negative h.0 (at_most (before ++ token.Mark Minus ∷ []) h.0 past))
literal_fits propagating (value.Text bytes) before front after opened within written h =
    let past = within before after (token.Text bytes) (ap (λ ts. before ++ (ts ++ after)) h) in
    let all : list_all (is_written propagating) (token.Text bytes ∷ []) ≡ true = subst (λ ts. list_all (is_written propagating) ts ≡ true) h written in
    record { within = not_less 1000 (length bytes) past; printable = printable bytes (and_parts _ _ all).0 }

-- each literal among the parts stands right behind a mark that opens one
abbrev opens_literal : Mark → Bool
opens_literal m = is_before_literal (token.Mark m)

abbrev Opened : Bool → List Part → Type 0
Opened opened [] = Unit {0}
Opened opened (says word ∷ parts) = Opened false parts
Opened opened (keywords own ∷ parts) = Opened false parts
Opened opened (marks mark ∷ parts) = Opened (opens_literal mark) parts
Opened opened (names word ∷ parts) = Opened false parts
Opened opened (counts n ∷ parts) = Opened false parts
Opened opened (writes v ∷ parts) = (opened ≡ true) × Opened false parts
Opened opened (lacks ∷ parts) = Unit {0}

abbrev FitPart : Part → Type 0
FitPart (says word) = Unit {0}
FitPart (keywords own) = Unit {0}
FitPart (marks mark) = Unit {0}
FitPart (names word) = Unit {0}
FitPart (counts n) = Unit {0}
FitPart (writes v) = FitsArg (Lit v)
FitPart lacks = Unit {0}

abbrev FitParts : List Part → Type 0
FitParts [] = Unit {0}
FitParts (part ∷ parts) = FitPart part × FitParts parts

last_opens : (before : List Token) (t : Token) → (seen_of (before ++ t ∷ [])).opened ≡ is_before_literal t
last_opens before t = ap (λ (s : Seen). s.opened) (one_more_seen before t)

kept_front : (before spelled after front rest : List Token) → spelled ≡ front ++ rest → AreWithinLimits (before ++ (spelled ++ after)) → AreWithinLimits (before ++ (front ++ (rest ++ after)))
kept_front before spelled after front rest e h =
    subst AreWithinLimits (ap (λ ts. before ++ (ts ++ after)) e ∙ ap (λ ts. before ++ ts) (append_assoc front rest after)) h

kept_rest : (before spelled after front rest : List Token) → spelled ≡ front ++ rest → AreWithinLimits (before ++ (spelled ++ after)) → AreWithinLimits ((before ++ front) ++ (rest ++ after))
kept_rest before spelled after front rest e h = subst AreWithinLimits (sym (append_assoc before front (rest ++ after))) (kept_front before spelled after front rest e h)

both_written : (propagating : Bool) (spelled front rest : List Token) → spelled ≡ front ++ rest → list_all (is_written propagating) spelled ≡ true → (list_all (is_written propagating) front ≡ true) × (list_all (is_written propagating) rest ≡ true)
both_written propagating spelled front rest e h = and_parts _ _ (sym (list_all-append (is_written propagating) front rest) ∙ ap (list_all (is_written propagating)) (sym e) ∙ h)

not_opened : {A : Type 0} → false ≡ true → A
not_opened e = absurd (true≢false (sym e))

-- tokens that keep the limits spell parts whose literals fit
parts_fit : (propagating : Bool) (parts : List Part) (opened : Bool) (before spelled after : List Token) → (opened ≡ true → (seen_of before).opened ≡ true) → AreWithinLimits (before ++ (spelled ++ after)) → list_all (is_written propagating) spelled ≡ true
    → Opened opened parts → AreParts parts spelled → FitParts parts
parts_fit propagating [] opened before spelled after last within written o p = tt
parts_fit propagating (says word ∷ parts) opened before spelled after last within written o p =
    (tt, parts_fit propagating parts false (before ++ p.0) p.1 after not_opened (kept_rest before spelled after p.0 p.1 p.2 within) (both_written propagating spelled p.0 p.1 p.2 written).1 o p.4)
parts_fit propagating (keywords own ∷ parts) opened before spelled after last within written o p =
    (tt, parts_fit propagating parts false (before ++ p.0) p.1 after not_opened (kept_rest before spelled after p.0 p.1 p.2 within) (both_written propagating spelled p.0 p.1 p.2 written).1 o p.4)
parts_fit propagating (marks mark ∷ parts) opened before spelled after last within written o p = (
  tt,
  parts_fit propagating parts (opens_literal mark) (before ++ p.0) p.1 after
      (λ e. ap (λ ts. (seen_of (before ++ ts)).opened) p.3 ∙ last_opens before (token.Mark mark) ∙ e)
      (kept_rest before spelled after p.0 p.1 p.2 within) (both_written propagating spelled p.0 p.1 p.2 written).1 o p.4,
)
parts_fit propagating (names word ∷ parts) opened before spelled after last within written o p =
    (tt, parts_fit propagating parts false (before ++ p.0) p.1 after not_opened (kept_rest before spelled after p.0 p.1 p.2 within) (both_written propagating spelled p.0 p.1 p.2 written).1 o p.4)
parts_fit propagating (counts n ∷ parts) opened before spelled after last within written o p =
    (tt, parts_fit propagating parts false (before ++ p.0) p.1 after not_opened (kept_rest before spelled after p.0 p.1 p.2 within) (both_written propagating spelled p.0 p.1 p.2 written).1 o p.4)
parts_fit propagating (writes v ∷ parts) opened before spelled after last within written o p = (
  literal_fits propagating v before p.0 (p.1 ++ after) (last o.0) (kept_front before spelled after p.0 p.1 p.2 within) (both_written propagating spelled p.0 p.1 p.2 written).0 p.3,
  parts_fit propagating parts false (before ++ p.0) p.1 after not_opened (kept_rest before spelled after p.0 p.1 p.2 within) (both_written propagating spelled p.0 p.1 p.2 written).1 o.1 p.4,
)
parts_fit propagating (lacks ∷ parts) opened before spelled after last within written o p = absurd p.3

-- a part that is an argument, and then parts that don't begin with a literal
arg_opened : (a : Arg) (parts : List Part) → Opened false parts → Opened true (arg_part a ∷ parts)
arg_opened (Lit v) parts h = (refl, h)
arg_opened NoElement parts h = h
arg_opened (Var name) parts h = h

more_opened : (args : List Arg) → Opened false (more_args args ++ marks Close ∷ marks Semicolon ∷ [])
more_opened [] = tt
more_opened (a ∷ args) = arg_opened a (more_args args ++ marks Close ∷ marks Semicolon ∷ []) (more_opened args)

fits_more : (args : List Arg) → FitParts (more_args args ++ marks Close ∷ marks Semicolon ∷ []) → FitArgs args
fits_more [] h = tt
fits_more (Lit v ∷ args) h = (h.1.0, fits_more args h.1.1)
fits_more (NoElement ∷ args) h = (tt, fits_more args h.1.1)
fits_more (Var name ∷ args) h = (tt, fits_more args h.1.1)

first_fits : (a : Arg) (parts : List Part) → FitParts (arg_part a ∷ parts) → FitsArg a
first_fits (Lit v) parts h = h.0
first_fits NoElement parts h = tt
first_fits (Var name) parts h = tt

closing : (args : List Arg) → (more_args args ++ marks Close ∷ []) ++ marks Semicolon ∷ [] ≡ more_args args ++ marks Close ∷ marks Semicolon ∷ []
closing args = append_assoc (more_args args) (marks Close ∷ []) (marks Semicolon ∷ [])

args_opened : (args : List Arg) → Opened false (args_parts args ++ marks Semicolon ∷ [])
args_opened [] = tt
args_opened (a ∷ args) = arg_opened a ((more_args args ++ marks Close ∷ []) ++ marks Semicolon ∷ []) (subst (Opened false) (sym (closing args)) (more_opened args))

fits_args : (args : List Arg) → FitParts (args_parts args ++ marks Semicolon ∷ []) → FitArgs args
fits_args [] h = tt
fits_args (a ∷ args) h = (first_fits a _ h.1, fits_more args (subst FitParts (closing args) h.1.1))

target_opened : (target : Option (List ℕ)) (word : List ℕ) (parts : List Part) → Opened false parts → Opened false (target_parts target ++ names word ∷ parts)
target_opened None word parts h = h
target_opened (Some target) word parts h = h

behind_target : (target : Option (List ℕ)) (parts : List Part) → FitParts (target_parts target ++ parts) → FitParts parts
behind_target None parts h = h
behind_target (Some target) parts h = h.1.1

simple_opened : (s : Simple) → Opened false (simple_parts s)
simple_opened (call_at line target object operation args) =
    target_opened target object (marks Dot ∷ names operation ∷ (args_parts args ++ marks Semicolon ∷ [])) (args_opened args)
simple_opened (set_at line target from) = arg_opened from (marks Semicolon ∷ []) tt
simple_opened (sum_at line target from true number) = tt
simple_opened (sum_at line target from false number) = tt

simple_fits : (s : Simple) → FitParts (simple_parts s) → FitsSimple s
simple_fits (call_at line target object operation args) h = fits_args args (behind_target target (names object ∷ marks Dot ∷ names operation ∷ (args_parts args ++ marks Semicolon ∷ [])) h).1.1.1
simple_fits (set_at line target from) h = first_fits from (marks Semicolon ∷ []) h.1.1
simple_fits (sum_at line target from minus number) h = tt

-- an item behind these tokens
item_fits : (propagating : Bool) (item : Item) (before : List Token) (front : List Token) (after : List Token) → AreWithinLimits (before ++ (front ++ after)) → list_all (is_written propagating) front ≡ true → AreParts (item_parts item) front → Fits item
unfolding item_parts
item_fits propagating (declares decl) before front after within written p = tt
item_fits propagating (commands simple) before front after within written p = simple_fits simple (parts_fit propagating (simple_parts simple) false before front after not_opened within written (simple_opened simple) p)
item_fits propagating (opens head) before front after within written p = tt
item_fits propagating begins before front after within written p = tt
item_fits propagating (closes closing) before front after within written p = tt
item_fits propagating (propagates line) before front after within written p = tt
item_fits propagating (tries line) before front after within written p = tt
item_fits propagating (catches line exception) before front after within written p = tt

items_fit : (propagating : Bool) (items : List Item) (before : List Token) (placed : List Placed) → AreItems items placed → AreWithinLimits (before ++ tokens placed) → list_all (is_written propagating) (tokens placed) ≡ true → All Fits items
items_fit propagating [] before placed are within written = All-nil Fits
items_fit propagating (item ∷ items) before placed are within written =
    let split : tokens placed ≡ tokens are.0 ++ tokens are.1 = ap tokens are.2 ∙ map-append (λ (p : Placed). p.token) are.0 are.1 in
    let both = both_written propagating (tokens placed) (tokens are.0) (tokens are.1) split written in
    let kept : AreWithinLimits (before ++ (tokens are.0 ++ tokens are.1)) = subst (λ ts. AreWithinLimits (before ++ ts)) split within in
    All-cons Fits item items (item_fits propagating item before (tokens are.0) (tokens are.1) kept both.0 are.3.spelled)
    (items_fit propagating items (before ++ tokens are.0) are.1 are.4 (subst AreWithinLimits (sym (append_assoc before (tokens are.0) (tokens are.1))) kept) both.1)

-- the literals of items are values, where the items' tokens keep the limits and can be written
pub fits : (propagating : Bool) (items : List Item) (placed : List Placed) → AreItems items placed → AreWithinLimits (tokens placed) → IsTrue (list_all (is_written propagating) (tokens placed)) → All Fits items
fits propagating items placed are within written = items_fit propagating items [] placed are within written
