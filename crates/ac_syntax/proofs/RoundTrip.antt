-- The canonical text of a script is cut into its own tokens, each on its line.
use Rattle.std.proofs.Common.{◌≡◌, ◌+◌, ◌-◌, ◌^◌, ◌<◌, ◌==◌, not, ℕ, zero, suc, max, pos, negsuc, Bool, true, false, cond, ◌||◌, ◌&&◌, List, [], ◌∷◌, ◌++◌, map, flat_map, length, replicate, refl, sym, ap, subst, ◌∙◌, append_assoc, append-nil, Option, Some, None, IsTrue, nat_lt, decimal, arith, ltb-true, ltb-false}
use Rattle.std.proofs.lemmas.Bool.{and_parts, or_right, true≢false}
use Rattle.std.proofs.lemmas.Bool.Decides.{nat_tests}
use Rattle.std.proofs.lemmas.Fmt.{decimal_is_IsNumeral}
use Rattle.std.proofs.lemmas.List.{map-append}
use Rattle.std.proofs.lemmas.List.Folds.{list_all-append}
use Rattle.std.specs.List.{list_all}
use Rattle.std.specs.Prelude.{is_some}
use Rattle.std.specs.Str.Parse.{AllDigits}
use Rattle.ac_base.specs.declared.value.Value.TheVariants as value
use Rattle.ac_syntax.specs.declared.script.Script.{Script}
use Rattle.ac_syntax.specs.declared.decl.Decl.{Decl}
use Rattle.ac_syntax.specs.declared.decl.Decl.TheVariants.{TypeDecl, Object, CursorVar, IntVar, TextVar}
use Rattle.ac_syntax.specs.declared.view_kind.ViewKind.TheVariants.{Query, Update, Reference, UpdateKey}
use Rattle.ac_syntax.specs.declared.token.Keyword.{Keyword}
use Rattle.ac_syntax.specs.declared.token.Keyword.TheVariants as keyword
use Rattle.ac_syntax.specs.declared.token.Token.{Token}
use Rattle.ac_syntax.specs.declared.token.Token.TheVariants as token
use Rattle.ac_syntax.specs.declared.token.Mark.TheVariants.{Colon, Semicolon, Comma, Open, Close, Dot, Assign, Plus, Minus, Arrow, BracketOpen, BracketClose, Tick, Star, Equal, NotEqual, Less, LessEqual, Greater, GreaterEqual}
use Rattle.ac_syntax.specs.declared.token.Placed.{Placed}
use Rattle.ac_syntax.specs.Code.{call_at, set_at, sum_at, Head, loop_at, view_at, stable_at, declare_at, tasks_at, task_at, Code, stop, one, block, handled}
use Rattle.ac_syntax.specs.Items.{Item, declares, opens, item_line, bare, items, pragma_items, script_items}
use Rattle.ac_syntax.specs.Parts.{Part, says, keywords, marks, names, counts, writes, lacks, item_parts}
use Rattle.ac_syntax.specs.Tokens.{Cut, cut_from, cut_of, tokens}
use Rattle.ac_syntax.specs.Keywords.{keyword_text, keyword_of, reserved_word, reserved_token, reserved_placed, is_keyword_text, begins_propagating, reserved_where, with_keywords, script_cut}
use Rattle.ac_syntax.specs.Canonical.{part_text, follows_closely, leads_closely, space_between, parts_text, gap, line_reached, items_text, with_last_line_feed, canonical_text, part_tokens, on_line, items_placed, canonical_placed, canonical_tokens, is_lower_word, is_written, propagates_in, IsWellFormed}
use Rattle.ac_syntax.specs.Grammar.{Derives}
use Rattle.ac_syntax.specs.Limits.{AreWithinLimits}
use Rattle.ac_syntax.specs.Refusals.{Spells}
use Rattle.ac_syntax.proofs.Cuts.{put_before, ends_parts, digit_byte, cut_word, cut_number, cut_string, cut_minus, cut_mark}
use Rattle.ac_syntax.proofs.Derivations.{tokens-on_line}

put_twice : (front next : List Placed) (cut : Cut) → put_before front (put_before next cut) ≡ put_before (front ++ next) cut
put_twice front next cut = ap (λ placed. record { placed = placed; malformed = cut.malformed }) (sym (append_assoc front next cut.placed))

-- parts

alone : (a : Bool) → (a && true) ≡ true → a ≡ true
alone a h = (and_parts a true h).0

digit_no_minus : (b : ℕ) (ds : List ℕ) → AllDigits 10 (b ∷ ds) → (b == 45) ≡ false
digit_no_minus b ds h = let d = digit_byte b h.0 in grind (arith, nat_tests)

minus_cut : (ds rest : List ℕ) (line : ℕ) → 0 < length ds → AllDigits 10 ds → cut_from 0 line (45 ∷ (ds ++ rest)) ≡ put_before (on_line line (token.Mark Minus) ∷ []) (cut_from 0 line (ds ++ rest))
minus_cut [] rest line some h = absurd (omega arith)
minus_cut (b ∷ ds) rest line some h = cut_minus b (ds ++ rest) line (digit_no_minus b ds h)

negative_cut : (n : ℕ) (rest : List ℕ) (line : ℕ) → nat_lt (suc n) (2 ^ 64) ≡ true → ends_parts rest ≡ true
    → cut_from 0 line (45 ∷ (decimal (suc n) ++ rest)) ≡ put_before (on_line line (token.Mark Minus) ∷ on_line line (token.Number (suc n)) ∷ []) (cut_from 0 line rest)
negative_cut n rest line h ends =
    let small : suc n < 2 ^ 64 = ltb-true (suc n) (2 ^ 64) h in
    let d = decimal_is_IsNumeral (suc n) small in
    minus_cut (decimal (suc n)) rest line d.0.0 d.0.1 ∙ ap (put_before (on_line line (token.Mark Minus) ∷ [])) (cut_number (suc n) rest line h ends)

-- the token as which one is cut: a keyword as a word
abbrev worded : Token → Token
worded (token.Word word) = token.Word word
worded (token.Keyword own) = token.Word (keyword_text own)
worded (token.Number n) = token.Number n
worded (token.Text bytes) = token.Text bytes
worded (token.Mark mark) = token.Mark mark

abbrev worded_on : ℕ → List Token → List Placed
worded_on line spelled = map (λ t. on_line line (worded t)) spelled

keyword_lower : (own : Keyword) → is_lower_word (keyword_text own) ≡ true
keyword_lower keyword.Pragma = refl
keyword_lower keyword.Propagate = refl
keyword_lower keyword.Exception = refl
keyword_lower keyword.When = refl
keyword_lower keyword.Others = refl
keyword_lower keyword.ProgramError = refl
keyword_lower keyword.ConstraintError = refl
keyword_lower keyword.CapacityError = refl

written_lower : (mode : Bool) (word : List ℕ) → list_all (is_written mode) (token.Word word ∷ []) ≡ true → is_lower_word word ≡ true
written_lower mode word h = (and_parts (is_lower_word word) _ (alone _ h)).0

part_cut : (mode : Bool) (part : Part) (rest : List ℕ) (line : ℕ) → list_all (is_written mode) (part_tokens part) ≡ true → (leads_closely part || ends_parts rest) ≡ true
    → cut_from 0 line (part_text part ++ rest) ≡ put_before (worded_on line (part_tokens part)) (cut_from 0 line rest)
part_cut mode (says word) rest line h ends = cut_word word rest line (written_lower mode word h) ends
part_cut mode (keywords own) rest line h ends = cut_word (keyword_text own) rest line (keyword_lower own) ends
part_cut mode (marks mark) rest line h ends = cut_mark mark rest line ends
part_cut mode (names word) rest line h ends = cut_word word rest line (written_lower mode word h) ends
part_cut mode (counts n) rest line h ends = cut_number n rest line (alone _ h) ends
part_cut mode (writes (value.Int (pos n))) rest line h ends = cut_number n rest line (alone _ h) ends
part_cut mode (writes (value.Int (negsuc n))) rest line h ends = negative_cut n rest line (alone _ h) ends
part_cut mode (writes (value.Text bytes)) rest line h ends = cut_string bytes rest line (alone _ h) ends
part_cut mode lacks rest line h ends = refl

-- a part that comes with no space before it ends the one before
closely_ends : (part : Part) (rest : List ℕ) → follows_closely part ≡ true → ends_parts (part_text part ++ rest) ≡ true
closely_ends (says _) rest h = absurd (true≢false (sym h))
closely_ends (keywords _) rest h = absurd (true≢false (sym h))
closely_ends (marks Colon) rest h = absurd (true≢false (sym h))
closely_ends (marks Semicolon) rest h = refl
closely_ends (marks Comma) rest h = refl
closely_ends (marks Open) rest h = absurd (true≢false (sym h))
closely_ends (marks Close) rest h = refl
closely_ends (marks Dot) rest h = refl
closely_ends (marks Assign) rest h = absurd (true≢false (sym h))
closely_ends (marks Plus) rest h = absurd (true≢false (sym h))
closely_ends (marks Minus) rest h = absurd (true≢false (sym h))
closely_ends (marks Arrow) rest h = absurd (true≢false (sym h))
closely_ends (marks BracketOpen) rest h = absurd (true≢false (sym h))
closely_ends (marks BracketClose) rest h = refl
closely_ends (marks Tick) rest h = absurd (true≢false (sym h))
closely_ends (marks Star) rest h = absurd (true≢false (sym h))
closely_ends (marks Equal) rest h = absurd (true≢false (sym h))
closely_ends (marks NotEqual) rest h = absurd (true≢false (sym h))
closely_ends (marks Less) rest h = absurd (true≢false (sym h))
closely_ends (marks LessEqual) rest h = absurd (true≢false (sym h))
closely_ends (marks Greater) rest h = absurd (true≢false (sym h))
closely_ends (marks GreaterEqual) rest h = absurd (true≢false (sym h))
closely_ends (names _) rest h = absurd (true≢false (sym h))
closely_ends (counts _) rest h = absurd (true≢false (sym h))
closely_ends (writes _) rest h = absurd (true≢false (sym h))
closely_ends lacks rest h = absurd (true≢false (sym h))

space_ends : (leads follows : Bool) (text : List ℕ) → (follows ≡ true → ends_parts text ≡ true) → (leads || ends_parts (cond (leads || follows) [] (32 ∷ []) ++ text)) ≡ true
space_ends true follows text h = refl
space_ends false true text h = h refl
space_ends false false text h = refl

space_cut : (close : Bool) (text : List ℕ) (line : ℕ) → cut_from 0 line (cond close [] (32 ∷ []) ++ text) ≡ cut_from 0 line text
space_cut true text line = refl
space_cut false text line = refl

parts_begin : (part : Part) (parts : List Part) → (more : List ℕ) × (parts_text (part ∷ parts) ≡ part_text part ++ more)
parts_begin part [] = ([], sym (append-nil (part_text part)))
parts_begin part (next ∷ parts) = (space_between part next ++ parts_text (next ∷ parts), refl)

next_ends : (part next : Part) (parts : List Part) (rest : List ℕ) → (leads_closely part || ends_parts (space_between part next ++ (parts_text (next ∷ parts) ++ rest))) ≡ true
next_ends part next parts rest =
    let begun = parts_begin next parts in
    space_ends (leads_closely part) (follows_closely next) (parts_text (next ∷ parts) ++ rest)
    (λ h. ap ends_parts (ap (λ text. text ++ rest) begun.1 ∙ append_assoc (part_text next) begun.0 rest) ∙ closely_ends next (begun.0 ++ rest) h)

parts_cut : (mode : Bool) (parts : List Part) (rest : List ℕ) (line : ℕ) → list_all (is_written mode) (flat_map part_tokens parts) ≡ true → ends_parts rest ≡ true
    → cut_from 0 line (parts_text parts ++ rest) ≡ put_before (worded_on line (flat_map part_tokens parts)) (cut_from 0 line rest)
parts_cut mode [] rest line h ends = refl
parts_cut mode (part ∷ []) rest line h ends =
    let written : (list_all (is_written mode) (part_tokens part) ≡ true) × (true ≡ true) = and_parts _ _ (sym (list_all-append (is_written mode) (part_tokens part) []) ∙ h) in
    part_cut mode part rest line written.0 (or_right (leads_closely part) _ ends)
    ∙ ap (λ ts. put_before (worded_on line ts) (cut_from 0 line rest)) (sym (append-nil (part_tokens part)))
parts_cut mode (part ∷ next ∷ parts) rest line h ends =
    let others = flat_map part_tokens (next ∷ parts) in
    let text = parts_text (next ∷ parts) in
    let written : (list_all (is_written mode) (part_tokens part) ≡ true) × (list_all (is_written mode) others ≡ true) = and_parts _ _ (sym (list_all-append (is_written mode) (part_tokens part) others) ∙ h) in
    ap (cut_from 0 line) (append_assoc (part_text part) (space_between part next ++ text) rest ∙ ap (λ t. part_text part ++ t) (append_assoc (space_between part next) text rest))
    ∙ part_cut mode part (space_between part next ++ (text ++ rest)) line written.0 (next_ends part next parts rest)
    ∙ ap (put_before (worded_on line (part_tokens part))) (space_cut (leads_closely part || follows_closely next) (text ++ rest) line ∙ parts_cut mode (next ∷ parts) rest line written.1 ends)
    ∙ put_twice (worded_on line (part_tokens part)) (worded_on line others) (cut_from 0 line rest)
    ∙ ap (λ placed. put_before placed (cut_from 0 line rest)) (sym (map-append (λ t. on_line line (worded t)) (part_tokens part) others))

-- items

lines_cut : (k line : ℕ) (text : List ℕ) → cut_from 0 line (replicate k 10 ++ text) ≡ cut_from 0 (line + k) text
lines_cut zero line text = ap (λ l. cut_from 0 l text) (omega arith)
lines_cut (suc k) line text = lines_cut k (line + 1) text ∙ ap (λ l. cut_from 0 l text) (omega arith)

-- a gap from this line to an item's own one, which is further down or not
gap_cut_by : (line own : ℕ) (is_empty further : Bool) (text : List ℕ) → nat_lt line own ≡ further
    → cut_from 0 line (cond further (replicate (own - line) 10) (cond is_empty [] (32 ∷ [])) ++ text) ≡ cut_from 0 (max line own) text
gap_cut_by line own is_empty true text h = lines_cut (own - line) line text ∙ ap (λ l. cut_from 0 l text) (grind (arith, ltb-true line own h))
gap_cut_by line own is_empty false text h = space_cut is_empty text line ∙ ap (λ l. cut_from 0 l text) (grind (arith, ltb-false line own h))

gap_cut : (line : ℕ) (is_empty : Bool) (own : Option ℕ) (text : List ℕ) → cut_from 0 line (gap line is_empty own ++ text) ≡ cut_from 0 (line_reached line own) text
gap_cut line is_empty None text = space_cut is_empty text line ∙ ap (λ l. cut_from 0 l text) (grind arith)
gap_cut line is_empty (Some own) text = gap_cut_by line own is_empty (nat_lt line own) text refl

feeds_end : (k : ℕ) (text : List ℕ) → 0 < k → ends_parts (replicate k 10 ++ text) ≡ true
feeds_end zero text h = absurd (omega arith)
feeds_end (suc k) text h = refl

gap_ends_by : (line own : ℕ) (further : Bool) (text : List ℕ) → nat_lt line own ≡ further → ends_parts (cond further (replicate (own - line) 10) (32 ∷ []) ++ text) ≡ true
gap_ends_by line own true text h = feeds_end (own - line) text (omega (arith, ltb-true line own h))
gap_ends_by line own false text h = refl

gap_ends : (line : ℕ) (own : Option ℕ) (text : List ℕ) → ends_parts (gap line false own ++ text) ≡ true
gap_ends line None text = refl
gap_ends line (Some own) text = gap_ends_by line own (nat_lt line own) text refl

items_end : (line : ℕ) (items : List Item) → ends_parts (items_text line false items ++ 10 ∷ []) ≡ true
items_end line [] = refl
items_end line (item ∷ items) =
    let more = parts_text (item_parts item) ++ items_text (line_reached line (item_line item)) false items in
    ap ends_parts (append_assoc (gap line false (item_line item)) more (10 ∷ [])) ∙ gap_ends line (item_line item) (more ++ 10 ∷ [])

-- the tokens of a canonical text as they are cut
abbrev worded_placed : Placed → Placed
worded_placed p = on_line p.line (worded p.token)

worded-on_line : (line : ℕ) (spelled : List Token) → map worded_placed (map (on_line line) spelled) ≡ worded_on line spelled
worded-on_line line [] = refl
worded-on_line line (t ∷ spelled) = ap (λ placed. on_line line (worded t) ∷ placed) (worded-on_line line spelled)

items_cut : (mode : Bool) (line : ℕ) (is_empty : Bool) (items : List Item) → list_all (is_written mode) (tokens (items_placed line items)) ≡ true
    → cut_from 0 line (items_text line is_empty items ++ 10 ∷ []) ≡ record { placed = map worded_placed (items_placed line items); malformed = None }
items_cut mode line is_empty [] h = refl
items_cut mode line is_empty (item ∷ items) h =
    let own = item_line item in
    let reached = line_reached line own in
    let spelled = flat_map part_tokens (item_parts item) in
    let front = map (on_line reached) spelled in
    let text = parts_text (item_parts item) in
    let more = items_text reached false items in
    let others = items_placed reached items in
    let split : list_all (is_written mode) (tokens (front ++ others)) ≡ (list_all (is_written mode) spelled && list_all (is_written mode) (tokens others))
    = ap (list_all (is_written mode)) (map-append (λ (p : Placed). p.token) front others) ∙ list_all-append (is_written mode) (tokens front) (tokens others)
    ∙ ap (λ ts. list_all (is_written mode) ts && list_all (is_written mode) (tokens others)) (tokens-on_line reached spelled) in
    let written : (list_all (is_written mode) spelled ≡ true) × (list_all (is_written mode) (tokens others) ≡ true) = and_parts _ _ (sym split ∙ h) in
    let worded_all : map worded_placed (front ++ others) ≡ worded_on reached spelled ++ map worded_placed others =
    map-append worded_placed front others ∙ ap (λ placed. placed ++ map worded_placed others) (worded-on_line reached spelled) in
    ap (cut_from 0 line) (append_assoc (gap line is_empty own) (text ++ more) (10 ∷ []) ∙ ap (λ t. gap line is_empty own ++ t) (append_assoc text more (10 ∷ [])))
    ∙ gap_cut line is_empty own (text ++ (more ++ 10 ∷ []))
    ∙ parts_cut mode (item_parts item) (more ++ 10 ∷ []) reached written.0 (items_end reached items)
    ∙ ap (put_before (worded_on reached spelled)) (items_cut mode reached false items written.1)
    ∙ ap (λ placed. record { placed = placed; malformed = None }) (sym worded_all)

last_cut : (text : List ℕ) → cut_of (with_last_line_feed text) ≡ cut_of (text ++ 10 ∷ [])
last_cut [] = refl
last_cut (b ∷ text) = refl

-- where the keywords are reserved, the words of the cut are the tokens again

kept_word : (word : List ℕ) (found : Option Keyword) → not (is_some found) ≡ true → reserved_word word found ≡ token.Word word
kept_word word None h = refl
kept_word word (Some _) h = absurd (true≢false (sym h))

kept_keyword : (own : Keyword) → reserved_word (keyword_text own) (keyword_of (keyword_text own)) ≡ token.Keyword own
kept_keyword keyword.Pragma = refl
kept_keyword keyword.Propagate = refl
kept_keyword keyword.Exception = refl
kept_keyword keyword.When = refl
kept_keyword keyword.Others = refl
kept_keyword keyword.ProgramError = refl
kept_keyword keyword.ConstraintError = refl
kept_keyword keyword.CapacityError = refl

kept_token : (t : Token) → is_written true t ≡ true → reserved_token (worded t) ≡ t
kept_token (token.Word word) h = kept_word word (keyword_of word) (and_parts (is_lower_word word) _ h).1
kept_token (token.Keyword own) h = kept_keyword own
kept_token (token.Number _) h = refl
kept_token (token.Text _) h = refl
kept_token (token.Mark _) h = refl

all_kept : (placed : List Placed) → list_all (is_written true) (tokens placed) ≡ true → map reserved_placed (map worded_placed placed) ≡ placed
all_kept [] h = refl
all_kept (p ∷ placed) h =
    let parts : (is_written true p.token ≡ true) × (list_all (is_written true) (tokens placed) ≡ true) = and_parts _ _ h in
    λ i. on_line p.line (kept_token p.token parts.0 i) ∷ all_kept placed parts.1 i

-- and where they aren't, there are none

plain_token : (t : Token) → is_written false t ≡ true → worded t ≡ t
plain_token (token.Word _) h = refl
plain_token (token.Keyword _) h = absurd (true≢false (sym h))
plain_token (token.Number _) h = refl
plain_token (token.Text _) h = refl
plain_token (token.Mark _) h = refl

all_plain : (placed : List Placed) → list_all (is_written false) (tokens placed) ≡ true → map worded_placed placed ≡ placed
all_plain [] h = refl
all_plain (p ∷ placed) h =
    let parts : (is_written false p.token ≡ true) × (list_all (is_written false) (tokens placed) ≡ true) = and_parts _ _ h in
    λ i. on_line p.line (plain_token p.token parts.0 i) ∷ all_plain placed parts.1 i

-- without the pragma the first two tokens aren't its words

abbrev first_is : List Placed → Bool
first_is [] = false
first_is (p ∷ _) = is_keyword_text keyword.Pragma p.token

abbrev second_is : List Placed → Bool
second_is [] = false
second_is (_ ∷ []) = false
second_is (_ ∷ q ∷ _) = is_keyword_text keyword.Propagate q.token

by_first : (placed : List Placed) → first_is placed ≡ false → begins_propagating placed ≡ false
by_first [] h = refl
by_first (_ ∷ []) h = refl
by_first (p ∷ q ∷ _) h = ap (λ b. b && is_keyword_text keyword.Propagate q.token) h

neither : (b : Bool) → (b && false) ≡ false
neither true = refl
neither false = refl

by_second : (placed : List Placed) → second_is placed ≡ false → begins_propagating placed ≡ false
by_second [] h = refl
by_second (_ ∷ []) h = refl
by_second (p ∷ q ∷ _) h = ap (λ b. is_keyword_text keyword.Pragma p.token && b) h ∙ neither (is_keyword_text keyword.Pragma p.token)

decl_plain : (d : Decl) (xs : List Item) → begins_propagating (items_placed 1 (declares d ∷ xs)) ≡ false
unfolding item_parts
decl_plain (TypeDecl a b c) xs = by_first (items_placed 1 (declares (TypeDecl a b c) ∷ xs)) refl
decl_plain (Object a b c d) xs = by_second (items_placed 1 (declares (Object a b c d) ∷ xs)) refl
decl_plain (CursorVar a b c) xs = by_second (items_placed 1 (declares (CursorVar a b c) ∷ xs)) refl
decl_plain (IntVar a b) xs = by_second (items_placed 1 (declares (IntVar a b) ∷ xs)) refl
decl_plain (TextVar a b) xs = by_second (items_placed 1 (declares (TextVar a b) ∷ xs)) refl

head_plain : (h : Head) (xs : List Item) → begins_propagating (items_placed 1 (opens (bare h) ∷ xs)) ≡ false
unfolding item_parts
head_plain (loop_at a b c d e) xs = by_first (items_placed 1 (opens (loop_at a b c d e) ∷ xs)) refl
head_plain (view_at a Query b c d) xs = by_first (items_placed 1 (opens (view_at a Query b c d) ∷ xs)) refl
head_plain (view_at a Update b c d) xs = by_first (items_placed 1 (opens (view_at a Update b c d) ∷ xs)) refl
head_plain (view_at a UpdateKey b c d) xs = by_first (items_placed 1 (opens (view_at a UpdateKey b c d) ∷ xs)) refl
head_plain (view_at a Reference b c d) xs = by_first (items_placed 1 (opens (view_at a Reference b c d) ∷ xs)) refl
head_plain (stable_at a b) xs = by_first (items_placed 1 (opens (stable_at a b) ∷ xs)) refl
head_plain (declare_at a b) xs = by_first (items_placed 1 (opens (declare_at a []) ∷ xs)) refl
head_plain (tasks_at a) xs = by_first (items_placed 1 (opens (tasks_at a) ∷ xs)) refl
head_plain (task_at a b c) xs = by_first (items_placed 1 (opens (task_at a b []) ∷ xs)) refl

code_plain : (code : Code) → begins_propagating (items_placed 1 (items code)) ≡ false
unfolding item_parts
code_plain stop = refl
code_plain (one (call_at a None b c d) rest) = by_second (items_placed 1 (items (one (call_at a None b c d) rest))) refl
code_plain (one (call_at a (Some e) b c d) rest) = by_second (items_placed 1 (items (one (call_at a (Some e) b c d) rest))) refl
code_plain (one (set_at a b c) rest) = by_second (items_placed 1 (items (one (set_at a b c) rest))) refl
code_plain (one (sum_at a b c d e) rest) = by_second (items_placed 1 (items (one (sum_at a b c d e) rest))) refl
code_plain (block head body rest) = head_plain head _
code_plain (handled line body handlers rest) = by_first (items_placed 1 (items (handled line body handlers rest))) refl

script_plain : (decls : List Decl) (code : Code) → begins_propagating (items_placed 1 (map declares decls ++ items code)) ≡ false
script_plain [] code = code_plain code
script_plain (d ∷ decls) code = decl_plain d (map declares decls ++ items code)

words_kept : (own : Option ℕ) (decls : List Decl) (code : Code) (placed : List Placed) → placed ≡ items_placed 1 (pragma_items own ++ (map declares decls ++ items code))
    → list_all (is_written (is_some own)) (tokens placed) ≡ true → reserved_where (begins_propagating (map worded_placed placed)) (map worded_placed placed) ≡ placed
unfolding item_parts
words_kept None decls code placed is h =
    ap (λ found. reserved_where (begins_propagating found) found) (all_plain placed h)
    ∙ ap (λ b. reserved_where b placed) (ap begins_propagating is ∙ script_plain decls code)
words_kept (Some line) decls code placed is h =
    ap (λ b. reserved_where b (map worded_placed placed)) (ap (λ found. begins_propagating (map worded_placed found)) is) ∙ all_kept placed h

pub canonical_cut : (script : Script) → IsTrue (list_all (is_written (propagates_in script)) (canonical_tokens script))
    → script_cut (canonical_text script) ≡ record { placed = canonical_placed script; malformed = None }
unfolding canonical_text canonical_placed
canonical_cut script h =
    ap with_keywords (last_cut (items_text 1 true (script_items script)) ∙ items_cut (propagates_in script) 1 true (script_items script) h)
    ∙ ap (λ placed. record { placed = placed; malformed = None })
    (words_kept script.pragma script.decls script.stmts (items_placed 1 (script_items script)) refl h)

pub canonical_spells : (script : Script) → IsWellFormed script → Spells script (canonical_text script)
canonical_spells script well =
    let cut = canonical_cut script well.written in
    let placed : canonical_placed script ≡ (script_cut (canonical_text script)).placed = sym (ap (λ c. c.placed) cut) in
    record {
      whole = ap (λ c. c.malformed) cut;
      derives = subst (λ found. Derives found script) placed well.derives;
      within = subst (λ found. AreWithinLimits (tokens found)) placed well.within;
    }
