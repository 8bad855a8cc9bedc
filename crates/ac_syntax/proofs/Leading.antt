-- Which tokens an item may begin with.
use Rattle.std.proofs.Common.{◌≡◌, ℕ, Bool, true, false, not, ◌||◌, List, [], ◌∷◌, ◌++◌, length, refl, sym, ap, subst, ◌∙◌, arith}
use Rattle.std.proofs.lemmas.Bool.{or_right}
use Rattle.std.proofs.Math.Bool.{true≢false}
use Rattle.std.specs.Prelude.{codes, Some, None}
use denote.Enum.Bare.{sameb}
use Rattle.ac_syntax.specs.contracts.token.Keyword.{the_type}
use Rattle.ac_syntax.specs.declared.closing.Closing.{Closing}
use Rattle.ac_syntax.specs.declared.closing.Closing.TheVariants.{EndLoop, End, EndTasks, EndTask, EndTried, EndHandlers, EndOthers}
use Rattle.ac_syntax.specs.declared.decl.Decl.{Decl}
use Rattle.ac_syntax.specs.declared.decl.Decl.TheVariants.{TypeDecl, Object, CursorVar, IntVar, TextVar}
use Rattle.ac_syntax.specs.declared.view_kind.ViewKind.TheVariants.{Query, Update, Reference, UpdateKey}
use Rattle.ac_syntax.specs.declared.token.Keyword.{Keyword}
use Rattle.ac_syntax.specs.declared.token.Keyword.TheVariants as keyword
use Rattle.ac_syntax.specs.declared.token.Token.{Token}
use Rattle.ac_syntax.specs.declared.token.Token.TheVariants as token
use Rattle.ac_syntax.specs.declared.token.Placed.{Placed}
use Rattle.ac_syntax.specs.Code.{Simple, call_at, set_at, sum_at, Head, loop_at, view_at, stable_at, declare_at, tasks_at, task_at}
use Rattle.ac_syntax.specs.Items.{Item, declares, commands, opens, begins, closes, propagates, tries, catches}
use Rattle.ac_syntax.specs.Parts.{Part, says, keywords, marks, names, counts, writes, lacks, decl_parts, simple_parts, head_parts, closing_parts, item_parts}
use Rattle.ac_syntax.specs.Grammar.{is_reserved, IsPart, AreParts, AreItems}
use Rattle.ac_syntax.specs.Limits.{is_word_of, begin_words, end_words}
use Rattle.ac_syntax.specs.Tokens.{tokens}

abbrev pub is_name : Token → Bool
is_name (token.Word word) = not (is_reserved word)
is_name (token.Keyword _) = false
is_name (token.Number _) = false
is_name (token.Text _) = false
is_name (token.Mark _) = false

abbrev pub is_keyword : Keyword → Token → Bool
is_keyword own (token.Word _) = false
is_keyword own (token.Keyword found) = sameb the_type found own
is_keyword own (token.Number _) = false
is_keyword own (token.Text _) = false
is_keyword own (token.Mark _) = false

abbrev type_words : List (List ℕ)
type_words = codes "type" ∷ []

-- the first words of blocks, and of tasks
abbrev pub head_words : List (List ℕ)
head_words =
    codes "for" ∷ codes "query" ∷ codes "update" ∷ codes "update_key" ∷ codes "reference" ∷ codes "stable" ∷ codes "declare" ∷ codes "tasks" ∷ codes "task" ∷ []

abbrev pub closing_leads : Closing → Token → Bool
closing_leads EndLoop t = is_word_of end_words t
closing_leads End t = is_word_of end_words t
closing_leads EndTasks t = is_word_of end_words t
closing_leads EndTask t = is_word_of end_words t
closing_leads EndTried t = is_keyword keyword.Exception t
closing_leads EndHandlers t = is_word_of end_words t
closing_leads EndOthers t = is_word_of end_words t

-- an item of this sort may begin with this token
abbrev pub leads : Item → Token → Bool
leads (declares _) t = is_word_of type_words t || is_name t
leads (commands _) t = is_name t
leads (opens _) t = is_word_of head_words t
leads begins t = is_word_of begin_words t
leads (closes l) t = closing_leads l t
leads (propagates _) t = is_keyword keyword.Pragma t
leads (tries _) t = is_word_of begin_words t
leads (catches _ _) t = is_keyword keyword.When t

-- a part's first token
abbrev IsFirst : Part → Token → Type 0
IsFirst (says word) t = t ≡ token.Word word
IsFirst (keywords own) t = t ≡ token.Keyword own
IsFirst (marks mark) t = t ≡ token.Mark mark
IsFirst (names _) t = is_name t ≡ true
IsFirst (counts _) t = Unit {0}
IsFirst (writes _) t = ⊥
IsFirst lacks t = ⊥

-- no literal
abbrev pub is_single : Part → Bool
is_single (says _) = true
is_single (keywords _) = true
is_single (marks _) = true
is_single (names _) = true
is_single (counts _) = true
is_single (writes _) = false
is_single lacks = false

part_first : (part : Part) (front : List Token) → is_single part ≡ true → IsPart part front → (t : Token) × (front ≡ t ∷ []) × IsFirst part t
part_first (says word) front s h = (token.Word word, h, refl)
part_first (keywords own) front s h = (token.Keyword own, h, refl)
part_first (marks mark) front s h = (token.Mark mark, h, refl)
part_first (names word) front s h = (token.Word word, h.1, ap not h.0)
part_first (counts n) front s h = (token.Number n, h, tt)
part_first (writes _) front s h = absurd (cc s)
part_first lacks front s h = absurd h

-- the first of some parts is the first token, and the other parts are those behind it
pub record Begins (part : Part) (parts : List Part) (placed : List Placed) : Type 0 where
  pub first : Placed
  pub rest : List Placed
  pub whole : placed ≡ first ∷ rest
  pub leads : IsFirst part first.token
  pub others : AreParts parts (tokens rest)

pub begins_so : (part : Part) (parts : List Part) (placed : List Placed) → is_single part ≡ true → AreParts (part ∷ parts) (tokens placed) → Begins part parts placed
begins_so part parts [] s h =
    let one = part_first part h.0 s h.3 in
    let none : [] ≡ one.0 ∷ h.1 = h.2 ∙ ap (λ front. front ++ h.1) one.1 in
    absurd (omega (arith, ap length none))
begins_so part parts (p ∷ placed) s h =
    let one = part_first part h.0 s h.3 in
    let all : p.token ∷ tokens placed ≡ one.0 ∷ h.1 = h.2 ∙ ap (λ front. front ++ h.1) one.1 in
    let same : p.token ≡ one.0 = cc all in
    let more : tokens placed ≡ h.1 = cc all in
    record { first = p; rest = placed; whole = refl; leads = subst (IsFirst part) (sym same) one.2; others = subst (AreParts parts) (sym more) h.4 }

-- an item's first token
pub record Leads (item : Item) (placed : List Placed) : Type 0 where
  pub first : Placed
  pub rest : List Placed
  pub whole : placed ≡ first ∷ rest
  pub leads : leads item first.token ≡ true

abbrev first_of : List Part → Part
first_of [] = lacks
first_of (part ∷ _) = part

by_part : (item : Item) (parts : List Part) (placed : List Placed) → is_single (first_of parts) ≡ true
    → ((t : Token) → IsFirst (first_of parts) t → leads item t ≡ true) → AreParts parts (tokens placed) → Leads item placed
by_part item [] placed s f h = absurd (true≢false (sym s))
by_part item (part ∷ parts) placed s f h =
    let b = begins_so part parts placed s h in
    record { first = b.first; rest = b.rest; whole = b.whole; leads = f b.first.token b.leads }

-- an item that begins with this token alone, and one that begins with a name

only : (item : Item) (own : Token) → leads item own ≡ true → (t : Token) → t ≡ own → leads item t ≡ true
only item own is t e = subst (λ u. leads item u ≡ true) (sym e) is

named : (t : Token) → is_name t ≡ true → (is_word_of type_words t || is_name t) ≡ true
named t is = or_right (is_word_of type_words t) _ is

decl_leads : (d : Decl) (placed : List Placed) → AreParts (decl_parts d) (tokens placed) → Leads (declares d) placed
decl_leads (TypeDecl line name def) placed h = by_part (declares (TypeDecl line name def)) (decl_parts (TypeDecl line name def)) placed refl (only (declares (TypeDecl line name def)) (token.Word (codes "type")) refl) h
decl_leads (Object line name of capacity) placed h = by_part (declares (Object line name of capacity)) (decl_parts (Object line name of capacity)) placed refl named h
decl_leads (CursorVar line name of) placed h = by_part (declares (CursorVar line name of)) (decl_parts (CursorVar line name of)) placed refl named h
decl_leads (IntVar line name) placed h = by_part (declares (IntVar line name)) (decl_parts (IntVar line name)) placed refl named h
decl_leads (TextVar line name) placed h = by_part (declares (TextVar line name)) (decl_parts (TextVar line name)) placed refl named h

simple_leads : (s : Simple) (placed : List Placed) → AreParts (simple_parts s) (tokens placed) → Leads (commands s) placed
simple_leads (call_at line None object operation args) placed h = by_part (commands (call_at line None object operation args)) (simple_parts (call_at line None object operation args)) placed refl (λ t is. is) h
simple_leads (call_at line (Some target) object operation args) placed h = by_part (commands (call_at line (Some target) object operation args)) (simple_parts (call_at line (Some target) object operation args)) placed refl (λ t is. is) h
simple_leads (set_at line target from) placed h = by_part (commands (set_at line target from)) (simple_parts (set_at line target from)) placed refl (λ t is. is) h
simple_leads (sum_at line target from minus number) placed h = by_part (commands (sum_at line target from minus number)) (simple_parts (sum_at line target from minus number)) placed refl (λ t is. is) h

head_leads : (head : Head) (placed : List Placed) → AreParts (head_parts head) (tokens placed) → Leads (opens head) placed
head_leads (loop_at a b c d e) placed h = by_part (opens (loop_at a b c d e)) (head_parts (loop_at a b c d e)) placed refl (only (opens (loop_at a b c d e)) (token.Word (codes "for")) refl) h
head_leads (view_at a Query b c d) placed h = by_part (opens (view_at a Query b c d)) (head_parts (view_at a Query b c d)) placed refl (only (opens (view_at a Query b c d)) (token.Word (codes "query")) refl) h
head_leads (view_at a Update b c d) placed h = by_part (opens (view_at a Update b c d)) (head_parts (view_at a Update b c d)) placed refl (only (opens (view_at a Update b c d)) (token.Word (codes "update")) refl) h
head_leads (view_at a UpdateKey b c d) placed h = by_part (opens (view_at a UpdateKey b c d)) (head_parts (view_at a UpdateKey b c d)) placed refl (only (opens (view_at a UpdateKey b c d)) (token.Word (codes "update_key")) refl) h
head_leads (view_at a Reference b c d) placed h = by_part (opens (view_at a Reference b c d)) (head_parts (view_at a Reference b c d)) placed refl (only (opens (view_at a Reference b c d)) (token.Word (codes "reference")) refl) h
head_leads (stable_at a b) placed h = by_part (opens (stable_at a b)) (head_parts (stable_at a b)) placed refl (only (opens (stable_at a b)) (token.Word (codes "stable")) refl) h
head_leads (declare_at a b) placed h = by_part (opens (declare_at a b)) (head_parts (declare_at a b)) placed refl (only (opens (declare_at a b)) (token.Word (codes "declare")) refl) h
head_leads (tasks_at a) placed h = by_part (opens (tasks_at a)) (head_parts (tasks_at a)) placed refl (only (opens (tasks_at a)) (token.Word (codes "tasks")) refl) h
head_leads (task_at a b c) placed h = by_part (opens (task_at a b c)) (head_parts (task_at a b c)) placed refl (only (opens (task_at a b c)) (token.Word (codes "task")) refl) h

end_leads : (l : Closing) (placed : List Placed) → AreParts (closing_parts l) (tokens placed) → Leads (closes l) placed
end_leads EndLoop placed h = by_part (closes EndLoop) (closing_parts EndLoop) placed refl (only (closes EndLoop) (token.Word (codes "end")) refl) h
end_leads End placed h = by_part (closes End) (closing_parts End) placed refl (only (closes End) (token.Word (codes "end")) refl) h
end_leads EndTasks placed h = by_part (closes EndTasks) (closing_parts EndTasks) placed refl (only (closes EndTasks) (token.Word (codes "end")) refl) h
end_leads EndTask placed h = by_part (closes EndTask) (closing_parts EndTask) placed refl (only (closes EndTask) (token.Word (codes "end")) refl) h
end_leads EndTried placed h = by_part (closes EndTried) (closing_parts EndTried) placed refl (only (closes EndTried) (token.Keyword keyword.Exception) refl) h
end_leads EndHandlers placed h = by_part (closes EndHandlers) (closing_parts EndHandlers) placed refl (only (closes EndHandlers) (token.Word (codes "end")) refl) h
end_leads EndOthers placed h = by_part (closes EndOthers) (closing_parts EndOthers) placed refl (only (closes EndOthers) (token.Word (codes "end")) refl) h

pub item_leads : (item : Item) (placed : List Placed) → AreParts (item_parts item) (tokens placed) → Leads item placed
unfolding item_parts
item_leads (declares d) placed h = decl_leads d placed h
item_leads (commands s) placed h = simple_leads s placed h
item_leads (opens head) placed h = head_leads head placed h
item_leads begins placed h = by_part begins (item_parts begins) placed refl (only begins (token.Word (codes "begin")) refl) h
item_leads (closes l) placed h = end_leads l placed h
item_leads (propagates line) placed h = by_part (propagates line) (item_parts (propagates line)) placed refl (only (propagates line) (token.Keyword keyword.Pragma) refl) h
item_leads (tries line) placed h = by_part (tries line) (item_parts (tries line)) placed refl (only (tries line) (token.Word (codes "begin")) refl) h
item_leads (catches line own) placed h = by_part (catches line own) (item_parts (catches line own)) placed refl (only (catches line own) (token.Keyword keyword.When) refl) h

-- the first of some items begins with their first token
pub led_by : (item : Item) (others : List Item) (p : Placed) (placed : List Placed) → AreItems (item ∷ others) (p ∷ placed) → leads item p.token ≡ true
led_by item others p placed h =
    let first = item_leads item h.0 h.3.spelled in
    let all : p ∷ placed ≡ first.first ∷ (first.rest ++ h.1) = h.2 ∙ ap (λ front. front ++ h.1) first.whole in
    let same : p ≡ first.first = cc all in
    subst (λ (q : Placed). leads item q.token ≡ true) (sym same) first.leads
