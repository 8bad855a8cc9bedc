-- Items of a script with the pragma: which may come at its front, in what is tried, and behind `exception`.
use Rattle.std.proofs.Common.{◌≡◌, ℕ, true, List, [], ◌∷◌, ◌++◌, refl, ap, ◌∙◌, Some, None}
use Rattle.std.proofs.lemmas.Option.{none-some}
use Rattle.std.specs.Prelude.{codes}
use Rattle.ac_base.specs.declared.reason.Exception.TheVariants as exception
use Rattle.ac_syntax.specs.declared.closing.Closing.TheVariants.{EndLoop, End, EndTasks, EndTask, EndTried, EndHandlers, EndOthers}
use Rattle.ac_syntax.specs.declared.token.Keyword.{Keyword}
use Rattle.ac_syntax.specs.declared.token.Keyword.TheVariants as keyword
use Rattle.ac_syntax.specs.declared.token.Mark.TheVariants.{Arrow}
use Rattle.ac_syntax.specs.declared.token.Token.TheVariants as token
use Rattle.ac_syntax.specs.declared.token.Placed.{Placed}
use Rattle.ac_syntax.specs.Items.{Item, declares, commands, opens, begins, closes, propagates, tries, catches}
use Rattle.ac_syntax.specs.Parts.{keywords, marks, item_parts}
use Rattle.ac_syntax.specs.Grammar.{reserved, is_reserved, AreParts}
use Rattle.ac_syntax.specs.Order.{listing, running, catching, Context, at_front}
use Rattle.ac_syntax.specs.Canonical.{on_line}
use Rattle.ac_syntax.specs.Tokens.{tokens}
use Rattle.ac_syntax.proofs.Leading.{is_keyword, begins_so}
use Rattle.ac_syntax.proofs.Orders.{at}
use Rattle.ac_syntax.proofs.Refusing.{Stuck, IsStep, step, unled, follow}

-- ---- the pragma at the front

abbrev pragma_at : ℕ → Placed
pragma_at line = on_line line (token.Keyword keyword.Pragma)

pragma_item : (line : ℕ) (q r : Placed) (placed : List Placed) → Stuck (at true [] listing) placed → (item : Item) (next : Context) (front rest : List Placed)
    → IsStep at_front (pragma_at line) (q ∷ r ∷ placed) item next front rest → Stuck next rest
unfolding item_parts
pragma_item line q r placed h (declares d) next front rest s = unled s.led refl
pragma_item line q r placed h (commands c) next front rest s = unled s.led refl
pragma_item line q r placed h (opens head) next front rest s = unled s.led refl
pragma_item line q r placed h begins next front rest s = unled s.led refl
pragma_item line q r placed h (closes l) next front rest s = absurd (none-some next s.may)
pragma_item line q r placed h (propagates own) next front rest s = follow at_front (pragma_at line) (q ∷ r ∷ placed) (propagates own) next front rest s (at true [] listing) refl refl h
pragma_item line q r placed h (tries own) next front rest s = unled s.led refl
pragma_item line q r placed h (catches own caught) next front rest s = absurd (none-some next s.may)

pub behind_pragma : (line : ℕ) (q r : Placed) (placed : List Placed) → Stuck (at true [] listing) placed → Stuck at_front (pragma_at line ∷ q ∷ r ∷ placed)
behind_pragma line q r placed h = step at_front (pragma_at line) (q ∷ r ∷ placed) (pragma_item line q r placed h)

-- no keyword comes behind it
keyword_item : (line : ℕ) (own : Keyword) (placed : List Placed) (item : Item) (next : Context) (front rest : List Placed)
    → IsStep (at true [] listing) (on_line line (token.Keyword own)) placed item next front rest → Stuck next rest
keyword_item line own placed (declares d) next front rest s = unled s.led refl
keyword_item line own placed (commands c) next front rest s = unled s.led refl
keyword_item line own placed (opens head) next front rest s = unled s.led refl
keyword_item line own placed begins next front rest s = absurd (none-some next s.may)
keyword_item line own placed (closes l) next front rest s = absurd (none-some next s.may)
keyword_item line own placed (propagates place) next front rest s = absurd (none-some next s.may)
keyword_item line own placed (tries place) next front rest s = unled s.led refl
keyword_item line own placed (catches place caught) next front rest s = absurd (none-some next s.may)

pub no_keyword : (line : ℕ) (own : Keyword) (placed : List Placed) → Stuck (at true [] listing) (on_line line (token.Keyword own) ∷ placed)
no_keyword line own placed = step (at true [] listing) (on_line line (token.Keyword own)) placed (keyword_item line own placed)

-- ---- what is tried

abbrev begin_at : ℕ → Placed
begin_at line = on_line line (token.Word (codes "begin"))

abbrev pub in_tried : Context
in_tried = at true (EndTried ∷ EndHandlers ∷ []) running

begin_item : (line : ℕ) (placed : List Placed) → Stuck in_tried placed → (item : Item) (next : Context) (front rest : List Placed)
    → IsStep (at true [] listing) (begin_at line) placed item next front rest → Stuck next rest
unfolding item_parts reserved is_reserved
begin_item line placed h (declares d) next front rest s = unled s.led refl
begin_item line placed h (commands c) next front rest s = unled s.led refl
begin_item line placed h (opens head) next front rest s = unled s.led refl
begin_item line placed h begins next front rest s = absurd (none-some next s.may)
begin_item line placed h (closes l) next front rest s = absurd (none-some next s.may)
begin_item line placed h (propagates own) next front rest s = absurd (none-some next s.may)
begin_item line placed h (tries own) next front rest s = follow (at true [] listing) (begin_at line) placed (tries own) next front rest s in_tried refl refl h
begin_item line placed h (catches own caught) next front rest s = absurd (none-some next s.may)

pub behind_begin : (line : ℕ) (placed : List Placed) → Stuck in_tried placed → Stuck (at true [] listing) (begin_at line ∷ placed)
behind_begin line placed h = step (at true [] listing) (begin_at line) placed (begin_item line placed h)

-- no `end` comes in it
abbrev end_at : ℕ → Placed
end_at line = on_line line (token.Word (codes "end"))

end_tried : (line : ℕ) (placed : List Placed) (item : Item) (next : Context) (front rest : List Placed) → IsStep in_tried (end_at line) placed item next front rest → Stuck next rest
unfolding reserved is_reserved
end_tried line placed (declares d) next front rest s = absurd (none-some next s.may)
end_tried line placed (commands c) next front rest s = unled s.led refl
end_tried line placed (opens head) next front rest s = unled s.led refl
end_tried line placed begins next front rest s = absurd (none-some next s.may)
end_tried line placed (closes EndLoop) next front rest s = absurd (none-some next s.may)
end_tried line placed (closes End) next front rest s = absurd (none-some next s.may)
end_tried line placed (closes EndTasks) next front rest s = absurd (none-some next s.may)
end_tried line placed (closes EndTask) next front rest s = absurd (none-some next s.may)
end_tried line placed (closes EndTried) next front rest s = unled s.led refl
end_tried line placed (closes EndHandlers) next front rest s = absurd (none-some next s.may)
end_tried line placed (closes EndOthers) next front rest s = absurd (none-some next s.may)
end_tried line placed (propagates own) next front rest s = absurd (none-some next s.may)
end_tried line placed (tries own) next front rest s = unled s.led refl
end_tried line placed (catches own caught) next front rest s = absurd (none-some next s.may)

pub no_end_tried : (line : ℕ) (placed : List Placed) → Stuck in_tried (end_at line ∷ placed)
no_end_tried line placed = step in_tried (end_at line) placed (end_tried line placed)

-- ---- behind `exception`

abbrev exception_at : ℕ → Placed
exception_at line = on_line line (token.Keyword keyword.Exception)

abbrev pub before_handlers : Context
before_handlers = at true (EndHandlers ∷ []) catching

exception_item : (line : ℕ) (placed : List Placed) → Stuck before_handlers placed → (item : Item) (next : Context) (front rest : List Placed)
    → IsStep in_tried (exception_at line) placed item next front rest → Stuck next rest
unfolding item_parts
exception_item line placed h (declares d) next front rest s = absurd (none-some next s.may)
exception_item line placed h (commands c) next front rest s = unled s.led refl
exception_item line placed h (opens head) next front rest s = unled s.led refl
exception_item line placed h begins next front rest s = absurd (none-some next s.may)
exception_item line placed h (closes EndLoop) next front rest s = absurd (none-some next s.may)
exception_item line placed h (closes End) next front rest s = absurd (none-some next s.may)
exception_item line placed h (closes EndTasks) next front rest s = absurd (none-some next s.may)
exception_item line placed h (closes EndTask) next front rest s = absurd (none-some next s.may)
exception_item line placed h (closes EndTried) next front rest s = follow in_tried (exception_at line) placed (closes EndTried) next front rest s before_handlers refl refl h
exception_item line placed h (closes EndHandlers) next front rest s = absurd (none-some next s.may)
exception_item line placed h (closes EndOthers) next front rest s = absurd (none-some next s.may)
exception_item line placed h (propagates own) next front rest s = absurd (none-some next s.may)
exception_item line placed h (tries own) next front rest s = unled s.led refl
exception_item line placed h (catches own caught) next front rest s = absurd (none-some next s.may)

pub behind_exception : (line : ℕ) (placed : List Placed) → Stuck before_handlers placed → Stuck in_tried (exception_at line ∷ placed)
behind_exception line placed h = step in_tried (exception_at line) placed (exception_item line placed h)

-- a handler comes first
end_first : (line : ℕ) (placed : List Placed) (item : Item) (next : Context) (front rest : List Placed) → IsStep before_handlers (end_at line) placed item next front rest → Stuck next rest
end_first line placed (declares d) next front rest s = absurd (none-some next s.may)
end_first line placed (commands c) next front rest s = absurd (none-some next s.may)
end_first line placed (opens head) next front rest s = absurd (none-some next s.may)
end_first line placed begins next front rest s = absurd (none-some next s.may)
end_first line placed (closes l) next front rest s = absurd (none-some next s.may)
end_first line placed (propagates own) next front rest s = absurd (none-some next s.may)
end_first line placed (tries own) next front rest s = absurd (none-some next s.may)
end_first line placed (catches own caught) next front rest s = unled s.led refl

pub no_end_first : (line : ℕ) (placed : List Placed) → Stuck before_handlers (end_at line ∷ placed)
no_end_first line placed = step before_handlers (end_at line) placed (end_first line placed)

-- ---- the handler of all others

abbrev when_at : ℕ → Placed
when_at line = on_line line (token.Keyword keyword.When)

abbrev pub in_others : Context
in_others = at true (EndOthers ∷ []) running

-- what it names is its second token
own_keyword : (own : Keyword) (front rest : List Placed) (line place : ℕ) (placed : List Placed) (found : Keyword)
    → AreParts (keywords keyword.When ∷ keywords own ∷ marks Arrow ∷ []) (tokens front) → when_at line ∷ on_line place (token.Keyword found) ∷ placed ≡ front ++ rest
    → token.Keyword found ≡ token.Keyword own
own_keyword own front rest line place placed found h e =
    let a = begins_so (keywords keyword.When) (keywords own ∷ marks Arrow ∷ []) front refl h in
    let b = begins_so (keywords own) (marks Arrow ∷ []) a.rest refl a.others in
    let whole : when_at line ∷ on_line place (token.Keyword found) ∷ placed ≡ a.first ∷ b.first ∷ (b.rest ++ rest) =
    e ∙ ap (λ xs. xs ++ rest) (a.whole ∙ ap (λ xs. a.first ∷ xs) b.whole) in
    let same : on_line place (token.Keyword found) ≡ b.first = cc whole in
    ap (λ (r : Placed). r.token) same ∙ b.leads

others_item : (line place end : ℕ) (placed : List Placed) → Stuck in_others placed → (item : Item) (next : Context) (front rest : List Placed)
    → IsStep before_handlers (when_at line) (on_line place (token.Keyword keyword.Others) ∷ on_line end (token.Mark Arrow) ∷ placed) item next front rest → Stuck next rest
unfolding item_parts
others_item line place end placed h (declares d) next front rest s = absurd (none-some next s.may)
others_item line place end placed h (commands c) next front rest s = absurd (none-some next s.may)
others_item line place end placed h (opens head) next front rest s = absurd (none-some next s.may)
others_item line place end placed h begins next front rest s = absurd (none-some next s.may)
others_item line place end placed h (closes l) next front rest s = absurd (none-some next s.may)
others_item line place end placed h (propagates own) next front rest s = absurd (none-some next s.may)
others_item line place end placed h (tries own) next front rest s = absurd (none-some next s.may)
others_item line place end placed h (catches own None) next front rest s =
    follow before_handlers (when_at line) (on_line place (token.Keyword keyword.Others) ∷ on_line end (token.Mark Arrow) ∷ placed) (catches own None) next front rest s in_others refl refl h
others_item line place end placed h (catches own (Some exception.ProgramError)) next front rest s =
    unled (ap (is_keyword keyword.ProgramError) (own_keyword keyword.ProgramError front rest line place _ keyword.Others s.spelled s.whole)) refl
others_item line place end placed h (catches own (Some exception.ConstraintError)) next front rest s =
    unled (ap (is_keyword keyword.ConstraintError) (own_keyword keyword.ConstraintError front rest line place _ keyword.Others s.spelled s.whole)) refl
others_item line place end placed h (catches own (Some exception.CapacityError)) next front rest s =
    unled (ap (is_keyword keyword.CapacityError) (own_keyword keyword.CapacityError front rest line place _ keyword.Others s.spelled s.whole)) refl

pub behind_others : (line place end : ℕ) (placed : List Placed) → Stuck in_others placed
    → Stuck before_handlers (when_at line ∷ on_line place (token.Keyword keyword.Others) ∷ on_line end (token.Mark Arrow) ∷ placed)
behind_others line place end placed h =
    step before_handlers (when_at line) (on_line place (token.Keyword keyword.Others) ∷ on_line end (token.Mark Arrow) ∷ placed) (others_item line place end placed h)

-- no other comes behind it
when_item : (line : ℕ) (placed : List Placed) (item : Item) (next : Context) (front rest : List Placed) → IsStep in_others (when_at line) placed item next front rest → Stuck next rest
when_item line placed (declares d) next front rest s = absurd (none-some next s.may)
when_item line placed (commands c) next front rest s = unled s.led refl
when_item line placed (opens head) next front rest s = unled s.led refl
when_item line placed begins next front rest s = absurd (none-some next s.may)
when_item line placed (closes EndLoop) next front rest s = unled s.led refl
when_item line placed (closes End) next front rest s = unled s.led refl
when_item line placed (closes EndTasks) next front rest s = unled s.led refl
when_item line placed (closes EndTask) next front rest s = unled s.led refl
when_item line placed (closes EndTried) next front rest s = unled s.led refl
when_item line placed (closes EndHandlers) next front rest s = unled s.led refl
when_item line placed (closes EndOthers) next front rest s = unled s.led refl
when_item line placed (propagates own) next front rest s = absurd (none-some next s.may)
when_item line placed (tries own) next front rest s = unled s.led refl
when_item line placed (catches own caught) next front rest s = absurd (none-some next s.may)

pub no_when : (line : ℕ) (placed : List Placed) → Stuck in_others (when_at line ∷ placed)
no_when line placed = step in_others (when_at line) placed (when_item line placed)
