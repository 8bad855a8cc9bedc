-- Each text spells a script, or has a first refusal: what reading comes to, where memory is no matter.
use Rattle.std.proofs.Common.{◌≡◌, ◌≤◌, ℕ, zero, suc, Bool, true, false, List, [], ◌∷◌, ◌++◌, length, refl, sym, subst, ◌∙◌, append_assoc, inl, inr, Option, Some, None, arith, true≢false}
use Rattle.std.specs.Prelude.{◌⊎◌}
use Rattle.std.proofs.lemmas.List.{append-nil, map-append}
use Rattle.ac_syntax.specs.declared.closing.Closing.{Closing}
use Rattle.ac_syntax.specs.declared.token.Placed.{Placed}
use Rattle.ac_syntax.specs.declared.script.Script.{Script}
use Rattle.ac_syntax.specs.declared.refusal.RefusalKind.{RefusalKind}
use Rattle.ac_syntax.specs.declared.refusal.RefusalKind.TheVariants.{Syntax, Limit}
use Rattle.ac_syntax.specs.Items.{Item}
use Rattle.ac_syntax.specs.Tokens.{tokens}
use Rattle.ac_syntax.specs.Keywords.{script_cut}
use Rattle.ac_syntax.specs.Limits.{seen_of, is_past_limit, AreWithinLimits}
use Rattle.ac_syntax.specs.Order.{Context, at_front, is_heading}
use Rattle.ac_syntax.specs.Refusals.{Spells, IsFirstRefusal}
use Rattle.ac_syntax.proofs.Orders.{script_found}
use Rattle.ac_script.specs.Outcomes.{Outcome, got, stopped}
use Rattle.ac_script.specs.ItemReader.{item, innermost_of}
use Rattle.ac_script.specs.Readings.{AreWhole, EndEarly, HasBad, AreRead}
use Rattle.ac_script.specs.Answers.{IsCut, EndPast}
use Rattle.ac_script.proofs.ReadsItems.{items_read, item_leaves}
use Rattle.ac_script.proofs.Readings.{read_catch, none_read, item_read, has_bad, ends_inside, ends_open, is_whole}
use Rattle.ac_script.proofs.Within.{none_within, one_more}
use Rattle.ac_script.proofs.Refusals.{whole_begins, bad_before_past, past_first, bad_within, malformed_first, early_somewhere, is_spelled}

-- ---- tokens are read to their end, or up to the first bad one

abbrev Read : List Placed → Type 0
Read placed = ((items : List Item) × AreWhole items placed) ⊎ (EndEarly placed ⊎ ((line : ℕ) × HasBad placed line))

at_end : (items : List Item) (context : Context) (placed : List Placed) → AreRead items context placed []
    → (blocks : List Closing) (heads : Bool) → context.blocks ≡ blocks → is_heading context.stage ≡ heads → Read placed
at_end items context placed read [] false closed at = inl (items, is_whole items context placed read (record { closed = closed; begun = at }))
at_end items context placed read [] true closed at = inr (inl (ends_open items context placed read (λ end. absurd (true≢false (sym at ∙ end.begun)))))
at_end items context placed read (b ∷ blocks) heads is at =
    inr (inl (ends_open items context placed read (λ end. let none : [] ≡ b ∷ blocks = sym end.closed ∙ is in absurd (cc none))))

on_item : (items : List Item) (context : Context) (placed : List Placed) (p : Placed) (others : List Placed)
    → ((more : List Item) (next : Context) (left : List Placed) → length left ≤ length others → AreRead more next placed left → Read placed)
    → AreRead items context placed (p ∷ others) → (o : Outcome Item) → item context.propagating context.stage (innermost_of context.blocks) (p ∷ others) ≡ o → Read placed
on_item items context placed p others further read (got it left) e =
    let front = (items_read context.propagating context.blocks context.stage (read_catch items context placed (p ∷ others) read)).found (p ∷ others) it left e in
    let shorter = item_leaves context.propagating context.blocks context.stage (read_catch items context placed (p ∷ others) read) (p ∷ others) it left e in
    further (items ++ it ∷ []) front.may.next left (omega (arith, shorter)) (item_read items context front.may.next placed (p ∷ others) left it read e front.may.leads)
on_item items context placed p others further read (stopped []) e = inr (inl (ends_inside items context placed (p ∷ others) read (omega arith) e))
on_item items context placed p others further read (stopped (b ∷ after)) e = inr (inr (b.line, has_bad items context placed (p ∷ others) b after read e))

read_on : (fuel : ℕ) (items : List Item) (context : Context) (placed rest : List Placed) → length rest ≤ fuel → AreRead items context placed rest → Read placed
read_on fuel items context placed [] enough read = at_end items context placed read context.blocks (is_heading context.stage) refl refl
read_on zero items context placed (p ∷ others) enough read = absurd (omega (arith, enough))
read_on (suc fuel) items context placed (p ∷ others) enough read =
    on_item items context placed p others (λ more next left shorter. read_on fuel more next placed left (omega (arith, enough, shorter)))
    read (item context.propagating context.stage (innermost_of context.blocks) (p ∷ others)) refl

read : (placed : List Placed) → Read placed
read placed = read_on (length placed) [] at_front placed placed (omega arith) (none_read placed)

-- ---- they are within the limits, or one is the first past a limit

record Past (placed : List Placed) : Type 0 where
  before : List Placed
  past : Placed
  after : List Placed
  whole : placed ≡ before ++ past ∷ after
  within : AreWithinLimits (tokens before)
  is_past : is_past_limit (seen_of (tokens before)) past.token ≡ true

abbrev Limited : List Placed → Type 0
Limited placed = AreWithinLimits (tokens placed) ⊎ Past placed

on_token : (before : List Placed) (p : Placed) (rest : List Placed) → AreWithinLimits (tokens before)
    → (AreWithinLimits (tokens (before ++ p ∷ [])) → Limited ((before ++ p ∷ []) ++ rest))
    → (b : Bool) → is_past_limit (seen_of (tokens before)) p.token ≡ b → Limited (before ++ p ∷ rest)
on_token before p rest within further true e = inr (record { before = before; past = p; after = rest; whole = refl; within = within; is_past = e })
on_token before p rest within further false e =
    subst Limited (append_assoc before (p ∷ []) rest)
    (further (subst AreWithinLimits (sym (map-append (λ (q : Placed). q.token) before (p ∷ []))) (one_more (tokens before) p.token within e)))

limited : (before rest : List Placed) → AreWithinLimits (tokens before) → Limited (before ++ rest)
limited before [] within = inl (subst (λ list. AreWithinLimits (tokens list)) (sym (append-nil before)) within)
limited before (p ∷ rest) within = on_token before p rest within (limited (before ++ p ∷ []) rest) (is_past_limit (seen_of (tokens before)) p.token) refl

-- ---- a text with these tokens

abbrev IsRefused : List ℕ → Type 0
IsRefused text = (line : ℕ) × (kind : RefusalKind) × IsFirstRefusal text line kind

abbrev IsSpelled : List ℕ → Type 0
IsSpelled text = (script : Script) × Spells script text

past_refused : (text : List ℕ) (front : List Placed) (line : ℕ) → EndPast text front line → Read front → IsRefused text
past_refused text front line past (inl whole) = (line, Limit, past_first text front line past (whole_begins whole.0 front whole.1))
past_refused text front line past (inr (inl early)) = (line, Limit, past_first text front line past early.begins)
past_refused text front line past (inr (inr bad)) = (bad.0, Syntax, bad_before_past text front line bad.0 past bad.1)

within_answered : (text : List ℕ) (placed : List Placed) (malformed : Option ℕ) → IsCut text placed malformed → AreWithinLimits (tokens placed) → Read placed
    → IsSpelled text ⊎ IsRefused text
within_answered text placed None cut within (inl (items, whole)) =
    let script = script_found items whole.ordered in
    inl (script.0, is_spelled text placed items script.0 cut within whole script.1)
within_answered text placed (Some line) cut within (inl (items, whole)) = inr (line, Syntax, malformed_first text placed line cut within (whole_begins items placed whole))
within_answered text placed None cut within (inr (inl early)) =
    let at = early_somewhere text placed cut within early in
    inr (at.0, Syntax, at.1)
within_answered text placed (Some line) cut within (inr (inl early)) = inr (line, Syntax, malformed_first text placed line cut within early.begins)
within_answered text placed malformed cut within (inr (inr bad)) = inr (bad.0, Syntax, bad_within text placed malformed bad.0 cut within bad.1)

answered : (text : List ℕ) → Limited (script_cut text).placed → IsSpelled text ⊎ IsRefused text
answered text (inl within) =
    within_answered text (script_cut text).placed (script_cut text).malformed (record { placed_is = refl; malformed_is = refl }) within (read (script_cut text).placed)
answered text (inr found) =
    let front = found.before ++ found.past ∷ [] in
    let past : EndPast text front found.past.line = record {
      before = found.before;
      past = found.past;
      after = found.after;
      cut = found.whole;
      front_is = refl;
      on = refl;
      within = found.within;
      is_past = found.is_past;
    } in
    inr (past_refused text front found.past.line past (read front))

pub each_text : (text : List ℕ) → IsSpelled text ⊎ IsRefused text
each_text text = answered text (limited [] (script_cut text).placed none_within)
