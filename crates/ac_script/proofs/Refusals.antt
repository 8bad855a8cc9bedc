-- Where and why a text is refused, told by how far its tokens were read.
use Rattle.std.proofs.Common.{◌≡◌, ◌+◌, ◌<◌, ℕ, suc, add-one, List, [], ◌∷◌, ◌++◌, take, drop, length, get_or, refl, sym, ap, subst, ◌∙◌, append_assoc, inl, inr, Option, Some, None, Result, Ok, Err, IfOk}
use Rattle.std.proofs.Math.Seq.{take-suc, drop-cons}
use Rattle.std.proofs.lemmas.List.{append-nil, map-append, take-append-drop}
use Rattle.std.specs.Prelude.{◌⊎◌, unwrap_or}
use Rattle.ac_syntax.specs.Code.{stop}
use Rattle.ac_syntax.specs.declared.token.Placed.{Placed}
use Rattle.ac_syntax.specs.declared.script.Script.{Script}
use Rattle.ac_syntax.specs.declared.refusal.RefusalKind.{RefusalKind}
use Rattle.ac_syntax.specs.declared.refusal.RefusalKind.TheVariants.{Syntax, Limit}
use Rattle.ac_syntax.specs.Items.{Item, script_items}
use Rattle.ac_syntax.specs.Tokens.{tokens}
use Rattle.ac_syntax.specs.Keywords.{script_cut}
use Rattle.ac_syntax.specs.Grammar.{Derives, BeginsScript}
use Rattle.ac_syntax.specs.Limits.{AreWithinLimits}
use Rattle.ac_syntax.specs.Refusals.{Spells, begins_none, past_limit, HasNoBadToken, bad_token, malformed_piece, IsFirstRefusal, first_bad, ends_early}
use Rattle.ac_syntax.proofs.Withins.{begun_none_bad}
use Rattle.ac_syntax.proofs.Orders.{script_ordered, script_found}
use Rattle.ac_syntax.proofs.OneRefusal.{one_refusal, spelled_or_refused}
use Rattle.ac_syntax.specs.declared.fault.ScriptFault.{ScriptFault}
use Rattle.ac_syntax.specs.declared.fault.ScriptFault.TheVariants.{Refused, NoMemory}
use Rattle.ac_script.specs.Behind.{StandWithin}
use Rattle.ac_script.specs.Readings.{AreWhole, EndEarly, HasBad}
use Rattle.ac_script.specs.Answers.{IsAnswer, IsCut, EndPast}
use Rattle.ac_script.proofs.Readings.{derives_items, front_begins, derived_once}
use Rattle.ac_script.proofs.Within.{cut_at}

-- ---- tokens without a bad one

no_bad : (placed : List Placed) → BeginsScript placed → AreWithinLimits (tokens placed) → HasNoBadToken placed
no_bad placed (more, script, derived) within = begun_none_bad placed more script derived within

front_within : (before after : List Placed) → AreWithinLimits (tokens (before ++ after)) → AreWithinLimits (tokens before)
front_within before after within front rest token e =
    within front (rest ++ tokens after) token
    (map-append (λ (p : Placed). p.token) before after ∙ ap (λ list. list ++ tokens after) e ∙ append_assoc front (token ∷ rest) (tokens after))

derived_begins : (placed : List Placed) (script : Script) → Derives placed script → BeginsScript placed
derived_begins placed script derived = ([], script, subst (λ all. Derives all script) (sym (append-nil placed)) derived)

pub whole_begins : (items : List Item) (placed : List Placed) → AreWhole items placed → BeginsScript placed
whole_begins items placed whole =
    let script = script_found items whole.ordered in
    derived_begins placed script.0 (derives_items items placed script.0 script.1 whole.are whole.ordered)

-- ---- the first bad token

first_syntax : (text : List ℕ) (front after : List Placed) (line : ℕ) → (script_cut text).placed ≡ front ++ after → (bad : HasBad front line) → AreWithinLimits (tokens bad.before)
    → IsFirstRefusal text line Syntax
first_syntax text front after line cut bad within =
    let split : (script_cut text).placed ≡ bad.before ++ bad.bad ∷ (bad.after ++ after) = cut ∙ ap (λ list. list ++ after) bad.whole ∙ append_assoc bad.before (bad.bad ∷ bad.after) after in
    subst (λ line. IsFirstRefusal text line Syntax) bad.on
    (first_bad bad.bad.line Syntax (bad_token bad.before (bad.after ++ after) bad.bad Syntax split (no_bad bad.before bad.begins within) (begins_none bad.none)))

-- what stands before a token of these is within the limits where only the last token isn't
before_past : (done before after : List Placed) (past bad : Placed) → done ++ past ∷ [] ≡ before ++ bad ∷ after → AreWithinLimits (tokens done) → AreWithinLimits (tokens before)
before_past done before after past bad e within = elim (cut_at done before after past bad e) [
  | inl h ↦ subst (λ list. AreWithinLimits (tokens list)) h.0 within
  | inr h ↦ front_within before (bad ∷ h.0) (subst (λ list. AreWithinLimits (tokens list)) h.1 within)
]

pub bad_before_past : (text : List ℕ) (front : List Placed) (line earlier : ℕ) → EndPast text front line → HasBad front earlier → IsFirstRefusal text earlier Syntax
bad_before_past text front line earlier past bad =
    let cut : (script_cut text).placed ≡ front ++ past.after
    = past.cut ∙ sym (append_assoc past.before (past.past ∷ []) past.after) ∙ ap (λ list. list ++ past.after) (sym past.front_is) in
    first_syntax text front past.after earlier cut bad (before_past past.before bad.before bad.after past.past bad.bad (sym past.front_is ∙ bad.whole) past.within)

pub past_first : (text : List ℕ) (front : List Placed) (line : ℕ) → EndPast text front line → BeginsScript front → IsFirstRefusal text line Limit
past_first text front line past begins =
    let here = subst BeginsScript past.front_is begins in
    subst (λ line. IsFirstRefusal text line Limit) past.on
    (first_bad past.past.line Limit (bad_token past.before past.after past.past Limit past.cut
    (no_bad past.before (front_begins past.before (past.past ∷ []) here) past.within) (past_limit here past.is_past)))

pub ends_past : (text : List ℕ) (placed : List Placed) (n : ℕ) (past : Placed) → (script_cut text).placed ≡ placed → n < length placed → past ≡ get_or placed n past → StandWithin n placed
    → EndPast text (take (n + 1) placed) past.line
ends_past text placed n past cut inside is stand =
    let behind : drop n placed ≡ past ∷ drop (suc n) placed = drop-cons placed n past inside ∙ ap (λ p. p ∷ drop (suc n) placed) (sym is) in
    record {
      before = take n placed;
      past = past;
      after = drop (suc n) placed;
      cut = cut ∙ sym (take-append-drop n placed) ∙ ap (λ list. take n placed ++ list) behind;
      front_is = ap (λ m. take m placed) (add-one n) ∙ take-suc placed n past inside ∙ ap (λ p. take n placed ++ p ∷ []) (sym is);
      on = refl;
      within = stand.within;
      is_past = stand.past past (drop (suc n) placed) behind;
    }

-- ---- tokens within the limits

pub bad_within : (text : List ℕ) (placed : List Placed) (malformed : Option ℕ) (line : ℕ) → IsCut text placed malformed → AreWithinLimits (tokens placed) → HasBad placed line
    → IsFirstRefusal text line Syntax
bad_within text placed malformed line cut within bad =
    first_syntax text placed [] line (cut.placed_is ∙ sym (append-nil placed)) bad
    (front_within bad.before (bad.bad ∷ bad.after) (subst (λ list. AreWithinLimits (tokens list)) bad.whole within))

pub malformed_first : (text : List ℕ) (placed : List Placed) (line : ℕ) → IsCut text placed (Some line) → AreWithinLimits (tokens placed) → BeginsScript placed
    → IsFirstRefusal text line Syntax
malformed_first text placed line cut within begins =
    first_bad line Syntax (malformed_piece line (subst HasNoBadToken (sym cut.placed_is) (no_bad placed begins within)) cut.malformed_is)

-- the last of some tokens
pub record Last (placed : List Placed) : Type 0 where
  pub before : List Placed
  pub last : Placed
  pub whole : placed ≡ before ++ last ∷ []

last_of : (p : Placed) (placed : List Placed) → Last (p ∷ placed)
last_of p [] = record { before = []; last = p; whole = refl }
last_of p (q ∷ placed) =
    let found = last_of q placed in
    record { before = p ∷ found.before; last = found.last; whole = ap (λ list. p ∷ list) found.whole }

-- a script without items
abbrev nothing : Script
nothing = record { pragma = None; decls = []; stmts = stop }

some_last : (placed : List Placed) → EndEarly placed → Last placed
some_last [] early = absurd (early.none nothing (record { are = refl; ordered = script_ordered nothing tt }))
some_last (p ∷ placed) early = last_of p placed

pub ended : (text : List ℕ) (placed : List Placed) → IsCut text placed None → AreWithinLimits (tokens placed) → EndEarly placed → (last : Last placed)
    → IsFirstRefusal text last.last.line Syntax
ended text placed cut within early last =
    ends_early last.before last.last (cut.placed_is ∙ last.whole) cut.malformed_is
    (subst HasNoBadToken (sym cut.placed_is) (no_bad placed early.begins within))
    (λ script derived. early.none script (subst (λ all. Derives all script) cut.placed_is derived))

pub early_somewhere : (text : List ℕ) (placed : List Placed) → IsCut text placed None → AreWithinLimits (tokens placed) → EndEarly placed → (line : ℕ) × IsFirstRefusal text line Syntax
early_somewhere text placed cut within early =
    let last = some_last placed early in
    (last.last.line, ended text placed cut within early last)

pub early_first : (text : List ℕ) (placed : List Placed) (malformed : Option ℕ) (line : ℕ) → IsCut text placed malformed → AreWithinLimits (tokens placed) → EndEarly placed
    → ((before : List Placed) (last : Placed) → placed ≡ before ++ last ∷ [] → line ≡ last.line) → IsFirstRefusal text (unwrap_or malformed line) Syntax
early_first text placed (Some there) line cut within early on = malformed_first text placed there cut within early.begins
early_first text placed None line cut within early on =
    let last = some_last placed early in
    subst (λ line. IsFirstRefusal text line Syntax) (sym (on last.before last.last last.whole)) (ended text placed cut within early last)

pub is_spelled : (text : List ℕ) (placed : List Placed) (items : List Item) (script : Script) → IsCut text placed None → AreWithinLimits (tokens placed) → AreWhole items placed
    → script_items script ≡ items → Spells script text
is_spelled text placed items script cut within whole same = record {
  whole = cut.malformed_is;
  derives = subst (λ all. Derives all script) (sym cut.placed_is) (derives_items items placed script same whole.are whole.ordered);
  within = subst (λ list. AreWithinLimits (tokens list)) (sym cut.placed_is) within;
}

-- ---- what an answer says

pub spelled_once : (text : List ℕ) (script other : Script) → Spells script text → Spells other text → other ≡ script
spelled_once text script other spells spells_2 = derived_once (script_cut text).placed other script spells_2.derives spells.derives

pub answers_found : (result : Result Script ScriptFault) (text : List ℕ) → IsAnswer text result → IfOk result (λ script. Spells script text)
answers_found (Ok script) text is = is
answers_found (Err fault) text is = tt

pub answers_only : (result : Result Script ScriptFault) (text : List ℕ) → IsAnswer text result → IfOk result (λ script. (other : Script) → Spells other text → other ≡ script)
answers_only (Ok script) text is = λ other spells. spelled_once text script other is spells
answers_only (Err fault) text is = tt

pub answers_refused : (result : Result Script ScriptFault) (text : List ℕ) → IsAnswer text result
    → (line : ℕ) (kind : RefusalKind) → result ≡ Err (Refused line kind) → IsFirstRefusal text line kind
answers_refused result text is line kind e = subst (IsAnswer text) e is

pub answers_spelled : (result : Result Script ScriptFault) (text : List ℕ) → IsAnswer text result
    → (script : Script) → Spells script text → (result ≡ Ok script) ⊎ (result ≡ Err NoMemory)
answers_spelled (Ok found) text is script spells = inl (ap Ok (spelled_once text script found spells is))
answers_spelled (Err (Refused line kind)) text is script spells = absurd (spelled_or_refused script text line kind spells is)
answers_spelled (Err NoMemory) text is script spells = inr refl

pub answers_faulty : (result : Result Script ScriptFault) (text : List ℕ) → IsAnswer text result
    → (line : ℕ) (kind : RefusalKind) → IsFirstRefusal text line kind → (result ≡ Err (Refused line kind)) ⊎ (result ≡ Err NoMemory)
answers_faulty (Ok found) text is line kind refusal = absurd (spelled_or_refused found text line kind is refusal)
answers_faulty (Err (Refused place other)) text is line kind refusal =
    let same = one_refusal text place line other kind is refusal in
    inl (λ i. Err (Refused (same.0 i) (same.1 i)))
answers_faulty (Err NoMemory) text is line kind refusal = inr refl
