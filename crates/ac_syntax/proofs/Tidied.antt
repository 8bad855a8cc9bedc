-- Tokens without the minus before some zeros keep the limits that the tokens with it kept.
use Rattle.std.proofs.Common.{◌≡◌, ◌+◌, ◌-◌, ◌^◌, ◌&&◌, ℕ, zero, suc, pos, neg_ℤ, ℤ, Bool, true, false, not, cond, List, [], ◌∷◌, ◌++◌, map, flat_map, refl, sym, ap, subst, ◌∙◌, append_assoc, inl, inr, nat_lt}
use Rattle.std.specs.List.{fold}
use Rattle.std.proofs.lemmas.Bool.{and_parts, and_from}
use Rattle.std.proofs.lemmas.List.{map-append}
use Rattle.ac_base.specs.declared.value.Value.TheVariants as value
use Rattle.ac_syntax.specs.declared.token.Token.{Token}
use Rattle.ac_syntax.specs.declared.token.Token.TheVariants as token
use Rattle.ac_syntax.specs.declared.token.Mark.TheVariants.{Minus}
use Rattle.ac_syntax.specs.declared.token.Placed.{Placed}
use Rattle.ac_syntax.specs.Items.{Item, item_line}
use Rattle.ac_syntax.specs.Parts.{Part, says, keywords, marks, names, counts, writes, lacks, item_parts}
use Rattle.ac_syntax.specs.Grammar.{IsPart, AreParts, AreItems}
use Rattle.ac_syntax.specs.Tokens.{tokens}
use Rattle.ac_syntax.specs.Limits.{Progress, no_task, task_opened, command_due, in_command, is_due, goes_on, Seen, none_seen, seen_after, is_past_limit, AreWithinLimits}
use Rattle.ac_syntax.specs.Canonical.{line_reached, part_tokens, on_line, items_placed}
use Rattle.ac_syntax.proofs.Derivations.{tokens-on_line}
use Rattle.ac_syntax.proofs.Withins.{within_from, within}

-- the second tokens are the first without the minus before some zeros
data Tidied : List Token → List Token → Type 0 where
  done : Tidied [] []
  kept : (t : Token) (xs ys : List Token) → Tidied xs ys → Tidied (t ∷ xs) (t ∷ ys)
  dropped : (xs ys : List Token) → Tidied xs ys → Tidied (token.Mark Minus ∷ token.Number 0 ∷ xs) (token.Number 0 ∷ ys)

zero_within_by : (minus : Bool) → not (nat_lt (cond minus (2 ^ 63) (2 ^ 63 - 1)) 0) ≡ true
zero_within_by true = refl
zero_within_by false = refl

-- behind the zero, what was seen is the same

zero_progress : (p : Progress) → goes_on (goes_on p (token.Mark Minus)) (token.Number 0) ≡ goes_on p (token.Number 0)
zero_progress no_task = refl
zero_progress task_opened = refl
zero_progress command_due = refl
zero_progress in_command = refl

abbrev counted : Progress → ℕ → ℕ
counted p n = cond (is_due p && true) (n + 1) n

zero_counted : (p : Progress) (n : ℕ) → counted (goes_on p (token.Mark Minus)) (counted p n) ≡ counted p n
zero_counted no_task n = refl
zero_counted task_opened n = refl
zero_counted command_due n = refl
zero_counted in_command n = refl

zero_awaited : (a : Bool) → ((a && true) && true) ≡ (a && true)
zero_awaited true = refl
zero_awaited false = refl

signed_zero : (seen : Seen) → seen_after (seen_after seen (token.Mark Minus)) (token.Number 0) ≡ seen_after seen (token.Number 0)
signed_zero seen = λ j. record {
  depth = seen.depth;
  opened = false;
  minus = false;
  ended = false;
  awaited = zero_awaited seen.awaited j;
  tasks = seen.tasks;
  progress = zero_progress seen.progress j;
  commands = zero_counted seen.progress seen.commands j;
}

tidied_from : (seen : Seen) (xs ys : List Token) → Tidied xs ys → within_from seen xs ≡ true → within_from seen ys ≡ true
tidied_from seen xs ys done w = refl
tidied_from seen xs ys (kept t more others d) w =
    let parts : (not (is_past_limit seen t) ≡ true) × (within_from (seen_after seen t) more ≡ true) = and_parts _ _ w in
    and_from _ _ parts.0 (tidied_from (seen_after seen t) more others d parts.1)
tidied_from seen xs ys (dropped more others d) w =
    let signed = seen_after seen (token.Mark Minus) in
    let parts : (not (is_past_limit signed (token.Number 0)) ≡ true) × (within_from (seen_after signed (token.Number 0)) more ≡ true) =
    and_parts _ _ (and_parts (not (is_past_limit seen (token.Mark Minus))) _ w).1 in
    let same : within_from (seen_after seen (token.Number 0)) others ≡ true = subst (λ s. within_from s others ≡ true) (signed_zero seen) (tidied_from (seen_after signed (token.Number 0)) more others d parts.1) in
    and_from _ _ (zero_within_by seen.minus) same

-- the test that these tokens keep the limits succeeds where they do
within_of : (seen : Seen) (all : List Token) → ((before after : List Token) (t : Token) → all ≡ before ++ t ∷ after → is_past_limit (fold seen_after seen before) t ≡ false) → within_from seen all ≡ true
within_of seen [] h = refl
within_of seen (t ∷ all) h =
    and_from _ _ (ap not (h [] all t refl)) (within_of (seen_after seen t) all (λ before after u e. h (t ∷ before) after u (ap (λ ts. t ∷ ts) e)))

tidied_within : (xs ys : List Token) → Tidied xs ys → AreWithinLimits xs → AreWithinLimits ys
tidied_within xs ys d h = within ys (tidied_from none_seen xs ys d (within_of none_seen xs h))

-- the tokens of a script that others derive are these without the minus before some zeros

integer_tidied : (z : ℤ) (n : ℕ) (xs ys : List Token) → z ≡ neg_ℤ (pos n) → Tidied xs ys → Tidied (token.Mark Minus ∷ token.Number n ∷ xs) (part_tokens (writes (value.Int z)) ++ ys)
integer_tidied z zero xs ys e d = subst (λ y. Tidied (token.Mark Minus ∷ token.Number 0 ∷ xs) (part_tokens (writes (value.Int y)) ++ ys)) (sym e) (dropped xs ys d)
integer_tidied z (suc n) xs ys e d =
    subst (λ y. Tidied (token.Mark Minus ∷ token.Number (suc n) ∷ xs) (part_tokens (writes (value.Int y)) ++ ys)) (sym e) (kept _ _ _ (kept _ xs ys d))

one_tidied : (t : Token) (front xs ys : List Token) → front ≡ t ∷ [] → Tidied xs ys → Tidied (front ++ xs) (t ∷ ys)
one_tidied t front xs ys h d = subst (λ f. Tidied (f ++ xs) (t ∷ ys)) (sym h) (kept t xs ys d)

part_tidied : (part : Part) (front xs ys : List Token) → IsPart part front → Tidied xs ys → Tidied (front ++ xs) (part_tokens part ++ ys)
part_tidied (says word) front xs ys h d = one_tidied (token.Word word) front xs ys h d
part_tidied (keywords own) front xs ys h d = one_tidied (token.Keyword own) front xs ys h d
part_tidied (marks mark) front xs ys h d = one_tidied (token.Mark mark) front xs ys h d
part_tidied (names word) front xs ys h d = one_tidied (token.Word word) front xs ys h.1 d
part_tidied (counts n) front xs ys h d = one_tidied (token.Number n) front xs ys h d
part_tidied (writes (value.Int z)) front xs ys (inl h) d =
    subst (λ y. Tidied (front ++ xs) (part_tokens (writes (value.Int y)) ++ ys)) (sym h.1) (one_tidied (token.Number h.0) front xs ys h.2 d)
part_tidied (writes (value.Int z)) front xs ys (inr h) d =
    subst (λ f. Tidied (f ++ xs) (part_tokens (writes (value.Int z)) ++ ys)) (sym h.2) (integer_tidied z h.0 xs ys h.1 d)
part_tidied (writes (value.Text bytes)) front xs ys h d = one_tidied (token.Text bytes) front xs ys h d
part_tidied lacks front xs ys h d = absurd h

parts_tidied : (parts : List Part) (spelled xs ys : List Token) → AreParts parts spelled → Tidied xs ys → Tidied (spelled ++ xs) (flat_map part_tokens parts ++ ys)
parts_tidied [] spelled xs ys h d = subst (λ ts. Tidied (ts ++ xs) ys) (sym h) d
parts_tidied (part ∷ parts) spelled xs ys h d =
    let more = flat_map part_tokens parts ++ ys in
    let all : Tidied (h.0 ++ (h.1 ++ xs)) (part_tokens part ++ more) = part_tidied part h.0 (h.1 ++ xs) more h.3 (parts_tidied parts h.1 xs ys h.4 d) in
    subst (λ ts. Tidied ts ((part_tokens part ++ flat_map part_tokens parts) ++ ys)) (sym (ap (λ ts. ts ++ xs) h.2 ∙ append_assoc h.0 h.1 xs))
    (subst (Tidied (h.0 ++ (h.1 ++ xs))) (sym (append_assoc (part_tokens part) (flat_map part_tokens parts) ys)) all)

items_tidied : (line : ℕ) (items : List Item) (placed : List Placed) → AreItems items placed → Tidied (tokens placed) (tokens (items_placed line items))
items_tidied line [] placed h = subst (λ (p : List Placed). Tidied (tokens p) []) (sym h) done
items_tidied line (item ∷ items) placed h =
    let reached = line_reached line (item_line item) in
    let spelled = flat_map part_tokens (item_parts item) in
    let others = items_placed reached items in
    let all : Tidied (tokens h.0 ++ tokens h.1) (spelled ++ tokens others) = parts_tidied (item_parts item) (tokens h.0) (tokens h.1) (tokens others) h.3.spelled (items_tidied reached items h.1 h.4) in
    subst (λ ts. Tidied ts (tokens (map (on_line reached) spelled ++ others))) (sym (ap tokens h.2 ∙ map-append (λ (p : Placed). p.token) h.0 h.1))
    (subst (Tidied (tokens h.0 ++ tokens h.1)) (sym (map-append (λ (p : Placed). p.token) (map (on_line reached) spelled) others ∙ ap (λ ts. ts ++ tokens others) (tokens-on_line reached spelled))) all)

pub items_within : (line : ℕ) (items : List Item) (placed : List Placed) → AreItems items placed → AreWithinLimits (tokens placed) → AreWithinLimits (tokens (items_placed line items))
items_within line items placed h w = tidied_within (tokens placed) (tokens (items_placed line items)) (items_tidied line items placed h) w
