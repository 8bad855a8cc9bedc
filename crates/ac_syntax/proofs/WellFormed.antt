-- A script that some text spells is well formed.
use Rattle.std.proofs.Common.{◌≡◌, ◌≤◌, ℕ, ℤ, zero, suc, max, pos, negsuc, neg_ℤ, Bool, true, not, List, [], ◌∷◌, ◌++◌, map, flat_map, filter_map, length, refl, sym, ap, subst, ◌∙◌, Option, Some, None, inl, inr, arith, eq-eqb}
use Rattle.std.proofs.lemmas.Bool.{and_parts, and_from}
use Rattle.std.proofs.lemmas.List.{map-append}
use Rattle.std.proofs.lemmas.List.Folds.{list_all-append}
use Rattle.std.specs.List.{list_all, cons_option}
use Rattle.ac_base.specs.declared.value.Value.TheVariants as value
use Rattle.ac_syntax.specs.declared.token.Token.{Token}
use Rattle.ac_syntax.specs.declared.token.Token.TheVariants as token
use Rattle.ac_syntax.specs.declared.token.Mark.TheVariants.{Minus}
use Rattle.ac_syntax.specs.declared.token.Placed.{Placed}
use Rattle.ac_syntax.specs.declared.script.Script.{Script}
use Rattle.ac_syntax.specs.Items.{Item, item_line, script_items}
use Rattle.ac_syntax.specs.Parts.{Part, says, keywords, marks, names, counts, writes, lacks, item_parts}
use Rattle.ac_syntax.specs.Grammar.{IsPart, AreParts, BeginsOn, AreItems}
use Rattle.ac_syntax.specs.Tokens.{tokens, cut_of}
use Rattle.ac_syntax.specs.Canonical.{line_reached, part_tokens, on_line, items_placed, canonical_placed, is_written, RisesFrom, IsWellFormed}
use Rattle.ac_syntax.specs.Refusals.{Spells}
use Rattle.ac_syntax.specs.Keywords.{begins_propagating, script_cut}
use Rattle.ac_syntax.proofs.CutTokens.{script_tidy}
use Rattle.ac_syntax.proofs.Modes.{same_mode}
use Rattle.ac_syntax.proofs.Rising.{lines_of, rises_behind}
use Rattle.ac_syntax.proofs.Tidied.{items_within}
use Rattle.ac_syntax.proofs.Derivations.{is_sayable, begins_on, are_sayable, derives_so, tokens-on_line}

-- parts

part_sayable : (part : Part) (front : List Token) → IsPart part front → is_sayable part ≡ true
part_sayable (says _) front h = refl
part_sayable (keywords _) front h = refl
part_sayable (marks _) front h = refl
part_sayable (names word) front h = ap not h.0
part_sayable (counts _) front h = refl
part_sayable (writes _) front h = refl
part_sayable lacks front h = absurd h

parts_sayable : (parts : List Part) (spelled : List Token) → AreParts parts spelled → list_all is_sayable parts ≡ true
parts_sayable [] spelled h = refl
parts_sayable (part ∷ parts) spelled h = and_from _ _ (part_sayable part h.0 h.3) (parts_sayable parts h.1 h.4)

-- a part has a token
part_spells : (part : Part) (front : List Token) → IsPart part front → (t : Token) × (more : List Token) × (part_tokens part ≡ t ∷ more)
part_spells (says word) front h = (token.Word word, [], refl)
part_spells (keywords own) front h = (token.Keyword own, [], refl)
part_spells (marks mark) front h = (token.Mark mark, [], refl)
part_spells (names word) front h = (token.Word word, [], refl)
part_spells (counts n) front h = (token.Number n, [], refl)
part_spells (writes (value.Int (pos n))) front h = (token.Number n, [], refl)
part_spells (writes (value.Int (negsuc n))) front h = (token.Mark Minus, token.Number (suc n) ∷ [], refl)
part_spells (writes (value.Text bytes)) front h = (token.Text bytes, [], refl)
part_spells lacks front h = absurd h

parts_spell : (parts : List Part) (t : Token) (more : List Token) → AreParts parts (t ∷ more) → (u : Token) × (us : List Token) × (flat_map part_tokens parts ≡ u ∷ us)
parts_spell [] t more h = absurd (omega (arith, ap length h))
parts_spell (part ∷ parts) t more h =
    let first = part_spells part h.0 h.3 in
    (first.0, first.1 ++ flat_map part_tokens parts, ap (λ ts. ts ++ flat_map part_tokens parts) first.2)

module _ (mode : Bool) where
  integer_written : (z : ℤ) (n : ℕ) → z ≡ neg_ℤ (pos n) → list_all (is_written mode) (token.Number n ∷ []) ≡ true → list_all (is_written mode) (part_tokens (writes (value.Int z))) ≡ true
  integer_written z zero e h = subst (λ y. list_all (is_written mode) (part_tokens (writes (value.Int y))) ≡ true) (sym e) refl
  integer_written z (suc n) e h = subst (λ y. list_all (is_written mode) (part_tokens (writes (value.Int y))) ≡ true) (sym e) h

  part_written : (part : Part) (front : List Token) → IsPart part front → list_all (is_written mode) front ≡ true → list_all (is_written mode) (part_tokens part) ≡ true
  part_written (says word) front h w = subst (λ ts. list_all (is_written mode) ts ≡ true) h w
  part_written (keywords own) front h w = subst (λ ts. list_all (is_written mode) ts ≡ true) h w
  part_written (marks mark) front h w = refl
  part_written (names word) front h w = subst (λ ts. list_all (is_written mode) ts ≡ true) h.1 w
  part_written (counts n) front h w = subst (λ ts. list_all (is_written mode) ts ≡ true) h w
  part_written (writes (value.Int z)) front (inl h) w =
      subst (λ y. list_all (is_written mode) (part_tokens (writes (value.Int y))) ≡ true) (sym h.1) (subst (λ ts. list_all (is_written mode) ts ≡ true) h.2 w)
  part_written (writes (value.Int z)) front (inr h) w = integer_written z h.0 h.1 (subst (λ ts. list_all (is_written mode) ts ≡ true) h.2 w)
  part_written (writes (value.Text bytes)) front h w = subst (λ ts. list_all (is_written mode) ts ≡ true) h w
  part_written lacks front h w = refl

  -- both of two lists pass
  both_written : (xs ys : List Token) → list_all (is_written mode) (xs ++ ys) ≡ true → (list_all (is_written mode) xs ≡ true) × (list_all (is_written mode) ys ≡ true)
  both_written xs ys h = and_parts _ _ (sym (list_all-append (is_written mode) xs ys) ∙ h)

  parts_written : (parts : List Part) (spelled : List Token) → AreParts parts spelled → list_all (is_written mode) spelled ≡ true → list_all (is_written mode) (flat_map part_tokens parts) ≡ true
  parts_written [] spelled h w = refl
  parts_written (part ∷ parts) spelled h w =
      let both = both_written h.0 h.1 (subst (λ ts. list_all (is_written mode) ts ≡ true) h.2 w) in
      list_all-append (is_written mode) (part_tokens part) (flat_map part_tokens parts) ∙ and_from _ _ (part_written part h.0 h.3 both.0) (parts_written parts h.1 h.4 both.1)

  items_written : (line : ℕ) (items : List Item) (placed : List Placed) → AreItems items placed → list_all (is_written mode) (tokens placed) ≡ true → list_all (is_written mode) (tokens (items_placed line items)) ≡ true
  items_written line [] placed h w = refl
  items_written line (item ∷ items) placed h w =
      let reached = line_reached line (item_line item) in
      let spelled = flat_map part_tokens (item_parts item) in
      let both = both_written (tokens h.0) (tokens h.1) (sym (ap (list_all (is_written mode)) (ap tokens h.2 ∙ map-append (λ (p : Placed). p.token) h.0 h.1)) ∙ w) in
      ap (list_all (is_written mode)) (map-append (λ (p : Placed). p.token) (map (on_line reached) spelled) (items_placed reached items))
      ∙ list_all-append (is_written mode) (tokens (map (on_line reached) spelled)) (tokens (items_placed reached items))
      ∙ and_from _ _ (ap (list_all (is_written mode)) (tokens-on_line reached spelled) ∙ parts_written (item_parts item) (tokens h.0) h.3.spelled both.0) (items_written reached items h.1 h.4 both.1)

-- lines

-- an item that begins on its line, behind this one: so do its own tokens, and what follows goes on from there
record IsReached (line : ℕ) (own : Option ℕ) (spelled : List Token) (lines : List ℕ) : Type 0 where
  begun : begins_on own (map (on_line (line_reached line own)) spelled) ≡ true
  further : RisesFrom (line_reached line own) lines
  rising : (more : List ℕ) → RisesFrom (line_reached line own) more → RisesFrom line (cons_option own more)

reached : (line : ℕ) (own : Option ℕ) (parts : List Part) (front : List Placed) (lines : List ℕ) → AreParts parts (tokens front) → BeginsOn own front
    → RisesFrom line (lines_of front ++ lines) → IsReached line own (flat_map part_tokens parts) lines
reached line None parts front lines spelled begins h =
    let same : max line line ≡ line = grind arith in
    record {
      begun = refl;
      further = subst (λ l. RisesFrom l lines) (sym same) (rises_behind line (lines_of front) lines h);
      rising = λ more further. subst (λ l. RisesFrom l more) same further;
    }
reached line (Some own) parts [] lines spelled begins h = absurd begins
reached line (Some own) parts (first ∷ front) lines spelled begins h =
    let least : line ≤ own = omega (arith, h.0, begins) in
    let same : max line own ≡ own = grind arith in
    let own_tokens = parts_spell parts first.token (tokens front) spelled in
    record {
      begun = ap (λ ts. begins_on (Some own) (map (on_line (max line own)) ts)) own_tokens.2 ∙ eq-eqb (max line own) own same;
      further = subst (λ l. RisesFrom l lines) (begins ∙ sym same) (rises_behind first.line (lines_of front) lines h.1);
      rising = λ more further. (least, subst (λ l. RisesFrom l more) same further);
    }

-- items that tokens with rising lines derive
record AreTold (line : ℕ) (items : List Item) : Type 0 where
  sayable : are_sayable line items ≡ true
  rising : RisesFrom line (filter_map item_line items)

items_told : (line : ℕ) (items : List Item) (placed : List Placed) → AreItems items placed → RisesFrom line (lines_of placed) → AreTold line items
items_told line [] placed h rises = record { sayable = refl; rising = tt }
items_told line (item ∷ items) placed h rises =
    let own = item_line item in
    let all : RisesFrom line (lines_of h.0 ++ lines_of h.1) = subst (RisesFrom line) (ap lines_of h.2 ∙ map-append (λ (p : Placed). p.line) h.0 h.1) rises in
    let here = reached line own (item_parts item) h.0 (lines_of h.1) h.3.spelled h.3.begins all in
    let others = items_told (line_reached line own) items h.1 h.4 here.further in
    record {
      sayable = and_from _ _ (and_from _ _ (parts_sayable (item_parts item) (tokens h.0) h.3.spelled) here.begun) others.sayable;
      rising = here.rising (filter_map item_line items) others.rising;
    }

pub spelled_well : (script : Script) (text : List ℕ) → Spells script text → IsWellFormed script
unfolding canonical_placed
spelled_well script text h =
    let placed = (script_cut text).placed in
    let mode = begins_propagating (cut_of text).placed in
    let tidy = script_tidy text in
    let told = items_told 1 (script_items script) placed h.derives.are tidy.rising in
    record {
      derives = derives_so script told.sayable h.derives.ordered;
      within = items_within 1 (script_items script) placed h.derives.are h.within;
      written =
          subst (λ own. list_all (is_written own) (tokens (items_placed 1 (script_items script))) ≡ true) (same_mode script text h.derives)
          (items_written mode 1 (script_items script) placed h.derives.are tidy.written);
      lines = told.rising;
    }
