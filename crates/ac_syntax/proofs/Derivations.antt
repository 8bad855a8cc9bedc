-- The tokens of a canonical text derive its script, by a test that computes.
use Rattle.std.proofs.Common.{◌≡◌, ℕ, ◌&&◌, ◌==◌, pos, negsuc, suc, Bool, true, false, not, List, [], ◌∷◌, ◌++◌, map, refl, sym, ap, subst, inl, inr, arith}
use Rattle.std.proofs.lemmas.Bool.{and_parts}
use Rattle.std.proofs.Math.Bool.{true≢false}
use Rattle.std.specs.Prelude.{nat_le, Option, Some, None, flat_map}
use Rattle.std.specs.List.{list_all}
use Rattle.ac_base.specs.declared.value.Value.TheVariants as value
use Rattle.ac_syntax.specs.declared.token.Token.{Token}
use Rattle.ac_syntax.specs.declared.token.Placed.{Placed}
use Rattle.ac_syntax.specs.declared.script.Script.{Script}
use Rattle.ac_syntax.specs.Tokens.{tokens}
use Rattle.ac_syntax.specs.Items.{Item, item_line, script_items}
use Rattle.ac_syntax.specs.Parts.{Part, says, keywords, marks, names, counts, writes, lacks, item_parts}
use Rattle.ac_syntax.specs.Grammar.{is_reserved, IsPart, AreParts, BeginsOn, AreItems, Derives}
use Rattle.ac_syntax.specs.Order.{AreInOrder}
use Rattle.ac_syntax.proofs.Orders.{is_ordered, ordered}
use Rattle.ac_syntax.specs.Canonical.{part_tokens, on_line, line_reached, items_placed, canonical_placed, RisesFrom}

pub false-not : (a : Bool) → not a ≡ true → a ≡ false
false-not true p = sym p
false-not false p = refl

-- a test that some tokens spell the part
abbrev pub is_sayable : Part → Bool
is_sayable (says _) = true
is_sayable (keywords _) = true
is_sayable (marks _) = true
is_sayable (names word) = not (is_reserved word)
is_sayable (counts _) = true
is_sayable (writes _) = true
is_sayable lacks = false

pub part_spelled : (part : Part) → is_sayable part ≡ true → IsPart part (part_tokens part)
part_spelled (says _) p = refl
part_spelled (keywords _) p = refl
part_spelled (marks _) p = refl
part_spelled (names word) p = (false-not (is_reserved word) p, refl)
part_spelled (counts _) p = refl
part_spelled (writes (value.Int (pos n))) p = inl (n, refl, refl)
part_spelled (writes (value.Int (negsuc n))) p = inr (suc n, refl, refl)
part_spelled (writes (value.Text _)) p = refl
part_spelled lacks p = absurd (true≢false (sym p))

pub parts_spelled : (parts : List Part) → list_all is_sayable parts ≡ true → AreParts parts (flat_map part_tokens parts)
parts_spelled [] p = refl
parts_spelled (part ∷ parts) p =
    let h : (is_sayable part ≡ true) × (list_all is_sayable parts ≡ true) = and_parts (is_sayable part) (list_all is_sayable parts) p in
    (part_tokens part, flat_map part_tokens parts, refl, part_spelled part h.0, parts_spelled parts h.1)

-- a test that the first token stands on this line
abbrev pub begins_on : Option ℕ → List Placed → Bool
begins_on None placed = true
begins_on (Some line) [] = false
begins_on (Some line) (p ∷ _) = p.line == line

pub begins : (line : Option ℕ) (placed : List Placed) → begins_on line placed ≡ true → BeginsOn line placed
begins None placed p = tt
begins (Some line) [] p = absurd (true≢false (sym p))
begins (Some line) (first ∷ rest) p = grind (arith, p)

pub tokens-on_line : (line : ℕ) (spelled : List Token) → tokens (map (on_line line) spelled) ≡ spelled
tokens-on_line line [] = refl
tokens-on_line line (t ∷ spelled) = ap (λ ts. t ∷ ts) (tokens-on_line line spelled)

-- the item's tokens, where it begins behind this line
abbrev pub placed_of : ℕ → Item → List Placed
placed_of line item = map (on_line (line_reached line (item_line item))) (flat_map part_tokens (item_parts item))

-- a test that the items' tokens derive them
abbrev pub are_sayable : ℕ → List Item → Bool
are_sayable line [] = true
are_sayable line (item ∷ items) =
    (list_all is_sayable (item_parts item) && begins_on (item_line item) (placed_of line item)) && are_sayable (line_reached line (item_line item)) items

pub items_derive : (line : ℕ) (items : List Item) → are_sayable line items ≡ true → AreItems items (items_placed line items)
items_derive line [] p = refl
items_derive line (item ∷ items) p =
    let h : (((list_all is_sayable (item_parts item) && begins_on (item_line item) (placed_of line item))) ≡ true) × (are_sayable (line_reached line (item_line item)) items ≡ true)
    = and_parts _ _ p in
    let k : (list_all is_sayable (item_parts item) ≡ true) × (begins_on (item_line item) (placed_of line item) ≡ true) = and_parts _ _ h.0 in (
      placed_of line item,
      items_placed (line_reached line (item_line item)) items,
      refl,
      record {
        spelled = subst (AreParts (item_parts item)) (sym (tokens-on_line (line_reached line (item_line item)) (flat_map part_tokens (item_parts item)))) (parts_spelled (item_parts item) k.0);
        begins = begins (item_line item) (placed_of line item) k.1;
      },
      items_derive (line_reached line (item_line item)) items h.1,
    )

pub derives_so : (script : Script) → are_sayable 1 (script_items script) ≡ true → AreInOrder (script_items script) → Derives (canonical_placed script) script
unfolding canonical_placed
derives_so script p h = record { are = items_derive 1 (script_items script) p; ordered = h }

-- the same by a test that computes
abbrev pub is_derived : Script → Bool
is_derived script = are_sayable 1 (script_items script) && is_ordered (script_items script)

pub script_derives : (script : Script) → is_derived script ≡ true → Derives (canonical_placed script) script
script_derives script p =
    let h : (are_sayable 1 (script_items script) ≡ true) × (is_ordered (script_items script) ≡ true) = and_parts _ _ p in
    derives_so script h.0 (ordered (script_items script) h.1)

-- the tokens of items, each item's on a line of its own choice
abbrev pub placed_on : List ℕ → List Item → List Placed
placed_on lines [] = []
placed_on [] (_ ∷ _) = []
placed_on (line ∷ lines) (item ∷ items) = map (on_line line) (flat_map part_tokens (item_parts item)) ++ placed_on lines items

-- a test that they derive the items
abbrev pub are_sayable_on : List ℕ → List Item → Bool
are_sayable_on lines [] = true
are_sayable_on [] (_ ∷ _) = false
are_sayable_on (line ∷ lines) (item ∷ items) =
    (list_all is_sayable (item_parts item) && begins_on (item_line item) (map (on_line line) (flat_map part_tokens (item_parts item)))) && are_sayable_on lines items

items_on : (lines : List ℕ) (items : List Item) → are_sayable_on lines items ≡ true → AreItems items (placed_on lines items)
items_on lines [] p = refl
items_on [] (_ ∷ _) p = absurd (true≢false (sym p))
items_on (line ∷ lines) (item ∷ items) p =
    let spelled = flat_map part_tokens (item_parts item) in
    let h : ((list_all is_sayable (item_parts item) && begins_on (item_line item) (map (on_line line) spelled)) ≡ true) × (are_sayable_on lines items ≡ true) = and_parts _ _ p in
    let k : (list_all is_sayable (item_parts item) ≡ true) × (begins_on (item_line item) (map (on_line line) spelled) ≡ true) = and_parts _ _ h.0 in (
      map (on_line line) spelled,
      placed_on lines items,
      refl,
      record {
        spelled = subst (AreParts (item_parts item)) (sym (tokens-on_line line spelled)) (parts_spelled (item_parts item) k.0);
        begins = begins (item_line item) (map (on_line line) spelled) k.1;
      },
      items_on lines items h.1,
    )

pub derives_on : (lines : List ℕ) (script : Script) → (are_sayable_on lines (script_items script) && is_ordered (script_items script)) ≡ true
    → Derives (placed_on lines (script_items script)) script
derives_on lines script p =
    let h : (are_sayable_on lines (script_items script) ≡ true) × (is_ordered (script_items script) ≡ true) = and_parts _ _ p in
    record { are = items_on lines (script_items script) h.0; ordered = ordered (script_items script) h.1 }

-- a test that the lines never fall from this one on
abbrev pub rises : ℕ → List ℕ → Bool
rises line [] = true
rises line (next ∷ lines) = nat_le line next && rises next lines

pub rises_from : (line : ℕ) (lines : List ℕ) → rises line lines ≡ true → RisesFrom line lines
rises_from line [] p = tt
rises_from line (next ∷ lines) p =
    let h : (nat_le line next ≡ true) × (rises next lines ≡ true) = and_parts _ _ p in
    (grind (arith, h.0), rises_from next lines h.1)
