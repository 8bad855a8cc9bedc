-- What stands on a page after items were put on it.
use Rattle.std.proofs.Common.{◌≡◌, ◌||◌, ℕ, Bool, true, false, cond, List, [], ◌∷◌, ◌++◌, map, refl, sym, ap, ap₂, ◌∙◌, append_assoc, append-nil}
use Rattle.ac_syntax.specs.declared.script.Script.{Script}
use Rattle.ac_syntax.specs.Items.{Item, declares, item_line, items, pragma_items, script_items}
use Rattle.ac_syntax.specs.Parts.{Part, item_parts}
use Rattle.ac_syntax.specs.Canonical.{part_text, follows_closely, leads_closely, space_between, parts_text, gap, line_reached, items_text, with_last_line_feed, canonical_text}
use Rattle.ac_printer.specs.Page.{Page, blank_page, put_space, put_bytes, put_part, put_parts, begin_item, put_item, put_items}
use Rattle.ac_printer.proofs.Pages.{put_more_items}

-- the text of parts, where the one before them takes no space behind it or is one that does
abbrev behind : (leads : Bool) → List Part → List ℕ
behind leads [] = []
behind leads (part ∷ parts) = cond (leads || follows_closely part) [] (32 ∷ []) ++ (part_text part ++ behind (leads_closely part) parts)

first_behind : (parts : List Part) → behind true parts ≡ parts_text parts
first_behind [] = refl
first_behind (part ∷ []) = append-nil (part_text part)
first_behind (part ∷ next ∷ parts) = ap (λ text. part_text part ++ (space_between part next ++ text)) (first_behind (next ∷ parts))

-- parts on a page
record IsPut (page later : Page) (added : List ℕ) : Type 0 where
  text : later.text ≡ page.text ++ added
  line : later.line ≡ page.line
  is_empty : later.is_empty ≡ page.is_empty

parts_put : (page : Page) (parts : List Part) → IsPut page (put_parts page parts) (behind page.is_joined parts)
unfolding put_part put_space put_bytes
parts_put page [] = record { text = sym (append-nil page.text); line = refl; is_empty = refl }
parts_put page (part ∷ parts) =
    let others = parts_put (put_part page part) parts in
    let space = cond (page.is_joined || follows_closely part) [] (32 ∷ []) in
    let more = behind (leads_closely part) parts in
    record {
      text = others.text ∙ append_assoc (page.text ++ space) (part_text part) more ∙ append_assoc page.text space (part_text part ++ more);
      line = others.line;
      is_empty = others.is_empty;
    }

item_text : (page : Page) (item : Item) → (put_item page item).text ≡ page.text ++ (gap page.line page.is_empty (item_line item) ++ parts_text (item_parts item))
unfolding begin_item
item_text page item =
    let before = gap page.line page.is_empty (item_line item) in
    (parts_put (begin_item page (item_line item)) (item_parts item)).text
    ∙ ap (λ text. (page.text ++ before) ++ text) (first_behind (item_parts item))
    ∙ append_assoc page.text before (parts_text (item_parts item))

item_line_reached : (page : Page) (item : Item) → (put_item page item).line ≡ line_reached page.line (item_line item)
unfolding begin_item
item_line_reached page item = (parts_put (begin_item page (item_line item)) (item_parts item)).line

item_is_there : (page : Page) (item : Item) → (put_item page item).is_empty ≡ false
unfolding begin_item
item_is_there page item = (parts_put (begin_item page (item_line item)) (item_parts item)).is_empty

items_put : (page : Page) (items : List Item) → (put_items page items).text ≡ page.text ++ items_text page.line page.is_empty items
items_put page [] = sym (append-nil page.text)
items_put page (item ∷ items) =
    let later = put_item page item in
    let before = gap page.line page.is_empty (item_line item) in
    let own = parts_text (item_parts item) in
    let others = items_text (line_reached page.line (item_line item)) false items in
    items_put later items
    ∙ ap (λ text. text ++ items_text later.line later.is_empty items) (item_text page item)
    ∙ ap₂ (λ line is_empty. (page.text ++ (before ++ own)) ++ items_text line is_empty items) (item_line_reached page item) (item_is_there page item)
    ∙ append_assoc page.text (before ++ own) others
    ∙ ap (λ text. page.text ++ text) (append_assoc before own others)

pub script_put : (script : Script)
    → with_last_line_feed (put_items (put_items (put_items blank_page (pragma_items script.pragma)) (map declares script.decls)) (items script.stmts)).text ≡ canonical_text script
unfolding canonical_text
script_put script =
    let pragma = pragma_items script.pragma in
    let decls = map declares script.decls in
    let stmts = items script.stmts in
    ap (λ (page : Page). with_last_line_feed page.text)
    (sym (put_more_items (put_items blank_page pragma) decls stmts) ∙ sym (put_more_items blank_page pragma (decls ++ stmts)))
    ∙ ap with_last_line_feed (items_put blank_page (script_items script))
