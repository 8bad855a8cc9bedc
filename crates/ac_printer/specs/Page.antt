-- A canonical text while it is written, part by part.
use Rattle.std.specs.Prelude.{ℕ, ◌||◌, Bool, true, false, List, [], ◌∷◌, ◌++◌, Option, if◌then◌else◌}
use Rattle.std.specs.List.{fold}
use Rattle.ac_syntax.specs.Items.{Item, item_line}
use Rattle.ac_syntax.specs.Parts.{Part, item_parts}
use Rattle.ac_syntax.specs.Canonical.{part_text, follows_closely, leads_closely, gap, line_reached}

pub record Page : Type 0 where
  pub text : List ℕ
  -- the line that is reached
  pub line : ℕ
  -- no item was begun yet
  pub is_empty : Bool
  -- the next part comes with no space before it
  pub is_joined : Bool

abbrev pub blank_page : Page
blank_page = record { text = []; line = 1; is_empty = true; is_joined = true }

-- what stands before a part
unfoldable pub put_space : Page → (follows leads : Bool) → Page
put_space page follows leads =
    record { text = page.text ++ (if page.is_joined || follows then [] else 32 ∷ []); line = page.line; is_empty = page.is_empty; is_joined = leads }

unfoldable pub put_bytes : Page → List ℕ → Page
put_bytes page bytes = record { text = page.text ++ bytes; line = page.line; is_empty = page.is_empty; is_joined = page.is_joined }

unfoldable pub put_part : Page → Part → Page
put_part page part = put_bytes (put_space page (follows_closely part) (leads_closely part)) (part_text part)

abbrev pub put_parts : Page → List Part → Page
put_parts page parts = fold put_part page parts

-- what stands before an item
unfoldable pub begin_item : Page → Option ℕ → Page
begin_item page own =
    record {
      text = page.text ++ gap page.line page.is_empty own;
      line = line_reached page.line own;
      is_empty = false;
      is_joined = true;
    }

abbrev pub put_item : Page → Item → Page
put_item page item = put_parts (begin_item page (item_line item)) (item_parts item)

abbrev pub put_items : Page → List Item → Page
put_items page items = fold put_item page items
