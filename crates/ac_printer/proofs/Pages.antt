-- Parts and items are put on a page one after another.
use Rattle.std.proofs.Common.{◌≡◌, Option, Some, None, List, ◌++◌, refl}
use Rattle.std.proofs.lemmas.List.Sums.{fold-append}
use Rattle.ac_base.specs.declared.reason.Exception.{Exception}
use Rattle.ac_syntax.specs.Code.{HandlerCode, no_handler, handler}
use Rattle.ac_syntax.specs.Items.{Item, closes, handler_end, end_behind, handlers_end}
use Rattle.ac_syntax.specs.Parts.{Part, item_parts}
use Rattle.ac_syntax.specs.declared.closing.Closing.TheVariants.{EndHandlers}
use Rattle.ac_printer.specs.Page.{Page, put_part, put_parts, put_item, put_items}

pub put_more : (page : Page) (parts others : List Part) → put_parts page (parts ++ others) ≡ put_parts (put_parts page parts) others
put_more page parts others = fold-append put_part page parts others

pub put_more_items : (page : Page) (items others : List Item) → put_items page (items ++ others) ≡ put_items (put_items page items) others
put_more_items page items others = fold-append put_item page items others

-- the end of a block with handlers is written the same, whatever the last one takes

own_alike : (page : Page) (own : Option Exception) → put_item page (closes EndHandlers) ≡ put_item page (closes (handler_end own))
unfolding item_parts
own_alike page None = refl
own_alike page (Some _) = refl

behind_alike : (page : Page) (own : Option Exception) (more : HandlerCode) → put_item page (closes EndHandlers) ≡ put_item page (closes (end_behind own more))
behind_alike page own no_handler = own_alike page own
behind_alike page own (handler _ next _ more) = behind_alike page next more

pub ends_alike : (page : Page) (handlers : HandlerCode) → put_item page (closes EndHandlers) ≡ put_item page (closes (handlers_end handlers))
ends_alike page no_handler = refl
ends_alike page (handler _ own _ more) = behind_alike page own more
