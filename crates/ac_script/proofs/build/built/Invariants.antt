use Rattle.std.proofs.Common.{◌≡◌, ◌++◌, map, Some}
use Rattle.std.specs.Prelude.{All}
use Rattle.ac_syntax.specs.Order.{Context, context_after, IsEnd}
use Rattle.ac_script.specs.Views.{item_view}
use Rattle.ac_script.specs.Fits.{Fits}
use Rattle.ac_script.specs.Building.{items_so_far, IsBuilding}
use Rattle.ac_script.proofs.build.built.Given as goal

abbrev pub invariant-loop-item : goal.invariant-loop-item
invariant-loop-item l = record {
  made : items_so_far l.made ++ map item_view l.item-iterator.rest.items ≡ map item_view l.fn.items.items;
  fits : All Fits (map item_view l.item-iterator.rest.items);
  goes : (context : Context) × (last : Context) × IsBuilding l.made context × (context_after context (map item_view l.item-iterator.rest.items) ≡ Some last) × IsEnd last;
}
