use Rattle.std.proofs.Common.{refl, List, map, sym, ap, ◌∙◌, subst}
use Rattle.std.specs.Prelude.{All}
use Rattle.std.proofs.lemmas.List.Elements.{All-head, All-tail}
use Rattle.std.proofs.lemmas.List.{nil_from_length}
use Rattle.ac_syntax.specs.Order.{context_after}
use Rattle.ac_script.specs.declared.item.Item.{Item as Kept}
use Rattle.ac_script.specs.Views.{item_view}
use Rattle.ac_script.specs.Fits.{Fits}
use Rattle.ac_script.specs.Building.{items_so_far}
use Rattle.ac_script.proofs.Lefts.{next_left}
use Rattle.ac_script.proofs.Buildings.{goes_on, all_closed}
use Rattle.ac_script.proofs.build.built.Goals as goal

pub add-requires : goal.add-requires
add-requires c = All-head Fits (item_view c.in-Some.item) (map item_view c.next.new.self.rest.items) (subst (λ (left : List Kept). All Fits (map item_view left)) c.in-Some.ensures.steps.0 c.loop-item.invariant.fits)

pub loop-item-preserved : goal.loop-item-preserved
loop-item-preserved c =
    let steps = c.in-Some.ensures.steps in
    let goes = c.loop-item.invariant.goes in
    let now = goes_on goes.0 goes.1 (item_view c.in-Some.item) (map item_view c.next.new.self.rest.items) (ap (λ left. context_after goes.0 (map item_view left)) (sym steps.0) ∙ goes.3) in
    let added = c.in_ok-add.ensures goes.0 now.0 goes.2 now.1 in
    record {
      made = next_left item_view (items_so_far c.loop-item.made) (items_so_far c.add.new.self) c.loop-item.item-iterator.rest.items c.next.new.self.rest.items c.in-Some.item (item_view c.in-Some.item) (map item_view c.args.items.items)
          steps.0 added.0 refl c.loop-item.invariant.made;
      fits = All-tail Fits (item_view c.in-Some.item) (map item_view c.next.new.self.rest.items) (subst (λ (left : List Kept). All Fits (map item_view left)) steps.0 c.loop-item.invariant.fits);
      goes = (now.0, goes.1, added.1, now.2, goes.4);
    }

pub returns-clause-ended : goal.returns-clause-ended
returns-clause-ended c =
    let goes = c.loop-item.invariant.goes in
    let left = c.loop-item.item-iterator.rest.items in
    let none = ap (map item_view) (nil_from_length left (sym c.loop-item.item-iterator.rest.ok.0 ∙ c.in-None.ensures.steps.0)) in
    all_closed c.loop-item.made goes.0 goes.1 (map item_view left) none goes.2 goes.3 goes.4
