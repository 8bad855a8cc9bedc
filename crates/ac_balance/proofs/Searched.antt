-- What a search in an index comes to.
use Rattle.std.proofs.Common.{ℕ, ◌+◌, ◌*◌, ◌≤◌, Bool, List, length, refl, sym, subst}
use Rattle.ac_base.specs.declared.name.Name.{Name}
use Rattle.ac_base.specs.Rows.{Row}
use Rattle.ac_base.specs.Order.{IsWeakOrder}
use Rattle.ac_balance.specs.Climbing.{Closed}
use Rattle.ac_balance.specs.declared.entry.Entry.{Entry}
use Rattle.ac_balance.specs.declared.links.Links.{Links}
use Rattle.ac_balance.specs.declared.search.Spot.{Spot}
use Rattle.ac_balance.specs.Trees.{height}
use Rattle.ac_balance.specs.Probes.{IsProbe, probed}
use Rattle.ac_balance.specs.Seeking.{Seeks}
use Rattle.ac_balance.specs.Indexed.{IsAscending, FewSteps}
use Rattle.ac_balance.specs.IndexFields.{rows_in, IsOrderIndex}
use Rattle.ac_balance.proofs.Searches.{Finds, finds, few_steps}

module _ {K V : Type 0} (less : K → K → Bool) where
  pub sought_rows : (l : Links (Entry K V)) (rows : List (Row Name (Entry K V))) (c : Closed l rows) → IsAscending (λ e f. less e.key f.key) rows
      → (low high : K → Bool) → IsProbe less low high → (p : Spot) → Seeks l.nodes c.tree (λ e. low e.key) (λ e. high e.key) p → Finds rows (λ e. low e.key) (λ e. high e.key) p
  sought_rows l rows c asc low high probe p h =
      let by_key : IsProbe (λ (e f : Entry K V). less e.key f.key) (λ e. low e.key) (λ e. high e.key) = record {
        down = λ x y. probe.down x.key y.key;
        up = λ x y. probe.up x.key y.key;
        below = λ x y. probe.below x.key y.key;
        above = λ x y. probe.above x.key y.key;
        apart = λ x. probe.apart x.key;
      } in
      subst (λ rows. Finds rows (λ e. low e.key) (λ e. high e.key) p) c.ordered
      (finds (λ e f. less e.key f.key) (λ e. low e.key) (λ e. high e.key) by_key l.nodes p c.tree (subst (λ rows. IsAscending (λ e f. less e.key f.key) rows) (sym c.ordered) asc) h)

  module _ (l : Links (Entry K V)) (s : IsOrderIndex less l) where
    pub sought : (low high : K → Bool) → IsProbe less low high → (p : Spot) → Seeks l.nodes s.closed.tree (λ e. low e.key) (λ e. high e.key) p → Finds (rows_in l) (λ e. low e.key) (λ e. high e.key) p
    sought low high probe p h = sought_rows l (rows_in l) s.closed s.ascending low high probe p h

    -- where a key is sought
    pub sought_key : IsWeakOrder less → (k : K) (p : Spot) → Seeks l.nodes s.closed.tree (λ e. less e.key k) (λ e. less k e.key) p → Finds (rows_in l) (λ e. less e.key k) (λ e. less k e.key) p
    sought_key weak k p h = sought (λ x. less x k) (λ x. less k x) (probed less less (λ x. x) (λ x y. refl) weak k) p h

    pub few_sought : (old new : ℕ) → old ≤ new → new ≤ old + 2 * height s.closed.tree → FewSteps (length (rows_in l)) old new
    few_sought old new more few = few_steps s.closed.tree (rows_in l) old new s.closed.balanced s.closed.ordered more few
