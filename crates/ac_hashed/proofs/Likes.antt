-- Rows told apart by their keys, as the rows of an index are told apart.
use Rattle.std.proofs.Common.{◌≡◌, Bool, List, sym}
use Rattle.ac_base.specs.declared.name.Name.{Name}
use Rattle.ac_base.specs.Rows.{Row}
use Rattle.ac_setwork.specs.Indexed.{found_in}

module _ {K V : Type 0} (alike : K → K → Bool) (key : V → K) (like : V → V → Bool) (law : (v w : V) → like v w ≡ alike (key v) (key w)) where
  pub by_keys : like ≡ (λ v w. alike (key v) (key w))
  by_keys = λ i v w. law v w i

  pub found_by_keys : (rows : List (Row Name V)) (v : V) → found_in (λ w. alike (key w) (key v)) rows ≡ found_in (λ w. like w v) rows
  found_by_keys rows v = λ i. found_in (λ w. sym (law w v) i) rows
