-- A row that was not added, with the name of the one that is there.
use Rattle.std.specs.Prelude.{◌≡◌, Bool, Some}
use Rattle.ac_base.specs.Order.{are_level}
use Rattle.ac_balance.specs.declared.index.Present.{Present}
use Rattle.ac_balance.specs.Indexed.{Indexed, first_where}

pub record IsPresent {K V : Type 0} (less : K → K → Bool) (c : Indexed K V) (k : K) (v : V) (p : Present K V) : Type 0 where
  pub there : first_where (λ x. are_level less x k) c ≡ Some p.at
  pub key : p.k ≡ k
  pub value : p.v ≡ v
