-- A name is told apart from others by its slot and its serial.
use Rattle.std.specs.Prelude.{ℕ, refl}
use Rattle.std.specs.Coded.{Coded, code_by, coded×, coded_ℕ}
use Rattle.ac_base.specs.declared.name.Name.{Name}

abbrev pub name_code : Coded Name
name_code = code_by (ℕ × ℕ) (coded× coded_ℕ coded_ℕ) (λ a. (a.slot, a.serial)) (λ p. record { slot = p.0; serial = p.1 }) (λ _. refl)
