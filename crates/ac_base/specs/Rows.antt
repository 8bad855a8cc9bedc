-- The rows of a container, as a list: what stands there under which name.
use Rattle.std.specs.Prelude.{List, map, refl}
use Rattle.std.specs.Coded.{Coded, code_by, coded×}
use Rattle.ac_base.specs.declared.name.Name.{Name}
use Rattle.ac_base.specs.Names.{name_code}

-- N: the names, which are serial numbers or names with their slots; V: what a row holds
pub record Row (N V : Type 0) : Type 0 where
  pub name : N
  pub value : V

abbrev pub row : {N V : Type 0} → N → V → Row N V
row name value = record { name = name; value = value }

abbrev pub names : {N V : Type 0} → List (Row N V) → List N
names rows = map (λ r. r.name) rows

abbrev pub values : {N V : Type 0} → List (Row N V) → List V
values rows = map (λ r. r.value) rows

abbrev pub row_code : {V : Type 0} → Coded V → Coded (Row Name V)
row_code {V} v = code_by (Name × V) (coded× name_code v) (λ r. (r.name, r.value)) (λ p. row p.0 p.1) (λ _. refl)
