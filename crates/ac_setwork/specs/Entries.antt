-- What a map's row holds, as a contract sees it.
use Rattle.std.specs.Prelude.{refl}
use Rattle.std.specs.Coded.{Coded, code_by, coded×}
use Rattle.ac_model.specs.Rows.{Entry, entry}

abbrev pub entry_code : {K V : Type 0} → Coded K → Coded V → Coded (Entry K V)
entry_code {K} {V} k v = code_by (K × V) (coded× k v) (λ e. (e.key, e.element)) (λ p. entry p.0 p.1) (λ _. refl)
