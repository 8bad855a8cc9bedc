-- How what a row of a tree holds is coded: a depth and an element.
use Rattle.std.specs.Prelude.{ℕ, refl}
use Rattle.std.specs.Coded.{Coded, code_by, coded×, coded_ℕ}
use Rattle.ac_model.specs.Rows.{Node, node}

abbrev pub node_code : {T : Type 0} → Coded T → Coded (Node T)
node_code {T} t = code_by (ℕ × T) (coded× coded_ℕ t) (λ n. (n.depth, n.element)) (λ p. node p.0 p.1) (λ _. refl)
