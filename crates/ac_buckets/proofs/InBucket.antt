-- The names in a bucket, in the order of a walk, and where in that order a node's name stands.
use Rattle.std.proofs.Common.{◌≡◌, ◌≢◌, ℕ, zero, suc, ◌+◌, ◌-◌, ◌%◌, ◌<◌, ◌≤◌, Bool, true, false, cond, eq-eqb, ◌==◌, List, [], ◌∷◌, ◌++◌, length, get_or, take, reverse, filter, Contains, slice_get, refl, sym, ap, ◌∙◌, subst, inl, inr, arith}
use Rattle.std.proofs.lemmas.Bool.{cases_eq}
use Rattle.std.proofs.lemmas.Bool.Decides.{eqb_tells}
use Rattle.std.proofs.lemmas.List.{take_more, take_all, reverse-append}
use Rattle.std.proofs.lemmas.List.Elements.{Contains-append_right}
use Rattle.ac_base.specs.declared.name.Name.{Name}
use Rattle.ac_base.specs.Rows.{Row, row, names}
use Rattle.ac_buckets.specs.declared.linked.Node.{Node}
use Rattle.ac_buckets.specs.Linked.{name_of, rows_of, blank_row, name_behind}
use Rattle.ac_buckets.proofs.Walks.{node_at, IsLastNode, row_at, length-rows}

-- the rows of the first n nodes, the last one first
abbrev pub below : List Node → ℕ → List (Row Name ℕ)
below nodes zero = []
below nodes (suc n) = row (name_of (node_at nodes n)) (node_at nodes n).hash ∷ below nodes n

reverse_push : (rows : List (Row Name ℕ)) (r : Row Name ℕ) → reverse (rows ++ r ∷ []) ≡ r ∷ reverse rows
reverse_push rows r = reverse-append rows (r ∷ [])

below_is : (nodes : List Node) (n : ℕ) → n ≤ length nodes → reverse (take n (rows_of nodes)) ≡ below nodes n
below_is nodes zero fits = refl
below_is nodes (suc n) fits =
    let long = length-rows nodes in
    let one : suc n ≡ n + 1 = omega arith in
    let more : take (suc n) (rows_of nodes) ≡ take n (rows_of nodes) ++ get_or (rows_of nodes) n blank_row ∷ [] = ap (λ k. take k (rows_of nodes)) one ∙ take_more (rows_of nodes) n blank_row (omega arith) in
    ap reverse more ∙ reverse_push (take n (rows_of nodes)) (get_or (rows_of nodes) n blank_row) ∙ ap (λ r. r ∷ reverse (take n (rows_of nodes))) (row_at nodes n blank_row (omega arith))
    ∙ ap (λ rows. row (name_of (node_at nodes n)) (node_at nodes n).hash ∷ rows) (below_is nodes n (omega arith))

pub reversed : (nodes : List Node) → reverse (rows_of nodes) ≡ below nodes (length nodes)
reversed nodes = ap reverse (sym (take_all (length nodes) (rows_of nodes) (omega (arith, length-rows nodes)))) ∙ below_is nodes (length nodes) (omega arith)

-- the names in the bucket among the first n nodes
abbrev pub in_bucket : ℕ → ℕ → List Node → ℕ → List Name
in_bucket size b nodes n = names (filter (λ (r : Row Name ℕ). r.value % size == b) (below nodes n))

pub filtered : (t : Bool) (r : Row Name ℕ) (rows : List (Row Name ℕ)) → t ≡ true → names (cond t (r ∷ rows) rows) ≡ r.name ∷ names rows
filtered true r rows e = refl
filtered false r rows e = cc

pub left_out : (t : Bool) (r : Row Name ℕ) (rows : List (Row Name ℕ)) → t ≡ false → names (cond t (r ∷ rows) rows) ≡ names rows
left_out false r rows e = refl
left_out true r rows e = cc

pub in_more : (size b : ℕ) (nodes : List Node) (n : ℕ) → (node_at nodes n).hash % size ≡ b → in_bucket size b nodes (suc n) ≡ name_of (node_at nodes n) ∷ in_bucket size b nodes n
in_more size b nodes n is = filtered ((node_at nodes n).hash % size == b) _ _ (eq-eqb _ b is)

in_same : (size b : ℕ) (nodes : List Node) (n : ℕ) → (node_at nodes n).hash % size ≢ b → in_bucket size b nodes (suc n) ≡ in_bucket size b nodes n
in_same size b nodes n off = left_out ((node_at nodes n).hash % size == b) _ _ (elim (eqb_tells ((node_at nodes n).hash % size) b) [ inl same ↦ absurd (off same.1) | inr apart ↦ apart.0 ])

pub skipped : (size b : ℕ) (nodes : List Node) (link n : ℕ) → link ≤ n → ((k : ℕ) → link ≤ k → k < n → (node_at nodes k).hash % size ≢ b) → in_bucket size b nodes n ≡ in_bucket size b nodes link
skipped size b nodes link zero low none = let e : link ≡ 0 = omega arith in ap (in_bucket size b nodes) (sym e)
skipped size b nodes link (suc n) low none = elim (cases_eq link (suc n)) [
  | inl at ↦ ap (in_bucket size b nodes) (sym at)
  | inr off ↦ in_same size b nodes n (none n (omega arith) (omega arith)) ∙ skipped size b nodes link n (omega arith) (λ k le lt. none k le (omega arith))
]

-- the first name in the bucket stands where the link leads
pub first_behind : (size b : ℕ) (nodes : List Node) (n link : ℕ) → IsLastNode size nodes b n link → name_behind nodes link ≡ slice_get (in_bucket size b nodes n) 0
first_behind size b nodes n zero h = ap (λ ns. slice_get ns 0) (sym (skipped size b nodes 0 n h.within h.last))
first_behind size b nodes n (suc i) h = ap (λ ns. slice_get ns 0) (sym (skipped size b nodes (suc i) n h.within h.last ∙ in_more size b nodes i (let e : suc i - 1 ≡ i = omega arith in subst (λ k. (node_at nodes k).hash % size ≡ b) e (h.there (omega arith)))))

-- where a name stands in the order of a walk, the rest is what is below its node
pub record IsFrom (size b : ℕ) (nodes : List Node) (n : ℕ) (name : Name) (rest : List Name) : Type 0 where
  pub place : ℕ
  pub within : place < n
  pub bucket : (node_at nodes place).hash % size ≡ b
  pub name_is : name_of (node_at nodes place) ≡ name
  pub rest_is : rest ≡ in_bucket size b nodes place

further : (size b : ℕ) (nodes : List Node) (n : ℕ) (name : Name) (rest : List Name) → IsFrom size b nodes n name rest → IsFrom size b nodes (suc n) name rest
further size b nodes n name rest h = record { place = h.place; within = omega (arith, h.within); bucket = h.bucket; name_is = h.name_is; rest_is = h.rest_is }

split_more : (size b : ℕ) (nodes : List Node) (n : ℕ) (before : List Name) (name : Name) (rest : List Name) → (node_at nodes n).hash % size ≡ b → name_of (node_at nodes n) ∷ in_bucket size b nodes n ≡ before ++ (name ∷ rest) →
    ((before : List Name) → in_bucket size b nodes n ≡ before ++ (name ∷ rest) → IsFrom size b nodes n name rest) → IsFrom size b nodes (suc n) name rest
split_more size b nodes n [] name rest is e again = record { place = n; within = omega arith; bucket = is; name_is = cc; rest_is = cc }
split_more size b nodes n (a ∷ before) name rest is e again = further size b nodes n name rest (again before cc)

pub split_from : (size b : ℕ) (nodes : List Node) (n : ℕ) (before : List Name) (name : Name) (rest : List Name) → in_bucket size b nodes n ≡ before ++ (name ∷ rest) → IsFrom size b nodes n name rest
split_from size b nodes zero [] name rest e = cc
split_from size b nodes zero (a ∷ before) name rest e = cc
split_from size b nodes (suc n) before name rest e = elim (cases_eq ((node_at nodes n).hash % size) b) [
  | inl is ↦ split_more size b nodes n before name rest is (sym (in_more size b nodes n is) ∙ e) (λ before e. split_from size b nodes n before name rest e)
  | inr off ↦ further size b nodes n name rest (split_from size b nodes n before name rest (sym (in_same size b nodes n off) ∙ e))
]

pub splits_at : (size b : ℕ) (nodes : List Node) (n i : ℕ) → i < n → (node_at nodes i).hash % size ≡ b → (before : List Name) × (in_bucket size b nodes n ≡ before ++ (name_of (node_at nodes i) ∷ in_bucket size b nodes i))
splits_at size b nodes zero i less is = absurd (omega arith)
splits_at size b nodes (suc n) i less is = elim (cases_eq i n) [
  | inl at ↦ ([], subst (λ k. in_bucket size b nodes (suc n) ≡ name_of (node_at nodes k) ∷ in_bucket size b nodes k) (sym at) (in_more size b nodes n (subst (λ k. (node_at nodes k).hash % size ≡ b) at is)))
  | inr off ↦ let from = splits_at size b nodes n i (omega arith) is in elim (cases_eq ((node_at nodes n).hash % size) b) [
    | inl also ↦ (name_of (node_at nodes n) ∷ from.0, in_more size b nodes n also ∙ ap (λ ns. name_of (node_at nodes n) ∷ ns) from.1)
    | inr other ↦ (from.0, in_same size b nodes n other ∙ from.1)
  ]
]

-- a name of the bucket is among those that a walk meets
pub meets : (size b : ℕ) (nodes : List Node) (n i : ℕ) → i < n → (node_at nodes i).hash % size ≡ b → Contains (in_bucket size b nodes n) (name_of (node_at nodes i))
meets size b nodes n i less is = let from = splits_at size b nodes n i less is in
    subst (λ ns. Contains ns (name_of (node_at nodes i))) (sym from.1) (Contains-append_right from.0 (name_of (node_at nodes i) ∷ in_bucket size b nodes i) (name_of (node_at nodes i)) (0, omega arith, refl))
