-- Walks down a bucket, by the nodes' hashes and names.
use Rattle.std.proofs.Common.{◌≡◌, ◌≢◌, ℕ, Bool, true, false, ◌&&◌, eqb, eq-eqb, IfNone, ◌-◌, ◌%◌, ◌<◌, ◌≤◌, List, length, get_or, Contains, refl, sym, ap, ◌∙◌, subst, inl, inr, arith}
use Rattle.std.specs.Bool.{then_some}
use Rattle.std.proofs.lemmas.Bool.{cases_eq, cases_lt, false≢true}
use Rattle.std.proofs.lemmas.List.{length-map, get_or-map}
use Rattle.ac_base.specs.declared.name.Name.{Name}
use Rattle.ac_base.specs.Rows.{Row, row, names}
use Rattle.ac_buckets.specs.declared.linked.Node.{Node}
use Rattle.ac_buckets.specs.Pairs.{IsOnce}
use Rattle.ac_buckets.specs.Linked.{name_of, IsLastLink, AreLinked, links_of, rows_of, marks_of, blank_node, blank_row}
use Rattle.ac_buckets.proofs.Links.{mark_of}

abbrev pub node_at : List Node → ℕ → Node
node_at nodes k = get_or nodes k blank_node

-- the link leads to the last of the first n nodes whose hash is in the bucket
pub record IsLastNode (size : ℕ) (nodes : List Node) (bucket n link : ℕ) : Type 0 where
  pub within : link ≤ n
  pub there : 0 < link → (node_at nodes (link - 1)).hash % size ≡ bucket
  pub last : (k : ℕ) → link ≤ k → k < n → (node_at nodes k).hash % size ≢ bucket

by_hash : (size : ℕ) (nodes : List Node) (b n link : ℕ) → n ≤ length nodes → IsLastLink (marks_of size nodes) b n link → IsLastNode size nodes b n link
by_hash size nodes b n link fits h = record {
  within = h.within;
  there = λ some. sym (mark_of size nodes (link - 1) (omega (arith, h.within))) ∙ h.there some;
  last = λ k le lt e. h.last k le lt (mark_of size nodes k (omega arith) ∙ e);
}

pub IsLastNode-first : (size : ℕ) (nodes : List Node) (heads : List ℕ) (b : ℕ) → AreLinked (marks_of size nodes) nodes heads → b < length heads → IsLastNode size nodes b (length nodes) (get_or heads b 0)
IsLastNode-first size nodes heads b h less = by_hash size nodes b (length nodes) _ (omega arith) (subst (λ n. IsLastLink (marks_of size nodes) b n (get_or heads b 0)) h.all (h.linked.firsts b less))

pub IsLastNode-next : (nodes : List Node) (heads : List ℕ) (k : ℕ) → AreLinked (marks_of (length heads) nodes) nodes heads → 0 < length heads → k < length nodes →
    IsLastNode (length heads) nodes ((node_at nodes k).hash % length heads) k (node_at nodes k).next
IsLastNode-next nodes heads k h some less =
    let size = length heads in
    let mark = mark_of size nodes k less in
    let link = get_or-map (λ (n : Node). n.next) nodes k blank_node 0 less in
    let all = h.all in
    let bucket : (node_at nodes k).hash % size < size = omega arith in
    by_hash size nodes _ k _ (omega arith) (subst (λ t. IsLastLink (marks_of size nodes) ((node_at nodes k).hash % size) k t) link
    (subst (λ b. IsLastLink (marks_of size nodes) b k (get_or (links_of nodes) k 0)) mark (h.linked.nexts k (omega arith) (subst (λ b. b < size) (sym mark) bucket))))

-- no node from the link on has the name in the bucket, one step on
pub record IsPassed (nodes : List Node) (size bucket : ℕ) (name : Name) (link : ℕ) : Type 0 where
  pub within : link ≤ length nodes
  pub there : 0 < link → (node_at nodes (link - 1)).hash % size ≡ bucket
  pub passed : (k : ℕ) → link ≤ k → k < length nodes → (node_at nodes k).hash % size ≡ bucket → name_of (node_at nodes k) ≢ name

pub IsPassed-first : (nodes : List Node) (size b : ℕ) (name : Name) (link : ℕ) → IsLastNode size nodes b (length nodes) link → IsPassed nodes size b name link
IsPassed-first nodes size b name link h = record { within = h.within; there = h.there; passed = λ k le lt e _. h.last k le lt e }

pub IsPassed-more : (nodes : List Node) (size b : ℕ) (name : Name) (link next : ℕ) → 0 < link → name_of (node_at nodes (link - 1)) ≢ name → IsLastNode size nodes ((node_at nodes (link - 1)).hash % size) (link - 1) next →
    IsPassed nodes size b name link → IsPassed nodes size b name next
IsPassed-more nodes size b name link next some other h p =
    let is = p.there some in
    record {
      within = omega (arith, h.within, p.within);
      there = λ more. h.there more ∙ is;
      passed = λ k le lt e. elim (cases_lt k (link - 1)) [
        | inl below ↦ absurd (h.last k le below (e ∙ sym is))
        | inr above ↦ elim (cases_eq k (link - 1)) [
          | inl at ↦ subst (λ n. name_of (node_at nodes n) ≢ name) (sym at) other
          | inr off ↦ p.passed k (omega arith) lt e
        ]
      ];
    }

pub row_at : (nodes : List Node) (k : ℕ) (d : Row Name ℕ) → k < length nodes → get_or (rows_of nodes) k d ≡ row (name_of (node_at nodes k)) (node_at nodes k).hash
row_at nodes k d less = get_or-map (λ (n : Node). row (name_of n) n.hash) nodes k blank_node d less

pub length-rows : (nodes : List Node) → length (rows_of nodes) ≡ length nodes
length-rows nodes = length-map nodes (λ (n : Node). row (name_of n) n.hash)

-- a pair that is there stands at a node
pub pair_at : (nodes : List Node) (name : Name) (hash : ℕ) → Contains (rows_of nodes) (row name hash) → (k : ℕ) × (k < length nodes) × (row (name_of (node_at nodes k)) (node_at nodes k).hash ≡ row name hash)
pair_at nodes name hash h = let less : h.0 < length nodes = omega (arith, h.1, length-rows nodes) in (h.0, less, sym (row_at nodes h.0 (row name hash) less) ∙ h.2)

-- a name stands at one node
pub once_at : (nodes : List Node) → IsOnce (names (rows_of nodes)) → (i j : ℕ) → i < length nodes → j < length nodes → name_of (node_at nodes i) ≡ name_of (node_at nodes j) → i ≡ j
once_at nodes once i j low high e =
    let long = length-map (rows_of nodes) (λ (r : Row Name ℕ). r.name) in let all = length-rows nodes in
    let at : (k : ℕ) → k < length nodes → get_or (names (rows_of nodes)) k blank_row.name ≡ name_of (node_at nodes k) = λ k less.
    get_or-map (λ (r : Row Name ℕ). r.name) (rows_of nodes) k blank_row blank_row.name (omega arith) ∙ ap (λ (r : Row Name ℕ). r.name) (row_at nodes k blank_row less) in
    once i j blank_row.name (omega arith) (omega arith) (at i low ∙ e ∙ sym (at j high))

-- names that a comparison tells apart
pub names_apart : (a b : Name) → false ≡ (eqb a.slot b.slot && eqb a.serial b.serial) → a ≢ b
names_apart a b h e =
    let slot = eq-eqb a.slot b.slot (ap (λ (n : Name). n.slot) e) in let serial = eq-eqb a.serial b.serial (ap (λ (n : Name). n.serial) e) in
    false≢true (h ∙ ap (λ t. t && eqb a.serial b.serial) slot ∙ serial)

pub none_then : (b : Bool) (i : ℕ) (P : Type 0) → (b ≡ false → P) → IfNone (then_some b i) P
none_then true i P h = tt
none_then false i P h = h refl

-- a name whose node has another hash isn't there with this one
pub other_hash : (nodes : List Node) (name : Name) (hash i : ℕ) → IsOnce (names (rows_of nodes)) → i < length nodes → name_of (node_at nodes i) ≡ name → eqb (node_at nodes i).hash hash ≡ false → Contains (rows_of nodes) (row name hash) → ⊥
other_hash nodes name hash i once less is other h =
    let at = pair_at nodes name hash h in
    let same : at.0 ≡ i = once_at nodes once at.0 i at.1 less (ap (λ (r : Row Name ℕ). r.name) at.2 ∙ sym is) in
    let e : (node_at nodes i).hash ≡ hash = ap (λ k. (node_at nodes k).hash) (sym same) ∙ ap (λ (r : Row Name ℕ). r.value) at.2 in
    false≢true (sym other ∙ eq-eqb (node_at nodes i).hash hash e)
