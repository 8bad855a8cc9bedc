-- A walk by places, over the nodes.
use Rattle.std.proofs.Common.{◌≡◌, ◌≢◌, ℕ, zero, suc, ◌-◌, ◌%◌, ◌<◌, ◌≤◌, ◌==◌, max, List, ◌∷◌, length, drop, get_or, refl, eq-eqb, sym, ap, ◌∙◌, subst, inl, inr, arith}
use Rattle.std.proofs.Math.Nat.{max-eq_left}
use Rattle.std.proofs.lemmas.Bool.{cases_eq}
use Rattle.std.proofs.lemmas.Bool.Decides.{eqb_tells}
use Rattle.std.proofs.lemmas.List.{length-reverse, get_or_default}
use Rattle.ac_buckets.specs.declared.linked.Node.{Node}
use Rattle.ac_buckets.specs.declared.walk.Place.{Place}
use Rattle.ac_buckets.specs.BucketFields.{seen_in, IsBuckets}
use Rattle.ac_buckets.specs.Linked.{name_of, blank_node, rows_of}
use Rattle.ac_buckets.specs.Pairs.{Bucketed}
use Rattle.ac_buckets.specs.Places.{oldest, names_left, names_with, StartsIn, IsPlace, Begins}
use Rattle.ac_buckets.proofs.InBucket.{below, reversed, filtered, left_out}
use Rattle.ac_buckets.proofs.Walks.{node_at, length-rows, IsLastNode, IsLastNode-first, IsLastNode-next}

-- what the node at a place is to a walk, and where the walk goes on
pub record Meets (b : Bucketed) (hash link : ℕ) (n : Node) : Type 0 where
  pub has : n.hash ≡ hash → names_left b hash link ≡ name_of n ∷ names_left b hash n.next
  pub other : n.hash ≢ hash → names_left b hash link ≡ names_left b hash n.next
  pub stands : IsPlace b hash n.next
  pub nearer : n.next < link

drop_below : (nodes : List Node) (m n : ℕ) → n ≤ m → drop (m - n) (below nodes m) ≡ below nodes n
drop_below nodes zero n le = let none : n ≡ 0 = omega arith in rw none refl
drop_below nodes (suc m) n le = elim (cases_eq n (suc m)) [
  | inl at ↦ let none : suc m - n ≡ 0 = omega arith in ap (λ k. drop k (below nodes (suc m))) none ∙ ap (below nodes) (sym at)
  | inr off ↦ let one : suc m - n ≡ suc (m - n) = omega arith in ap (λ k. drop k (below nodes (suc m))) one ∙ drop_below nodes m n (omega arith)
]

-- the names with the hash among the first n nodes
with_more : (hash : ℕ) (nodes : List Node) (n : ℕ) → (node_at nodes n).hash ≡ hash → names_with hash (below nodes (suc n)) ≡ name_of (node_at nodes n) ∷ names_with hash (below nodes n)
with_more hash nodes n is = filtered ((node_at nodes n).hash == hash) _ _ (eq-eqb _ hash is)

with_same : (hash : ℕ) (nodes : List Node) (n : ℕ) → (node_at nodes n).hash ≢ hash → names_with hash (below nodes (suc n)) ≡ names_with hash (below nodes n)
with_same hash nodes n off = left_out ((node_at nodes n).hash == hash) _ _ (elim (eqb_tells (node_at nodes n).hash hash) [ inl same ↦ absurd (off same.1) | inr apart ↦ apart.0 ])

-- none of another bucket has it
with_skipped : (size hash : ℕ) (nodes : List Node) (link n : ℕ) → link ≤ n → ((k : ℕ) → link ≤ k → k < n → (node_at nodes k).hash % size ≢ hash % size) → names_with hash (below nodes n) ≡ names_with hash (below nodes link)
with_skipped size hash nodes link zero low none = let e : link ≡ 0 = omega arith in ap (λ k. names_with hash (below nodes k)) (sym e)
with_skipped size hash nodes link (suc n) low none = elim (cases_eq link (suc n)) [
  | inl at ↦ ap (λ k. names_with hash (below nodes k)) (sym at)
  | inr off ↦ with_same hash nodes n (λ e. none n (omega arith) (omega arith) (ap (λ v. v % size) e)) ∙ with_skipped size hash nodes link n (omega arith) (λ k le lt. none k le (omega arith))
]

module _ (nodes : List Node) (heads : List ℕ) where
  oldest_is : (n : ℕ) → n ≤ length nodes → oldest (seen_in nodes heads) n ≡ below nodes n
  oldest_is n le =
      let rows = reversed nodes in
      let long = length-rows nodes in let all = length-reverse (rows_of nodes) in
      let less : length (seen_in nodes heads).pairs - n ≡ length nodes - n = omega arith in
      ap (λ k. drop k (seen_in nodes heads).pairs) less ∙ ap (drop (length nodes - n)) rows ∙ drop_below nodes (length nodes) n le

  wide : (capacity : ℕ) → IsBuckets nodes heads capacity → 0 < length heads → max (length heads) 64 ≡ length heads
  wide capacity h some = max-eq_left (elim h.size [ inl none ↦ absurd (omega (arith, ap length none)) | inr many ↦ many ])

  left_is : (hash n : ℕ) → n ≤ length nodes → names_left (seen_in nodes heads) hash n ≡ names_with hash (below nodes n)
  left_is hash n le = ap (names_with hash) (oldest_is n le)

  starts_below : (size hash link : ℕ) → (0 < link → (node_at nodes (link - 1)).hash % size ≡ hash % size) → StartsIn size hash (below nodes link)
  starts_below size hash zero there = tt
  starts_below size hash (suc i) there = let e : suc i - 1 ≡ i = omega arith in subst (λ k. (node_at nodes k).hash % size ≡ hash % size) e (there (omega arith))

  place_is : (capacity hash link : ℕ) → IsBuckets nodes heads capacity → 0 < length heads → link ≤ length nodes → (0 < link → (node_at nodes (link - 1)).hash % length heads ≡ hash % length heads) → IsPlace (seen_in nodes heads) hash link
  place_is capacity hash link h some le there = record {
    within = omega (arith, length-rows nodes, length-reverse (rows_of nodes));
    starts = subst (λ s. StartsIn s hash (oldest (seen_in nodes heads) link)) (sym (wide capacity h some)) (subst (StartsIn (length heads) hash) (sym (oldest_is link le)) (starts_below (length heads) hash link there));
  }

  -- where a walk begins
  pub begins : (capacity hash : ℕ) (place : Place) → IsBuckets nodes heads capacity → 0 < length heads → place.left ≡ get_or heads (hash % length heads) 0 → Begins (seen_in nodes heads) hash place
  begins capacity hash place h some is =
      let bucket : hash % length heads < length heads = omega arith in
      let first = subst (λ t. IsLastNode (length heads) nodes (hash % length heads) (length nodes) t) (sym is) (IsLastNode-first (length heads) nodes heads (hash % length heads) h.linked bucket) in
      record {
        names = left_is hash place.left first.within ∙ sym (with_skipped (length heads) hash nodes place.left (length nodes) first.within first.last) ∙ ap (names_with hash) (sym (reversed nodes));
        stands = place_is capacity hash place.left h some first.within first.there;
      }

  -- the node below a place
  met_at : (capacity hash i : ℕ) → IsBuckets nodes heads capacity → i < length nodes → IsPlace (seen_in nodes heads) hash (suc i) → Meets (seen_in nodes heads) hash (suc i) (node_at nodes i)
  met_at capacity hash i h less p =
      let size = length heads in let b = hash % size in
      let some : 0 < length heads = omega (arith, h.fits) in
      let fits : suc i ≤ length nodes = omega arith in
      let starts = subst (λ s. StartsIn s hash (oldest (seen_in nodes heads) (suc i))) (wide capacity h some) p.starts in
      let bucket : (node_at nodes i).hash % size ≡ b = subst (StartsIn size hash) (oldest_is (suc i) fits) starts in
      let step = subst (λ c. IsLastNode size nodes c i (node_at nodes i).next) bucket (IsLastNode-next nodes heads i h.linked some less) in
      let low : (node_at nodes i).next ≤ length nodes = omega (arith, step.within) in
      let rest = with_skipped size hash nodes (node_at nodes i).next i step.within step.last ∙ sym (left_is hash (node_at nodes i).next low) in
      record {
        has = λ is. left_is hash (suc i) fits ∙ with_more hash nodes i is ∙ ap (λ ns. name_of (node_at nodes i) ∷ ns) rest;
        other = λ off. left_is hash (suc i) fits ∙ with_same hash nodes i off ∙ rest;
        stands = place_is capacity hash (node_at nodes i).next h some low step.there;
        nearer = omega (arith, step.within);
      }

  -- the node that is read at a place
  pub meets_node : (capacity hash link : ℕ) (b : Bucketed) (n : Node) → IsBuckets nodes heads capacity → seen_in nodes heads ≡ b → link ≢ 0 → n ≡ get_or nodes (link - 1) n → IsPlace b hash link → Meets b hash link n
  meets_node capacity hash link b n h view some is p =
      let at : link ≡ suc (link - 1) = omega (arith, some) in
      let place = subst (IsPlace (seen_in nodes heads) hash) at (subst (λ b. IsPlace b hash link) (sym view) p) in
      let less : link - 1 < length nodes = omega (arith, place.within, length-reverse (rows_of nodes), length-rows nodes) in
      let node : n ≡ node_at nodes (link - 1) = is ∙ get_or_default nodes (link - 1) n blank_node less in
      subst (λ b. Meets b hash link n) view (subst (λ l. Meets (seen_in nodes heads) hash l n) (sym at) (subst (Meets (seen_in nodes heads) hash (suc (link - 1))) (sym node) (met_at capacity hash (link - 1) h less place)))
