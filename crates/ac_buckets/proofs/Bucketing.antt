-- What the fields' invariant gives, and how each call keeps it.
use Rattle.std.proofs.Common.{◌≡◌, ◌≢◌, ℕ, ◌+◌, ◌-◌, ◌*◌, ◌%◌, ◌^◌, ◌<◌, ◌≤◌, max, List, [], ◌∷◌, ◌++◌, length, get_or, set, take, reverse, filter, ◌==◌, Contains, slice_get, refl, sym, ap, ◌∙◌, subst, inl, inr, arith}
use Rattle.std.specs.List.{swap_remove}
use Rattle.std.specs.List.Sorted.{IsPermutation}
use Rattle.std.proofs.Math.Nat.{le-max_left, le-max_right, max-eq_left, max-eq_right}
use Rattle.std.proofs.lemmas.Bool.{cases_eq, cases_lt}
use Rattle.std.proofs.lemmas.List.{length_push, length-map, length-reverse, get_or-map, get_or-reverse, get_or_append_left, get_or_push, get_or_default, map_push, set_at}
use Rattle.std.proofs.lemmas.List.Sorted.{IsPermutation-reverse, IsPermutation-map, IsPermutation-sym, IsPermutation-trans, IsPermutation-cons, IsPermutation-swap_remove, Contains-permutation}
use Rattle.std.proofs.lemmas.List.Elements.{Contains-get_or}
use Rattle.ac_base.specs.declared.name.Name.{Name}
use Rattle.ac_base.specs.Rows.{Row, row, names}
use Rattle.ac_base.proofs.Powers.{pow8-unique}
use Rattle.ac_buckets.specs.declared.linked.Node.{Node}
use Rattle.ac_buckets.specs.Pairs.{names_in, IsOnce, IsSound}
use Rattle.ac_buckets.specs.BucketFields.{seen_in, IsBuckets}
use Rattle.ac_buckets.specs.Linked.{name_of, IsLastLink, AreLinked, Relinks, links_of, rows_of, marks_of, buckets_of, blank_node, blank_row, name_behind}
use Rattle.ac_buckets.proofs.InBucket.{in_bucket, reversed, first_behind, split_from, meets}
use Rattle.ac_buckets.proofs.Removing.{IsOnce-swap_remove, length-swap_remove, map-swap_remove}
use Rattle.ac_buckets.proofs.Linking.{last_agree, length-marks}
use Rattle.ac_buckets.proofs.Walks.{node_at, length-rows, once_at, IsLastNode, IsLastNode-first, IsLastNode-next}

name_at_row : (rows : List (Row Name ℕ)) (k : ℕ) (d : Name) → k < length rows → get_or (names rows) k d ≡ (get_or rows k blank_row).name
name_at_row rows k d less = get_or-map (λ (r : Row Name ℕ). r.name) rows k blank_row d less

length-names : (rows : List (Row Name ℕ)) → length (names rows) ≡ length rows
length-names rows = length-map rows (λ (r : Row Name ℕ). r.name)

IsOnce-reverse : (rows : List (Row Name ℕ)) → IsOnce (names rows) → IsOnce (names (reverse rows))
IsOnce-reverse rows once i j d low high e =
    let n = length-reverse rows in let m = length-names (reverse rows) in let p = length-names rows in
    let at : (k : ℕ) → k < length rows → get_or (names (reverse rows)) k d ≡ get_or (names rows) (length rows - 1 - k) d = λ k less.
    name_at_row (reverse rows) k d (omega arith) ∙ ap (λ (r : Row Name ℕ). r.name) (get_or-reverse rows k blank_row less) ∙ sym (name_at_row rows (length rows - 1 - k) d (omega arith)) in
    let same = once (length rows - 1 - i) (length rows - 1 - j) d (omega arith) (omega arith) (sym (at i (omega arith)) ∙ e ∙ at j (omega arith)) in
    omega arith

max_within : (a b c : ℕ) → a ≤ c → b ≤ c → max a b ≤ c
max_within a b c low high = elim (cases_lt a b) [
  | inl less ↦ subst (λ n. n ≤ c) (sym (max-eq_right {n = a} {m = b} (omega arith))) high
  | inr more ↦ subst (λ n. n ≤ c) (sym (max-eq_left {n = a} {m = b} more)) low
]

pub sound : (nodes : List Node) (heads : List ℕ) (capacity : ℕ) → IsBuckets nodes heads capacity → IsSound (seen_in nodes heads)
sound nodes heads capacity h =
    let size = max (length heads) 64 in
    let long : length (reverse (rows_of nodes)) ≡ length nodes = length-reverse (rows_of nodes) ∙ length-rows nodes in
    record {
      once = IsOnce-reverse (rows_of nodes) h.once;
      room = omega (arith, h.fits, le-max_left (length heads) 64);
      whole = λ some. let wide : max (length heads) 64 ≡ length heads = max-eq_left (elim h.size [ inl none ↦ absurd (omega (arith, ap length none)) | inr many ↦ many ]) in omega (arith, wide, long, h.fits, some);
      power = sym (pow8-unique size size (record { power = h.power; enough = omega arith; least = λ k enough. enough }));
      few = (le-max_right (length heads) 64, max_within (length heads) 64 (2 ^ 30) h.few (omega arith));
    }

-- where there are buckets, the names that a walk meets are those of the nodes
pub walk_names : (nodes : List Node) (heads : List ℕ) (capacity : ℕ) (hash : ℕ) → IsBuckets nodes heads capacity → 0 < length heads →
    names_in (seen_in nodes heads) hash ≡ in_bucket (length heads) (hash % length heads) nodes (length nodes)
walk_names nodes heads capacity hash h some =
    let wide : 64 ≤ length heads = elim h.size [ inl none ↦ absurd (omega (arith, ap length none)) | inr many ↦ many ] in
    let size : max (length heads) 64 ≡ length heads = max-eq_left wide in
    ap (λ n. names (filter (λ (r : Row Name ℕ). r.value % n == hash % n) (reverse (rows_of nodes)))) size
    ∙ ap (λ rows. names (filter (λ (r : Row Name ℕ). r.value % length heads == hash % length heads) rows)) (reversed nodes)

pub first_met : (nodes : List Node) (heads : List ℕ) (capacity : ℕ) (hash link : ℕ) → IsBuckets nodes heads capacity → 0 < length heads → link ≡ get_or heads (hash % length heads) 0 →
    name_behind nodes link ≡ slice_get (names_in (seen_in nodes heads) hash) 0
first_met nodes heads capacity hash link h some is =
    let first = IsLastNode-first (length heads) nodes heads (hash % length heads) h.linked (omega arith) in
    first_behind (length heads) (hash % length heads) nodes (length nodes) link (subst (λ t. IsLastNode (length heads) nodes (hash % length heads) (length nodes) t) (sym is) first)
    ∙ ap (λ ns. slice_get ns 0) (sym (walk_names nodes heads capacity hash h some))

-- the node that `find` gave, and the link behind it
pub next_met : (nodes : List Node) (heads : List ℕ) (capacity : ℕ) (hash i : ℕ) (before rest : List Name) (name : Name) → IsBuckets nodes heads capacity → 0 < length heads → i < length nodes → name_of (node_at nodes i) ≡ name →
    (node_at nodes i).hash % length heads ≡ hash % length heads → names_in (seen_in nodes heads) hash ≡ before ++ (name ∷ rest) → name_behind nodes (node_at nodes i).next ≡ slice_get rest 0
next_met nodes heads capacity hash i before rest name h some less is bucket e =
    let size = length heads in let b = hash % size in
    let from = split_from size b nodes (length nodes) before name rest (sym (walk_names nodes heads capacity hash h some) ∙ e) in
    let same : from.place ≡ i = once_at nodes h.once from.place i from.within less (from.name_is ∙ sym is) in
    let next = subst (λ c. IsLastNode size nodes c i (node_at nodes i).next) bucket (IsLastNode-next nodes heads i h.linked some less) in
    first_behind size b nodes i (node_at nodes i).next next ∙ ap (λ ns. slice_get ns 0) (sym (from.rest_is ∙ ap (in_bucket size b nodes) same))

-- where `find` gave none, no walk meets the name
pub none_met : (nodes : List Node) (heads : List ℕ) (capacity : ℕ) (hash : ℕ) (before rest : List Name) (name : Name) → IsBuckets nodes heads capacity → 0 < length heads →
    ((k : ℕ) → k < length nodes → (node_at nodes k).hash % length heads ≡ hash % length heads → name_of (node_at nodes k) ≢ name) → names_in (seen_in nodes heads) hash ≡ before ++ (name ∷ rest) → ⊥
none_met nodes heads capacity hash before rest name h some none e =
    let size = length heads in
    let from = split_from size (hash % size) nodes (length nodes) before name rest (sym (walk_names nodes heads capacity hash h some) ∙ e) in none from.place from.within from.bucket from.name_is

pub met : (nodes : List Node) (heads : List ℕ) (capacity : ℕ) (hash i : ℕ) (name : Name) → IsBuckets nodes heads capacity → 0 < length heads → i < length nodes → name_of (node_at nodes i) ≡ name →
    (node_at nodes i).hash % length heads ≡ hash % length heads → Contains (names_in (seen_in nodes heads) hash) name
met nodes heads capacity hash i name h some less is bucket =
    let size = length heads in
    subst (λ ns. Contains ns name) (sym (walk_names nodes heads capacity hash h some)) (subst (Contains (in_bucket size (hash % size) nodes (length nodes))) is (meets size (hash % size) nodes (length nodes) i less bucket))

-- a node more at the end, which isn't linked yet
pub Relinks-pushed : (nodes : List Node) (heads : List ℕ) (n : Node) → AreLinked (marks_of (length heads) nodes) nodes heads → Relinks (length nodes) (nodes ++ n ∷ []) heads
Relinks-pushed nodes heads n h =
    let size = length heads in
    let ms = marks_of size nodes in
    let more : marks_of size (nodes ++ n ∷ []) ≡ ms ++ n.hash % size ∷ [] = ap (buckets_of size) (map_push (λ (n : Node). row (name_of n) n.hash) nodes n) ∙ map_push (λ (r : Row Name ℕ). r.value % size) (rows_of nodes) (row (name_of n) n.hash) in
    let long = length-marks size nodes in
    let hole : set (marks_of size (nodes ++ n ∷ [])) (length nodes) size ≡ ms ++ size ∷ [] = ap (λ m. set m (length nodes) size) more ∙ set_at ms (n.hash % size) [] size (length nodes) long in
    let front : (k : ℕ) → k < length ms → get_or (ms ++ size ∷ []) k 0 ≡ get_or ms k 0 = λ k less. get_or_append_left ms (size ∷ []) 0 k less in
    let last : get_or (ms ++ size ∷ []) (length ms) 0 ≡ size = get_or_push ms size 0 (length ms) refl in
    let wider : length (ms ++ size ∷ []) ≡ length ms + 1 = length_push ms size in
    subst (λ m. AreLinked m (nodes ++ n ∷ []) heads) (sym hole) (record {
      all = wider ∙ ap (λ k. k + 1) long ∙ sym (length_push nodes n);
      linked = record {
        firsts = λ b below. let first = last_agree ms (ms ++ size ∷ []) b (length ms) _ front (h.linked.firsts b below) in
            subst (λ k. IsLastLink (ms ++ size ∷ []) b k (get_or heads b 0)) (sym wider) (record {
              within = omega (arith, first.within);
              there = first.there;
              last = λ k le less e. elim (cases_eq k (length ms)) [
                | inl at ↦ absurd (omega (arith, subst (λ i. get_or (ms ++ size ∷ []) i 0 ≡ size) (sym at) last))
                | inr off ↦ first.last k le (omega arith) e
              ];
            });
        nexts = λ k less linked.
            let off : k ≢ length ms = λ at. absurd (omega (arith, subst (λ i. get_or (ms ++ size ∷ []) i 0 ≡ size) (sym at) last)) in
            let under : k < length ms = omega arith in
            let link : get_or (links_of (nodes ++ n ∷ [])) k 0 ≡ get_or (links_of nodes) k 0 =
            ap (λ ls. get_or ls k 0) (map_push (λ (n : Node). n.next) nodes n) ∙ get_or_append_left (links_of nodes) (n.next ∷ []) 0 k (omega (arith, length-map nodes (λ (n : Node). n.next))) in
            rw (link, front k under) (last_agree ms (ms ++ size ∷ []) (get_or ms k 0) k _ (λ j lt. front j (omega arith)) (h.linked.nexts k under (omega (arith, front k under))));
      };
    })

-- a name that no row has comes to the end
IsOnce-pushed : (rows : List (Row Name ℕ)) (r : Row Name ℕ) → IsOnce (names rows) → (Contains (names rows) r.name → ⊥) → IsOnce (names (rows ++ r ∷ []))
IsOnce-pushed rows r once absent i j d low high e =
    let ns = names rows in
    let is : names (rows ++ r ∷ []) ≡ ns ++ r.name ∷ [] = map_push (λ (r : Row Name ℕ). r.name) rows r in
    let long : length (names (rows ++ r ∷ [])) ≡ length ns + 1 = ap length is ∙ length_push ns r.name in
    let front : (k : ℕ) → k < length ns → get_or (names (rows ++ r ∷ [])) k d ≡ get_or ns k d = λ k less. ap (λ l. get_or l k d) is ∙ get_or_append_left ns (r.name ∷ []) d k less in
    let last : get_or (names (rows ++ r ∷ [])) (length ns) d ≡ r.name = ap (λ l. get_or l (length ns) d) is ∙ get_or_push ns r.name d (length ns) refl in
    let none : (k : ℕ) → k < length ns → get_or ns k d ≢ r.name = λ k less at. absent (subst (Contains ns) at (Contains-get_or ns k d less)) in
    elim (cases_eq i (length ns)) [
      | inl at ↦ elim (cases_eq j (length ns)) [
        | inl also ↦ at ∙ sym also
        | inr off ↦ absurd (none j (omega arith) (sym (front j (omega arith)) ∙ sym e ∙ ap (λ k. get_or (names (rows ++ r ∷ [])) k d) at ∙ last))
      ]
      | inr apart ↦ elim (cases_eq j (length ns)) [
        | inl also ↦ absurd (none i (omega arith) (sym (front i (omega arith)) ∙ e ∙ ap (λ k. get_or (names (rows ++ r ∷ [])) k d) also ∙ last))
        | inr off ↦ once i j d (omega arith) (omega arith) (sym (front i (omega arith)) ∙ e ∙ front j (omega arith))
      ]
    ]

pub IsBuckets-added : (nodes after : List Node) (heads heads_after : List ℕ) (capacity capacity_after : ℕ) (name : Name) (hash : ℕ) → IsBuckets nodes heads capacity → length nodes < length heads → (Contains (names (reverse (rows_of nodes))) name → ⊥) →
    rows_of after ≡ rows_of nodes ++ row name hash ∷ [] → length heads_after ≡ length heads → capacity_after ≡ capacity → AreLinked (marks_of (length heads_after) after) after heads_after → IsBuckets after heads_after capacity_after
IsBuckets-added nodes after heads heads_after capacity capacity_after name hash h some absent rows wide room linked =
    let absent_there : Contains (names (rows_of nodes)) name → ⊥ = λ there. absent (Contains-permutation (names (rows_of nodes)) (names (reverse (rows_of nodes))) name
    (IsPermutation-map (λ (r : Row Name ℕ). r.name) (rows_of nodes) (reverse (rows_of nodes)) (IsPermutation-reverse (rows_of nodes))) there) in
    let long : length after ≡ length nodes + 1 = sym (length-rows after) ∙ ap length rows ∙ length_push (rows_of nodes) (row name hash) ∙ ap (λ n. n + 1) (length-rows nodes) in
    record {
      linked = linked;
      once = subst (λ rs. IsOnce (names rs)) (sym rows) (IsOnce-pushed (rows_of nodes) (row name hash) h.once absent_there);
      fits = omega arith;
      room = omega (arith, h.room);
      few = omega (arith, h.few);
      size = inr (elim h.size [ inl none ↦ absurd (omega (arith, ap length none)) | inr many ↦ omega arith ]);
      power = subst (λ n. (k : ℕ) × (max n 64 ≡ 8 * 2 ^ k)) (sym wide) h.power;
    }

pub IsBuckets-dropped : (nodes after : List Node) (heads heads_after : List ℕ) (capacity capacity_after : ℕ) (i : ℕ) → IsBuckets nodes heads capacity → i < length nodes → rows_of after ≡ swap_remove (rows_of nodes) i blank_row →
    length heads_after ≡ length heads → capacity_after ≡ capacity → AreLinked (marks_of (length heads_after) after) after heads_after → IsBuckets after heads_after capacity_after
IsBuckets-dropped nodes after heads heads_after capacity capacity_after i h less rows wide room linked =
    let many = length-rows nodes in
    let long : length after ≡ length nodes - 1 = sym (length-rows after) ∙ ap length rows ∙ length-swap_remove (rows_of nodes) i blank_row ∙ ap (λ n. n - 1) many in
    record {
      linked = linked;
      once = subst IsOnce (sym (ap names rows ∙ map-swap_remove (λ (r : Row Name ℕ). r.name) (rows_of nodes) i blank_row (name_of blank_node) (omega arith)))
          (IsOnce-swap_remove (names (rows_of nodes)) i (name_of blank_node) (omega (arith, length-names (rows_of nodes))) h.once);
      fits = omega (arith, h.fits);
      room = omega (arith, h.room);
      few = omega (arith, h.few);
      size = inr (elim h.size [ inl none ↦ absurd (omega (arith, h.fits, ap length none)) | inr many ↦ omega arith ]);
      power = subst (λ n. (k : ℕ) × (max n 64 ≡ 8 * 2 ^ k)) (sym wide) h.power;
    }

-- the pairs but for the one that went, in another order
pub dropped_is : (nodes after : List Node) (i : ℕ) (name : Name) (hash : ℕ) → i < length nodes → get_or (rows_of nodes) i blank_row ≡ row name hash → rows_of after ≡ swap_remove (rows_of nodes) i blank_row →
    IsPermutation (reverse (rows_of nodes)) (row name hash ∷ reverse (rows_of after))
dropped_is nodes after i name hash less is rows =
    let rs = rows_of nodes in
    let r = row name hash in
    let long = length-rows nodes in
    let at : r ≡ get_or rs i r = sym is ∙ get_or_default rs i blank_row r (omega arith) in
    let same : swap_remove rs i r ≡ rows_of after = ap (λ x. take (length rs - 1) (set rs i x)) (get_or_default rs (length rs - 1) r blank_row (omega arith)) ∙ sym rows in
    IsPermutation-trans (reverse rs) rs (r ∷ reverse (rows_of after)) (IsPermutation-sym rs (reverse rs) (IsPermutation-reverse rs))
    (IsPermutation-trans rs (r ∷ rows_of after) (r ∷ reverse (rows_of after)) (subst (λ l. IsPermutation rs (r ∷ l)) same (IsPermutation-swap_remove rs i r (omega arith) at)) (IsPermutation-cons r (rows_of after) (reverse (rows_of after)) (IsPermutation-reverse (rows_of after))))

pub pair_there : (nodes : List Node) (i : ℕ) (name : Name) (hash : ℕ) → i < length nodes → get_or (rows_of nodes) i blank_row ≡ row name hash → Contains (reverse (rows_of nodes)) (row name hash)
pair_there nodes i name hash less is =
    Contains-permutation (rows_of nodes) (reverse (rows_of nodes)) (row name hash) (IsPermutation-reverse (rows_of nodes)) (subst (Contains (rows_of nodes)) is (Contains-get_or (rows_of nodes) i blank_row (omega (arith, length-rows nodes))))

-- an equal list behind other memory: nothing is seen to change
pub IsBuckets-roomier : (nodes : List Node) (heads : List ℕ) (capacity more : ℕ) → capacity ≤ more → IsBuckets nodes heads capacity → IsBuckets nodes heads more
IsBuckets-roomier nodes heads capacity more le h = record { linked = h.linked; once = h.once; fits = h.fits; room = omega (arith, h.room); few = h.few; size = h.size; power = h.power }

-- no nodes, in buckets without any
pub AreLinked-none : (size : ℕ) (nodes : List Node) (heads : List ℕ) → nodes ≡ [] → ((b : ℕ) → b < length heads → get_or heads b 0 ≡ 0) → AreLinked (marks_of size nodes) nodes heads
AreLinked-none size nodes heads none zeros = rw none (record {
  all = refl;
  linked = record {
    firsts = λ b below. subst (λ t. IsLastLink [] b 0 t) (sym (zeros b below)) (record { within = omega arith; there = λ some. absurd (omega arith); last = λ k _ less. absurd (omega arith) });
    nexts = λ k less. absurd (omega arith);
  };
})

IsOnce-none : IsOnce []
IsOnce-none i j d low high e = absurd (omega arith)

pub IsBuckets-none : (nodes : List Node) (heads : List ℕ) (capacity : ℕ) → nodes ≡ [] → heads ≡ [] → IsBuckets nodes heads capacity
IsBuckets-none nodes heads capacity none empty = rw (none, empty) (record {
  linked = AreLinked-none 0 [] [] refl (λ b less. absurd (omega arith));
  once = IsOnce-none;
  fits = omega arith;
  room = omega arith;
  few = omega arith;
  size = inl refl;
  power = (3, refl);
})

pub IsBuckets-resized : (nodes after : List Node) (heads heads_after : List ℕ) (capacity more size : ℕ) → IsBuckets nodes heads capacity → rows_of after ≡ rows_of nodes → length heads_after ≡ size → length nodes ≤ size → size ≤ more → (64 ≤ size) × (size ≤ 2 ^ 30) →
    ((k : ℕ) × (size ≡ 8 * 2 ^ k)) → AreLinked (marks_of (length heads_after) after) after heads_after → IsBuckets after heads_after more
IsBuckets-resized nodes after heads heads_after capacity more size h rows long fits room few power linked = record {
  linked = linked;
  once = subst (λ rs. IsOnce (names rs)) (sym rows) h.once;
  fits = omega (arith, length-rows after, ap length rows, length-rows nodes);
  room = omega arith;
  few = omega (arith, few.1);
  size = inr (omega (arith, few.0));
  power = (power.0, max-eq_left {n = length heads_after} {m = 64} (omega (arith, few.0)) ∙ long ∙ power.1);
}
