-- The words of outlines, at a place that is known: lists of spots alone.
use Rattle.std.proofs.Common.{◌≡◌, ℕ, suc, ◌+◌, ◌<◌, ◌≤◌, false, true≢false, ◌||◌, List, [], ◌∷◌, ◌++◌, length, take, drop, reverse, filter, find, Some, refl, sym, ap, ◌∙◌, inl, inr, arith, eq-eqb, ne_eqb, add-one, one-add}
use Rattle.std.specs.Prelude.{◌==◌, nat_lt, slice_get, take_while}
use Rattle.std.specs.List.{prefix_len}
use Rattle.std.specs.Option.{option_map, unwrap_or}
use Rattle.std.proofs.lemmas.Bool.{cond-true, cond-false, cases_Bool, lt-ltb, le-ltb}
use Rattle.std.proofs.lemmas.List.{reverse-append}
use Rattle.std.proofs.Math.Seq.{take-append_seam, drop-append-add}
use Rattle.ac_model.specs.Outline.{Spot, spot_place, depth_at, run_at, children_at, parent_at, is_in}

-- all are deeper than this, and the first of these is no deeper
abbrev pub Deep : ℕ → List Spot → Type 0
Deep d [] = Unit {0}
Deep d (s ∷ some) = (d < s.depth) × Deep d some

abbrev pub Shallow : ℕ → List Spot → Type 0
Shallow d [] = Unit {0}
Shallow d (s ∷ some) = s.depth ≤ d

pub deep-append : (d : ℕ) (xs ys : List Spot) → Deep d xs → Deep d ys → Deep d (xs ++ ys)
deep-append d [] ys p q = q
deep-append d (x ∷ xs) ys p q = (p.0, deep-append d xs ys p.1 q)

pub deep_weaker : (d e : ℕ) (xs : List Spot) → d ≤ e → Deep e xs → Deep d xs
deep_weaker d e [] le h = tt
deep_weaker d e (x ∷ xs) le h = (let lt = h.0 in omega arith, deep_weaker d e xs le h.1)

pub out-append : (n : ℕ) (xs ys : List Spot) → is_in n xs ≡ false → is_in n ys ≡ false → is_in n (xs ++ ys) ≡ false
out-append n [] ys p q = q
out-append n (x ∷ xs) ys p q = elim (cases_Bool (x.name == n)) [
  | inl t ↦ absurd (true≢false (sym (ap (λ b. b || is_in n xs) t) ∙ p))
  | inr f ↦ ap (λ b. b || is_in n (xs ++ ys)) f ∙ out-append n xs ys (sym (ap (λ b. b || is_in n xs) f) ∙ p) q
]

pub place_is : (front : List Spot) (s : Spot) (rest : List Spot) → is_in s.name front ≡ false → spot_place (front ++ s ∷ rest) s.name ≡ length front
place_is [] s rest out = cond-true _ _ _ (eq-eqb s.name s.name refl)
place_is (f ∷ front) s rest out = elim (cases_Bool (f.name == s.name)) [
  | inl t ↦ absurd (true≢false (sym (ap (λ b. b || is_in s.name front) t) ∙ out))
  | inr n ↦ cond-false _ _ _ n ∙ ap suc (place_is front s rest (sym (ap (λ b. b || is_in s.name front) n) ∙ out))
]

pub get_seam : (front : List Spot) (s : Spot) (rest : List Spot) → slice_get (front ++ s ∷ rest) (length front) ≡ Some s
get_seam [] s rest = refl
get_seam (f ∷ front) s rest = get_seam front s rest

pub get_after : (front : List Spot) (s : Spot) (rest : List Spot) → slice_get (front ++ s ∷ rest) (suc (length front)) ≡ slice_get rest 0
get_after [] s [] = refl
get_after [] s (r ∷ rest) = refl
get_after (f ∷ front) s rest = get_after front s rest

prefix_is : (d : ℕ) (run tail : List Spot) → Deep d run → Shallow d tail → prefix_len (λ s. nat_lt d s.depth) (run ++ tail) ≡ length run
prefix_is d [] [] deep shallow = refl
prefix_is d [] (t ∷ tail) deep shallow = cond-false _ _ _ (le-ltb d t.depth shallow)
prefix_is d (r ∷ run) tail deep shallow =
    cond-true _ _ _ (lt-ltb d r.depth deep.0) ∙ one-add (prefix_len (λ s. nat_lt d s.depth) (run ++ tail)) ∙ ap suc (prefix_is d run tail deep.1 shallow)

-- a spot with what is below it
pub record Spotted (all : List Spot) (s : Spot) (front run tail : List Spot) : Type 0 where
  pub is : all ≡ front ++ s ∷ (run ++ tail)
  pub out : is_in s.name front ≡ false
  pub deep : Deep s.depth run
  pub shallow : Shallow s.depth tail

module _ (all : List Spot) (s : Spot) (front run tail : List Spot) (h : Spotted all s front run tail) where
  pub spot_at : spot_place all s.name ≡ length front
  spot_at = ap (λ k. spot_place k s.name) h.is ∙ place_is front s (run ++ tail) h.out

  depth_there : depth_at all (length front) ≡ s.depth
  depth_there = ap (λ k. unwrap_or (option_map (λ (q : Spot). q.depth) (slice_get k (length front))) 0) h.is ∙ ap (λ o. unwrap_or (option_map (λ (q : Spot). q.depth) o) 0) (get_seam front s (run ++ tail))

  pub depth_is : depth_at all (spot_place all s.name) ≡ s.depth
  depth_is = ap (depth_at all) spot_at ∙ depth_there

  behind : drop (length front + 1) all ≡ run ++ tail
  behind = ap (drop (length front + 1)) h.is ∙ drop-append-add front (s ∷ (run ++ tail)) 1

  pub run_is : run_at all (spot_place all s.name) ≡ run
  run_is =
      ap (run_at all) spot_at
      ∙ (λ i. take_while (λ q. nat_lt (depth_there i) q.depth) (behind i))
      ∙ ap (λ n. take n (run ++ tail)) (prefix_is s.depth run tail h.deep h.shallow)
      ∙ take-append_seam run tail

  pub children_are : children_at all (spot_place all s.name) ≡ filter (λ q. q.depth == s.depth + 1) run
  children_are = λ i. filter (λ q. q.depth == depth_is i + 1) (run_is i)

  pub parent_is : parent_at all (spot_place all s.name) ≡ find (λ q. q.depth + 1 == s.depth) (reverse front)
  parent_is =
      ap (parent_at all) spot_at
      ∙ (λ i. find (λ q. q.depth + 1 == depth_there i) (reverse (take (length front) (h.is i))))
      ∙ ap (λ k. find (λ q. q.depth + 1 == s.depth) (reverse k)) (take-append_seam front (s ∷ (run ++ tail)))

-- what stands round a spot in a list
pub next_is : (front : List Spot) (s : Spot) (rest : List Spot) → is_in s.name front ≡ false → slice_get (front ++ s ∷ rest) (spot_place (front ++ s ∷ rest) s.name + 1) ≡ slice_get rest 0
next_is front s rest out = ap (slice_get (front ++ s ∷ rest)) (add-one (spot_place (front ++ s ∷ rest) s.name) ∙ ap suc (place_is front s rest out)) ∙ get_after front s rest

pub last_is : (front : List Spot) (s : Spot) (rest : List Spot) → is_in s.name front ≡ false → slice_get (reverse (take (spot_place (front ++ s ∷ rest) s.name) (front ++ s ∷ rest))) 0 ≡ slice_get (reverse front) 0
last_is front s rest out = ap (λ n. slice_get (reverse (take n (front ++ s ∷ rest))) 0) (place_is front s rest out) ∙ ap (λ k. slice_get (reverse k) 0) (take-append_seam front (s ∷ rest))

-- none of the spots that are as deep as the place is its parent
pub find_past : (d : ℕ) (xs ys : List Spot) → Deep d xs → find (λ q. q.depth + 1 == d + 1) (reverse xs ++ ys) ≡ find (λ q. q.depth + 1 == d + 1) ys
find_past d [] ys deep = refl
find_past d (x ∷ xs) ys deep =
    ap (λ k. find (λ q. q.depth + 1 == d + 1) (k ++ ys)) (reverse-append (x ∷ []) xs)
    ∙ ap (λ k. find (λ q. q.depth + 1 == d + 1) k) (append_assoc_one (reverse xs) x ys)
    ∙ find_past d xs (x ∷ ys) deep.1
    ∙ cond-false _ _ _ (ne_eqb (x.depth + 1) (d + 1) (λ e. let lt = deep.0 in absurd (omega arith)))
  where
    append_assoc_one : (zs : List Spot) (x : Spot) (ys : List Spot) → (zs ++ x ∷ []) ++ ys ≡ zs ++ x ∷ ys
    append_assoc_one [] x ys = refl
    append_assoc_one (z ∷ zs) x ys = ap (λ k. z ∷ k) (append_assoc_one zs x ys)

pub filter_deep : (d : ℕ) (xs : List Spot) → Deep d xs → filter (λ q. q.depth == d) xs ≡ []
filter_deep d [] h = refl
filter_deep d (x ∷ xs) h = cond-false _ _ _ (ne_eqb x.depth d (λ e. let lt = h.0 in absurd (omega arith))) ∙ filter_deep d xs h.1
