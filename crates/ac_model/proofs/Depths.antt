-- Lists of depths: what stays an outline where rows are cut or put.
use Rattle.std.proofs.Common.{◌≡◌, ◌+◌, ◌-◌, ◌≤◌, ◌<◌, ℕ, zero, suc, Bool, cond, true, false, ◌&&◌, List, [], ◌∷◌, ◌++◌, take, drop, map, refl, arith, one-add}
use Rattle.std.specs.Prelude.{nat_le, nat_lt}
use Rattle.std.specs.List.{prefix_len}
use Rattle.std.proofs.lemmas.Bool.Decides.{nat_tests}
use Rattle.ac_model.specs.Outline.{follows}

pub and_left : (a b : Bool) → (a && b) ≡ true → a ≡ true
and_left true b h = refl
and_left false b h = cc

pub and_right : (a b : Bool) → (a && b) ≡ true → b ≡ true
and_right true b h = h
and_right false b h = cc

pub both_true : (a b : Bool) → a ≡ true → b ≡ true → (a && b) ≡ true
both_true a b h k = rw h k

is_le : (a b : ℕ) → nat_le a b ≡ true → a ≤ b
is_le a b h = grind (arith, nat_tests)

le_is : (a b : ℕ) → a ≤ b → nat_le a b ≡ true
le_is a b h = grind (arith, nat_tests)

pub is_lt : (a b : ℕ) → nat_lt a b ≡ true → a < b
is_lt a b h = grind (arith, nat_tests)

pub not_lt : (a b : ℕ) → nat_lt a b ≡ false → b ≤ a
not_lt a b h = grind (arith, nat_tests)

-- the parts of `follows` at a first depth
pub record First (before depth : ℕ) (rest : List ℕ) : Type 0 where
  pub from : 2 ≤ depth
  pub to : depth ≤ before + 1
  pub later : follows depth rest ≡ true

pub first_of : (before depth : ℕ) (rest : List ℕ) → follows before (depth ∷ rest) ≡ true → First before depth rest
first_of before depth rest h =
    let both = and_left (nat_le 2 depth && nat_le depth (before + 1)) (follows depth rest) h in
    record {
      from = is_le 2 depth (and_left (nat_le 2 depth) (nat_le depth (before + 1)) both);
      to = is_le depth (before + 1) (and_right (nat_le 2 depth) (nat_le depth (before + 1)) both);
      later = and_right (nat_le 2 depth && nat_le depth (before + 1)) (follows depth rest) h;
    }

pub follows_from : (before depth : ℕ) (rest : List ℕ) → 2 ≤ depth → depth ≤ before + 1 → follows depth rest ≡ true → follows before (depth ∷ rest) ≡ true
follows_from before depth rest two most later =
    both_true (nat_le 2 depth && nat_le depth (before + 1)) (follows depth rest) (both_true (nat_le 2 depth) (nat_le depth (before + 1)) (le_is 2 depth two) (le_is depth (before + 1) most)) later

-- the last depth, or the one before the list
abbrev pub ends : ℕ → List ℕ → ℕ
ends before [] = before
ends before (d ∷ ds) = ends d ds

pub ends-append : (before : ℕ) (xs ys : List ℕ) → ends before (xs ++ ys) ≡ ends (ends before xs) ys
ends-append before [] ys = refl
ends-append before (x ∷ xs) ys = ends-append x xs ys

pub follows_front : (before : ℕ) (xs ys : List ℕ) → follows before (xs ++ ys) ≡ true → follows before xs ≡ true
follows_front before [] ys h = refl
follows_front before (x ∷ xs) ys h = let f = first_of before x (xs ++ ys) h in follows_from before x xs f.from f.to (follows_front x xs ys f.later)

pub follows_back : (before : ℕ) (xs ys : List ℕ) → follows before (xs ++ ys) ≡ true → follows (ends before xs) ys ≡ true
follows_back before [] ys h = h
follows_back before (x ∷ xs) ys h = let f = first_of before x (xs ++ ys) h in follows_back x xs ys f.later

pub follows_both : (before : ℕ) (xs ys : List ℕ) → follows before xs ≡ true → follows (ends before xs) ys ≡ true → follows before (xs ++ ys) ≡ true
follows_both before [] ys h k = k
follows_both before (x ∷ xs) ys h k = let f = first_of before x xs h in follows_from before x (xs ++ ys) f.from f.to (follows_both x xs ys f.later k)

-- the first depth, if there is one, is at most this
abbrev pub HeadAtMost : ℕ → List ℕ → Type 0
HeadAtMost most [] = Unit {0}
HeadAtMost most (d ∷ ds) = d ≤ most

-- what follows one depth follows another from which its first is reached
pub follows_after : (before other : ℕ) (ds : List ℕ) → follows before ds ≡ true → HeadAtMost (other + 1) ds → follows other ds ≡ true
follows_after before other [] h most = refl
follows_after before other (d ∷ ds) h most = let f = first_of before d ds h in follows_from other d ds f.from most f.later

pub head_follows : (before : ℕ) (ds : List ℕ) → follows before ds ≡ true → HeadAtMost (before + 1) ds
head_follows before [] h = tt
head_follows before (d ∷ ds) h = (first_of before d ds h).to

pub head_weaker : (m n : ℕ) (ds : List ℕ) → m ≤ n → HeadAtMost m ds → HeadAtMost n ds
head_weaker m n [] le h = tt
head_weaker m n (d ∷ ds) le h = omega arith

-- all depths are at least this
abbrev pub AllFrom : ℕ → List ℕ → Type 0
AllFrom least [] = Unit {0}
AllFrom least (d ∷ ds) = (least ≤ d) × AllFrom least ds

pub ends_from : (least before : ℕ) (ds : List ℕ) → least ≤ before → AllFrom least ds → least ≤ ends before ds
ends_from least before [] h all = h
ends_from least before (d ∷ ds) h all = ends_from least d ds all.0 all.1

pub all_take : (least n : ℕ) (ds : List ℕ) → AllFrom least ds → AllFrom least (take n ds)
all_take least zero ds h = tt
all_take least (suc n) [] h = tt
all_take least (suc n) (d ∷ ds) h = (h.0, all_take least n ds h.1)

-- a run: what is deeper, and then something that isn't
run_step : (top d : ℕ) (ds : List ℕ) (b : Bool) → nat_lt top d ≡ b → AllFrom (top + 1) (take (prefix_len (λ e. nat_lt top e) ds) ds) → AllFrom (top + 1) (take (cond b (1 + prefix_len (λ e. nat_lt top e) ds) 0) (d ∷ ds))
run_step top d ds true e h = rw (one-add (prefix_len (λ x. nat_lt top x) ds)) (let deep : top < d = is_lt top d e in omega arith, h)
run_step top d ds false e h = tt

pub run_deeper : (top : ℕ) (ds : List ℕ) → AllFrom (top + 1) (take (prefix_len (λ e. nat_lt top e) ds) ds)
run_deeper top [] = tt
run_deeper top (d ∷ ds) = run_step top d ds (nat_lt top d) refl (run_deeper top ds)

end_step : (top d : ℕ) (ds : List ℕ) (b : Bool) → nat_lt top d ≡ b → HeadAtMost top (drop (prefix_len (λ e. nat_lt top e) ds) ds) → HeadAtMost top (drop (cond b (1 + prefix_len (λ e. nat_lt top e) ds) 0) (d ∷ ds))
end_step top d ds true e h = rw (one-add (prefix_len (λ x. nat_lt top x) ds)) h
end_step top d ds false e h = not_lt top d e

pub run_ends : (top : ℕ) (ds : List ℕ) → HeadAtMost top (drop (prefix_len (λ e. nat_lt top e) ds) ds)
run_ends top [] = tt
run_ends top (d ∷ ds) = end_step top d ds (nat_lt top d) refl (run_ends top ds)

-- rows put at a place: children of a node of depth `top`, each below it, before a row that isn't deeper than they are
after_put : (top before : ℕ) (more rest : List ℕ) → follows before more ≡ true → AllFrom (top + 1) more → HeadAtMost (top + 1) rest → follows before rest ≡ true → follows (ends before more) rest ≡ true
after_put top before [] rest h all most k = k
after_put top before (m ∷ more) rest h all most k =
    follows_after before (ends m more) rest k (head_weaker (top + 1) (ends m more + 1) rest (let e : top + 1 ≤ ends m more = ends_from (top + 1) m more all.0 all.1 in omega arith) most)

pub put_follows : (top : ℕ) (front more rest : List ℕ) → follows 1 (front ++ rest) ≡ true → top ≤ ends 1 front → follows top more ≡ true → AllFrom (top + 1) more → HeadAtMost (top + 1) rest →
    follows 1 (front ++ more ++ rest) ≡ true
put_follows top front more rest h reach inside all most =
    let started = follows_front 1 front rest h in
    let at = follows_back 1 front rest h in
    let next : follows (ends 1 front) more ≡ true = follows_after top (ends 1 front) more inside (head_weaker (top + 1) (ends 1 front + 1) more (omega arith) (head_follows top more inside)) in
    follows_both 1 (front ++ more) rest (follows_both 1 front more started next)
    (rw (ends-append 1 front more) (after_put top (ends 1 front) more rest next all most at))

-- rows cut from a place: what stands after them isn't deeper than one more than what stands before
pub cut_follows : (front gone rest : List ℕ) → follows 1 (front ++ gone ++ rest) ≡ true → HeadAtMost (ends 1 front + 1) rest → follows 1 (front ++ rest) ≡ true
cut_follows front gone rest h most =
    follows_both 1 front rest (follows_front 1 front gone (follows_front 1 (front ++ gone) rest h))
    (follows_after (ends 1 (front ++ gone)) (ends 1 front) rest (follows_back 1 (front ++ gone) rest h) most)

-- a list of depths, all changed by one amount
pub shifted_follows : (from to before : ℕ) (ds : List ℕ) → 2 ≤ to → from ≤ before + 1 → AllFrom from ds → follows before ds ≡ true → follows (before + to - from) (map (λ d. d + to - from) ds) ≡ true
shifted_follows from to before [] two reach all h = refl
shifted_follows from to before (d ∷ ds) two reach all h =
    let f = first_of before d ds h in
    follows_from (before + to - from) (d + to - from) (map (λ e. e + to - from) ds) (let e = all.0 in omega arith) (let e = all.0 in let g = f.to in omega arith)
    (shifted_follows from to d ds two (let e = all.0 in omega arith) all.1 f.later)

pub shifted_from : (from to : ℕ) (ds : List ℕ) → AllFrom from ds → AllFrom to (map (λ d. d + to - from) ds)
shifted_from from to [] h = tt
shifted_from from to (d ∷ ds) h = (let e = h.0 in omega arith, shifted_from from to ds h.1)
