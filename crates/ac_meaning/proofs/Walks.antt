-- A walk by Next or Previous meets each name.
use Rattle.std.proofs.Common.{◌≡◌, ◌==◌, ◌||◌, ◌++◌, ◌+◌, ◌≤◌, ℕ, zero, suc, Bool, true, false, not, List, [], ◌∷◌, length, reverse, slice_get, refl, sym, ap, ◌∙◌, append_assoc, arith, option_map, Option, Some, None, if◌then◌else◌}
use Rattle.std.proofs.lemmas.Option.{slice_get-map}
use Rattle.std.proofs.lemmas.List.{reverse-append, reverse-reverse}
use Rattle.ac_base.specs.FirstReason.{first_reason}
use Rattle.ac_base.specs.declared.reason.Reason.TheVariants.{ForeignCursor, DeadCursor}
use Rattle.ac_base.specs.Rows.{Row, names}
use Rattle.ac_model.specs.Rows.{place_of, is_named}
use Rattle.ac_model.specs.Objects.{Object, times}
use Rattle.ac_model.specs.Letters.{Mark, no_mark, mark_at, mark_for, mark_in, judged_in, reason_if}
use Rattle.ac_model.specs.Calls.{look}
use Rattle.ac_model.specs.Sequences.{mark_before}
use Rattle.ac_model.proofs.Moves.{times-named}
use Rattle.ac_meaning.specs.Walks.{first_mark, WalksInOrder}

head_or : ℕ → List ℕ → ℕ
head_or other [] = other
head_or other (x ∷ xs) = x

tail_of : List ℕ → List ℕ
tail_of [] = []
tail_of (x ∷ xs) = xs

either : (a c : Bool) → c ≡ true → (a || c) ≡ true
either true c h = refl
either false c h = h

pub named_there : {V : Type 0} (rows : List (Row ℕ V)) (before : List ℕ) (name : ℕ) (after : List ℕ) → names rows ≡ before ++ name ∷ after →
    is_named rows name ≡ true
unfolding head_or tail_of
named_there [] [] name after e = absurd (cc)
named_there [] (b ∷ bs) name after e = absurd (cc)
named_there (r ∷ rows) [] name after e = let p : r.name ≡ name = ap (head_or 0) e in grind (arith)
named_there (r ∷ rows) (b ∷ bs) name after e =
    either (r.name == name) (is_named rows name) (named_there rows bs name after (ap tail_of e))

place_step : {V : Type 0} (rows : List (Row ℕ V)) (name n : ℕ) (b : Bool) → (if b then 1 else 0) + times name rows ≤ 1 → 1 ≤ times name rows →
    place_of rows name ≡ n → (if b then 0 else suc (place_of rows name)) ≡ suc n
place_step rows name n true h k p = absurd (omega (arith, h, k))
place_step rows name n false h k p = ap suc p

place_there : {V : Type 0} (rows : List (Row ℕ V)) (before : List ℕ) (name : ℕ) (after : List ℕ) → names rows ≡ before ++ name ∷ after →
    times name rows ≤ 1 → place_of rows name ≡ length before
unfolding head_or tail_of
place_there [] [] name after e h = absurd (cc)
place_there [] (b ∷ bs) name after e h = absurd (cc)
place_there (r ∷ rows) [] name after e h = let p : r.name ≡ name = ap (head_or 0) e in grind (arith)
place_there (r ∷ rows) (b ∷ bs) name after e h =
    let t = times-named name rows (named_there rows bs name after (ap tail_of e)) in
    place_step rows name (length bs) (r.name == name) h t (place_there rows bs name after (ap tail_of e) (omega (arith, h)))

-- a cursor, by the name alone
mark_by : ℕ → Option ℕ → Mark
mark_by number None = no_mark
mark_by number (Some name) = mark_at number name

mark_by_name : {V : Type 0} (number : ℕ) (r : Option (Row ℕ V)) → mark_for number r ≡ mark_by number (option_map (λ (r : Row ℕ V). r.name) r)
unfolding mark_by
mark_by_name number None = refl
mark_by_name number (Some r) = refl

mark_in_names : {V : Type 0} (o : Object ℕ V) (place : ℕ) → mark_in o place ≡ mark_by o.number (slice_get (names o.rows) place)
mark_in_names o place =
    mark_by_name o.number (slice_get o.rows place) ∙ ap (mark_by o.number) (sym (slice_get-map (λ (r : Row ℕ _). r.name) o.rows place))

-- forwards: what stands behind the name
behind : (number : ℕ) (before : List ℕ) (name : ℕ) (after : List ℕ) →
    mark_by number (slice_get (before ++ name ∷ after) (length before + 1)) ≡ first_mark number after
unfolding mark_by
behind number [] name [] = refl
behind number [] name (x ∷ after) = refl
behind number (b ∷ bs) name after =
    let p : suc (length bs) + 1 ≡ suc (length bs + 1) = omega arith in
    ap (λ k. mark_by number (slice_get (b ∷ (bs ++ name ∷ after)) k)) p ∙ behind number bs name after

-- backwards: what stands before the place
before_by : ℕ → List ℕ → ℕ → Mark
before_by number names zero = no_mark
before_by number names (suc place) = mark_by number (slice_get names place)

mark_before_names : {V : Type 0} (o : Object ℕ V) (place : ℕ) → mark_before o place ≡ before_by o.number (names o.rows) place
unfolding before_by
mark_before_names o zero = refl
mark_before_names o (suc place) = mark_in_names o place

last_of : (xs : List ℕ) (x : ℕ) (ys : List ℕ) → slice_get (xs ++ x ∷ ys) (length xs) ≡ Some x
last_of [] x ys = refl
last_of (y ∷ xs) x ys = last_of xs x ys

length_last : (xs : List ℕ) (x : ℕ) → length (xs ++ x ∷ []) ≡ suc (length xs)
length_last [] x = refl
length_last (y ∷ xs) x = ap suc (length_last xs x)

in_front : (number : ℕ) (after ys : List ℕ) → before_by number (reverse after ++ ys) (length (reverse after)) ≡ first_mark number after
unfolding before_by mark_by
in_front number [] ys = refl
in_front number (x ∷ after) ys =
    let split : reverse (x ∷ after) ≡ reverse after ++ x ∷ [] = reverse-append (x ∷ []) after in
    ap (λ xs. before_by number (xs ++ ys) (length xs)) split
    ∙ (ap (λ n. before_by number ((reverse after ++ x ∷ []) ++ ys) n) (length_last (reverse after) x)
    ∙ ap (mark_by number) (ap (λ xs. slice_get xs (length (reverse after))) (append_assoc (reverse after) (x ∷ []) ys) ∙ last_of (reverse after) x ys))

-- the names in their own order, where a loop goes backwards over them
pub turned : (xs before : List ℕ) (name : ℕ) (after : List ℕ) → reverse xs ≡ before ++ name ∷ after → xs ≡ reverse after ++ name ∷ reverse before
turned xs before name after e =
    sym (reverse-reverse xs)
    ∙ (ap reverse e
    ∙ (reverse-append before (name ∷ after)
    ∙ (ap (λ ys. ys ++ reverse before) (reverse-append (name ∷ []) after) ∙ append_assoc (reverse after) (name ∷ []) (reverse before))))

judged : (n : ℕ) (b : Bool) → b ≡ true → first_reason (judged_in n n b ∷ []) ≡ None
judged n b h = go (n == n) b (grind (arith)) h
  where
    go : (t b : Bool) → t ≡ true → b ≡ true → first_reason ((if t then reason_if (not b) DeadCursor else Some ForeignCursor) ∷ []) ≡ None
    go true true h k = refl
    go true false h k = absurd (cc)
    go false b h k = absurd (cc)

pub walks : {V : Type 0} → WalksInOrder V
walks {V} o false before name after v e =
    let p = place_there o.rows before name after e (v.names_differ name) in
    let m : mark_in o (place_of o.rows name + 1) ≡ first_mark o.number after =
    mark_in_names o (place_of o.rows name + 1)
    ∙ (ap (λ k. mark_by o.number (slice_get (names o.rows) (k + 1))) p
    ∙ (ap (λ ns. mark_by o.number (slice_get ns (length before + 1))) e ∙ behind o.number before name after)) in
    let q = judged o.number (is_named o.rows name) (named_there o.rows before name after e) in
    λ i. look (q i) (m i)
walks {V} o true before name after v e =
    let f = turned (names o.rows) before name after e in
    let p = place_there o.rows (reverse after) name (reverse before) f (v.names_differ name) in
    let m : mark_before o (place_of o.rows name) ≡ first_mark o.number after =
    mark_before_names o (place_of o.rows name)
    ∙ (ap (λ k. before_by o.number (names o.rows) k) p
    ∙ (ap (λ ns. before_by o.number ns (length (reverse after))) f ∙ in_front o.number after (name ∷ reverse before))) in
    let q = judged o.number (is_named o.rows name) (named_there o.rows (reverse after) name (reverse before) f) in
    λ i. look (q i) (m i)
