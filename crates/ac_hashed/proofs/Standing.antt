-- A chain's rows as an index has them: names that stand there, what is under them, and the one that a test finds.
use Rattle.std.proofs.Common.{◌≡◌, ◌+◌, ◌-◌, ◌≤◌, ℕ, zero, suc, Bool, true, false, true≢false, List, [], ◌∷◌, ◌++◌, length, Some, IsTrue, refl, sym, ap, ◌∙◌, arith}
use Rattle.std.specs.Prelude.{slice_get, option_map, if◌then◌else◌}
use Rattle.ac_base.specs.declared.name.Name.{Name}
use Rattle.ac_base.specs.Rows.{Row, row}
use Rattle.ac_chain.specs.Rows.{Chained, IsLive, IsSound, next_name, prev_name, value_of}
use Rattle.ac_pool.specs.NamedRows.{index_of, name_before}
use Rattle.ac_pool.proofs.Cuts.{Cut, cut, cut-row, live_has, has_live}
use Rattle.ac_chain.proofs.Moves.{once_from}
use Rattle.ac_chain.proofs.Marks.{among_has, has_among, place_live, value_live}
use Rattle.ac_chain.proofs.Valid.{times_once}
use Rattle.ac_model.specs.Objects.{plains, plain_row, times}
use Rattle.ac_model.proofs.Counts.{count, count-append, count-cons, found_is_named}
use Rattle.ac_model.proofs.Plains.{plains-append}
use Rattle.ac_model.proofs.RowLaws.{found_matches}
use Rattle.ac_setwork.specs.Ends as ends
use Rattle.ac_setwork.specs.Indexed as index
use Rattle.ac_setwork.specs.Indexed.{found_in}
use Rattle.ac_setwork.proofs.Found.{among_found, row_named}
use Rattle.ac_hashed.specs.Ties.{seen_in}

bool_is : (a b : Bool) → (IsTrue a → IsTrue b) → (IsTrue b → IsTrue a) → a ≡ b
bool_is true true f g = refl
bool_is false false f g = refl
bool_is true false f g = absurd (true≢false (sym (f refl)))
bool_is false true f g = absurd (true≢false (sym (g refl)))

module _ {V : Type 0} (c : Chained V) where
  pub there_live : (a : Name) → IsTrue (index.is_there (seen_in c) a) → IsLive c a
  there_live a t = has_live a c.rows (among_has a c.rows t)

  pub live_there : (a : Name) → IsLive c a → IsTrue (index.is_there (seen_in c) a)
  live_there a live = has_among a c.rows (live_has a c.rows live)

  pub there_is : (a : Name) (b : Bool) → (IsTrue b → IsLive c a) → (IsLive c a → IsTrue b) → b ≡ index.is_there (seen_in c) a
  there_is a b f g = bool_is b (index.is_there (seen_in c) a) (λ t. live_there a (f t)) (λ t. g (there_live a t))

  pub once : IsSound c → (a : Name) → times a.serial (plains c.rows) ≤ 1
  once s a = times_once a.serial c.rows (once_from c.rows s.once) (λ b d t q e. s.serials b d (has_live b c.rows t) (has_live d c.rows q) e)

  -- the name after a row's
  pub after_is : (a : Name) → IsSound c → IsLive c a → next_name c a ≡ index.name_after (seen_in c) a
  after_is a s live = ap (λ i. option_map (λ (r : Row Name V). r.name) (slice_get c.rows (i + 1))) (sym (place_live c a s live))

  -- the name before a row's, and the last one
  up_to_is : (i : ℕ) → name_before c.rows i ≡ ends.name_up_to (seen_in c) i
  up_to_is zero = refl
  up_to_is (suc i) = refl

  pub before_is : (a : Name) → IsSound c → IsLive c a → prev_name c a ≡ ends.name_before (seen_in c) a
  before_is a s live = up_to_is (index_of a c.rows) ∙ ap (ends.name_up_to (seen_in c)) (sym (place_live c a s live))

  last_in : (rows : List (Row Name V)) → name_before rows (length rows) ≡ option_map (λ (r : Row Name V). r.name) (slice_get rows (length rows - 1))
  last_in [] = refl
  last_in (r ∷ rows) = let e : length rows ≡ length (r ∷ rows) - 1 = omega arith in ap (λ i. option_map (λ (q : Row Name V). q.name) (slice_get (r ∷ rows) i)) e

  pub last_is : name_before c.rows (length c.rows) ≡ ends.last_name (seen_in c)
  last_is = last_in c.rows

  pub value_is : (a : Name) (v : V) → IsSound c → IsLive c a → Some v ≡ value_of c a → index.value_of (seen_in c) a ≡ Some v
  value_is a v s live e = value_live c a s live ∙ sym e

  -- the row that stands under the name
  pub row_cut : (a : Name) (v : V) → IsLive c a → Some v ≡ value_of c a → (k : Cut a c.rows) × (k.at ≡ row a v)
  row_cut a v live e =
      let k = cut a c.rows (live_has a c.rows live) in
      let got : Some v ≡ Some k.at.value = e ∙ ap (option_map (λ (r : Row Name V). r.value)) (cut-row a c.rows k) in
      let value : v ≡ k.at.value = cc in
      (k, λ i. record { name = sym k.named i; value = sym value i })

one_there : (b : Bool) (m : ℕ) → (if b then 1 else 0) + suc m ≤ 1 → b ≡ false
one_there true m h = absurd (omega (arith, h))
one_there false m h = refl

module _ {V : Type 0} (matches : V → Bool) where
  -- where one row alone passes the test, it is found
  pub alone_found : (xs : List (Row Name V)) (r : Row Name V) (ys : List (Row Name V)) → matches r.value ≡ true → count matches (plains (xs ++ r ∷ ys)) ≤ 1 → found_in matches (xs ++ r ∷ ys) ≡ Some r.name
  alone_found [] r ys t few = simp t
  alone_found (x ∷ xs) r ys t few =
      let all = count-cons matches (plain_row x) (plains (xs ++ r ∷ ys)) in
      let rest : count matches (plains (xs ++ r ∷ ys)) ≡ suc (count matches (plains xs) + count matches (plains ys)) =
      let split = ap (count matches) (plains-append xs (r ∷ ys)) ∙ count-append matches (plains xs) (plains (r ∷ ys)) in
      let own = count-cons matches (plain_row r) (plains ys) in
      let one : ◌≡◌ {A = ℕ} (if matches r.value then 1 else 0) 1 = ap (λ b. if b then 1 else 0) t in
      omega (arith, split, own, one) in
      let off : matches x.value ≡ false = one_there (matches x.value) (count matches (plains xs) + count matches (plains ys)) (omega (arith, few, all, rest)) in
      let fewer : count matches (plains (xs ++ r ∷ ys)) ≤ 1 = omega (arith, few, all) in
      let again = alone_found xs r ys t fewer in
      simp off again

  -- what is found stands there and passes the test
  pub found_stands : (c : Chained V) (a : Name) → IsSound c → found_in matches c.rows ≡ Some a → IsLive c a × ((v : V) × (value_of c a ≡ Some v) × (matches v ≡ true))
  found_stands c a s f =
      let live = has_live a c.rows (among_has a c.rows (among_found matches c.rows a f)) in
      let one = row_named matches c.rows a f in
      let passes = found_matches matches (plains c.rows) (row a.serial one.0) one.1 in
      let named = found_is_named matches (plains c.rows) (row a.serial one.0) one.1 (once c s a) in
      (live, (one.0, sym (value_live c a s live) ∙ ap (option_map (λ (r : Row ℕ V). r.value)) named, passes))
