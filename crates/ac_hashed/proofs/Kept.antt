-- What ties the buckets to the chain is kept by each change of both.
use Rattle.std.proofs.Common.{◌≡◌, ◌==◌, ◌↔◌, ◌||◌, ◌+◌, ◌-◌, ◌<◌, ℕ, zero, suc, Bool, true, false, true≢false, List, [], ◌∷◌, ◌++◌, Contains, Some, None, IsTrue, refl, sym, ap, ◌∙◌, subst, inl, inr, arith, eqb-true}
use Rattle.std.specs.Prelude.{◌&&◌, option_map}
use Rattle.std.proofs.Math.Nat.{add_comm}
use Rattle.std.specs.Bool.{OnTrue}
use Rattle.std.specs.List.{list_any, remove, slice_set, sum_by}
use Rattle.std.specs.List.Sorted.{IsPermutation}
use Rattle.std.specs.Cmp.{IsEquivalence}
use Rattle.std.proofs.lemmas.Bool.{cases_Bool}
use Rattle.std.proofs.lemmas.List.{map_push, set_at}
use Rattle.std.proofs.lemmas.List.Sums.{sum_by-cons, sum_by_push}
use Rattle.ac_base.specs.declared.name.Name.{Name}
use Rattle.ac_base.specs.Rows.{Row, row, names}
use Rattle.ac_buckets.specs.Pairs as buckets
use Rattle.ac_buckets.specs.Pairs.{Bucketed}
use Rattle.ac_chain.specs.Rows as chain
use Rattle.ac_chain.specs.Rows.{Chained, IsLive, IsSound, IsFresh, inserted, removed, value_of}
use Rattle.ac_pool.specs.NamedRows.{index_of, IsOnce}
use Rattle.ac_pool.proofs.Cuts.{Cut, has_live, remove-cut, once_gone}
use Rattle.ac_chain.proofs.Moves.{once_from}
use Rattle.ac_chain.proofs.Marks.{value_live}
use Rattle.ac_model.specs.Keyed.{by_arrival, another_is_like}
use Rattle.ac_model.specs.Letters.{is_same_name}
use Rattle.ac_model.specs.Objects.{plains}
use Rattle.ac_model.specs.Rows.{place_of}
use Rattle.ac_model.proofs.KeysDiffer.{Differ, insert_apart, differ_all_added, differ_cut, differ_replaced, differ_reordered}
use Rattle.ac_model.proofs.Moves.{found}
use Rattle.ac_setwork.specs.Indexed.{found_in}
use Rattle.ac_setwork.proofs.Found.{same_is, is_same, none_found, named_among}
use Rattle.ac_hashed.specs.Ties.{AsOften, AreTied, hashed}
use Rattle.ac_hashed.proofs.Standing.{live_there, once, row_cut}
use Rattle.ac_hashed.proofs.Shifts.{added_is, at_end, removed_is, written_is, reordered_is}
use Rattle.ac_hashed.proofs.Sums.{any_as_often, often_more, often_less, hashed_at, pair_of, is_pair, pair_there, name_there}

pub alike_keys : {K V : Type 0} {alike : K → K → Bool} → IsEquivalence alike → (key : V → K) → IsEquivalence {K = V} (λ v w. alike (key v) (key w))
alike_keys equal key = record {
  refl = λ v. equal.refl (key v);
  symm = λ v w. equal.symm (key v) (key w);
  congr = λ v w x. equal.congr (key v) (key w) (key x);
}

-- a pair that passes the test for it is among the pairs
pub pair_contained : (pairs : List (Row Name ℕ)) (a : Name) (h : ℕ) → list_any (is_pair a h) pairs ≡ true → Contains pairs (row a h)
pair_contained [] a h t = absurd (true≢false (sym t))
pair_contained (p ∷ pairs) a h t = elim (cases_Bool (is_pair a h p)) [
  | inl e ↦
      let name : p.name ≡ a = sym (same_is a p.name (left_true (is_same_name a p.name) (p.value == h) e)) in
      let value : p.value ≡ h = eqb-true p.value h (right_true (is_same_name a p.name) (p.value == h) e) in
      (0, omega arith, λ i. record { name = name i; value = value i })
  | inr n ↦
      let rest = pair_contained pairs a h (subst (λ b. (b || list_any (is_pair a h) pairs) ≡ true) n t) in
      (suc rest.0, omega (arith, rest.1), rest.2)
]
  where
    left_true : (b c : Bool) → (b && c) ≡ true → b ≡ true
    left_true true c e = refl
    left_true false c e = absurd (true≢false (sym e))

    right_true : (b c : Bool) → (b && c) ≡ true → c ≡ true
    right_true true c e = e
    right_true false c e = absurd (true≢false (sym e))

-- a name that is among the names of the pairs passes the test
name_passes : (pairs : List (Row Name ℕ)) (a : Name) → Contains (names pairs) a → list_any (λ (p : Row Name ℕ). is_same_name a p.name) pairs ≡ true
name_passes [] a h = absurd (omega (arith, h.1))
name_passes (p ∷ pairs) a (zero, less, e) = ap (λ b. b || list_any (λ (q : Row Name ℕ). is_same_name a q.name) pairs) (is_same a p.name (sym e))
name_passes (p ∷ pairs) a (suc k, less, e) = elim (cases_Bool (is_same_name a p.name)) [
  | inl t ↦ ap (λ b. b || list_any (λ (q : Row Name ℕ). is_same_name a q.name) pairs) t
  | inr f ↦ ap (λ b. b || list_any (λ (q : Row Name ℕ). is_same_name a q.name) pairs) f ∙ name_passes pairs a (k, omega (arith, less), e)
]

-- the pair that was there is gone
pub record IsDropped (a : Name) (h : ℕ) (b now : Bucketed) : Type 0 where
  pub moved : IsPermutation b.pairs (row a h ∷ now.pairs)
  pub spare : now.spare ≡ b.spare + 1

pub dropped : (a : Name) (h : ℕ) (b now : Bucketed) (result : Bool) → (IsTrue result ↔ Contains b.pairs (row a h)) → OnTrue result (IsPermutation b.pairs (row a h ∷ now.pairs))
    → OnTrue result ((now.size ≡ b.size) × (now.spare ≡ b.spare + 1)) → Contains b.pairs (row a h) → IsDropped a h b now
dropped a h b now result there gone room t =
    let is : result ≡ true = there.1 t in
    record {
      moved = subst (λ r. OnTrue r (IsPermutation b.pairs (row a h ∷ now.pairs))) is gone;
      spare = (subst (λ r. OnTrue r ((now.size ≡ b.size) × (now.spare ≡ b.spare + 1))) is room).1;
    }

module _ {V : Type 0} (hash : V → ℕ) (alike : V → V → Bool) (c : Chained V) (b : Bucketed) where
  -- a new name isn't in the buckets
  pub fresh_absent : AreTied hash alike c b → (a : Name) → IsFresh c a → Contains (names b.pairs) a → ⊥
  fresh_absent tied a fresh h = fresh.serials a (has_live a c.rows (name_there hash b.pairs c.rows a tied.pairs (name_passes b.pairs a h))) refl

  -- a row's pair is in them
  pub pair_in : AreTied hash alike c b → (a : Name) (v : V) → IsLive c a → Some v ≡ value_of c a → Contains b.pairs (row a (hash v))
  pair_in tied a v live e =
      let k = row_cut c a v live e in
      let rows : c.rows ≡ k.0.before ++ row a v ∷ k.0.after = k.0.is ∙ ap (λ r. k.0.before ++ r ∷ k.0.after) k.1 in
      pair_contained b.pairs a (hash v) (any_as_often (is_pair a (hash v)) b.pairs (hashed hash c.rows) tied.pairs
      (ap (λ rs. list_any (is_pair a (hash v)) (hashed hash rs)) rows ∙ pair_there hash k.0.before (row a v) k.0.after))

  -- the rows with the row in front stand for the pairs
  front : AreTied hash alike c b → (xs : List (Row Name V)) (r : Row Name V) (ys : List (Row Name V)) → c.rows ≡ xs ++ r ∷ ys → AsOften b.pairs (pair_of hash r ∷ hashed hash (xs ++ ys))
  front tied xs r ys rows weight = tied.pairs weight ∙ ap (λ rs. sum_by weight (hashed hash rs)) rows ∙ hashed_at hash xs r ys weight

  set_rows : (a : Name) (w : V) (k : Cut a c.rows) → (chain.with_value c a w).rows ≡ k.before ++ row a w ∷ k.after
  set_rows a w k = ap (λ rs. slice_set rs (index_of a c.rows) (row a w)) k.is ∙ set_at k.before k.at k.after (row a w) (index_of a c.rows) (sym k.place)

  -- a row more
  pub tied_added : IsEquivalence alike → AreTied hash alike c b → (now : Chained V) (after : Bucketed) (a : Name) (v : V) → found_in (λ w. alike w v) c.rows ≡ None → 0 < c.spare → IsFresh c a → now ≡ inserted c None (row a v) → IsSound now
      → after ≡ buckets.added b (row a (hash v)) → AreTied hash alike now after
  tied_added equal tied now after a v absent some fresh is sound put =
      let rows : now.rows ≡ c.rows ++ row a v ∷ [] = ap (λ (d : Chained V). d.rows) is ∙ at_end c.rows (row a v) in
      let spare : now.spare ≡ c.spare - 1 = ap (λ (d : Chained V). d.spare) is in
      let wide : after.spare ≡ b.spare - 1 = ap (λ (d : Bucketed). d.spare) put in
      let becomes = added_is alike c now a v tied.sound some fresh is in
      record {
        sound = sound;
        pairs = λ weight.
            ap (λ (d : Bucketed). sum_by weight d.pairs) put ∙ sum_by-cons weight (row a (hash v)) b.pairs ∙ ap (λ n. weight (row a (hash v)) + n) (tied.pairs weight)
            ∙ add_comm (weight (row a (hash v))) (sum_by weight (hashed hash c.rows)) ∙ sym (sum_by_push weight (hashed hash c.rows) (row a (hash v)))
            ∙ ap (sum_by weight) (sym (map_push (pair_of hash) c.rows (row a v))) ∙ ap (λ rs. sum_by weight (hashed hash rs)) (sym rows);
        room = omega (arith, tied.room);
        differ = subst (Differ alike) (sym becomes.plainly) (differ_all_added (by_arrival alike) (plains c.rows) c.next_serial (v ∷ []) (insert_apart alike equal (plains c.rows) v tied.differ (none_found (λ w. alike w v) c.rows absent)));
      }

  -- a row less
  pub tied_removed : AreTied hash alike c b → (now : Chained V) (after : Bucketed) (a : Name) (v : V) → IsLive c a → Some v ≡ value_of c a → now ≡ removed c a → IsSound now → IsDropped a (hash v) b after → AreTied hash alike now after
  tied_removed tied now after a v live e is sound gone =
      let k = row_cut c a v live e in let xs = k.0.before in let ys = k.0.after in
      let rows : c.rows ≡ xs ++ row a v ∷ ys = k.0.is ∙ ap (λ r. xs ++ r ∷ ys) k.1 in
      let left : now.rows ≡ xs ++ ys = ap (λ (d : Chained V). d.rows) is ∙ (λ i. remove (k.0.is i) (k.0.place i)) ∙ remove-cut xs k.0.at ys in
      let spare : now.spare ≡ c.spare + 1 = ap (λ (d : Chained V). d.spare) is in
      let becomes = removed_is c now a tied.sound live is sound in
      record {
        sound = sound;
        pairs = subst (λ rs. AsOften after.pairs (hashed hash rs)) (sym left) (often_less b.pairs after.pairs (hashed hash (xs ++ ys)) (row a (hash v)) gone.moved (front tied xs (row a v) ys rows));
        room = omega (arith, tied.room, gone.spare);
        differ = subst (Differ alike) (sym becomes.plainly) (differ_cut alike (plains c.rows) (place_of (plains c.rows) a.serial) 1 tied.differ);
      }

  -- another value under a name, with the same hash
  pub tied_written : AreTied hash alike c b → (a : Name) (v w : V) → IsLive c a → Some v ≡ value_of c a → hash v ≡ hash w → IsSound (chain.with_value c a w) → Differ alike (plains (chain.with_value c a w).rows) → AreTied hash alike (chain.with_value c a w) b
  tied_written tied a v w live e same sound differ =
      let k = row_cut c a v live e in let xs = k.0.before in let ys = k.0.after in
      let rows : c.rows ≡ xs ++ row a v ∷ ys = k.0.is ∙ ap (λ r. xs ++ r ∷ ys) k.1 in
      record {
        sound = sound;
        pairs = λ weight. front tied xs (row a v) ys rows weight ∙ ap (λ h. sum_by weight (row a h ∷ hashed hash (xs ++ ys))) same ∙ sym (hashed_at hash xs (row a w) ys weight) ∙ ap (λ rs. sum_by weight (hashed hash rs)) (sym (set_rows a w k.0));
        room = tied.room;
        differ = differ;
      }

  -- and with its pair anew
  pub tied_anew : AreTied hash alike c b → (without after : Bucketed) (a : Name) (v w : V) → IsLive c a → Some v ≡ value_of c a → IsDropped a (hash v) b without → after ≡ buckets.added without (row a (hash w)) → IsSound (chain.with_value c a w)
      → Differ alike (plains (chain.with_value c a w).rows) → AreTied hash alike (chain.with_value c a w) after
  tied_anew tied without after a v w live e gone put sound differ =
      let k = row_cut c a v live e in let xs = k.0.before in let ys = k.0.after in
      let rows : c.rows ≡ xs ++ row a v ∷ ys = k.0.is ∙ ap (λ r. xs ++ r ∷ ys) k.1 in
      let less = often_less b.pairs without.pairs (hashed hash (xs ++ ys)) (row a (hash v)) gone.moved (front tied xs (row a v) ys rows) in
      let wide : after.spare ≡ without.spare - 1 = ap (λ (d : Bucketed). d.spare) put in
      record {
        sound = sound;
        pairs = λ weight. ap (λ (d : Bucketed). sum_by weight d.pairs) put ∙ often_more without.pairs (hashed hash (xs ++ ys)) (row a (hash w)) less weight ∙ sym (hashed_at hash xs (row a w) ys weight) ∙ ap (λ rs. sum_by weight (hashed hash rs)) (sym (set_rows a w k.0));
        room = omega (arith, tied.room, gone.spare);
        differ = differ;
      }

  -- its name isn't in the buckets between
  pub gone_absent : AreTied hash alike c b → (without : Bucketed) (a : Name) (v : V) → IsLive c a → Some v ≡ value_of c a → IsDropped a (hash v) b without → Contains (names without.pairs) a → ⊥
  gone_absent tied without a v live e gone h =
      let k = row_cut c a v live e in let xs = k.0.before in let ys = k.0.after in
      let rows : c.rows ≡ xs ++ row a v ∷ ys = k.0.is ∙ ap (λ r. xs ++ r ∷ ys) k.1 in
      let less = often_less b.pairs without.pairs (hashed hash (xs ++ ys)) (row a (hash v)) gone.moved (front tied xs (row a v) ys rows) in
      once_gone xs (row a v) ys (subst IsOnce rows (once_from c.rows tied.sound.once)) (name_there hash without.pairs (xs ++ ys) a less (name_passes without.pairs a h))

  -- the rows' keys differ where an equivalent one is written, and where any is that no other has
  pub replaced_differ : IsEquivalence alike → AreTied hash alike c b → (a : Name) (v w : V) → IsLive c a → Some v ≡ value_of c a → alike v w ≡ true → Differ alike (plains (chain.with_value c a w).rows)
  replaced_differ equal tied a v w live e like =
      let becomes = written_is c (chain.with_value c a w) a w tied.sound live refl in
      let there = found a.serial (plains c.rows) (named_among a c.rows (live_there c a live)) in
      let value : Some there.0.value ≡ Some v = ap (option_map (λ (r : Row ℕ V). r.value)) (sym there.1) ∙ value_live c a tied.sound live ∙ sym e in
      let is : v ≡ there.0.value = cc in
      subst (Differ alike) (sym becomes.plainly) (differ_replaced alike equal (plains c.rows) a.serial w there.0 tied.differ (once c tied.sound a) there.1 (subst (λ u. alike u w ≡ true) is like))

  pub reordered_differ : IsEquivalence alike → AreTied hash alike c b → (a : Name) (w : V) → IsLive c a → another_is_like (by_arrival alike) (plains c.rows) a.serial w ≡ false → Differ alike (plains (chain.with_value c a w).rows)
  reordered_differ equal tied a w live only =
      let becomes = reordered_is alike c (chain.with_value c a w) a w tied.sound live refl in
      subst (Differ alike) (sym becomes.plainly) (differ_reordered (by_arrival alike) equal (plains c.rows) a.serial w tied.differ (once c tied.sound a) only)
