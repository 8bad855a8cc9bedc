-- A search along the pairs with a hash.
use Rattle.std.proofs.Common.{◌≡◌, ◌==◌, ◌||◌, ◌≤◌, ◌-◌, ℕ, Bool, true, false, true≢false, [], ◌∷◌, ◌++◌, length, drop, Option, Some, None, IsTrue, refl, sym, ap, ◌∙◌, subst, inl, inr, arith}
use Rattle.std.specs.List.{list_any}
use Rattle.std.proofs.lemmas.Bool.{cases_Bool}
use Rattle.std.specs.Cmp.{IsEquivalence}
use Rattle.ac_base.proofs.Equivalences.{turned, chained}
use Rattle.ac_base.specs.declared.name.Name.{Name}
use Rattle.ac_base.specs.Rows.{Row, row}
use Rattle.ac_buckets.specs.declared.walk.Place.{Place}
use Rattle.ac_buckets.specs.Pairs.{Bucketed}
use Rattle.ac_buckets.specs.Places.{names_left, IsPlace, Begins, IsNext}
use Rattle.ac_chain.specs.Rows.{Chained, IsLive, value_of}
use Rattle.ac_pool.proofs.Cuts.{has_live}
use Rattle.ac_model.specs.Letters.{is_among, is_same_name}
use Rattle.ac_model.specs.Objects.{plains}
use Rattle.ac_model.proofs.Counts.{count, count_implied}
use Rattle.ac_setwork.specs.Indexed.{found_in}
use Rattle.ac_setwork.proofs.Found.{same_is, is_same}
use Rattle.ac_hashed.specs.Ties.{AreTied, hashed}
use Rattle.ac_hashed.proofs.Sums.{any_as_often, pair_there, pair_met, name_there, among_pass, any-drop, is_pair}
use Rattle.ac_hashed.proofs.Standing.{row_cut, alone_found, found_stands}

-- the key that is looked for has this hash: so has each row that has the key, and they are equivalent
pub record IsKey {V : Type 0} (hash : V → ℕ) (alike : V → V → Bool) (matches : V → Bool) (h : ℕ) : Type 0 where
  pub same_hash : (v : V) → matches v ≡ true → hash v ≡ h
  pub are_alike : (v w : V) → matches v ≡ true → matches w ≡ true → alike w v ≡ true

pub by_key : {K V : Type 0} {alike : K → K → Bool} {hash : K → ℕ} → IsEquivalence alike → ((x y : K) → IsTrue (alike x y) → hash x ≡ hash y) → (key : V → K) (k : K) → IsKey (λ v. hash (key v)) (λ v w. alike (key v) (key w)) (λ v. alike (key v) k) (hash k)
by_key equal hashes key k = record {
  same_hash = λ v t. hashes (key v) k t;
  are_alike = λ v w t u. chained equal (key w) k (key v) u (turned equal (key v) k t);
}

module _ {V : Type 0} (hash : V → ℕ) (alike : V → V → Bool) (matches : V → Bool) (h : ℕ) (c : Chained V) (b : Bucketed) where
  -- each row that has the key is still to be met
  pub record Seeking (count : ℕ) : Type 0 where
    pub stands : IsPlace b h count
    pub among : (a : Name) (v : V) → IsLive c a → Some v ≡ value_of c a → matches v ≡ true → is_among (names_left b h count) a ≡ true

  pub begun : AreTied hash alike c b → IsKey hash alike matches h → (place : Place) → Begins b h place → Seeking place.left
  begun tied key place start = record {
    stands = start.stands;
    among = λ a v live e t.
        let k = row_cut c a v live e in
        let rows : c.rows ≡ k.0.before ++ row a v ∷ k.0.after = k.0.is ∙ ap (λ r. k.0.before ++ r ∷ k.0.after) k.1 in
        let there : list_any (is_pair a (hash v)) (hashed hash c.rows) ≡ true = ap (λ rs. list_any (is_pair a (hash v)) (hashed hash rs)) rows ∙ pair_there hash k.0.before (row a v) k.0.after in
        let met = any_as_often (is_pair a (hash v)) b.pairs (hashed hash c.rows) tied.pairs there in
        subst (λ ns. is_among ns a ≡ true) (sym start.names) (pair_met b.pairs h a (subst (λ n. list_any (is_pair a n) b.pairs ≡ true) (key.same_hash v t) met));
  }

  -- the name at the place is a row's
  pub met_live : AreTied hash alike c b → (place next : Place) (name : Name) → IsNext b h place name next → IsLive c name
  met_live tied place next name step =
      let here : is_among (names_left b h place.left) name ≡ true = ap (λ ns. is_among ns name) step.names ∙ ap (λ t. t || is_among (names_left b h next.left) name) (is_same name name refl) in
      let left = among_pass (λ (r : Row Name ℕ). r.value == h) (drop (length b.pairs - place.left) b.pairs) name here in
      has_live name c.rows (name_there hash b.pairs c.rows name tied.pairs (any-drop (λ (p : Row Name ℕ). is_same_name name p.name) (length b.pairs - place.left) b.pairs left))

  -- the row at the place doesn't have the key
  pub passed_on : (place next : Place) (name : Name) (v : V) → Seeking place.left → IsNext b h place name next → Some v ≡ value_of c name → matches v ≡ false → Seeking next.left
  passed_on place next name v seeking step e off = record {
    stands = step.stands;
    among = λ a w live f t. elim (cases_Bool (is_same_name a name)) [
      | inl same ↦
          let at : Some w ≡ Some v = f ∙ ap (value_of c) (same_is a name same) ∙ sym e in
          let is : w ≡ v = cc in
          absurd (true≢false (sym t ∙ ap matches is ∙ off))
      | inr n ↦ subst (λ x. (x || is_among (names_left b h next.left) a) ≡ true) n (sym (ap (λ ns. is_among ns a) step.names) ∙ seeking.among a w live f t)
    ];
  }

  -- it has it
  pub hit : AreTied hash alike c b → IsKey hash alike matches h → (name : Name) (v : V) → IsLive c name → Some v ≡ value_of c name → matches v ≡ true → Some name ≡ found_in matches c.rows
  hit tied key name v live e t =
      let k = row_cut c name v live e in
      let rows : c.rows ≡ k.0.before ++ row name v ∷ k.0.after = k.0.is ∙ ap (λ r. k.0.before ++ r ∷ k.0.after) k.1 in
      let few : count matches (plains c.rows) ≤ 1 = omega (arith, count_implied matches (λ w. alike w v) (λ w u. key.are_alike v w t u) (plains c.rows), tied.differ v) in
      sym (ap (found_in matches) rows ∙ alone_found matches k.0.before (row name v) k.0.after t (subst (λ rs. count matches (plains rs) ≤ 1) rows few))

  -- no row has it
  pub missed : AreTied hash alike c b → (place : Place) → Seeking place.left → names_left b h place.left ≡ [] → None ≡ found_in matches c.rows
  missed tied place seeking none = by (found_in matches c.rows) refl
    where
      by : (f : Option Name) → found_in matches c.rows ≡ f → None ≡ f
      by None e = refl
      by (Some a) e =
          let one = found_stands matches c a tied.sound e in
          absurd (true≢false (sym (seeking.among a one.1.0 one.0 (sym one.1.1) one.1.2) ∙ ap (λ ns. is_among ns a) none))
