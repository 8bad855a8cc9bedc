-- What stands for a part, by what stands for its own parts.
use Rattle.std.specs.Option.{option_map}
use Rattle.std.proofs.Common.{◌≡◌, ℕ, ℤ, Bool, true, false, List, [], ◌∷◌, map, Option, Some, None, refl, sym, ap, ◌∙◌, subst}
use Rattle.ac_base.specs.declared.value.Value.{Value}
use Rattle.ac_aggregate.specs.declared.oper.Comparison.{Comparison}
use Rattle.ac_aggregate.specs.declared.oper.Oper.{Oper}
use Rattle.ac_calls.specs.declared.plains.Plain.{Plain}
use Rattle.ac_aggregate.specs.Asked.{Asked, literal, text, name, group, product, sum, all_of, each, reduced, always, compares, both, negated}
use Rattle.ac_aggregate.specs.Generators.{Generator, generator}
use Rattle.ac_aggregate.specs.Plains.{elements}
use Rattle.ac_aggregate.specs.Settled.{names_of, names_none, StandsFor, is_reduction, IsSpelledAs}
use Rattle.ac_aggregate.specs.Values.{integer_in, as_value, spelled_integer, joined, product_of, sum_of, compared_by, both_of, negation_of, folded, kept, all_kept, value_of, truth_of, values_of, is_aggregate}
use Rattle.ac_aggregate.proofs.Closed.{closed}

pub itself : (ps : List Plain) (ws : List (List ℕ)) (made part : Asked) → made ≡ part → StandsFor ps ws made part
itself ps ws made part is =
    record {
      same = λ gs e. record { value = ap (λ q. value_of ps q gs) is; truth = ap (λ q. truth_of ps q gs) is; values = ap (λ q. values_of ps q gs) is };
      form = ap is_aggregate is;
    }

moved : (ps : List Plain) (ws : List (List ℕ)) (made other part : Asked) → made ≡ other → StandsFor ps ws other part → StandsFor ps ws made part
moved ps ws made other part is h = subst (λ q. StandsFor ps ws q part) (sym is) h

module _ (ps : List Plain) (ws : List (List ℕ)) where
  pub group_stands : (made e f : Asked) → made ≡ group e → StandsFor ps ws e f → StandsFor ps ws made (group f)
  unfolding value_of truth_of values_of
  group_stands made e f is h = moved ps ws made (group e) (group f) is
      (record { same = λ gs n. record { value = (h.same gs n).value; truth = refl; values = refl }; form = refl })

  pub negated_stands : (made c d : Asked) → made ≡ negated c → StandsFor ps ws c d → StandsFor ps ws made (negated d)
  unfolding value_of truth_of values_of
  negated_stands made c d is h = moved ps ws made (negated c) (negated d) is
      (record { same = λ gs n. record { value = refl; truth = ap negation_of (h.same gs n).truth; values = refl }; form = refl })

  pub product_stands : (made l r m s : Asked) → made ≡ product l r → StandsFor ps ws l m → StandsFor ps ws r s → StandsFor ps ws made (product m s)
  unfolding value_of truth_of values_of
  product_stands made l r m s is h k = moved ps ws made (product l r) (product m s) is
      (record { same = λ gs n. record { value = λ i. product_of ((h.same gs n).value i) ((k.same gs n).value i); truth = refl; values = refl }; form = refl })

  pub sum_stands : (minus : Bool) (made l r m s : Asked) → made ≡ sum l minus r → StandsFor ps ws l m → StandsFor ps ws r s → StandsFor ps ws made (sum m minus s)
  unfolding value_of truth_of values_of
  sum_stands minus made l r m s is h k = moved ps ws made (sum l minus r) (sum m minus s) is
      (record { same = λ gs n. record { value = λ i. sum_of minus ((h.same gs n).value i) ((k.same gs n).value i); truth = refl; values = refl }; form = refl })

  pub compares_stands : (by : Comparison) (made l r m s : Asked) → made ≡ compares l by r → StandsFor ps ws l m → StandsFor ps ws r s
      → StandsFor ps ws made (compares m by s)
  unfolding value_of truth_of values_of
  compares_stands by made l r m s is h k = moved ps ws made (compares l by r) (compares m by s) is
      (record { same = λ gs n. record { value = refl; truth = λ i. compared_by by ((h.same gs n).value i) ((k.same gs n).value i); values = refl }; form = refl })

  pub both_stand : (made l r m s : Asked) → made ≡ both l r → StandsFor ps ws l m → StandsFor ps ws r s → StandsFor ps ws made (both m s)
  unfolding value_of truth_of values_of
  both_stand made l r m s is h k = moved ps ws made (both l r) (both m s) is
      (record { same = λ gs n. record { value = refl; truth = λ i. both_of ((h.same gs n).truth i) ((k.same gs n).truth i); values = refl }; form = refl })

  pub reduced_stands : (by : Oper) (minus : Bool) (x : ℕ) (made s t : Asked) → made ≡ reduced s by minus x → StandsFor ps ws s t
      → StandsFor ps ws made (reduced t by minus x)
  unfolding value_of truth_of values_of
  reduced_stands by minus x made s t is h = moved ps ws made (reduced s by minus x) (reduced t by minus x) is
      (record {
        same = λ gs n. record { value = ap (λ vs. as_value (joined (folded by) (spelled_integer minus x) vs)) (h.same gs n).values; truth = refl; values = refl };
        form = refl;
      })

  pub each_stands : (own object : List ℕ) (made c e d f : Asked) → made ≡ each own object c e → StandsFor ps (own ∷ ws) c d → StandsFor ps (own ∷ ws) e f
      → StandsFor ps ws made (each own object d f)
  unfolding value_of truth_of values_of
  each_stands own object made c e d f is h k = moved ps ws made (each own object c e) (each own object d f) is
      (record {
        same = λ gs n. record {
          value = refl;
          truth = refl;
          values = λ i. all_kept (map (λ v. kept ((h.same (generator own v ∷ gs) (ap (λ ns. own ∷ ns) n)).truth i) ((k.same (generator own v ∷ gs) (ap (λ ns. own ∷ ns) n)).value i)) (elements ps object));
        };
        form = refl;
      })

-- a reduction that names none of the generators, for which a literal of its number stands

spelled_value : (ps : List Plain) (q : Asked) (z : Option ℤ) (gs : List (Generator Value)) → IsSpelledAs q z → value_of ps q gs ≡ as_value z
unfolding value_of truth_of values_of
spelled_value ps (literal minus n) z gs is = ap as_value is
spelled_value ps (text _) z gs is = absurd is
spelled_value ps (name _) z gs is = absurd is
spelled_value ps (group _) z gs is = absurd is
spelled_value ps (product _ _) z gs is = absurd is
spelled_value ps (sum _ _ _) z gs is = absurd is
spelled_value ps (all_of _) z gs is = absurd is
spelled_value ps (each _ _ _ _) z gs is = absurd is
spelled_value ps (reduced _ _ _ _) z gs is = absurd is
spelled_value ps always z gs is = absurd is
spelled_value ps (compares _ _ _) z gs is = absurd is
spelled_value ps (both _ _) z gs is = absurd is
spelled_value ps (negated _) z gs is = absurd is

-- it is no condition and no aggregate
record IsPlain (ps : List Plain) (q : Asked) (gs : List (Generator Value)) : Type 0 where
  pub truth : truth_of ps q gs ≡ Some true
  pub values : values_of ps q gs ≡ Some []
  pub form : is_aggregate q ≡ false

spelled_plain : (ps : List Plain) (q : Asked) (z : Option ℤ) (gs : List (Generator Value)) → IsSpelledAs q z → IsPlain ps q gs
unfolding value_of truth_of values_of
spelled_plain ps (literal minus n) z gs is = record { truth = refl; values = refl; form = refl }
spelled_plain ps (text _) z gs is = absurd is
spelled_plain ps (name _) z gs is = absurd is
spelled_plain ps (group _) z gs is = absurd is
spelled_plain ps (product _ _) z gs is = absurd is
spelled_plain ps (sum _ _ _) z gs is = absurd is
spelled_plain ps (all_of _) z gs is = absurd is
spelled_plain ps (each _ _ _ _) z gs is = absurd is
spelled_plain ps (reduced _ _ _ _) z gs is = absurd is
spelled_plain ps always z gs is = absurd is
spelled_plain ps (compares _ _ _) z gs is = absurd is
spelled_plain ps (both _ _) z gs is = absurd is
spelled_plain ps (negated _) z gs is = absurd is

reduced_plain : (ps : List Plain) (q : Asked) (gs : List (Generator Value)) → is_reduction q ≡ true → IsPlain ps q gs
unfolding value_of truth_of values_of
reduced_plain ps (literal _ _) gs is = absurd (cc is)
reduced_plain ps (text _) gs is = absurd (cc is)
reduced_plain ps (name _) gs is = absurd (cc is)
reduced_plain ps (group _) gs is = absurd (cc is)
reduced_plain ps (product _ _) gs is = absurd (cc is)
reduced_plain ps (sum _ _ _) gs is = absurd (cc is)
reduced_plain ps (all_of _) gs is = absurd (cc is)
reduced_plain ps (each _ _ _ _) gs is = absurd (cc is)
reduced_plain ps (reduced _ _ _ _) gs is = record { truth = refl; values = refl; form = refl }
reduced_plain ps always gs is = absurd (cc is)
reduced_plain ps (compares _ _ _) gs is = absurd (cc is)
reduced_plain ps (both _ _) gs is = absurd (cc is)
reduced_plain ps (negated _) gs is = absurd (cc is)

back : (z : Option ℤ) → as_value (option_map integer_in (as_value z)) ≡ as_value z
back None = refl
back (Some z) = refl

-- the value of a reduction is a number
number_back : (ps : List Plain) (q : Asked) (gs : List (Generator Value)) → is_reduction q ≡ true
    → as_value (option_map integer_in (value_of ps q gs)) ≡ value_of ps q gs
unfolding value_of truth_of values_of
number_back ps (literal _ _) gs is = absurd (cc is)
number_back ps (text _) gs is = absurd (cc is)
number_back ps (name _) gs is = absurd (cc is)
number_back ps (group _) gs is = absurd (cc is)
number_back ps (product _ _) gs is = absurd (cc is)
number_back ps (sum _ _ _) gs is = absurd (cc is)
number_back ps (all_of _) gs is = absurd (cc is)
number_back ps (each _ _ _ _) gs is = absurd (cc is)
number_back ps (reduced s by minus n) gs is = back (joined (folded by) (spelled_integer minus n) (values_of ps s gs))
number_back ps always gs is = absurd (cc is)
number_back ps (compares _ _ _) gs is = absurd (cc is)
number_back ps (both _ _) gs is = absurd (cc is)
number_back ps (negated _) gs is = absurd (cc is)

-- at any two values of the generators
closed_value : (ps : List Plain) (part : Asked) (gs hs : List (Generator Value)) → names_of gs ≡ names_of hs → names_none part (names_of hs) ≡ true
    → value_of ps part gs ≡ value_of ps part hs
closed_value ps part gs hs n none =
    (closed ps gs part (ap (names_none part) n ∙ none) []).value ∙ sym (closed ps hs part none []).value

pub known_stands : (ps : List Plain) (ws : List (List ℕ)) (found made part : Asked) (hs : List (Generator Value)) (v : Option Value) → is_reduction part ≡ true
    → names_of hs ≡ ws → StandsFor ps ws made part → true ≡ names_none part ws → v ≡ value_of ps made hs → IsSpelledAs found (option_map integer_in v)
    → StandsFor ps ws found part
known_stands ps ws found made part hs v is named stands none value spelled =
    let at_hs : v ≡ value_of ps part hs = value ∙ (stands.same hs named).value in
    let own : as_value (option_map integer_in v) ≡ value_of ps part hs
    = ap (λ v. as_value (option_map integer_in v)) at_hs ∙ number_back ps part hs is in
    record {
      same = λ gs n.
          let f = spelled_plain ps found (option_map integer_in v) gs spelled in
          let p = reduced_plain ps part gs is in
          record {
            value = spelled_value ps found (option_map integer_in v) gs spelled ∙ own ∙ sym (closed_value ps part gs hs (n ∙ sym named) (ap (names_none part) named ∙ sym none));
            truth = f.truth ∙ sym p.truth;
            values = f.values ∙ sym p.values;
          };
      form = (spelled_plain ps found (option_map integer_in v) [] spelled).form ∙ sym (reduced_plain ps part [] is).form;
    }
