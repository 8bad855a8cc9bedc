-- The answer to a question, by what stands for it.
use Rattle.std.proofs.Common.{◌≡◌, Bool, true, false, List, [], map, Option, if◌then◌else◌, refl, sym, ap, ◌∙◌}
use Rattle.ac_base.specs.declared.value.Value.{Value}
use Rattle.ac_calls.specs.declared.plains.Plain.{Plain}
use Rattle.ac_aggregate.specs.Asked.{Asked, literal, text, name, group, product, sum, all_of, each, reduced, always, compares, both, negated}
use Rattle.ac_aggregate.specs.Plains.{elements}
use Rattle.ac_aggregate.specs.Settled.{StandsFor}
use Rattle.ac_aggregate.specs.Values.{value_of, truth_of, values_of, object_in, element_of, all_kept, is_aggregate, Answer, answers_listing, answers_number, ask_of}

abbrev pub given_all : List Plain → Asked → Option (List Value)
given_all ps q = all_kept (map (λ v. element_of ps q [] v) (elements ps (object_in q)))

given_is : (ps : List Plain) (q : Asked) → is_aggregate q ≡ true → values_of ps q [] ≡ given_all ps q
unfolding value_of truth_of values_of
given_is ps (literal _ _) is = absurd (cc is)
given_is ps (text _) is = absurd (cc is)
given_is ps (name _) is = absurd (cc is)
given_is ps (group _) is = absurd (cc is)
given_is ps (product _ _) is = absurd (cc is)
given_is ps (sum _ _ _) is = absurd (cc is)
given_is ps (all_of _) is = absurd (cc is)
given_is ps (each _ _ _ _) is = refl
given_is ps (reduced _ _ _ _) is = absurd (cc is)
given_is ps always is = absurd (cc is)
given_is ps (compares _ _ _) is = absurd (cc is)
given_is ps (both _ _) is = absurd (cc is)
given_is ps (negated _) is = absurd (cc is)

chosen : (b is : Bool) (x y : Answer) → b ≡ is → (if b then x else y) ≡ (if is then x else y)
chosen b is x y h = ap (λ b. if b then x else y) h

pub listed_is : (ps : List Plain) (made part : Asked) (found : Option (List Value)) (answer : Answer) → StandsFor ps [] made part → is_aggregate made ≡ true
    → found ≡ given_all ps made → answer ≡ answers_listing found → answer ≡ ask_of part ps
listed_is ps made part found answer stands is all told =
    told ∙ ap answers_listing (all ∙ sym (given_is ps made is) ∙ (stands.same [] refl).values)
    ∙ sym (chosen (is_aggregate part) true (answers_listing (values_of ps part [])) (answers_number (value_of ps part [])) (sym stands.form ∙ is))

pub numbered_is : (ps : List Plain) (made part : Asked) (found : Option Value) (answer : Answer) → StandsFor ps [] made part → is_aggregate made ≡ false
    → found ≡ value_of ps made [] → answer ≡ answers_number found → answer ≡ ask_of part ps
numbered_is ps made part found answer stands is value told =
    told ∙ ap answers_number (value ∙ (stands.same [] refl).value)
    ∙ sym (chosen (is_aggregate part) false (answers_listing (values_of ps part [])) (answers_number (value_of ps part [])) (sym stands.form ∙ is))
