-- Parts that name no generator come to the same whatever the generators' values.
use Rattle.std.specs.Prelude.{find}
use Rattle.std.specs.Option.{option_map}
use Rattle.std.specs.Str.{bytes_eq}
use Rattle.std.proofs.Common.{◌≡◌, ◌&&◌, ◌||◌, ℕ, Bool, true, false, not, List, [], ◌∷◌, ◌++◌, map, Option, Some, None, cond, refl, ap, ◌∙◌}
use Rattle.ac_base.specs.declared.value.Value.{Value}
use Rattle.ac_calls.specs.declared.plains.Plain.{Plain}
use Rattle.ac_aggregate.specs.Asked.{Asked, literal, text, name, group, product, sum, all_of, each, reduced, always, compares, both, negated}
use Rattle.ac_aggregate.specs.Generators.{Generator, generator, innermost}
use Rattle.ac_aggregate.specs.Plains.{elements}
use Rattle.ac_aggregate.specs.Settled.{names_of, is_among, names_none, AreSame}
use Rattle.ac_aggregate.specs.Values.{as_value, spelled_integer, joined, product_of, sum_of, compared_by, both_of, negation_of, folded, kept, all_kept, value_named, value_of, truth_of, values_of}

abbrev Env : Type 0
Env = List (Generator Value)

split_or : (a b : Bool) → (a || b) ≡ false → (a ≡ false) × (b ≡ false)
split_or true b h = absurd (cc h)
split_or false b h = (refl, h)

not_false : (b : Bool) → not b ≡ true → b ≡ false
not_false true h = absurd (cc h)
not_false false h = refl

and_parts : (a b : Bool) → (a && b) ≡ true → (a ≡ true) × (b ≡ true)
and_parts true b h = (refl, h)
and_parts false b h = absurd (cc h)

none_found : (outer : Env) (word : List ℕ) → is_among (names_of outer) word ≡ false → innermost outer word ≡ None
none_found [] word h = refl
none_found (g ∷ outer) word h =
    let parts = split_or (bytes_eq g.name word) (is_among (names_of outer) word) h in
    ap (λ b. option_map (λ (g : Generator Value). g.is) (cond b (Some g) (find (λ (g : Generator Value). bytes_eq g.name word) outer))) parts.0
    ∙ none_found outer word parts.1

found_by : (b : Bool) (g : Generator Value) (one other : Option (Generator Value)) → option_map (λ (g : Generator Value). g.is) one ≡ option_map (λ (g : Generator Value). g.is) other
    → option_map (λ (g : Generator Value). g.is) (cond b (Some g) one) ≡ option_map (λ (g : Generator Value). g.is) (cond b (Some g) other)
found_by true g one other h = refl
found_by false g one other h = h

found_within : (inner outer : Env) (word : List ℕ) → is_among (names_of outer) word ≡ false → innermost (inner ++ outer) word ≡ innermost inner word
found_within [] outer word h = none_found outer word h
found_within (g ∷ inner) outer word h =
    found_by (bytes_eq g.name word) g (find (λ (g : Generator Value). bytes_eq g.name word) (inner ++ outer)) (find (λ (g : Generator Value). bytes_eq g.name word) inner)
    (found_within inner outer word h)

-- a part that names none of the outer generators
pub closed : (ps : List Plain) (outer : Env) (e : Asked) → names_none e (names_of outer) ≡ true → (inner : Env) → AreSame ps e (inner ++ outer) e inner
unfolding value_of truth_of values_of
closed ps outer (literal minus n) h inner = record { value = refl; truth = refl; values = refl }
closed ps outer (text bytes) h inner = record { value = refl; truth = refl; values = refl }
closed ps outer (name word) h inner =
    record {
      value = ap (λ o. Some (value_named ps o word)) (found_within inner outer word (not_false (is_among (names_of outer) word) h));
      truth = refl;
      values = refl;
    }
closed ps outer (group e) h inner = record { value = (closed ps outer e h inner).value; truth = refl; values = refl }
closed ps outer (product l r) h inner =
    let parts = and_parts (names_none l (names_of outer)) (names_none r (names_of outer)) h in
    let left = (closed ps outer l parts.0 inner).value in
    let right = (closed ps outer r parts.1 inner).value in
    record { value = λ i. product_of (left i) (right i); truth = refl; values = refl }
closed ps outer (sum l minus r) h inner =
    let parts = and_parts (names_none l (names_of outer)) (names_none r (names_of outer)) h in
    let left = (closed ps outer l parts.0 inner).value in
    let right = (closed ps outer r parts.1 inner).value in
    record { value = λ i. sum_of minus (left i) (right i); truth = refl; values = refl }
closed ps outer (all_of word) h inner = record { value = refl; truth = refl; values = refl }
closed ps outer (each own object c e) h inner =
    let parts = and_parts (names_none c (names_of outer)) (names_none e (names_of outer)) h in
    record {
      value = refl;
      truth = refl;
      values = λ i. all_kept (map (λ v. kept ((closed ps outer c parts.0 (generator own v ∷ inner)).truth i) ((closed ps outer e parts.1 (generator own v ∷ inner)).value i)) (elements ps object));
    }
closed ps outer (reduced source by minus n) h inner =
    record { value = ap (λ vs. as_value (joined (folded by) (spelled_integer minus n) vs)) (closed ps outer source h inner).values; truth = refl; values = refl }
closed ps outer always h inner = record { value = refl; truth = refl; values = refl }
closed ps outer (compares l by r) h inner =
    let parts = and_parts (names_none l (names_of outer)) (names_none r (names_of outer)) h in
    let left = (closed ps outer l parts.0 inner).value in
    let right = (closed ps outer r parts.1 inner).value in
    record { value = refl; truth = λ i. compared_by by (left i) (right i); values = refl }
closed ps outer (both l r) h inner =
    let parts = and_parts (names_none l (names_of outer)) (names_none r (names_of outer)) h in
    let left = (closed ps outer l parts.0 inner).truth in
    let right = (closed ps outer r parts.1 inner).truth in
    record { value = refl; truth = λ i. both_of (left i) (right i); values = refl }
closed ps outer (negated c) h inner = record { value = refl; truth = ap negation_of (closed ps outer c h inner).truth; values = refl }
