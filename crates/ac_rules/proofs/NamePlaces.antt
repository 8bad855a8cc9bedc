-- Places of names: what stands there, and that they stay.
use Rattle.std.proofs.Common.{◌≡◌, ◌+◌, ◌<◌, ℕ, suc, arith, Bool, true, false, not, cond, List, [], ◌∷◌, ◌++◌, length, find, slice_get, is_some, option_map, Option, Some, None, refl, ap, ◌∙◌, true≢false}
use Rattle.std.specs.Prelude.{IsTrue}
use Rattle.std.specs.Str.{bytes_eq}
use Rattle.std.proofs.lemmas.Option.{none-some, slice_get_within}
use Rattle.std.proofs.lemmas.Slice.Eq.{bytes_eq-Decides}
use Rattle.ac_rules.specs.Scopes.{Meaning, Entry, entry, Scope, meaning_in}
use Rattle.ac_rules.specs.Faults.{is_in_scope}
use Rattle.ac_rules.specs.Resolved.{place_of}
use Rattle.ac_rules.proofs.Apart.{neither}

abbrev found_entry : Scope → List ℕ → Option Entry
found_entry scope name = find (λ (e : Entry). bytes_eq e.name name) scope

pub place_found : (scope : Scope) (name : List ℕ) (m : Meaning) → meaning_in scope name ≡ Some m → slice_get scope (place_of scope name) ≡ Some (entry name m)
place_found [] name m h = absurd (none-some m h)
place_found (e ∷ scope) name m h = by (bytes_eq e.name name) refl (place_found scope name m) h
  where
    by : (b : Bool) → bytes_eq e.name name ≡ b
        → (meaning_in scope name ≡ Some m → slice_get scope (place_of scope name) ≡ Some (entry name m))
        → option_map (λ (x : Entry). x.meaning) (cond b (Some e) (found_entry scope name)) ≡ Some m
        → slice_get (e ∷ scope) (cond (not b) (1 + place_of scope name) 0) ≡ Some (entry name m)
    by true t further is =
        let named : e.name ≡ name = (bytes_eq-Decides e.name name).0 t in
        let means : e.meaning ≡ m = cc in
        ap (λ n. Some (entry n e.meaning)) named ∙ ap (λ x. Some (entry name x)) means
    by false t further is =
        let next : 1 + place_of scope name ≡ suc (place_of scope name) = omega arith in
        ap (slice_get (e ∷ scope)) next ∙ further is

meaning_there : (o : Option Meaning) → is_some o ≡ true → (m : Meaning) × (o ≡ Some m)
meaning_there None h = neither h
meaning_there (Some m) h = (m, refl)

pub place_below : (scope : Scope) (name : List ℕ) → IsTrue (is_in_scope scope name) → place_of scope name < length scope
place_below scope name h =
    let there = meaning_there (meaning_in scope name) h in
    slice_get_within scope (place_of scope name) (entry name there.0) (place_found scope name there.0 there.1)

pub place_stays : (scope more : Scope) (name : List ℕ) → IsTrue (is_in_scope scope name) → place_of (scope ++ more) name ≡ place_of scope name
place_stays [] more name h = neither h
place_stays (e ∷ scope) more name h = by (bytes_eq e.name name) (place_stays scope more name) h
  where
    by : (b : Bool) → (IsTrue (is_in_scope scope name) → place_of (scope ++ more) name ≡ place_of scope name)
        → is_some (option_map (λ (x : Entry). x.meaning) (cond b (Some e) (found_entry scope name))) ≡ true
        → cond (not b) (1 + place_of (scope ++ more) name) 0 ≡ cond (not b) (1 + place_of scope name) 0
    by true further is = refl
    by false further is = ap (λ n. 1 + n) (further is)

pub place_new : (scope more : Scope) (name : List ℕ) (m : Meaning) → is_in_scope scope name ≡ false → place_of (scope ++ entry name m ∷ more) name ≡ length scope
place_new [] more name m h = ap (λ b. cond (not b) (1 + place_of more name) 0) ((bytes_eq-Decides name name).1 refl)
place_new (e ∷ scope) more name m h = by (bytes_eq e.name name) (place_new scope more name m) h
  where
    by : (b : Bool) → (is_in_scope scope name ≡ false → place_of (scope ++ entry name m ∷ more) name ≡ length scope)
        → is_some (option_map (λ (x : Entry). x.meaning) (cond b (Some e) (found_entry scope name))) ≡ false
        → cond (not b) (1 + place_of (scope ++ entry name m ∷ more) name) 0 ≡ suc (length scope)
    by true further is = absurd (true≢false is)
    by false further is = omega (arith, further is)
