-- One step of reading.
use Rattle.std.proofs.Common.{◌≡◌, ◌-◌, ℕ, zero, suc, List, ap, refl, arith}
use Rattle.ac_syntax.specs.declared.token.Token.{Token}
use Rattle.ac_aggregate.specs.Asked.{Asked}
use Rattle.ac_aggregate.specs.Outcomes.{Outcome, got, stuck, Reader, onward, either}
use Rattle.ac_aggregate.specs.Reading.{Rule, read_rule, read_by}

one_less : (n : ℕ) → (n ≡ 0 → ⊥) → n ≡ suc (n - 1)
one_less zero h = absurd (h refl)
one_less (suc n) h = omega arith

-- where there are steps, one is made
pub stepped : (n : ℕ) (rule : Rule) (ts : List Token) → (n ≡ 0 → ⊥) → read_by n rule ts ≡ read_rule (read_by (n - 1)) rule ts
unfolding read_by
stepped n rule ts some = ap (λ k. read_by k rule ts) (one_less n some)

pub behind : {A B : Type 0} (o : Outcome A) (x : A) (rest : List Token) (next : A → Reader B) → o ≡ got x rest → onward o next ≡ next x rest
behind o x rest next h = ap (λ o. onward o next) h

pub taken : {A B : Type 0} (o : Outcome A) (x : A) (rest : List Token) (next : A → Reader B) (other : Reader B) (ts : List Token)
    → o ≡ got x rest → either o next other ts ≡ next x rest
taken o x rest next other ts h = ap (λ o. either o next other ts) h

pub left : {A B : Type 0} (o : Outcome A) (next : A → Reader B) (other : Reader B) (ts : List Token) → o ≡ stuck → either o next other ts ≡ other ts
left o next other ts h = ap (λ o. either o next other ts) h
