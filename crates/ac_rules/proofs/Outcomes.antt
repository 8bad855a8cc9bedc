-- Where a walk ends that goes over several items.
use Rattle.std.proofs.Common.{◌≡◌, ◌+◌, ◌<◌, ℕ, List, [], ◌∷◌, ◌++◌, length, drop, get_or, Option, Some, None, Result, Err, refl, sym, ap, ◌∙◌, arith}
use Rattle.std.proofs.lemmas.List.{drop_more}
use Rattle.std.proofs.lemmas.Result.{err_from_is_err_and}
use Rattle.std.specs.Result.{IsErrAnd}
use Rattle.ac_syntax.specs.Code.{Head}
use Rattle.ac_syntax.specs.Items.{opens, item_line}
use Rattle.ac_syntax.specs.declared.refusal.RefusalKind.{RefusalKind}
use Rattle.ac_syntax.specs.declared.fault.ScriptFault.{ScriptFault}
use Rattle.ac_syntax.specs.declared.fault.ScriptFault.TheVariants.{Refused}
use Rattle.ac_rules.specs.Scopes.{Scope, Standing, standing}
use Rattle.ac_rules.specs.Faults.{capacity}
use Rattle.ac_rules.specs.Walks.{Outcome, goes_on, refused, step, outcome, behind, fault_with, StopsAs}

-- what a `?` hands on
pub passed_on : {X Y : Type 0} (result : Result X ScriptFault) (inner : Result Y ScriptFault) (fault : ScriptFault) (o : Outcome)
    → IsErrAnd result (λ e. e ≡ fault) → inner ≡ Err fault → StopsAs inner o → StopsAs result o
passed_on result inner fault o exit was stops line kind h =
    let p = err_from_is_err_and result exit in
    let both : Err p.0 ≡ Err (Refused line kind) = sym p.1 ∙ h in
    let same : p.0 ≡ Refused line kind = cc in
    stops line kind (was ∙ ap Err (sym p.2 ∙ same))

-- what is left of a list begins with its next item
pub next_item : {X : Type 0} (xs : List X) (i : ℕ) (x : X) → i < length xs → x ≡ get_or xs i x → drop i xs ≡ x ∷ drop (i + 1) xs
next_item xs i x within is = drop_more xs i x within ∙ ap (λ y. y ∷ drop (i + 1) xs) (sym is)

step_behind : (f : Option RefusalKind) (line : Option ℕ) (o p : Outcome) (further : ℕ → Outcome)
    → p ≡ behind o further → step f line p ≡ behind (step f line o) further
step_behind None line o p further h = h
step_behind (Some kind) line o p further h = refl

pub outcome-append : (room : ℕ) (part later : List Standing) → outcome room (part ++ later) ≡ behind (outcome room part) (λ r. outcome r later)
outcome-append room [] later = refl
outcome-append room (s ∷ part) later =
    step_behind (fault_with room s) (item_line s.item) (outcome (room + capacity s.item) part) (outcome (room + capacity s.item) (part ++ later))
    (λ r. outcome r later) (outcome-append (room + capacity s.item) part later)

-- behind a part without faults
pub gone_on : (room after : ℕ) (part later : List Standing) → outcome room part ≡ goes_on after → outcome room (part ++ later) ≡ outcome after later
gone_on room after part later h = outcome-append room part later ∙ ap (λ o. behind o (λ r. outcome r later)) h

-- a part that is refused
pub stopped : (room : ℕ) (line : Option ℕ) (kind : RefusalKind) (part later : List Standing)
    → outcome room part ≡ refused line kind → outcome room (part ++ later) ≡ refused line kind
stopped room line kind part later h = outcome-append room part later ∙ ap (λ o. behind o (λ r. outcome r later)) h

-- behind what begins a block, if that isn't faulty
pub head_on : (room : ℕ) (head : Head) (scope : Scope) (later : List Standing)
    → fault_with room (standing (opens head) scope) ≡ None → outcome room (standing (opens head) scope ∷ later) ≡ outcome room later
head_on room head scope later h =
    let none : room + 0 ≡ room = omega arith in
    ap (λ f. step f (item_line (opens head)) (outcome (room + 0) later)) h ∙ ap (λ r. outcome r later) none
