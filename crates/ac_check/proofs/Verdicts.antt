-- A walk that finds the first fault, or memory that doesn't suffice, answers for the whole check.
use Rattle.std.proofs.Common.{◌≡◌, ℕ, Result, Ok, Err, ap, inl, inr, ◌∙◌}
use Rattle.std.specs.Prelude.{◌⊎◌}
use Rattle.std.specs.Result.{IsErrAnd}
use Rattle.std.proofs.lemmas.Result.{err_from_is_err_and}
use Rattle.ac_syntax.specs.declared.refusal.RefusalKind.{RefusalKind}
use Rattle.ac_syntax.specs.declared.script.Script.{Script}
use Rattle.ac_syntax.specs.declared.fault.ScriptFault.{ScriptFault}
use Rattle.ac_syntax.specs.declared.fault.ScriptFault.TheVariants.{Refused, NoMemory}
use Rattle.ac_rules.specs.Faults.{IsFirstFault, IsChecked}
use Rattle.ac_rules.proofs.FirstFaults.{one_fault, no_fault}

module _ {Y : Type 0} (script : Script) (result : Result Script ScriptFault) (walked : Result Y ScriptFault) (fault : ScriptFault)
    (exit : IsErrAnd result (λ e. e ≡ fault)) (was : walked ≡ Err fault)
    (sound : (line : ℕ) (kind : RefusalKind) → walked ≡ Err (Refused line kind) → IsFirstFault script line kind) where
  handed_on : result ≡ Err fault
  handed_on = let p = err_from_is_err_and result exit in p.1 ∙ ap Err p.2

  -- a script that can run isn't refused
  pub taken : IsChecked script → (result ≡ Ok script) ⊎ (result ≡ Err NoMemory)
  taken checked = by fault was handed_on
    where
      by : (f : ScriptFault) → walked ≡ Err f → result ≡ Err f → (result ≡ Ok script) ⊎ (result ≡ Err NoMemory)
      by (Refused line kind) w r = absurd (no_fault script line kind checked (sound line kind w))
      by NoMemory w r = inr r

  -- a script with a fault is refused at the first one
  pub faulty : (line : ℕ) (kind : RefusalKind) → IsFirstFault script line kind → (result ≡ Err (Refused line kind)) ⊎ (result ≡ Err NoMemory)
  faulty line kind first = by fault was handed_on
    where
      by : (f : ScriptFault) → walked ≡ Err f → result ≡ Err f → (result ≡ Err (Refused line kind)) ⊎ (result ≡ Err NoMemory)
      by (Refused place other) w r =
          let same = one_fault script place line other kind (sound place other w) first in
          inl (r ∙ ap (λ l. Err (Refused l other)) same.0 ∙ ap (λ k. Err (Refused line k)) same.1)
      by NoMemory w r = inr r
