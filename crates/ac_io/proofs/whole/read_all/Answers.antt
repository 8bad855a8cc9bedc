-- Where the reading ends early, what came before this turn and what came in it are gone from the front.
use Rattle.std.proofs.Common.{◌≡◌, ◌≤◌, ℕ, Option, Some, None, IfSome, List, ◌++◌, length, take, drop, append_assoc}
use Rattle.std.proofs.lemmas.List.{take-append-drop}
use Rattle.ac_io.specs.Outside.{Shrank}
use Rattle.ac_io.proofs.whole.read_all.Goals as goal

Shrank-by_turn : (came buffer : List ℕ) (n : ℕ) (before mid now : Option (List ℕ)) → IfSome before (λ left. (rest : List ℕ) × (came ++ rest ≡ left) × (mid ≡ Some rest)) → IfSome mid (λ bytes. (n ≤ length bytes) × (take n buffer ≡ take n bytes) × (now ≡ Some (drop n bytes))) → Shrank before now
Shrank-by_turn came buffer n None mid now left turn = tt
Shrank-by_turn came buffer n (Some all) mid now left turn =
    let rest = left.0 in
    let moved = rw left.2 at turn in
    (came ++ take n rest, drop n rest, rw (append_assoc, take-append-drop) left.1, moved.2)

pub returns-then-count-limit-clause-shrank : goal.returns-then-count-limit-clause-shrank
returns-then-count-limit-clause-shrank g c =
    Shrank-by_turn c.loop-bytes.bytes.items c.next.new.buf c.in-Got.count _ _ _ c.loop-bytes.invariant.came c.in-Got.ensures.gives.2

pub returns-in_err-extend_from_slice-in-Got-clause-shrank : goal.returns-in_err-extend_from_slice-in-Got-clause-shrank
returns-in_err-extend_from_slice-in-Got-clause-shrank g c =
    Shrank-by_turn c.loop-bytes.bytes.items c.next.new.buf c.in-Got.count _ _ _ c.loop-bytes.invariant.came c.in-Got.ensures.gives.2
