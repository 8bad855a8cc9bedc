-- Operations on holders.
use Rattle.std.proofs.Common.{◌≡◌, Bool}
use Rattle.ac_calls.specs.Elements.{Tools}
use Rattle.ac_holder_calls.specs.HolderCalls.{own_tools}

-- the tools with the size and the test that the element type brings
pub same_tools : {T : Type 0} (tools : Tools T) (size : T → _) (same : T → T → Bool) → tools.size ≡ size → tools.same ≡ same → tools ≡ own_tools tools size same
same_tools tools size same size_is same_is = λ i. record tools { size = size_is i; same = same_is i }
