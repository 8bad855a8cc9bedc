-- The nine steps in which a call looks for a reason to refuse: the first reason of the earliest step is the one that is raised.
use Rattle.std.specs.Prelude.{◌≡◌, ◌≤◌, ⊤, ℕ, List, [], ◌∷◌, Option, Some, None, IfSome, nat_lt, if◌then◌else◌}
use Rattle.ac_base.specs.declared.reason.Reason.{Reason}
use Rattle.ac_base.specs.declared.reason.Reason.TheVariants.{CursorTampering, ElementTampering, NoElement, ForeignCursor, DeadCursor, IndexRange, LengthRange, KeyPresent, KeyAbsent, Empty, CapacityFull, KeyChanged, RootNode, BelowItself, NotLeaf, NotChild, SameContainer, Duplicate, Overflow, TooLarge, NamesSpent, RootSource}

-- tampering; no element; a foreign cursor; a dead one; a tree's root; the call's own conditions; a count or a length; capacity; names
abbrev pub step_of : Reason → ℕ
step_of CursorTampering = 1
step_of ElementTampering = 1
step_of NoElement = 2
step_of ForeignCursor = 3
step_of DeadCursor = 4
step_of RootNode = 5
step_of RootSource = 5
step_of IndexRange = 6
step_of KeyPresent = 6
step_of KeyAbsent = 6
step_of Empty = 6
step_of KeyChanged = 6
step_of BelowItself = 6
step_of NotLeaf = 6
step_of NotChild = 6
step_of SameContainer = 6
step_of Duplicate = 6
step_of Overflow = 6
step_of LengthRange = 7
step_of CapacityFull = 8
step_of TooLarge = 8
step_of NamesSpent = 9

-- of two, the one of the earlier step, and the first where both are of one step
abbrev pub earlier : Option Reason → Option Reason → Option Reason
earlier None later = later
earlier (Some reason) None = Some reason
earlier (Some reason) (Some other) = if nat_lt (step_of other) (step_of reason) then Some other else Some reason

-- among the reasons that were found, the first one of the earliest step
abbrev pub first_reason : List (Option Reason) → Option Reason
first_reason [] = None
first_reason (found ∷ others) = earlier found (first_reason others)

-- no reason was found
abbrev pub AllNone : List (Option Reason) → Type 0
AllNone [] = ⊤
AllNone (found ∷ others) = (found ≡ None) × AllNone others

-- no reason that was found is of an earlier step
abbrev pub NoneEarlier : Reason → List (Option Reason) → Type 0
NoneEarlier reason [] = ⊤
NoneEarlier reason (found ∷ others) = IfSome found (λ other. step_of reason ≤ step_of other) × NoneEarlier reason others
