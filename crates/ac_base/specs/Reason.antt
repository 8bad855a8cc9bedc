-- The table of reasons: the number of each, the exception that it raises, and its words.
use Rattle.std.specs.Prelude.{ℕ, List, codes}
use Rattle.ac_base.specs.declared.reason.Exception.{Exception}
use Rattle.ac_base.specs.declared.reason.Exception.TheVariants.{ProgramError, ConstraintError, CapacityError}
use Rattle.ac_base.specs.declared.reason.Reason.{Reason}
use Rattle.ac_base.specs.declared.reason.Reason.TheVariants.{CursorTampering, ElementTampering, NoElement, ForeignCursor, DeadCursor, IndexRange, LengthRange, KeyPresent, KeyAbsent, Empty, CapacityFull, KeyChanged, RootNode, BelowItself, NotLeaf, NotChild, SameContainer, Duplicate, Overflow, TooLarge, NamesSpent, RootSource}

abbrev pub exception_name : Exception → List ℕ
exception_name ProgramError = codes "PROGRAM_ERROR"
exception_name ConstraintError = codes "CONSTRAINT_ERROR"
exception_name CapacityError = codes "CAPACITY_ERROR"

-- one row of the table
pub record Row : Type 0 where
  pub number : ℕ
  pub exception : Exception
  pub text : List ℕ

abbrev row : ℕ → Exception → List ℕ → Row
row n e t = record { number = n; exception = e; text = t }

-- the table of reasons
abbrev pub row_of : Reason → Row
row_of CursorTampering = row 1 ProgramError (codes "cursor tampering")
row_of ElementTampering = row 2 ProgramError (codes "element tampering")
row_of NoElement = row 3 ConstraintError (codes "no element")
row_of ForeignCursor = row 4 ProgramError (codes "foreign cursor")
row_of DeadCursor = row 5 ProgramError (codes "dead cursor")
row_of IndexRange = row 6 ConstraintError (codes "index")
row_of LengthRange = row 7 ConstraintError (codes "length")
row_of KeyPresent = row 8 ConstraintError (codes "key present")
row_of KeyAbsent = row 9 ConstraintError (codes "key absent")
row_of Empty = row 10 ConstraintError (codes "empty")
row_of CapacityFull = row 11 CapacityError (codes "full")
row_of KeyChanged = row 12 ProgramError (codes "key changed")
row_of RootNode = row 13 ProgramError (codes "root")
row_of BelowItself = row 14 ConstraintError (codes "below itself")
row_of NotLeaf = row 15 ConstraintError (codes "not a leaf")
row_of NotChild = row 16 ConstraintError (codes "not a child")
row_of SameContainer = row 17 ProgramError (codes "same container")
row_of Duplicate = row 18 ProgramError (codes "duplicate")
row_of Overflow = row 19 ConstraintError (codes "overflow")
row_of TooLarge = row 20 ProgramError (codes "element too large")
row_of NamesSpent = row 21 ConstraintError (codes "names spent")
row_of RootSource = row 22 ConstraintError (codes "root source")

abbrev pub number_of : Reason → ℕ
number_of reason = (row_of reason).number

abbrev pub exception_of : Reason → Exception
exception_of reason = (row_of reason).exception

abbrev pub text_of : Reason → List ℕ
text_of reason = (row_of reason).text
