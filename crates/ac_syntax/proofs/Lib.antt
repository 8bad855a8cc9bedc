pub mod Derivations
pub mod StatementSizes
pub mod Withins
pub mod FirstFaults
pub mod ItemsAlone
pub mod OneRefusal
pub mod Orders
pub mod Fronts
pub mod Pieces
mod Cuts
mod RoundTrip
mod Tidied
mod Rising
pub mod CutTokens
pub mod Leading
pub mod Refusing
mod Semicolons
mod FurtherMarks
mod OuterItems
mod HandledItems
pub mod Modes
mod WellFormed
