mod WordByWord
mod ObjectLines
pub mod Decided
pub mod KeyTests
pub mod RowTests
pub mod RowsBack
pub mod RowsPrinted
pub mod Behind
pub mod Readings
pub mod FillingRoom
pub mod FillingKeyed
pub mod FillingOthers
pub mod FillingCapacity
pub mod Filling
pub mod PathsOfOutlines
pub mod FreshNodes
pub mod FillingTrees
mod ValueLaws
mod RowLaws
mod RowsFit
mod Loops
mod Texts
mod EntryLaws
mod LineLaws
mod BehindStates
pub mod OneReading
pub mod EachReading
mod StateLaws
mod KeySets
mod Begun
mod RowsTogether
