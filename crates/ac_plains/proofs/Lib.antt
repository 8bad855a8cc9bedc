pub mod PlainsMade
mod StatesMade
pub mod Matching
mod SpelledNames
mod DeclaredRoom
mod DeclaredNames
mod SoundRows
mod SoundObjects
mod SoundStates
mod SoundBounds
mod Ending
mod FilledBounds
mod AtPlaces
pub mod EntryPlaces
pub mod ResumedStates
mod EntriesTaken
mod FillingPlaces
mod FillingRows
mod FillingNodes
mod FillingReserved
mod FillingPeaks
mod FillingCalls
mod FillingChild
