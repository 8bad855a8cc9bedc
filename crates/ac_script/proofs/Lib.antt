mod Cutting
mod Strings
mod Within
mod Spelled
mod Cases
mod Exact
mod Forks
mod Looked
mod DeclarationsExact
mod HeadsExact
mod Arguments
mod Turns
mod CommandsExact
mod ItemsExact
mod Coming
mod ReadsItems
mod Buildings
mod Lefts
mod Fits
mod Written
mod Readings
pub mod Refusals
mod Refused
pub mod EachText
