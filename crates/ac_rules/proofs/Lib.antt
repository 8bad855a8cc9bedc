pub mod Outcomes
pub mod NamePlaces
pub mod FirstFaults
pub mod EachScript
pub mod Kept
pub mod Apart
pub mod Found
pub mod SizesAmong
