pub mod Bucketing
pub mod InBucket
pub mod Linking
pub mod Links
pub mod PlaceSteps
pub mod Powers
pub mod Removing
pub mod Walks
