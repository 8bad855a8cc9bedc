pub mod BucketFields
pub mod Linked
pub mod Pairs
pub mod Places
