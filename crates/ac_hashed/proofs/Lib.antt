pub mod Kept
pub mod Likes
pub mod Rooms
pub mod Seeking
pub mod Shifts
pub mod Standing
pub mod Sums
