pub mod Checked
pub mod WithoutTasks
pub mod Meant
pub mod Answered
pub mod Hosted
pub mod Asked
pub mod Sized
pub mod PastLines
pub mod Summed
pub mod Becoming
pub mod ReadOutput
pub mod Items
pub mod EachCut
pub mod Beginning
mod LinePlaces
mod LineTests
mod Parts
mod Restarting
