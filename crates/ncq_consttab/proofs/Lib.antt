pub mod Constants
pub mod Intervals
pub mod TreeLaws
