pub mod Limits
pub mod Shown
pub mod Tallies
pub mod Output
pub mod Status
pub mod Session
