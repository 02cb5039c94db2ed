pub mod Causes
pub mod Repeats
pub mod States
