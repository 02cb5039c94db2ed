pub mod Counted
pub mod Ready
