pub mod Counted
pub mod FileExprs
pub mod Keys
