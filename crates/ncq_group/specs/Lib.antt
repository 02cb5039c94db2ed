pub mod Closure
pub mod Collected
pub mod Grown
pub mod Inside
pub mod Installs
pub mod Releases
pub mod Tables
