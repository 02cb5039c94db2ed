pub mod Books
pub mod Kept
pub mod Questions
pub mod Watches
