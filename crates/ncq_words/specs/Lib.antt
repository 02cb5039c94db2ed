pub mod Forms
pub mod Command
