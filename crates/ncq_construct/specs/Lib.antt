pub mod Proper
pub mod Written
