pub mod Steps
pub mod Blocks
pub mod FaultLaws
pub mod LineLaws
pub mod CanonicalLaws
pub mod Exactly
pub mod Proper
mod TagLaws
pub mod ByteLaws
pub mod ReadLaws
pub mod JoiningLaws
