mod BatchFaults
pub mod BatchLaws
pub mod CallerLemmas
mod Cut
mod GroupLaws
mod Kept
mod OneAnswer
mod PartLaws
mod Follow
mod LineLaws
mod WordLaws
mod BlockLaws
mod CommandLaws
mod Taken
mod Following
mod SpellLaws
mod ScriptLaws
mod TextLaws
mod Written
mod ReadLaws
