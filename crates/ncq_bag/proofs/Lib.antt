pub mod AddLaws
pub mod CallerLemmas
pub mod Tallies
pub mod CountLaws
pub mod TurnLaws
pub mod OnceLaws
