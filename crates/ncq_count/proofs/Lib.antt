pub mod KeyLaws
pub mod Tallies
pub mod TellLaws
pub mod CountLaws
pub mod LineLaws
pub mod SameExprs
pub mod CallerLemmas
