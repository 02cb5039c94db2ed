pub mod CallerLemmas
pub mod Pieces
pub mod Places
